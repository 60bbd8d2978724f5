-- Lines, a run at a time, and where their runs begin.
use Rattle.std.proofs.Common.{◌≡◌, ℕ, zero, suc, ◌+◌, ◌<◌, ◌≤◌, List, [], ◌∷◌, ◌++◌, length, inl, inr, refl, sym, ap}
use Rattle.std.proofs.Common.{◌∙◌, subst, arith}
use Rattle.std.proofs.lemmas.Bool.{cases_lt}
use Rattle.std.proofs.lemmas.List.{length-append}
use Rattle.exact_cross.specs.Points.{Points}
use Rattle.exact_cross.specs.Covers.{CutsInto, IsLongest}
use Rattle.exact_cross.proofs.CallerLemmas.{CutsInto-push}
use Rattle.hints.specs.Made.{TellsPoints, TellsRun, HoldsLines, AreLinesBefore, start_in}
use Rattle.hints.proofs.HintLemmas.{HoldsLines-more}

-- behind all starts is the end
start_in-end : (starts : List ℕ) (end : ℕ) → start_in starts end (length starts) ≡ end
start_in-end [] end = refl
start_in-end (start ∷ later) end = start_in-end later end

-- one more start, at what was the end
start_in-push : (starts : List ℕ) (at end line : ℕ) → line ≤ length starts → start_in
    (starts ++ at ∷ []) end line ≡ start_in starts at line
start_in-push [] at end zero inside = refl
start_in-push [] at end (suc line) inside = absurd (omega arith)
start_in-push (start ∷ later) at end zero inside = refl
start_in-push (start ∷ later) at end (suc line) inside = start_in-push later at end line (omega arith)

more_starts : (starts : List ℕ) (at : ℕ) → length (starts ++ at ∷ []) ≡ length starts + 1
more_starts starts at = length-append starts (at ∷ [])

start_in-pushed : (starts : List ℕ) (at end : ℕ) → start_in (starts ++ at ∷ []) end (length starts + 1) ≡ end
start_in-pushed starts at end = ap (start_in (starts ++ at ∷ []) end) (sym (more_starts starts at)) ∙ start_in-end
    (starts ++ at ∷ []) end

-- runs begin at the first place
begins_at_zero : (C : ℕ → ℕ → Type 0) (starts : List ℕ) → CutsInto C 0 0 starts → start_in starts 0 0 ≡ 0
begins_at_zero C [] cuts = refl
begins_at_zero C (start ∷ later) cuts = cuts.0

-- one run more
pub AreLinesBefore-more : (p : Points) (eps at end : ℕ) (lines more : List ℕ) (a b c : ℕ) →
    more ≡ lines ++ a ∷ b ∷ c ∷ [] → at < end → IsLongest p eps p.count at end →
    TellsPoints p eps a b c at end → AreLinesBefore p eps at lines → AreLinesBefore p eps end more
AreLinesBefore-more p eps at end lines more a b c is further longest tells so_far =
    subst (AreLinesBefore p eps end) (sym is) (record {
      starts = so_far.starts ++ at ∷ [];
      greedy = CutsInto-push (IsLongest p eps p.count) so_far.starts 0 at end so_far.greedy further longest;
      holds = subst (λ (n : ℕ). HoldsLines p eps (start_in (so_far.starts ++ at ∷ []) end) n
          (lines ++ a ∷ b ∷ c ∷ [])) (sym (more_starts so_far.starts at))
          (HoldsLines-more p eps (start_in (so_far.starts ++ at ∷ []) end) lines (length so_far.starts) a b c
          (record { long = so_far.holds.long; each = each })
          (subst (λ (n : ℕ). TellsPoints p eps a b c n
          (start_in (so_far.starts ++ at ∷ []) end (length so_far.starts + 1)))
          (sym (before (length so_far.starts) (omega arith) ∙ so_far.ends))
          (subst (TellsPoints p eps a b c at) (sym (start_in-pushed so_far.starts at end)) tells)));
      begins = λ some. (omega (arith, more_starts so_far.starts at), first);
      rise = rise;
      ends = start_in-end (so_far.starts ++ at ∷ []) end;
    })
  where
    before : (line : ℕ) → line ≤ length so_far.starts → start_in (so_far.starts ++ at ∷ []) end line ≡ start_in
        so_far.starts at line
    before line inside = start_in-push so_far.starts at end line inside

    each : (line : ℕ) → line < length so_far.starts → TellsRun p eps lines line
        (start_in (so_far.starts ++ at ∷ []) end line) (start_in (so_far.starts ++ at ∷ []) end (line + 1))
    each line less =
        subst (λ (n : ℕ). TellsRun p eps lines line n (start_in (so_far.starts ++ at ∷ []) end (line + 1)))
        (sym (before line (omega arith)))
        (subst (TellsRun p eps lines line (start_in so_far.starts at line)) (sym (before (line + 1) (omega arith)))
        (so_far.holds.each line less))

    first : start_in (so_far.starts ++ at ∷ []) end 0 ≡ 0
    first = elim (cases_lt 0 at) [
      | inl some ↦ before 0 (omega arith) ∙ (so_far.begins some).1
      | inr none ↦
          let at_zero : at ≡ 0 = omega (arith, none) in
          before 0 (omega arith) ∙ ap (λ (n : ℕ). start_in so_far.starts n 0) at_zero ∙ begins_at_zero
          (IsLongest p eps p.count) so_far.starts
          (subst (λ (n : ℕ). CutsInto (IsLongest p eps p.count) 0 n so_far.starts) at_zero so_far.greedy)
    ]

    rise : (line : ℕ) → line < length (so_far.starts ++ at ∷ []) → start_in
        (so_far.starts ++ at ∷ []) end line < start_in (so_far.starts ++ at ∷ []) end (line + 1)
    rise line less = elim (cases_lt line (length so_far.starts)) [
      | inl inside ↦ omega (arith, before line (omega arith), before (line + 1) (omega arith), so_far.rise line inside)
      | inr past ↦
          let last : line ≡ length so_far.starts = omega (arith, less, past, more_starts so_far.starts at) in
          let here = ap (start_in (so_far.starts ++ at ∷ []) end) last in
          let next = ap (λ (n : ℕ). start_in (so_far.starts ++ at ∷ []) end (n + 1)) last in
          omega (
            arith,
            here,
            next,
            before (length so_far.starts) (omega arith),
            so_far.ends,
            start_in-pushed so_far.starts at end,
            further,
          )
    ]
