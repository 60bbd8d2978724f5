-- Lists of which each member is what the one at its place has to be.
use Rattle.std.proofs.Common.{◌≡◌, ◌+◌, ◌++◌, ◌∷◌, [], ℕ, List, length, get_or, set}
use Rattle.std.proofs.Common.{refl, sym, ap, subst, ◌∙◌, arith, ⊎_elim, length-append}
use Rattle.std.proofs.lemmas.Bool.{cases_eq, cases_lt}
use Rattle.std.proofs.lemmas.List.{get_or-set_same, get_or-set_other, length-set, get_or_append_left, get_or_push}
use Rattle.map_replay.specs.SenderStates.{AreAt}

module _ {T : Type 0} (Is : ℕ → T → Type 0) where
  pub at_nil : (items : List T) → items ≡ [] → AreAt Is items
  at_nil items none place other below = absurd (omega (arith, below, ap (λ (l : List T). length l) none))

  pub at_push : (items : List T) (one : T) → AreAt Is items → Is (length items) one → AreAt Is (items ++ one ∷ [])
  at_push items one all here place other below =
      ⊎_elim
      (λ before.
      subst (Is place) (sym (get_or_append_left items (one ∷ []) other place before)) (all place other before))
      (λ past.
      let same : length items ≡ place = omega (arith, past, below, length-append items (one ∷ [])) in
      let back : get_or (items ++ one ∷ []) place other ≡ one = get_or_push items one other place same in
      subst (λ (k : ℕ). Is k (get_or (items ++ one ∷ []) place other)) same (subst (Is (length items)) (sym back) here))
      (cases_lt place (length items))

  -- the last one, and those before it, by the clause of `pop` on the items
  pub at_last : (items before : List T) (last : T) →
      items ≡ before ++ last ∷ [] → AreAt Is items → AreAt Is before × Is (length before) last
  at_last items before last split all =
      let long : length items ≡ length before + 1 = ap (λ (l : List T). length l) split
      ∙ length-append before (last ∷ []) in (
        λ place other below.
            subst (Is place)
            (ap (λ (l : List T). get_or l place other) split ∙ get_or_append_left before (last ∷ []) other place below)
            (all place other (omega (arith, below, long))),
        subst (Is (length before))
            (ap (λ (l : List T). get_or l (length before) last) split
            ∙ get_or_push before last last (length before) refl)
            (all (length before) last (omega (arith, long))),
      )

  pub at_set : (items : List T) (place : ℕ) (one : T) → AreAt Is items → Is place one → AreAt Is (set items place one)
  at_set items place one all here k other below =
      ⊎_elim
      (λ same.
      let back : get_or (set items place one) k other ≡ one =
      ap (λ (n : ℕ). get_or (set items place one) n other) same
      ∙ get_or-set_same items place one other (omega (arith, same, below, length-set items place one)) in
      subst (λ (n : ℕ). Is n (get_or (set items place one) k other)) (sym same) (subst (Is place) (sym back) here))
      (λ apart. subst (Is k) (sym (get_or-set_other items place k one other apart))
      (all k other (omega (arith, below, length-set items place one))))
      (cases_eq k place)
