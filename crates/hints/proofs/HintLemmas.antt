-- The hints of a head and of lines behind it.
use Rattle.std.proofs.Common.{◌≡◌, inl, inr, ℕ, ◌+◌, ◌-◌, ◌*◌, ◌/◌, ◌<◌, List, [], ◌∷◌, ◌++◌, length, take, drop}
use Rattle.std.proofs.Common.{slice_index, sym, ap, ◌∙◌, subst, arith}
use Rattle.std.specs.List.{slice_range}
use Rattle.std.proofs.Math.Seq.{drop-append_seam, take-length}
use Rattle.std.proofs.lemmas.Bool.{cases_lt}
use Rattle.std.proofs.lemmas.List.{length-append, get_or_append_left, get_or-append-add}
use Rattle.exact_cross.specs.Points.{Points}
use Rattle.exact_cross.proofs.CallerLemmas.{IsLeastCover-from_greedy}
use Rattle.hints.specs.declared.hint_list.TheConstants.{HEAD_LEN}
use Rattle.hints.specs.Told.{lines_in}
use Rattle.hints.specs.Made.{TellsPoints, IsHead, HoldsLines, AddsHints, AreLinesBefore, AreLinesOf, AreLinesOver}
use Rattle.hints.specs.Made.{start_in}

-- the hints of a line, however they are read
tells_read : (p : Points) (eps s e : ℕ) (a b c a' b' c' : ℕ) → a' ≡ a → b' ≡ b → c' ≡ c →
    TellsPoints p eps a b c s e → TellsPoints p eps a' b' c' s e
tells_read p eps s e a b c a' b' c' first second third tells =
    subst (λ (x : ℕ). TellsPoints p eps x b' c' s e) (sym first)
    (subst (λ (x : ℕ). TellsPoints p eps a x c' s e) (sym second)
    (subst (λ (x : ℕ). TellsPoints p eps a b x s e) (sym third) tells))

-- one line more
pub HoldsLines-more : (p : Points) (eps : ℕ) (start : ℕ → ℕ) (lines : List ℕ) (count a b c : ℕ) →
    HoldsLines p eps start count lines → TellsPoints p eps a b c (start count) (start (count + 1)) →
    HoldsLines p eps start (count + 1) (lines ++ a ∷ b ∷ c ∷ [])
HoldsLines-more p eps start lines count a b c holds tells = record {
  long = length-append lines (a ∷ b ∷ c ∷ []) ∙ omega (arith, holds.long);
  each = λ line less. elim (cases_lt line count) [
    | inl before ↦
        let long = holds.long in
        tells_read p eps (start line) (start (line + 1)) _ _ _ _ _ _ (old (3 * line) (omega arith))
        (old (3 * line + 1) (omega arith)) (old (3 * line + 2) (omega arith)) (holds.each line before)
    | inr from ↦
        let here : count ≡ line = omega arith in
        let long = holds.long in
        tells_read p eps (start line) (start (line + 1)) a b c _ _ _ (new (3 * line) 0 (omega arith))
        (new (3 * line + 1) 1 (omega arith)) (new (3 * line + 2) 2 (omega arith))
        (subst (λ (n : ℕ). TellsPoints p eps a b c (start n) (start (n + 1))) here tells)
  ];
}
  where
    old : (k : ℕ) → k < length lines → slice_index (lines ++ a ∷ b ∷ c ∷ []) k ≡ slice_index lines k
    old k inside = get_or_append_left lines (a ∷ b ∷ c ∷ []) 0 k inside

    new : (k i : ℕ) → k ≡ length lines + i → slice_index (lines ++ a ∷ b ∷ c ∷ []) k ≡ slice_index (a ∷ b ∷ c ∷ []) i
    new k i place = ap (slice_index (lines ++ a ∷ b ∷ c ∷ [])) place ∙ get_or-append-add lines (a ∷ b ∷ c ∷ []) i 0

-- the lines behind a head are those that were added
lines_behind : (head lines hints : List ℕ) (from many : ℕ) → hints ≡ head ++ lines → length head ≡ from →
    length lines ≡ many → slice_range hints from (from + many) ≡ lines
lines_behind head lines hints from many are long count =
    ap (λ (l : List ℕ). slice_range l from (from + many)) are ∙ ap (λ (n : ℕ). take n (drop from (head ++ lines))) wide
    ∙ ap (λ (n : ℕ). take many (drop n (head ++ lines))) (sym long) ∙ ap (take many)
    (drop-append_seam head lines) ∙ ap (λ (n : ℕ). take n lines) (sym count) ∙ take-length lines
  where
    wide : from + many - from ≡ many
    wide = omega arith

-- all lines behind their head
pub AreLinesOver-in : (p : Points) (eps : ℕ) (head lines hints : List ℕ) → AreLinesBefore p eps p.count lines →
    IsHead eps (length lines / 3) head → hints ≡ head ++ lines → AreLinesOver p eps hints
AreLinesOver-in p eps head lines hints before is are = record {
  starts = before.starts;
  cover = IsLeastCover-from_greedy p eps 0 p.count before.starts before.greedy;
  format = record {
    known = old 0 (omega (arith, is.long)) ∙ is.known;
    bound = old 1 (omega (arith, is.long)) ∙ is.bound;
    long = omega (arith, table, count, ap length are, length-append head lines, is.long, before.holds.long);
  };
  table = omega (arith, table, count, thirds, is.table);
  count = count;
  lines = subst (AreLinesOf p eps (start_in before.starts p.count) (length before.starts)) (sym same) (record {
    holds = before.holds;
    begins = before.begins;
    rise = before.rise;
    ends = before.ends;
  });
}
  where
    thirds : length lines / 3 ≡ length before.starts
    thirds = omega (arith, before.holds.long)

    old : (k : ℕ) → k < length head → slice_index hints k ≡ slice_index head k
    old k inside = ap (λ (l : List ℕ). slice_index l k) are ∙ get_or_append_left head lines 0 k inside

    count : slice_index hints 2 ≡ length before.starts
    count = old 2 (omega (arith, is.long)) ∙ is.count ∙ thirds

    table : slice_index hints 3 ≡ slice_index head 3
    table = old 3 (omega (arith, is.long))

    same : lines_in hints ≡ lines
    same = lines_behind head lines hints (HEAD_LEN + slice_index hints 3) (3 * slice_index hints 2) are
        (omega (arith, is.long, table)) (omega (arith, before.holds.long, count))

-- ---- the table

pub AddsHints-more : (before hints more : List ℕ) (count x : ℕ) → more ≡ hints ++ x ∷ [] →
    AddsHints count before hints → AddsHints (count + 1) before more
AddsHints-more before hints more count x is adds = record {
  long = ap length is ∙ length-append hints (x ∷ []) ∙ omega (arith, adds.long);
  same = λ k inside.
      let long = adds.long in
      ap (λ (l : List ℕ). slice_index l k) is ∙ get_or_append_left hints (x ∷ []) 0 k
      (omega arith) ∙ adds.same k inside;
}
