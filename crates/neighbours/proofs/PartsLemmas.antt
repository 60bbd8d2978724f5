-- Codes in five parts: those kept first, those around that were searched, and those that none of the first leaves out.
use Rattle.std.proofs.Common.{◌≡◌, ℕ, ◌+◌, ◌-◌, ◌<◌, ◌≤◌, List, ◌++◌, length}
use Rattle.std.proofs.Common.{get_or, take, drop, append_assoc, sym, ap}
use Rattle.std.proofs.Common.{◌∙◌, subst, arith}
use Rattle.std.specs.List.{slice_range}
use Rattle.std.specs.List.Sorted.{IsPermutation}
use Rattle.std.proofs.lemmas.List.{get_or-drop, get_or-take, length-drop, length-take}
use Rattle.std.proofs.lemmas.List.Folds.{drop_split}
use Rattle.std.proofs.lemmas.List.Elements.{All-append}
use Rattle.std.proofs.lemmas.List.Sorted.{IsPermutation-append_comm, IsPermutation-append_left, IsPermutation-trans}
use Rattle.neighbours.specs.declared.neighbour.Neighbour.{Neighbour}
use Rattle.neighbours.specs.Chosen.{AreChosen, AreStillKept, IsHeap}
use Rattle.neighbours.specs.Metrics.{AreInOrder}
use Rattle.neighbours.specs.Neighbours.{neighbour_at, neighbours_from, rank_of}
use Rattle.neighbours.proofs.HeapLemmas.{heap_front, rank_at}
use Rattle.neighbours.proofs.KeptLemmas.{From, Places, kept_but, kept_then}
use Rattle.neighbours.proofs.StretchLemmas.{from_append, from_bound, from_parts, in_order_drop, in_order_take}

length_range : (codes : List ℕ) (n m : ℕ) → n ≤ m → m ≤ length codes → length (slice_range codes n m) ≡ m - n
length_range codes n m order within = omega (arith, length-take (m - n) (drop n codes), length-drop n codes)

pub in_order_range : (d n m : ℕ) (codes : List ℕ) → AreInOrder d codes → AreInOrder d (slice_range codes n m)
in_order_range d n m codes are = in_order_take d (m - n) (drop n codes) (in_order_drop d n codes are)

module _ (far : ℕ → ℕ) (codes : List ℕ) where
  abbrev places : ℕ → List ℕ → Places
  places = neighbours_from far

  -- the places from one on, by those before another and the rest
  from_split : (n m : ℕ) → n ≤ m → m ≤ length codes →
      places n (drop n codes) ≡ places n (slice_range codes n m) ++ places m (drop m codes)
  from_split n m order within =
      let long : n + length (slice_range codes n m) ≡ m = omega (arith, length_range codes n m order within) in
      ap (places n) (drop_split codes n m order)
      ∙ from_append far n (slice_range codes n m) (drop m codes)
      ∙ ap (λ (p : ℕ). places n (slice_range codes n m) ++ places p (drop m codes)) long

  from_front : (n : ℕ) → n ≤ length codes → places 0 codes ≡ places 0 (take n codes) ++ places n (drop n codes)
  from_front n within =
      let zero_more : 0 + n ≡ n = omega arith in
      sym (from_parts far 0 n codes within)
      ∙ ap (λ (p : ℕ). places 0 (take n codes) ++ places p (drop n codes)) zero_more

-- two parts of five to the front
five_parts : (a b c d e : Places) → IsPermutation (a ++ (b ++ (c ++ (d ++ e)))) (c ++ ((b ++ d) ++ (e ++ a)))
five_parts a b c d e =
    let x = b ++ (c ++ (d ++ e)) in
    let y = d ++ (e ++ a) in
    let out : IsPermutation (a ++ x) (x ++ a) = IsPermutation-append_comm a x in
    let spelt : x ++ a ≡ (b ++ c) ++ y =
    append_assoc b (c ++ (d ++ e)) a ∙ ap (λ (p : Places). b ++ p) (append_assoc c (d ++ e) a)
    ∙ ap (λ (p : Places). b ++ (c ++ p)) (append_assoc d e a) ∙ sym (append_assoc b c y) in
    let swapped : IsPermutation ((b ++ c) ++ y) ((c ++ b) ++ y) =
    IsPermutation-append_left y (b ++ c) (c ++ b) (IsPermutation-append_comm b c) in
    let joined : (c ++ b) ++ y ≡ c ++ ((b ++ d) ++ (e ++ a)) =
    append_assoc c b y ∙ ap (λ (p : Places). c ++ p) (sym (append_assoc b d (e ++ a))) in
    IsPermutation-trans (a ++ x) (x ++ a) (c ++ ((b ++ d) ++ (e ++ a))) out
    (subst (λ (from : Places). IsPermutation from (c ++ ((b ++ d) ++ (e ++ a)))) (sym spelt)
    (subst (IsPermutation ((b ++ c) ++ y)) joined swapped))

module _ (far : ℕ → ℕ) (P : Type 0) (codes : List ℕ) (first from to last : ℕ) (low : first ≤ from) (order : from ≤ to)
    (high : to ≤ last) (inside : last ≤ length codes) where
  whole : neighbours_from far 0 codes
      ≡ neighbours_from far 0 (take first codes) ++ (neighbours_from far first (slice_range codes first from)
      ++ (neighbours_from far from (slice_range codes from to) ++ (neighbours_from far to (slice_range codes to last)
      ++ neighbours_from far last (drop last codes))))
  whole =
      let a = neighbours_from far 0 (take first codes) in
      let b = neighbours_from far first (slice_range codes first from) in
      let c = neighbours_from far from (slice_range codes from to) in
      from_front far codes first (omega arith)
      ∙ ap (λ (p : Places). a ++ p) (from_split far codes first from low (omega arith)
      ∙ ap (λ (p : Places). b ++ p) (from_split far codes from to order (omega arith)
      ∙ ap (λ (p : Places). c ++ p) (from_split far codes to last high inside)))

  pub chosen_of_parts : (start mid new : Places) →
      IsPermutation (neighbours_from far from (slice_range codes from to)) start → IsHeap 0 start
      → (P → (k : ℕ) → k < first → rank_at start 0 ≤ rank_of (neighbour_at (far (get_or codes k 0)) k))
      → (P → (k : ℕ) → last ≤ k → k < length codes
      → rank_at start 0 ≤ rank_of (neighbour_at (far (get_or codes k 0)) k))
      → AreStillKept P start (neighbours_from far first (slice_range codes first from)) mid
      → AreStillKept P mid (neighbours_from far to (slice_range codes to last)) new
      → AreChosen P (neighbours_from far 0 codes) new
  chosen_of_parts start mid new same heap before behind one two =
      let a = neighbours_from far 0 (take first codes) in
      let b = neighbours_from far first (slice_range codes first from) in
      let c = neighbours_from far from (slice_range codes from to) in
      let d = neighbours_from far to (slice_range codes to last) in
      let e = neighbours_from far last (drop last codes) in
      let bound = rank_at start 0 in
      let beyond : P → From bound (e ++ a) = λ p. All-append (λ (x : Neighbour). bound ≤ rank_of x) e a
      (from_bound far bound last (drop last codes) (λ k within.
      let there : last + k < length codes = omega (arith, length-drop last codes) in
      let is = ap far (get_or-drop last codes k 0) in
      omega (arith, is, behind p (last + k) (omega arith) there)))
      (from_bound far bound 0 (take first codes) (λ k within.
      let near : k < first = omega (arith, length-take first codes) in
      let is = ap far (get_or-take first codes k 0 near) in
      omega (arith, is, before p k near))) in
      let kept = kept_but P start (b ++ d) new (e ++ a) bound (kept_then P start b mid d new one two)
      (heap_front start heap) beyond in
      let moved : IsPermutation (c ++ ((b ++ d) ++ (e ++ a))) (start ++ ((b ++ d) ++ (e ++ a))) =
      IsPermutation-append_left ((b ++ d) ++ (e ++ a)) c start same in
      record {
        others = kept.chosen.others;
        same = subst (λ (all : Places). IsPermutation all (new ++ kept.chosen.others)) (sym whole)
            (IsPermutation-trans (a ++ (b ++ (c ++ (d ++ e)))) (c ++ ((b ++ d) ++ (e ++ a)))
            (new ++ kept.chosen.others) (five_parts a b c d e)
            (IsPermutation-trans (c ++ ((b ++ d) ++ (e ++ a))) (start ++ ((b ++ d) ++ (e ++ a)))
            (new ++ kept.chosen.others) moved kept.chosen.same));
        worst = kept.chosen.worst;
        below = kept.chosen.below;
        above = kept.chosen.above;
      }
