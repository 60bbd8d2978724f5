-- One lane of interleaved searches, and a write to one lane.
use Rattle.std.proofs.Common.{◌≡◌, ℕ, ◌+◌, ◌-◌, ◌*◌, ◌%◌, ◌<◌, ◌≤◌, Bool, true, false, nat_lt, List, ◌++◌, map, take}
use Rattle.std.proofs.Common.{drop, append_assoc, length, slice_index, refl, sym, ap, ◌∙◌, subst, inl, inr, arith}
use Rattle.std.specs.Prelude.{slice_set, max}
use Rattle.std.proofs.lemmas.Bool.{cases_lt}
use Rattle.std.proofs.lemmas.Bool.Decides.{nat_tests}
use Rattle.std.specs.Int.{from_bool}
use Rattle.std.proofs.lemmas.List.{get_or-set_same, get_or-set_other, get_or-map, get_or-take, length-map}
use Rattle.std.proofs.lemmas.List.{length-append, length-take-le, map-append, take-append-drop, ext_get_or}
use Rattle.std.specs.List.Sorted.{IsNonDecreasing}
use Rattle.window_search.specs.Searches.{lb}
use Rattle.window_search.proofs.LowerBounds.{lb-is, predecessor_from, predecessor_before, lb_after, lb_not_after}
use Rattle.key_search.specs.Interleaved.{IsAmong, HasBound}

-- a list of places, after a write to one lane: the lanes up to it, and those behind
pub lane_done : (P : ℕ → ℕ → Type 0) (bases : List ℕ) (lane base : ℕ) →
    lane < length bases → ((k : ℕ) → k < lane → P k (slice_index bases k)) → P lane base →
    (k : ℕ) → k < lane + 1 → P k (slice_index (slice_set bases lane base) k)
lane_done P bases lane base inside before here k less = elim (cases_lt k lane) [
  | inl under ↦ subst (P k) (sym (get_or-set_other bases lane k base 0 (omega arith))) (before k under)
  | inr from ↦
      let same : lane ≡ k = omega arith in
      subst (λ (j : ℕ). P j (slice_index (slice_set bases lane base) j)) same
      (subst (P lane) (sym (get_or-set_same bases lane base 0 inside)) here)
]

pub lane_rest : (P : ℕ → ℕ → Type 0) (bases : List ℕ) (lane base : ℕ) →
    ((k : ℕ) → lane ≤ k → k < 16 → P k (slice_index bases k)) →
    (k : ℕ) → lane + 1 ≤ k → k < 16 → P k (slice_index (slice_set bases lane base) k)
lane_rest P bases lane base rest k past inside =
    subst (P k) (sym (get_or-set_other bases lane k base 0 (omega arith))) (rest k (omega arith) inside)

-- the key in the middle is at most q: the upper half
pub IsAmong-upper : (list : List ℕ) (q base count half : ℕ) → half < count →
    IsAmong list q base count → slice_index list (base + half) ≤ q → IsAmong list q (base + half) (count - half)
IsAmong-upper list q base count half less among read = record {
  within = omega (arith, among.within);
  found = λ place here. (
    predecessor_from list q
        (base + half) (slice_index list (base + half)) place (omega (arith, among.within)) refl read here,
    omega (arith, (among.found place here).1),
  );
}

-- or greater: the lower one
pub IsAmong-lower : (list : List ℕ) (q base count half : ℕ) → IsNonDecreasing list → half + half ≤ count →
    IsAmong list q base count → q < slice_index list (base + half) → IsAmong list q base (count - half)
IsAmong-lower list q base count half order most among read = record {
  within = omega (arith, among.within);
  found = λ place here. (
    (among.found place here).0,
    omega (arith, predecessor_before list q (base + half) (slice_index list (base + half)) place order refl read here),
  );
}

-- the same of the lower bound, by the key before the middle
pub HasBound-upper : (list : List ℕ) (q base count half : ℕ) → IsNonDecreasing list → 1 ≤ half → half < count →
    HasBound list q base count → slice_index list (base + half - 1) < q → HasBound list q (base + half) (count - half)
HasBound-upper list q base count half order some less bound read = record {
  within = omega (arith, bound.within);
  from = omega (
    arith,
    lb_after list q
        (base + half - 1) (slice_index list (base + half - 1)) order (omega (arith, bound.within)) refl read,
  );
  to = omega (arith, bound.to);
}

pub HasBound-lower : (list : List ℕ) (q base count half : ℕ) → IsNonDecreasing list → 1 ≤ half → half + half ≤ count →
    HasBound list q base count → q ≤ slice_index list (base + half - 1) → HasBound list q base (count - half)
HasBound-lower list q base count half order some most bound read = record {
  within = omega (arith, bound.within);
  from = bound.from;
  to = omega (arith, lb_not_after list q (base + half - 1) (slice_index list (base + half - 1)) order refl read);
}

-- half of the places by the answer at the last place of the lower half, which moves the base by no place or by a half
pub HasBound-evenly : (list : List ℕ) (q base half probe moved : ℕ) →
    IsNonDecreasing list → 0 < half → half < 4294967296 → HasBound list q base (2 * half) →
    probe ≡ base + half - 1 →
    moved ≡ from_bool (nat_lt (slice_index list probe) q) → HasBound list q (base + moved * half % 4294967296) half
HasBound-evenly list q base half probe moved order some few bound is answer =
    go (nat_lt (slice_index list probe) q) refl
  where
    go : (below : Bool) →
        nat_lt (slice_index list probe) q ≡ below → HasBound list q (base + moved * half % 4294967296) half
    go true holds =
        let one : moved ≡ 1 = answer ∙ ap from_bool holds in
        let less : slice_index list probe < q = grind (arith, nat_tests, holds) in
        let past = lb_after list q probe (slice_index list probe) order (omega (arith, bound.within)) refl less in
        subst (λ (k : ℕ). HasBound list q (base + k * half % 4294967296) half) (sym one) (record {
          within = omega (arith, bound.within);
          from = omega (arith, past);
          to = omega (arith, bound.to);
        })
    go false fails =
        let none : moved ≡ 0 = answer ∙ ap from_bool fails in
        let at_least : q ≤ slice_index list probe = grind (arith, nat_tests, fails) in
        let before = lb_not_after list q probe (slice_index list probe) order refl at_least in
        subst (λ (k : ℕ). HasBound list q (base + k * half % 4294967296) half) (sym none) (record {
          within = omega (arith, bound.within);
          from = omega (arith, bound.from);
          to = omega (arith, before);
        })

-- ---- questions raised to the first key

pub lb-raised : (keys : List ℕ) (q first : ℕ) →
    IsNonDecreasing keys → first ≡ slice_index keys 0 → lb keys (max q first) ≡ lb keys q
lb-raised keys q first order is = elim (cases_lt q first) [
  | inl below ↦ none (max q first) (omega (arith, is)) ∙ sym (none q (omega (arith, is)))
  | inr from ↦ let same : max q first ≡ q = omega arith in ap (lb keys) same
]
  where
    none : (q : ℕ) → q ≤ slice_index keys 0 → lb keys q ≡ 0
    none q low = lb-is keys q 0
        (omega arith) (λ k less. absurd (omega arith)) (λ k from inside. omega (arith, low, order 0 k 0 from inside))

pub HasBound-raised : (keys : List ℕ) (q first base count : ℕ) → IsNonDecreasing keys →
    first ≡ slice_index keys 0 → HasBound keys (max q first) base count → HasBound keys q base count
HasBound-raised keys q first base count order is bound =
    let same = lb-raised keys q first order is in
    record { within = bound.within; from = omega (arith, bound.from, same); to = omega (arith, bound.to, same) }

pub block_positions : (keys qs asked places : List ℕ) (first : ℕ) →
    IsNonDecreasing keys → first ≡ slice_index keys 0 → length qs ≡ 16 → length places ≡ 16 →
    ((k : ℕ) → k < 16 → slice_index asked k ≡ max (slice_index qs k) first) →
    ((k : ℕ) → k < 16 → slice_index places k ≡ lb keys (slice_index asked k)) → places ≡ map (lb keys) qs
block_positions keys qs asked places first order is count lanes raised found =
    ext_get_or 0 places (map (lb keys) qs) (omega (arith, length-map qs (lb keys))) (λ k inside.
    found k (omega arith) ∙ ap (lb keys) (raised k (omega arith)) ∙ lb-raised keys (slice_index qs k) first order is
    ∙ sym (get_or-map (lb keys) qs k 0 0 (omega arith)))

-- ---- questions in the first lanes

pub lane_positions : (keys qs asked places : List ℕ) (done : ℕ) → done ≡ length qs →
    length qs ≤ 16 → length places ≡ 16 → ((k : ℕ) → k < done → slice_index asked k ≡ slice_index qs k) →
    ((k : ℕ) → k < 16 → slice_index places k ≡ lb keys (slice_index asked k)) → take done places ≡ map (lb keys) qs
lane_positions keys qs asked places done all few lanes same found =
    let count : length (take done places) ≡ done = length-take-le done places (omega (arith, all, lanes)) in
    ext_get_or 0 (take done places) (map (lb keys) qs) (omega (arith, count, all, length-map qs (lb keys))) (λ k inside.
    get_or-take done places k 0 (omega (arith, count))
    ∙ found k (omega (arith, count, all)) ∙ ap (lb keys) (same k (omega (arith, count)))
    ∙ sym (get_or-map (lb keys) qs k 0 0 (omega (arith, count, all))))

-- a block more, which is the front of the rest
pub split_more : (f : ℕ → ℕ) (at : ℕ) (qs rest block later out items more : List ℕ) →
    block ≡ take at rest → later ≡ drop at rest → more ≡ items ++ map f block →
    ((before : List ℕ) × (qs ≡ before ++ rest) × (items ≡ out ++ map f before)) →
    (before : List ℕ) × (qs ≡ before ++ later) × (more ≡ out ++ map f before)
split_more f at qs rest block later out items more front back next (before, all, so_far) =
    let parts : rest ≡ block ++ later = sym (take-append-drop at rest)
    ∙ ap (λ (l : List ℕ). l ++ drop at rest) (sym front) ∙ ap (λ (l : List ℕ). block ++ l) (sym back) in (
      before ++ block,
      all ∙ ap (λ (l : List ℕ). before ++ l) parts ∙ sym (append_assoc before block later),
      next ∙ ap (λ (l : List ℕ). l ++ map f block) so_far ∙ append_assoc out (map f before) (map f block)
          ∙ ap (λ (l : List ℕ). out ++ l) (sym (map-append f before block)),
    )

-- as many are left as fewer are in the list
pub split_left : (f : ℕ → ℕ) (at : ℕ) (rest block later items more : List ℕ) →
    block ≡ take at rest → later ≡ drop at rest → more ≡ items ++ map f block →
    length more + length later ≡ length items + length rest
split_left f at rest block later items more front back next = omega (
  arith,
  ap length next,
  length-append items (map f block),
  length-map block f,
  ap length (take-append-drop at rest),
  length-append (take at rest) (drop at rest),
  ap length front,
  ap length back,
)
