-- Which places are looked at, and which codes stand between.
--
-- Main results: a place is looked at after a code inside (`looked_behind`)
-- and at the lower bound of a code inside (`looked_at_bound`);
-- none is behind a code above the high corner's (`none_past`),
-- behind the last code inside (`none_left`) or before the next one
-- (`none_between`). A code inside stands at a place that is looked
-- at (`looked_here`), so what lies between are codes outside.
use Rattle.std.proofs.Common.{◌≡◌, ℕ, zero, suc, ◌+◌, ◌-◌, ◌<◌, ◌≤◌, ⊎_elim, inl, inr, List}
use Rattle.std.proofs.Common.{length, take, drop, slice_index, sym, ap, ◌∙◌, subst, arith}
use Rattle.std.specs.Prelude.{All}
use Rattle.std.specs.List.Sorted.{IsNonDecreasing}
use Rattle.std.proofs.lemmas.Bool.{cases_lt, cases_eq}
use Rattle.std.proofs.lemmas.List.{get_or-take, get_or-drop, length-take-le, length-drop}
use Rattle.std.proofs.lemmas.List.Sorted.{IsNonDecreasingBy-drop, IsNonDecreasingBy-take}
use Rattle.zorder.specs.declared.regions.Region.{Region}
use Rattle.zorder.specs.Codes.{IsCode, code}
use Rattle.zorder.specs.Regions.{IsEmpty, IsRegion, IsInside}
use Rattle.zorder.proofs.CallerLemmas.{inside_between}
use Rattle.bigmin.specs.NextInBox.{IsNextInBox, HasNoNext}
use Rattle.window_search.specs.Searches.{lb}
use Rattle.window_search.proofs.CallerLemmas.{IsLowerBound-lb, lb-is}
use Rattle.boxes.specs.BoxAnswers.{codes_inside, IsLookedAt}
use Rattle.boxes.specs.Walks.{HasWalked}
use Rattle.boxes.proofs.Fronts.{outside_skipped}
use Rattle.boxes.proofs.Counting.{count_none, count_skip, count_more}

-- sorted codes of as many coordinates as the region has
pub record AreOfRegion (region : Region) (codes : List ℕ) : Type 0 where
  pub order : IsNonDecreasing codes
  pub each : All (λ z. IsCode region.d z) codes

pub of_region : (region : Region) (codes shown : List ℕ) (d : ℕ) →
    shown ≡ codes → region.d ≡ d → IsNonDecreasing shown → All (λ z. IsCode d z) shown →
    AreOfRegion region codes
of_region region codes shown d same dims order each = record {
  order = subst IsNonDecreasing same order;
  each = subst (λ (xs : List ℕ). All (λ z. IsCode region.d z) xs) same
      (subst (λ (n : ℕ). All (λ z. IsCode n z) shown) (sym dims) each);
}

module _ (region : Region) (codes : List ℕ) (of : AreOfRegion region codes) where
  -- a code inside is looked at
  pub looked_here : (j : ℕ) → j < length codes → IsInside region (slice_index codes j) → IsLookedAt region codes j
  looked_here j within inside = record {
    z = slice_index codes j;
    code = of.each j 0 within;
    inside = inside;
    to = omega arith;
    from = λ some. of.order (j - 1) j 0 (omega arith) within;
  }

  -- and the place behind it
  pub looked_behind : (j : ℕ) →
      j + 1 < length codes → IsInside region (slice_index codes j) → IsLookedAt region codes (j + 1)
  looked_behind j within inside = record {
    z = slice_index codes j;
    code = of.each j 0 (omega arith);
    inside = inside;
    to = of.order j (j + 1) 0 (omega arith) within;
    from = λ some. let same : j + 1 - 1 ≡ j = omega arith in omega (arith, ap (slice_index codes) same);
  }

  -- and the lower bound of any code inside
  pub looked_at_bound : (z : ℕ) →
      IsCode region.d z → IsInside region z → lb codes z < length codes → IsLookedAt region codes (lb codes z)
  looked_at_bound z small inside within =
      let bound = IsLowerBound-lb codes z of.order in record {
        z = z;
        code = small;
        inside = inside;
        to = bound.from (lb codes z) (omega arith) within;
        from = λ some. omega (arith, bound.before (lb codes z - 1) (omega arith));
      }

  -- the lower bound of a code above another lies behind it
  pub bound_beyond : (at z : ℕ) → at < length codes → slice_index codes at < z → at < lb codes z
  bound_beyond at z within below =
      let bound = IsLowerBound-lb codes z of.order in
      ⊎_elim (λ beyond. beyond)
      (λ not_beyond. absurd (omega (arith, bound.from at not_beyond within))) (cases_lt at (lb codes z))

  -- what is looked at behind a code rests on a code inside that is not below it
  behind : (at j : ℕ) →
      at < j → j < length codes → (looked : IsLookedAt region codes j) → slice_index codes at ≤ looked.z
  behind at j after within looked =
      omega (arith, of.order at (j - 1) 0 (omega arith) (omega arith), looked.from (omega arith))

  -- and above it, if it is outside
  above : (at j : ℕ) →
      at < j → j < length codes → (IsInside region (slice_index codes at) → ⊥) → (looked : IsLookedAt region codes j)
      → slice_index codes at < looked.z
  above at j after within outside looked =
      let least = behind at j after within looked in
      ⊎_elim (λ same. absurd (outside (subst (IsInside region) (sym same) looked.inside)))
      (λ differ. omega (arith, differ)) (cases_eq (slice_index codes at) looked.z)

  -- behind a code above the high corner's no place is looked at
  pub none_past : IsRegion region → (at : ℕ) → code region.d region.high < slice_index codes at
      → (j : ℕ) → at < j → j < length codes → IsLookedAt region codes j → ⊥
  none_past is at past j after within looked =
      absurd (omega
      (arith, behind at j after within looked, (inside_between region looked.z is looked.code looked.inside).1))

  -- nor behind a code outside above which none is inside
  pub none_left : (at : ℕ) → HasNoNext region (slice_index codes at) → (IsInside region (slice_index codes at) → ⊥)
      → (j : ℕ) → at < j → j < length codes → IsLookedAt region codes j → ⊥
  none_left at none outside j after within looked =
      none looked.z looked.code (above at j after within outside looked) looked.inside

  -- nor before the lower bound of the next code inside
  pub none_between : (at next : ℕ) →
      IsNextInBox region (slice_index codes at) next → (IsInside region (slice_index codes at) → ⊥)
      → (j : ℕ) → at < j → j < lb codes next → IsLookedAt region codes j → ⊥
  none_between at next is outside j after before looked =
      let bound = IsLowerBound-lb codes next of.order in
      let least =
      is.least looked.z looked.code (above at j after (omega (arith, bound.within)) outside looked) looked.inside in
      omega (arith, least, bound.before j before, looked.to)

  -- a walk begins at the lower bound of the low corner's code
  pub walk_begins : IsRegion region →
      IsInside region (code region.d region.low) → IsCode region.d (code region.d region.low)
      → HasWalked region codes (lb codes (code region.d region.low)) 0
  walk_begins is inside small =
      let low = code region.d region.low in
      let bound = IsLowerBound-lb codes low of.order in record {
        within = bound.within;
        few = omega arith;
        counted = count_skip (IsLookedAt region codes) 0 (lb codes low) 0 (omega arith)
            (λ j from to looked. absurd
            (omega
            (arith, bound.before j to, looked.to, (inside_between region looked.z is looked.code looked.inside).0)))
            (count_none (IsLookedAt region codes));
        due = looked_at_bound low small inside;
      }

  pub begins_with_all : IsRegion region
      → codes_inside region (drop (lb codes (code region.d region.low)) codes) ≡ codes_inside region codes
  begins_with_all is =
      let low = code region.d region.low in
      let bound = IsLowerBound-lb codes low of.order in
      sym (outside_skipped region codes 0 (lb codes low) (omega arith) bound.within
      (λ k from to inside. absurd
      (omega (
        arith,
        bound.before k to,
        (inside_between region (slice_index codes k) is (of.each k 0 (omega (arith, bound.within))) inside).0,
      ))))

  -- over an empty region it is at its end at once
  pub walk_of_none : ((z : ℕ) → IsInside region z → ⊥) → HasWalked region codes (length codes) 0
  walk_of_none none = record {
    within = omega arith;
    few = omega arith;
    counted = count_skip (IsLookedAt region codes) 0 (length codes) 0
        (omega arith) (λ j from to looked. none looked.z looked.inside) (count_none (IsLookedAt region codes));
    due = λ within. absurd (omega arith);
  }

  pub none_of_none : ((z : ℕ) → IsInside region z → ⊥) →
      codes_inside region (drop (length codes) codes) ≡ codes_inside region codes
  none_of_none none =
      sym (outside_skipped region codes 0
      (length codes) (omega arith) (omega arith) (λ k from to inside. none (slice_index codes k) inside))

  -- it goes on behind a code inside
  pub walk_on : (at looked : ℕ) →
      at < length codes → HasWalked region codes at looked → IsInside region (slice_index codes at)
      → HasWalked region codes (at + 1) (looked + 1)
  walk_on at looked within walked inside = record {
    within = omega arith;
    few = omega (arith, walked.few);
    counted = count_more (IsLookedAt region codes) at looked (walked.due within) walked.counted;
    due = λ more. looked_behind at more inside;
  }

  -- and from a code outside over places that aren't looked at
  pub walk_over : (at looked next : ℕ) → at < next → next ≤ length codes → HasWalked region codes at looked
      → ((j : ℕ) → at < j → j < next → IsLookedAt region codes j → ⊥) →
      (next < length codes → IsLookedAt region codes next)
      → HasWalked region codes next (looked + 1)
  walk_over at looked next onwards within walked skipped due = record {
    within = within;
    few = omega (arith, walked.few);
    counted = count_skip
        (IsLookedAt region codes) (at + 1) next (looked + 1) (omega arith) (λ j from to. skipped j (omega arith) to)
        (count_more (IsLookedAt region codes) at looked (walked.due (omega arith)) walked.counted);
    due = due;
  }

  -- in which no code is inside
  pub none_inside_over : (at next : ℕ) → at < next → next ≤ length codes → (IsInside region (slice_index codes at) → ⊥)
      → ((j : ℕ) → at < j → j < next → IsLookedAt region codes j → ⊥)
      → codes_inside region (drop at codes) ≡ codes_inside region (drop next codes)
  none_inside_over at next onwards within outside skipped =
      outside_skipped region codes at next (omega arith) within
      (λ k from to inside. ⊎_elim (λ after. skipped k after to (looked_here k (omega arith) inside))
      (λ here. let same : k ≡ at = omega arith in
      outside (subst (λ (i : ℕ). IsInside region (slice_index codes i)) same inside))
      (cases_lt at k))

  -- a walk goes on behind them
  pub walk_along : (at looked count : ℕ) → at + count ≤ length codes → HasWalked region codes at looked
      → ((k : ℕ) → at ≤ k → k < at + count → IsInside region (slice_index codes k)) →
      HasWalked region codes (at + count) (looked + count)
  walk_along at looked zero within walked each =
      let place : at ≡ at + zero = omega arith in
      let number : looked ≡ looked + zero = omega arith in
      subst (λ (n : ℕ). HasWalked region codes (at + zero) n) number
      (subst (λ (n : ℕ). HasWalked region codes n looked) place walked)
  walk_along at looked (suc count) within walked each =
      let place : at + 1 + count ≡ at + suc count = omega arith in
      let number : looked + 1 + count ≡ looked + suc count = omega arith in
      subst (λ (n : ℕ). HasWalked region codes (at + suc count) n) number
      (subst (λ (n : ℕ). HasWalked region codes n (looked + 1 + count)) place
      (walk_along (at + 1) (looked + 1) count
      (omega arith) (walk_on at looked (omega arith) walked (each at (omega arith) (omega arith)))
      (λ k from to. each k (omega arith) (omega arith))))

  -- a place that is due shows that the region isn't empty
  pub not_empty : (at looked : ℕ) → at < length codes → HasWalked region codes at looked → IsEmpty region → ⊥
  not_empty at looked within walked (c, below, falls) =
      let is_due = walked.due within in omega (arith, is_due.inside c below)

-- what stands side by side in a list that never falls doesn't fall
pub part_sorted : (xs : List ℕ) (at count : ℕ) → IsNonDecreasing xs → IsNonDecreasing (take count (drop at xs))
part_sorted xs at count order =
    IsNonDecreasingBy-take (λ (x : ℕ). x) count (drop at xs) (IsNonDecreasingBy-drop (λ (x : ℕ). x) at xs order)

-- the place of a code that isn't below another, behind one that is, is the lower bound
pub bound_between : (shown codes : List ℕ) (z place : ℕ) →
    shown ≡ codes → IsNonDecreasing shown → place < length shown → slice_index shown (place - 1) < z →
    z ≤ slice_index shown place → place ≡ lb codes z
bound_between shown codes z place same order within below above =
    sym (lb-is shown z place
    (omega arith) (λ k before. omega (arith, order k (place - 1) 0 (omega arith) (omega arith), below))
    (λ k from inside. omega (arith, order place k 0 from inside, above))) ∙ ap (λ (xs : List ℕ). lb xs z) same

-- and where all codes are below it, the end is
pub bound_at_end : (shown codes : List ℕ) (z : ℕ) →
    shown ≡ codes → IsNonDecreasing shown → slice_index shown (length shown - 1) < z → length shown ≡ lb codes z
bound_at_end shown codes z same order below =
    sym (lb-is shown z (length shown)
    (omega arith) (λ k before. omega (arith, order k (length shown - 1) 0 (omega arith) (omega arith), below))
    (λ k from inside. absurd (omega arith))) ∙ ap (λ (xs : List ℕ). lb xs z) same

-- and where the codes behind one below it, up to one that isn't, are looked through from the front
pub bound_among : (shown codes : List ℕ) (z at end front : ℕ) → shown ≡ codes →
    IsNonDecreasing shown → at < end → end ≤ length shown → slice_index codes at < z → z ≤ slice_index shown (end - 1) →
    ((k : ℕ) → k < front → slice_index (take (end - (at + 1)) (drop (at + 1) shown)) k < z) →
    (front < length (take (end - (at + 1)) (drop (at + 1) shown)) →
    z ≤ slice_index (take (end - (at + 1)) (drop (at + 1) shown)) front) →
    front ≤ length (take (end - (at + 1)) (drop (at + 1) shown)) → at + 1 + front ≡ lb codes z
bound_among shown codes z at end front same order less fits here there below above within =
    bound_between shown codes z (at + 1 + front) same order
    (omega (arith, inside, fits)) before (omega (arith, above (omega (arith, inside, count)), read front inside))
  where
    near : List ℕ
    near = take (end - (at + 1)) (drop (at + 1) shown)

    count : length near ≡ end - (at + 1)
    count = length-take-le (end - (at + 1)) (drop (at + 1) shown) (omega (arith, length-drop (at + 1) shown, fits))

    read : (k : ℕ) → k < end - (at + 1) → slice_index near k ≡ slice_index shown (at + 1 + k)
    read k few = get_or-take (end - (at + 1)) (drop (at + 1) shown) k 0 few ∙ get_or-drop (at + 1) shown k 0

    before : slice_index shown (at + 1 + front - 1) < z
    before = elim (cases_lt 0 front) [
      | inl some ↦
          let last = below (front - 1) (omega (arith, some)) in
          let place : at + 1 + (front - 1) ≡ at + 1 + front - 1 = omega (arith, some) in
          subst (λ (k : ℕ). slice_index shown k < z) place
          (omega (arith, last, read (front - 1) (omega (arith, some, within, count))))
      | inr none ↦
          let place : at ≡ at + 1 + front - 1 = omega (arith, none) in
          subst (λ (k : ℕ). slice_index shown k < z) place
          (omega (arith, here, ap (λ (xs : List ℕ). slice_index xs at) same))
    ]

    inside : front < end - (at + 1)
    inside = elim (cases_lt front (end - (at + 1))) [
      | inl few ↦ few
      | inr all ↦
          let place : at + 1 + front - 1 ≡ end - 1 = omega (arith, all, within, count, less) in
          absurd (omega (arith, there, subst (λ (k : ℕ). slice_index shown k < z) place before))
    ]
