-- The points of two lists ascend where the x rise and the y never
-- fall, and those of a key list are its keys with their places.
use Rattle.std.proofs.Common.{◌≡◌, ℕ, zero, suc, ◌+◌, ◌-◌, ◌<◌, ◌≤◌, List, length}
use Rattle.std.proofs.Common.{slice_index, refl, ap, ◌∙◌, arith, ◌++◌, [], ◌∷◌, add-one}
use Rattle.std.proofs.lemmas.List.{get_or_default}
use Rattle.std.specs.List.Sorted.{IsStrictlyIncreasing, IsNonDecreasing}
use Rattle.std.proofs.lemmas.List.FromFn.{get_or-range_with_len, length-range_with_len}
use Rattle.std.specs.List.{range_with_len}
use Rattle.exact_cross.specs.declared.points.PointList.{PointList}
use Rattle.exact_cross.specs.Points.{IsAscending, points_of, places}
use Rattle.exact_cross.specs.PointLists.{points_in}

-- of two places the lower has the lesser x; up from `i`, a place at a time
rises_along : (xs : List ℕ) (i gap j : ℕ) →
    IsStrictlyIncreasing xs → j ≡ i + suc gap → j < length xs → slice_index xs i < slice_index xs j
rises_along xs i zero j rises far inside =
    omega (arith, rises i (omega arith), ap (slice_index xs) (next i j far))
  where
    next : (i j : ℕ) → j ≡ i + 1 → j ≡ i + 1
    next i j e = e
rises_along xs i (suc gap) j rises far inside =
    omega (
      arith,
      rises_along xs i gap (i + suc gap) rises refl (omega arith),
      rises (i + suc gap) (omega arith),
      ap (slice_index xs) (last i gap j far),
    )
  where
    last : (i gap j : ℕ) → j ≡ i + suc (suc gap) → j ≡ i + suc gap + 1
    last i gap j e = omega arith

pub slice_index-rises : (xs : List ℕ) (i j : ℕ) →
    IsStrictlyIncreasing xs → i < j → j < length xs → slice_index xs i < slice_index xs j
slice_index-rises xs i j rises lower inside = rises_along xs i (j - suc i) j rises (omega arith) inside

-- where no y is below the one before it, none is below one further before it
climbs_along : (ys : List ℕ) (i gap j : ℕ) → ((k : ℕ) → k + 1 < length ys → slice_index ys k ≤ slice_index ys (k + 1)) →
    j ≡ i + gap → j < length ys → slice_index ys i ≤ slice_index ys j
climbs_along ys i zero j climbs far inside = let same : i ≡ j = omega arith in omega (arith, ap (slice_index ys) same)
climbs_along ys i (suc gap) j climbs far inside =
    let last : i + gap + 1 ≡ j = omega arith in
    omega (
      arith,
      climbs_along ys i gap (i + gap) climbs refl (omega arith),
      climbs (i + gap) (omega arith),
      ap (slice_index ys) last,
    )

pub IsNonDecreasing-from_neighbours : (ys : List ℕ) →
    ((k : ℕ) → k + 1 < length ys → slice_index ys k ≤ slice_index ys (k + 1)) → IsNonDecreasing ys
IsNonDecreasing-from_neighbours ys climbs = λ i j d low inside.
    omega (
      arith,
      climbs_along ys i (j - i) j climbs (omega arith) inside,
      get_or_default ys i d 0 (omega arith),
      get_or_default ys j d 0 inside,
    )

pub IsAscending-points_of : (xs ys : List ℕ) →
    length ys ≡ length xs → IsStrictlyIncreasing xs → IsNonDecreasing ys → IsAscending (points_of xs ys)
IsAscending-points_of xs ys same rises never_falls = record {
  x_rises = λ i j lower inside. slice_index-rises xs i j rises lower inside;
  y_never_falls = λ i j lower inside. never_falls i j 0 lower (omega arith);
}

-- the points in a list of them ascend
pub IsAscending-points_in : (list : PointList) → IsAscending (points_in list)
IsAscending-points_in list = IsAscending-points_of list.xs.now list.ys.now list.same_length list.rising list.never_falls

-- the place at a place
pub slice_index-places : (n j : ℕ) → j < n → slice_index (places n) j ≡ j
slice_index-places n j inside = omega (arith, get_or-range_with_len 0 n j 0 inside)

pub length-places : (n : ℕ) → length (places n) ≡ n
length-places n = length-range_with_len 0 n

pub IsNonDecreasing-places : (n : ℕ) → IsNonDecreasing (places n)
IsNonDecreasing-places n = IsNonDecreasing-from_neighbours (places n) (λ k inside.
    omega (
      arith,
      length-places n,
      inside,
      get_or-range_with_len 0 n k 0 (omega (arith, length-places n, inside)),
      get_or-range_with_len 0 n (k + 1) 0 (omega (arith, length-places n, inside)),
    ))

range-more : (a n : ℕ) → range_with_len a (suc n) ≡ range_with_len a n ++ (a + n) ∷ []
range-more a zero = ap (λ (k : ℕ). k ∷ []) (omega arith)
range-more a (suc n) =
    ap (λ (ks : List ℕ). a ∷ ks)
    (range-more (a + 1) n ∙ ap (λ (k : ℕ). range_with_len (a + 1) n ++ k ∷ []) (omega arith))

-- one place more
pub places-more : (n : ℕ) → places (n + 1) ≡ places n ++ n ∷ []
places-more n = rw add-one (range-more 0 n ∙ ap (λ (k : ℕ). range_with_len 0 n ++ k ∷ []) (omega arith))
