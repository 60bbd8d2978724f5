-- What one key more adds to the number of distinct keys, and to the heights of keys that stand once.
use Rattle.std.proofs.Common.{◌≡◌, ◌≢◌, ℕ, ◌+◌, ◌-◌, ◌<◌, ◌≤◌, min, List, [], ◌∷◌, ◌++◌, length, take}
use Rattle.std.proofs.Common.{slice_index, refl, sym, ap, ◌∙◌, subst, arith, length-append, zero, suc, inl, inr}
use Rattle.std.proofs.lemmas.List.{take_more, take_all, get_or_append_left, ext_get_or}
use Rattle.std.proofs.Math.Seq.{get_or-append_seam}
use Rattle.std.specs.List.Sorted.{IsNonDecreasing, IsStrictlyIncreasing}
use Rattle.exact_cross.specs.Points.{places}
use Rattle.exact_cross.proofs.CallerLemmas.{length-places, slice_index-places}
use Rattle.window_search.specs.Searches.{lb}
use Rattle.window_search.proofs.CallerLemmas.{IsLowerBound-lb}
use Rattle.key_points.specs.KeyPoints.{distinct_of, first_of, xs_of, ys_of}
use Rattle.key_points.proofs.DistinctLemmas.{distinct_of-same, distinct_of-new}
use Rattle.key_points.proofs.AloneLemmas.{xs_of-alone, lb-rising, IsStrictlyIncreasing-distinct_of, first_of-inner}
use Rattle.key_points.specs.Groups.{IsGroupStart, IsGroupEnd}
use Rattle.key_points.proofs.GroupLemmas.{distinct_of-group, lb-start}
use Rattle.std.proofs.lemmas.Bool.{cases_lt, cases_eq}
use Rattle.key_points.proofs.PointOrder.{ys-length, ys-at}

pub count-first : (keys : List ℕ) → length (distinct_of (take 1 keys)) ≡ min (length keys) 1
count-first [] = refl
count-first (key ∷ keys) = omega arith

-- the keys up to this one end with the two
last-two : (keys : List ℕ) (i : ℕ) → 1 ≤ i → i < length keys →
    take (i + 1) keys ≡ (take (i - 1) keys ++ slice_index keys (i - 1) ∷ []) ++ slice_index keys i ∷ []
last-two keys i some inside =
    let before : i ≡ i - 1 + 1 = omega arith in
    take_more keys i 0 inside
    ∙ ap (λ (l : List ℕ). l ++ slice_index keys i ∷ [])
    (ap (λ (k : ℕ). take k keys) before ∙ take_more keys (i - 1) 0 (omega (arith, inside)))

last-one : (keys : List ℕ) (i : ℕ) →
    1 ≤ i → i < length keys → take i keys ≡ take (i - 1) keys ++ slice_index keys (i - 1) ∷ []
last-one keys i some inside =
    let before : i ≡ i - 1 + 1 = omega arith in
    ap (λ (k : ℕ). take k keys) before ∙ take_more keys (i - 1) 0 (omega (arith, inside))

list-same : (keys : List ℕ) (i : ℕ) → 1 ≤ i → i < length keys →
    slice_index keys i ≡ slice_index keys (i - 1) → distinct_of (take (i + 1) keys) ≡ distinct_of (take i keys)
list-same keys i some inside same =
    let front = take (i - 1) keys in
    let key = slice_index keys (i - 1) in
    ap distinct_of (last-two keys i some inside ∙ ap (λ (k : ℕ). (front ++ key ∷ []) ++ k ∷ []) same)
    ∙ distinct_of-same front key ∙ ap distinct_of (sym (last-one keys i some inside))

list-new : (keys : List ℕ) (i : ℕ) → 1 ≤ i → i < length keys → slice_index keys i ≢ slice_index keys (i - 1) →
    distinct_of (take (i + 1) keys) ≡ distinct_of (take i keys) ++ slice_index keys i ∷ []
list-new keys i some inside differ =
    let front = take (i - 1) keys in
    let key = slice_index keys (i - 1) in
    ap distinct_of (last-two keys i some inside)
    ∙ distinct_of-new front key (slice_index keys i) (λ same. differ (sym same))
    ∙ ap (λ (l : List ℕ). distinct_of l ++ slice_index keys i ∷ []) (sym (last-one keys i some inside))

pub count-same : (keys : List ℕ) (i : ℕ) → 1 ≤ i → i < length keys → slice_index keys i ≡ slice_index keys (i - 1) →
    length (distinct_of (take (i + 1) keys)) ≡ length (distinct_of (take i keys))
count-same keys i some inside same = ap length (list-same keys i some inside same)

pub count-new : (keys : List ℕ) (i : ℕ) → 1 ≤ i → i < length keys → slice_index keys i ≢ slice_index keys (i - 1) →
    length (distinct_of (take (i + 1) keys)) ≡ length (distinct_of (take i keys)) + 1
count-new keys i some inside differ =
    ap length (list-new keys i some inside differ) ∙ length-append (distinct_of (take i keys)) (slice_index keys i ∷ [])

pub count-all : (keys : List ℕ) (i : ℕ) →
    length keys ≤ i → length (distinct_of (take i keys)) ≡ length (distinct_of keys)
count-all keys i past = ap (λ (l : List ℕ). length (distinct_of l)) (take_all i keys past)

-- a key more takes none away
counts-step : (keys : List ℕ) (i : ℕ) →
    1 ≤ i → i < length keys → length (distinct_of (take i keys)) ≤ length (distinct_of (take (i + 1) keys))
counts-step keys i some inside = elim (cases_lt (slice_index keys i) (slice_index keys (i - 1))) [
  | inl less ↦ omega (arith, count-new keys i some inside (λ same. omega (arith, same, less)))
  | inr rest ↦ elim (cases_lt (slice_index keys (i - 1)) (slice_index keys i)) [
    | inl more ↦ omega (arith, count-new keys i some inside (λ same. omega (arith, same, more)))
    | inr other ↦ omega (arith, count-same keys i some inside (omega (arith, rest, other)))
  ]
]

counts-grow : (keys : List ℕ) (k m : ℕ) →
    1 ≤ k → k + m ≤ length keys → length (distinct_of (take k keys)) ≤ length (distinct_of (take (k + m) keys))
counts-grow keys k zero some within =
    let same : k ≡ k + 0 = omega arith in omega (arith, ap (λ (n : ℕ). length (distinct_of (take n keys))) same)
counts-grow keys k (suc m) some within =
    let next : k + m + 1 ≡ k + suc m = omega arith in
    omega (
      arith,
      counts-grow keys k m some (omega (arith, within)),
      counts-step keys (k + m) (omega (arith, some)) (omega (arith, within)),
      ap (λ (n : ℕ). length (distinct_of (take n keys))) next,
    )

-- before a group there are fewer distinct keys than in all
pub group-more : (keys : List ℕ) (at end : ℕ) → IsNonDecreasing keys →
    IsGroupStart keys at → IsGroupEnd keys at end → length (distinct_of (take at keys)) + 1 ≤ length (distinct_of keys)
group-more keys at end order start group =
    let all : end + (length keys - end) ≡ length keys = omega (arith, group.within) in
    omega (
      arith,
      ap length (distinct_of-group keys at end order start group),
      length-append (distinct_of (take at keys)) (slice_index keys at ∷ []),
      counts-grow keys end (length keys - end) (omega (arith, group.some)) (omega (arith, group.within)),
      count-all keys (end + (length keys - end)) (omega (arith, all)),
    )

-- a key more leaves the distinct keys before it
kept-step : (keys : List ℕ) (i j : ℕ) → 1 ≤ i → i < length keys → j < length (distinct_of (take i keys)) →
    slice_index (distinct_of (take (i + 1) keys)) j ≡ slice_index (distinct_of (take i keys)) j
kept-step keys i j some inside below = elim (cases_eq (slice_index keys i) (slice_index keys (i - 1))) [
  | inl same ↦ ap (λ (l : List ℕ). slice_index l j) (list-same keys i some inside same)
  | inr differ ↦ ap (λ (l : List ℕ). slice_index l j) (list-new keys i some inside differ)
      ∙ get_or_append_left (distinct_of (take i keys)) (slice_index keys i ∷ []) 0 j below
]

kept : (keys : List ℕ) (k m j : ℕ) → 1 ≤ k → k + m ≤ length keys → j < length (distinct_of (take k keys)) →
    slice_index (distinct_of (take (k + m) keys)) j ≡ slice_index (distinct_of (take k keys)) j
kept keys k zero j some within below = ap (λ (n : ℕ). slice_index (distinct_of (take n keys)) j) (omega arith)
kept keys k (suc m) j some within below =
    ap (λ (n : ℕ). slice_index (distinct_of (take n keys)) j) (omega arith)
    ∙ kept-step keys (k + m) j (omega (arith, some))
    (omega (arith, within)) (omega (arith, below, counts-grow keys k m some (omega (arith, within))))
    ∙ kept keys k m j some (omega (arith, within)) below

-- the key of a group is the distinct one of its number
pub group-key : (keys : List ℕ) (at end : ℕ) → IsNonDecreasing keys → IsGroupStart keys at → IsGroupEnd keys at end →
    slice_index (distinct_of keys) (length (distinct_of (take at keys))) ≡ slice_index keys at
group-key keys at end order start group =
    let j = length (distinct_of (take at keys)) in
    let here = distinct_of-group keys at end order start group in
    let inside : j < length (distinct_of (take end keys)) =
    omega (arith, ap length here, length-append (distinct_of (take at keys)) (slice_index keys at ∷ [])) in
    let all : length keys ≤ end + (length keys - end) = omega arith in
    ap (λ (l : List ℕ). slice_index (distinct_of l) j) (sym (take_all (end + (length keys - end)) keys all))
    ∙ kept keys end (length keys - end) j (omega (arith, group.some)) (omega (arith, group.within)) inside
    ∙ ap (λ (l : List ℕ). slice_index l j) here
    ∙ get_or-append_seam (distinct_of (take at keys)) (slice_index keys at) [] 0

-- where a group begins, its key stands first
pub first_of-group : (keys : List ℕ) (at end : ℕ) → IsNonDecreasing keys →
    IsGroupStart keys at → IsGroupEnd keys at end → first_of keys (length (distinct_of (take at keys))) ≡ at
first_of-group keys at end order start group =
    first_of-inner keys (length (distinct_of (take at keys))) (omega (arith, group-more keys at end order start group))
    ∙ ap (lb keys) (group-key keys at end order start group) ∙ lb-start keys at end order start group

-- a group has an end
pub group-end : (keys : List ℕ) (at : ℕ) →
    IsNonDecreasing keys → at < length keys → IsGroupEnd keys at (lb keys (slice_index keys at + 1))
group-end keys at order inside =
    let end = lb keys (slice_index keys at + 1) in
    let bound = IsLowerBound-lb keys (slice_index keys at + 1) order in
    record {
      some = elim (cases_lt at end) [ inl less ↦ less | inr rest ↦ absurd (omega (arith, bound.from at rest inside)) ];
      within = bound.within;
      same = λ k low less. omega (arith, bound.before k less, order at k 0 low (omega (arith, less, bound.within)));
      behind = λ k low within. omega (arith, bound.from k low within);
    }

-- behind a group the next one begins
pub next-group : (keys : List ℕ) (at end : ℕ) →
    IsGroupStart keys at → IsGroupEnd keys at end → end < length keys → IsGroupStart keys end
next-group keys at end start group inside = record {
  inside = inside;
  before = λ k less. elim (cases_lt k at) [
    | inl low ↦ omega (arith, start.before k low, group.behind end (omega arith) inside)
    | inr high ↦ omega (arith, group.same k high less, group.behind end (omega arith) inside)
  ];
}

-- the heights of keys that don't repeat are their places
pub ys_of-alone : (keys : List ℕ) → IsNonDecreasing keys → distinct_of keys ≡ keys → ys_of keys ≡ places (length keys)
ys_of-alone keys order alone =
    let rises = subst (λ (xs : List ℕ). IsStrictlyIncreasing xs) alone (IsStrictlyIncreasing-distinct_of keys order) in
    let points = xs_of-alone keys order alone in
    let count : length (ys_of keys) ≡ length keys = ys-length keys ∙ ap length points in
    ext_get_or 0 (ys_of keys) (places (length keys)) (count ∙ sym (length-places (length keys))) (λ j inside.
    ys-at keys j (omega (arith, ap length points, count, inside))
    ∙ ap (λ (xs : List ℕ). lb keys (slice_index xs j)) points
    ∙ lb-rising keys rises j (omega (arith, count, inside))
    ∙ sym (slice_index-places (length keys) j (omega (arith, count, inside))))
