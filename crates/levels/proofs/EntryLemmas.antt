-- Where a lookup starts: the list of first x there has a predecessor, and the levels above have their share of steps.
use Rattle.std.proofs.Common.{◌≡◌, ℕ, ◌+◌, ◌-◌, ◌*◌, ◌^◌, ◌<◌, ◌≤◌, List, length, slice_index}
use Rattle.std.proofs.Common.{slice_index_or, sym, ap, ◌∙◌, add-one, inl, inr, arith}
use Rattle.std.proofs.lemmas.Bool.{cases_lt}
use Rattle.std.proofs.Math.Nat.{pow-suc, mul-le-mul_right}
use Rattle.std.specs.List.Sorted.{IsNonDecreasing}
use Rattle.exact_cross.specs.declared.segment.Segment.{Segment}
use Rattle.window_search.specs.Searches.{IsPredecessor}
use Rattle.window_search.proofs.CallerLemmas.{predecessor_exists}
use Rattle.levels.specs.declared.level.Level.{Level}
use Rattle.levels.specs.Costs.{TakesAtMost}
use Rattle.levels.specs.Entries.{IsEntry}
use Rattle.levels.specs.Indexes.{xs_at, IsLaidIndex}
use Rattle.levels.specs.Stored.{segments_of, AreStored}
use Rattle.levels.proofs.LevelLemmas.{some_at}
use Rattle.levels.proofs.StoredLemmas.{segments_of-count}
use Rattle.levels.proofs.LookupLemmas.{no_segment, ascends, first_at, IsNonDecreasing-from_rising}
use Rattle.levels.proofs.CostLemmas.{TakesAtMost-more, TakesAtMost-one}

-- each level has the predecessor of a question that isn't below the first key
pub predecessor_at : (keys : List ℕ) (eps eps_rec : ℕ) (levels : List (List Segment)) (order : IsNonDecreasing keys)
    (index : IsLaidIndex keys eps eps_rec levels) (i q : ℕ) → i ≤ length levels → 0 < length keys →
    slice_index keys 0 ≤ q → (place : ℕ) × IsPredecessor (xs_at keys levels i) q place
predecessor_at keys eps eps_rec levels order index i q within some first =
    predecessor_exists (xs_at keys levels i) q
    (IsNonDecreasing-from_rising (xs_at keys levels i) (ascends keys eps eps_rec levels order index i within).rises)
    (some_at keys eps eps_rec levels order some i (λ k less. index.each k (omega arith)))
    (omega (arith, first_at keys eps eps_rec levels order index some no_segment i within, first))

-- the first key is read, and then the list of first x
pub lookup-entry : (base n before middle after : ℕ) →
    middle ≡ before + 1 → TakesAtMost (base ^ n) middle after → TakesAtMost (2 * base ^ n) before after
lookup-entry base n before middle after is entry =
    TakesAtMost-more 2 (base ^ n) before middle after (TakesAtMost-one 2 before middle is (omega arith)) entry

-- one level down, where the first x of its runs are few enough
pub IsEntry-down : (keys : List ℕ) (eps eps_rec : ℕ) (levels : List Level) (top count most : ℕ) (level : Level) →
    AreStored keys eps eps_rec levels → 0 < top → top ≤ length levels - 1 →
    level ≡ slice_index_or levels top level →
    count ≡ length level.xs.items → most ≤ (4 * (2 * eps_rec + 3)) ^ (length levels - 1 - (top - 1)) →
    2 * count ≤ most → IsEntry keys eps_rec (segments_of levels) (top - 1)
IsEntry-down keys eps eps_rec levels top count most level stored above inside is counted share few =
    let total = segments_of-count levels in
    let down : top - 1 + 1 ≡ top = omega arith in
    let kept = stored.first.kept top level above (omega arith) in
    let list : length level.xs.items ≡ length (xs_at keys (segments_of levels) (top - 1 + 1)) =
    ap (λ (l : Level). length l.xs.items) is
    ∙ ap length kept ∙ ap (λ (k : ℕ). length (xs_at keys (segments_of levels) k)) (sym down) in
    record {
      inside = λ some. omega (arith, total);
      few = λ more. omega (arith, list, ap (λ (k : ℕ). (4 * (2 * eps_rec + 3)) ^ (k - 1 - (top - 1))) total);
    }

-- its share of steps
pub share-down : (base levels top most next : ℕ) → 0 < top →
    top ≤ levels - 1 → most ≤ base ^ (levels - 1 - top) → next ≤ most * base → next ≤ base ^ (levels - 1 - (top - 1))
share-down base levels top most next above inside share more =
    let step : levels - 1 - (top - 1) ≡ levels - 1 - top + 1 = omega arith in
    let power : base ^ (levels - 1 - (top - 1)) ≡ base ^ (levels - 1 - top) * base =
    ap (λ (k : ℕ). base ^ k) (step ∙ add-one (levels - 1 - top)) ∙ pow-suc base (levels - 1 - top) in
    omega (arith, power, mul-le-mul_right base share)

-- where there is a level there is a key
pub some_keys : (keys : List ℕ) (levels : List (List Segment)) →
    (length keys ≡ 0 → length levels ≡ 0) → 0 < length levels → 0 < length keys
some_keys keys levels none level = elim (cases_lt 0 (length keys)) [
  | inl some ↦ some
  | inr empty ↦ absurd (omega (arith, none (omega arith)))
]

-- and one level up
pub share-up : (base level most next : ℕ) →
    1 ≤ level → most ≤ base ^ (level - 1) → next ≤ most * base → next ≤ base ^ (level + 1 - 1)
share-up base level most next some share more =
    let step : level + 1 - 1 ≡ level - 1 + 1 = omega arith in
    let power : base ^ (level + 1 - 1) ≡ base ^ (level - 1) * base =
    ap (λ (k : ℕ). base ^ k) (step ∙ add-one (level - 1)) ∙ pow-suc base (level - 1) in
    omega (arith, power, mul-le-mul_right base share)
