-- The table's places hold the predecessor of each question, which there is.
use Rattle.std.proofs.Common.{◌^◌, ◌<◌, ◌≤◌, ℕ, List, length, slice_index, arith}
use Rattle.std.specs.List.Sorted.{IsNonDecreasing}
use Rattle.exact_cross.specs.declared.segment.Segment.{Segment}
use Rattle.radix_table.specs.Tables.{IsLedTo}
use Rattle.levels.specs.Indexes.{IsLaidIndex, xs_at}
use Rattle.levels.proofs.LookupLemmas.{ascends}
use Rattle.levels.proofs.RunLemmas.{first_run}
use Rattle.levels.proofs.EntryLemmas.{predecessor_at}
use Rattle.levels.proofs.index.Index.spans_near.Goals as goal

pub loop-lane-init : goal.loop-lane-init
loop-lane-init c =
    let value = c.args.self.now in
    record {
      lanes = omega (arith, c.told-lows);
      some = omega arith;
      most = omega (
        arith,
        (first_run value.keys
            value.eps value.eps_rec value.levels c.requires.laid.never_falls c.requires.laid.index c.requires.some).0,
      );
      each = λ k less. absurd (omega arith);
    }

-- places that hold a predecessor which there is
fits : (keys : List ℕ) (eps eps_rec : ℕ) (levels : List (List Segment)) (q most low high : ℕ) → IsNonDecreasing keys →
    length keys < 2 ^ 32 → IsLaidIndex keys eps eps_rec levels → 0 < length keys → 1 < length levels →
    slice_index keys 0 ≤ q → IsLedTo (xs_at keys levels 1) q most low high →
    (low ≤ high) × (high < length (xs_at keys levels 1)) × (length (xs_at keys levels 1) < 2 ^ 32)
fits keys eps eps_rec levels q most low high order few index some above first led =
    let found = predecessor_at keys eps eps_rec levels order index 1 q (omega arith) some first in
    let held = led.holds found.0 found.1 in
    let here = ascends keys eps eps_rec levels order index 1 (omega arith) in (
      omega (arith, held.0, held.1),
      omega (arith, led.within (omega (arith, found.1.inside))),
      omega (arith, here.few, few),
    )

pub overflow_sub-high : goal.overflow_sub-high
overflow_sub-high c =
    let value = c.args.self.now in
    (fits value.keys value.eps value.eps_rec value.levels (slice_index c.args.qs.now c.loop-lane.lane) _ c.in-Some.low
    c.in-Some.high c.requires.laid.never_falls c.requires.laid.few c.requires.laid.index c.requires.some
    (omega (arith, c.level_count.ensures.count, c.if-level_count-lt2.false))
    (c.requires.from_first c.loop-lane.lane (omega (arith, c.loop-lane-test.true, c.loop-lane.auto.lane-end)))
    c.in-Some.ensures).0

pub overflow_add-high : goal.overflow_add-high
overflow_add-high c =
    let value = c.args.self.now in
    let all = fits value.keys value.eps value.eps_rec value.levels
    (slice_index c.args.qs.now c.loop-lane.lane) _ c.in-Some.low
    c.in-Some.high c.requires.laid.never_falls c.requires.laid.few c.requires.laid.index c.requires.some
    (omega (arith, c.level_count.ensures.count, c.if-level_count-lt2.false))
    (c.requires.from_first c.loop-lane.lane (omega (arith, c.loop-lane-test.true, c.loop-lane.auto.lane-end)))
    c.in-Some.ensures in
    omega (arith, all.0, all.1, all.2)
