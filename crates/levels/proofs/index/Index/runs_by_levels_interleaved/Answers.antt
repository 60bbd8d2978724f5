-- The last level's one run has each predecessor.
use Rattle.std.proofs.Common.{◌≡◌, ◌+◌, ◌-◌, length, slice_index, arith}
use Rattle.levels.proofs.LookupLemmas.{no_segment, top_run}
use Rattle.levels.proofs.index.Index.runs_by_levels_interleaved.Goals as goal

pub loop-level-init : goal.loop-level-init
loop-level-init c =
    let value = c.args.self.now in
    let index = c.level_count-level.ensures.index in
    let last : c.level_count-level.result - 1 + 1
    ≡ length value.levels = omega (arith, c.level_count-level.ensures.count, index.some c.requires.some) in
    record {
      inside = omega (arith, last);
      runs = record {
        lanes = c.told-places;
        each = λ k inside. rw (c.requires.zeros k inside)
            (top_run value.keys value.eps value.eps_rec value.levels c.requires.laid.never_falls index no_segment
            (c.level_count-level.result - 1) (slice_index c.args.qs.now k) last c.requires.some
            (c.requires.from_first k inside));
      };
    }
