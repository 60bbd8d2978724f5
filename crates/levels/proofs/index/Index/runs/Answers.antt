-- The first x of the runs are one for each run.
use Rattle.std.proofs.Common.{◌≡◌, length, sym, ap, ◌∙◌, subst, arith}
use Rattle.std.specs.List.Sorted.{IsNonDecreasing}
use Rattle.levels.proofs.LookupLemmas.{ascends}
use Rattle.levels.proofs.RunLemmas.{runs-are, no_runs}
use Rattle.levels.proofs.index.Index.runs.Goals as goal

pub returns-then-level_count-eq0-clause-count : goal.returns-then-level_count-eq0-clause-count
returns-then-level_count-eq0-clause-count c = no_runs c.args.self.now.keys c.args.self.now.levels
    (omega (arith, c.level_count.ensures.count, c.if-level_count-eq0.true))

pub overflow_cast-result : goal.overflow_cast-result
overflow_cast-result c =
    let value = c.args.self.now in
    let file : c.as_slice-file.result.now ≡ value.keys = c.as_slice-file.ensures.keys ∙ c.keys-keys.ensures in
    let order : IsNonDecreasing value.keys = subst IsNonDecreasing file c.as_slice-file.ensures.never_falls in
    let here = ascends value.keys value.eps value.eps_rec value.levels order c.level_count.ensures.index 1
    (omega (arith, c.level_count.ensures.count, c.if-level_count-eq0.false)) in
    omega (
      arith,
      ap length c.segments.ensures.segments,
      runs-are value.keys value.levels,
      here.few,
      ap length file,
      c.as_slice-file.ensures.few,
    )

pub returns-clause-count : goal.returns-clause-count
returns-clause-count c =
    ap length c.segments.ensures.segments ∙ sym (runs-are c.args.self.now.keys c.args.self.now.levels)
