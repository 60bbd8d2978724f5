-- The model of a run begins at the run's first x.
use Rattle.std.proofs.Common.{ℕ, List, length, slice_index, sym, ap, ◌∙◌}
use Rattle.exact_cross.specs.IndexLevels.{level_at}
use Rattle.levels.specs.Indexes.{xs_at}
use Rattle.levels.proofs.LevelLemmas.{xs_at-above}
use Rattle.levels.proofs.LookupLemmas.{no_segment}
use Rattle.levels.proofs.SegmentLemmas.{end_at, first_x_at}
use Rattle.levels.proofs.ModelLookup.{run_ends}
use Rattle.levels.proofs.RunLemmas.{level_of-run}
use Rattle.levels.proofs.index.Index.first_x.Goals as goal

pub model_of-requires-clause-inside : goal.model_of-requires-clause-inside
model_of-requires-clause-inside c = (level_of-run c.args.self.now.keys c.args.self.now.levels c.args.run c.requires).0

pub model_of-requires-clause-run : goal.model_of-requires-clause-run
model_of-requires-clause-run c = (level_of-run c.args.self.now.keys c.args.self.now.levels c.args.run c.requires).1

pub returns : goal.returns
returns c =
    let value = c.args.self.now in
    let there = level_of-run value.keys value.levels c.args.run c.requires in
    let runs = c.runs-runs.ensures in
    let ends = run_ends value.keys
    value.eps value.eps_rec value.levels runs.never_falls runs.index 0 c.args.run no_segment there.0 there.1 in
    let end = end_at (level_at value.levels 0) c.args.run (length (xs_at value.keys value.levels 0)) in
    (c.model_of.ensures end no_segment ends).starts
    ∙ sym (ap (λ (l : List ℕ). slice_index l c.args.run) (xs_at-above value.keys value.levels 0)
    ∙ first_x_at (xs_at value.keys value.levels 0) (level_at value.levels 0) c.args.run no_segment there.1)
