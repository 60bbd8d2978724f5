-- What is saved of a segment.
use Rattle.std.specs.Prelude.{ℕ, Option, None, Some}
use Rattle.exact_cross.specs.declared.segment.Side.{Side}
use Rattle.exact_cross.specs.declared.segment.Side.TheVariants.{Over as OverSide, Under as UnderSide}
use Rattle.exact_cross.specs.declared.segment.Witness.{Witness}
use Rattle.exact_cross.specs.declared.segment.Segment.{Segment}
use Rattle.index_file.specs.declared.saved.SavedRun.{SavedRun}
use Rattle.index_file.specs.declared.saved.SavedCut.{SavedCut}
use Rattle.index_file.specs.declared.saved.SavedCut.TheVariants.{Last, Over, Under}

-- the pair of a witness under all lines, and of one over them only that it is over
abbrev pub side_cut : Side → ℕ → ℕ → SavedCut
side_cut OverSide p q = Over
side_cut UnderSide p q = Under p q

abbrev pub saved_cut : Option Witness → SavedCut
saved_cut None = Last
saved_cut (Some w) = side_cut w.side w.p w.q

-- where its run starts, its steep pair, and why it ends
abbrev pub saved_run : Segment → SavedRun
saved_run segment = record { start = segment.start; a = segment.a; b = segment.b; cut = saved_cut segment.cut }
