-- What a check looks at in the runs of one saved level.
use Rattle.std.specs.Prelude.{◌≡◌, ℕ, ◌+◌, ◌<◌, List, [], ◌∷◌, map, slice_index}
use Rattle.cut_witness.specs.Pairs.{HasSteepPair, HasFlatPair}
use Rattle.exact_cross.specs.declared.segment.Side.TheVariants.{Over as OverSide, Under as UnderSide}
use Rattle.exact_cross.specs.declared.segment.Segment.{Segment}
use Rattle.exact_cross.specs.Points.{Points}
use Rattle.exact_cross.specs.Witnesses.{IsWitness}
use Rattle.exact_cross.specs.Segmentation.{IsSegmentation}
use Rattle.index_file.specs.declared.saved.SavedRun.{SavedRun}
use Rattle.index_file.specs.declared.saved.SavedCut.{SavedCut}
use Rattle.index_file.specs.declared.saved.SavedCut.TheVariants.{Last, Over, Under}
use Rattle.index_file.specs.Spelled.{saved_run}

-- the runs are those of the segmentation of all points
pub record IsSavedSegmentation (p : Points) (eps : ℕ) (runs : List SavedRun) : Type 0 where
  pub segments : List Segment
  pub segmentation : IsSegmentation p eps 0 p.count segments
  pub same : runs ≡ map saved_run segments

-- where the run before these ends: at the start of the first of them, or at the end of all
abbrev pub first_start : List SavedRun → ℕ → ℕ
first_start [] to = to
first_start (run ∷ later) to = run.start

-- the run s..e ends with the point e over the pair (a, b), its
-- steep one, or under the one that is told, which is its flat one
abbrev pub EndsBy : Points → ℕ → ℕ → ℕ → ℕ → ℕ → SavedCut → Type 0
EndsBy p eps s e a b Last = ⊥
EndsBy p eps s e a b Over = IsWitness p eps (record { p = a; q = b; r = e; side = OverSide })
EndsBy p eps s e a b (Under c d) =
    (s + 1 < e) × HasFlatPair p eps s e c d × IsWitness p eps (record { p = c; q = d; r = e; side = UnderSide })

-- the last run is told to be the last, and each other one ends as is told
pub record HasSavedCut (p : Points) (eps : ℕ) (run : SavedRun) (e : ℕ) : Type 0 where
  pub last : e ≡ p.count → run.cut ≡ Last
  pub other : e < p.count → EndsBy p eps run.start e run.a run.b run.cut

-- the run to e has a place or more, its steep pair and its cut
pub record IsJudged (p : Points) (eps : ℕ) (run : SavedRun) (e : ℕ) : Type 0 where
  pub some : run.start < e
  pub steep : HasSteepPair p eps run.start e run.a run.b
  pub cut : HasSavedCut p eps run e

-- each run is judged so
abbrev pub AreJudged : Points → ℕ → List SavedRun → Type 0
AreJudged p eps [] = Unit {0}
AreJudged p eps (run ∷ later) = IsJudged p eps run (first_start later p.count) × AreJudged p eps later

-- the x of each run's start
abbrev pub start_xs : List ℕ → List SavedRun → List ℕ
start_xs xs runs = map (λ run. slice_index xs run.start) runs
