-- The text of `relax`.
use Rattle.std.specs.Prelude.{◌≡◌, ℕ, false, List, ◌++◌, length, Some}
use Rattle.exact_cross.specs.declared.segment.Segment.{Segment}
use Rattle.commands.specs.Finders.{AreEvenLevels}
use Rattle.commands.specs.Tasks.{Bounds}
use Rattle.commands.specs.Texts.Indexing.{tells_levels}
use Rattle.commands.specs.Texts.Build.{built_level}
use Rattle.commands.specs.Texts.Query.{IsAnswered}

-- the relaxed index of the keys, whose points are cut into so many even
-- pieces: what `build` tells, at level 0 how many runs more it may have than a
-- least cover, and then the questions answered
pub record IsBuiltRelaxed (keys : List ℕ) (bounds : Bounds) (pieces : ℕ) (questions : List ℕ) (text : List (List ℕ)) :
    Type 0 where
  pub cuts : List ℕ
  pub levels : List (List Segment)
  pub index : AreEvenLevels keys bounds pieces cuts levels
  pub answers : List (List ℕ)
  pub answered : IsAnswered keys bounds questions false answers
  pub told : text ≡ tells_levels keys levels (built_level keys bounds (Some (length cuts)) levels) ++ answers
