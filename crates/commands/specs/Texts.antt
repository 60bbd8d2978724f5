-- The text of each task.
use Rattle.std.specs.Prelude.{ℕ, List}
use Rattle.commands.specs.Tasks.{Task}
use Rattle.commands.specs.Tasks.Task.{build, explain, query, relax, box, near}
use Rattle.commands.specs.Tasks.Task.{replay, drill, save, check, mix, hints, find}
use Rattle.commands.specs.Texts.Build.{IsBuilt}
use Rattle.commands.specs.Texts.Explain.{IsExplained}
use Rattle.commands.specs.Texts.Query.{IsAnswered}
use Rattle.commands.specs.Texts.Relax.{IsBuiltRelaxed}
use Rattle.commands.specs.Texts.Regions.{IsSearched}
use Rattle.commands.specs.Texts.Neighbours.{IsNearest}
use Rattle.map_commands.specs.Replay.{IsReplayed}
use Rattle.map_commands.specs.Mix.{IsMixedText}
use Rattle.commands.specs.Texts.Drill.{IsDrilled}
use Rattle.commands.specs.Texts.Save.{IsSaved}
use Rattle.commands.specs.Texts.Check.{IsChecked}
use Rattle.commands.specs.Texts.Hints.{AreHints}
use Rattle.commands.specs.Texts.Find.{IsFound}
pub mod Indexing
pub mod Build
pub mod Coordinates
pub mod Explain
pub mod Query
pub mod Relax
pub mod Regions
pub mod Neighbours
pub mod Drill
pub mod Save
pub mod Check
pub mod Hints
pub mod Find

-- one equation for each command
abbrev pub IsText : Task → List (List ℕ) → Type 0
IsText (build keys bounds) pieces = IsBuilt keys bounds pieces
IsText (explain keys bounds) pieces = IsExplained keys bounds pieces
IsText (query keys bounds questions windows bits) pieces = IsAnswered keys bounds questions windows pieces
IsText (relax keys bounds parts questions) pieces = IsBuiltRelaxed keys bounds parts questions pieces
IsText (box d coords regions) pieces = IsSearched d coords regions pieces
IsText (near d coords centres) pieces = IsNearest d coords centres pieces
IsText (replay updates questions batch readers) pieces = IsReplayed updates questions batch readers pieces
IsText (mix updates questions readers senders) pieces = IsMixedText updates questions readers senders pieces
IsText (hints keys eps) pieces = AreHints keys eps pieces
IsText (find keys questions) pieces = IsFound keys questions pieces
IsText (drill n seed bounds) pieces = IsDrilled n seed bounds pieces
IsText (save keys bounds) pieces = IsSaved keys bounds pieces
IsText (check levels runs) pieces = IsChecked levels runs pieces
