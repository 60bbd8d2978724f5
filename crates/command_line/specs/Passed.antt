-- What was found for arguments that passed their parsers. No public clause cites it.
use Rattle.std.specs.Prelude.{◌≡◌, ◌⊎◌, ℕ, true, List, [], ◌∷◌, ⊤, Some, pos, codes}
use Rattle.clap.specs.Words.{Text, Row, Rule, IsSignedIn, without_minus, one_of}
use Rattle.clap.specs.Walk.{reading_by}
use Rattle.clap.specs.Takes.{values_pass}
use Rattle.exact_cross.specs.declared.TheConstants.{MAX_EPSILON}
use Rattle.options.specs.declared.drawing.TheConstants.{MAX_DRAWN, MAX_SEED}
use Rattle.options.specs.declared.index.TheConstants.{MAX_BITS, MAX_PIECES, MAX_WORKERS}
use Rattle.options.specs.declared.map.TheConstants.{MAX_LEVELS, MAX_READERS, MAX_SENDERS}
use Rattle.command_line.specs.declared.request.TheConstants.{MAX_BATCH}

-- some rule of the list does
abbrev pub SomeRule : List Rule → (Rule → Type 0) → Type 0
SomeRule [] P = ⊥
SomeRule (a ∷ rest) P = P a ⊎ SomeRule rest P

-- the row is the rule's: its values passed, and are read as the rule says
pub record IsRowOf (r : Row) (a : Rule) : Type 0 where
  pub id : r.id ≡ a.id
  pub reading : r.reading ≡ reading_by a
  pub pass : values_pass a r.values ≡ true

-- each row is one of the rules'
abbrev pub ArePassed : List Rule → List Row → Type 0
ArePassed rules [] = ⊤
ArePassed rules (r ∷ rows) = SomeRule rules (IsRowOf r) × ArePassed rules rows

-- where there is a text for the id, it is that of a number from `low` to `high`
abbrev pub IsNumberIn : (low high : ℕ) → Text → List Row → Type 0
IsNumberIn low high id rows = (text : Text) → one_of id rows ≡ Some text →
    (written : Text) × (text ≡ without_minus written) × IsSignedIn (pos low) (pos high) written

-- where there is a text for the id, it is `true` or `false`
abbrev pub IsFlag : Text → List Row → Type 0
IsFlag id rows = (text : Text) → one_of id rows ≡ Some text → (text ≡ codes "true") ⊎ (text ≡ codes "false")

-- what the options of a query hold, beside those of its index
pub record AreQueryOptions (rows : List Row) : Type 0 where
  pub windows : IsFlag (codes "windows") rows
  pub buckets : IsNumberIn 0 MAX_BITS (codes "buckets") rows

-- what the option of a search in points holds
abbrev pub IsDimensionOption : List Row → Type 0
IsDimensionOption rows = IsNumberIn 2 4 (codes "dims") rows

-- what the option of a relaxed index holds, beside those of an index
abbrev pub IsPiecesOption : List Row → Type 0
IsPiecesOption rows = IsNumberIn 1 MAX_PIECES (codes "pieces") rows

-- what the option of a check or a find holds
abbrev pub IsNarrowOption : List Row → Type 0
IsNarrowOption rows = IsFlag (codes "narrow") rows

-- what the options of hints hold
pub record AreHintOptions (rows : List Row) : Type 0 where
  pub eps : IsNumberIn 0 MAX_EPSILON (codes "eps") rows
  pub narrow : IsFlag (codes "narrow") rows

-- what the options of a replay hold
pub record AreReplayOptions (rows : List Row) : Type 0 where
  pub levels : IsNumberIn 1 MAX_LEVELS (codes "levels") rows
  pub batch : IsNumberIn 1 MAX_BATCH (codes "batch") rows
  pub readers : IsNumberIn 0 MAX_READERS (codes "readers") rows
  pub workers : IsNumberIn 1 MAX_WORKERS (codes "workers") rows

-- what the option of a mix holds, beside those of a replay
abbrev pub IsSendersOption : List Row → Type 0
IsSendersOption rows = IsNumberIn 1 MAX_SENDERS (codes "senders") rows

-- what the numbers of a drill hold, and how its index is built
pub record AreDrillOptions (rows : List Row) : Type 0 where
  pub number : IsNumberIn 1 MAX_DRAWN (codes "N") rows
  pub seed : IsNumberIn 0 MAX_SEED (codes "SEED") rows
  pub eps : IsNumberIn 0 MAX_EPSILON (codes "eps") rows
  pub eps_rec : IsNumberIn 0 MAX_EPSILON (codes "rec") rows
  pub workers : IsNumberIn 1 MAX_WORKERS (codes "workers") rows

-- what the options of an index hold
pub record AreIndexOptions (rows : List Row) : Type 0 where
  pub eps : IsNumberIn 0 MAX_EPSILON (codes "eps") rows
  pub eps_rec : IsNumberIn 0 MAX_EPSILON (codes "rec") rows
  pub workers : IsNumberIn 1 MAX_WORKERS (codes "workers") rows
  pub narrow : IsFlag (codes "narrow") rows
