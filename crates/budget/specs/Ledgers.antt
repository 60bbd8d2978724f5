-- Ledgers that steps are counted in.
use Rattle.std.specs.Prelude.{◌≡◌, ℕ}
use Rattle.std.specs.declared.sync.ledger.Blank.{Blank}

-- a new ledger of one part, of this name and with these parts
pub record IsNewLedger (blank : Blank) (own_name own_parts : ℕ) : Type 0 where
  pub name : blank.name ≡ own_name
  pub parts : blank.parts ≡ own_parts
  pub one : blank.parts ≡ 1
