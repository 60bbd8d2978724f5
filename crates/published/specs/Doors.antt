-- A door that is shut at some calls.
use Rattle.std.specs.Prelude.{◌≡◌, ◌⊎◌, ℕ, ◌+◌, min, List, Contains, Result, OnErr, IsErr}
use Rattle.edge.specs.Risen.{HasRisen}
use Rattle.published.specs.Histories.{Front}
use Rattle.published.specs.declared.door.ShutDoor.{ShutDoor}

-- which calls it is to refuse, how many calls there were, and how many of them the plain door behind it refused
pub record Shut : Type 0 where
  pub failing : List ℕ
  pub calls : ℕ
  pub behind : ℕ

abbrev pub shut_of : ShutDoor → Shut
shut_of door = record { failing = door.failing.items; calls = door.calls; behind = door.plain.refusals }

-- a door that nobody has called at
abbrev pub new_shut : List ℕ → Shut
new_shut failing = record { failing = failing; calls = 0; behind = 0 }

-- one call: it is counted; where it is one of those to be refused it is,
-- before the plain door; and any other only where the plain door refused
pub record RefusesWhere (old : Shut) (result : Result Front Front) (new : Shut) : Type 0 where
  pub failing : new.failing ≡ old.failing
  pub counted : new.calls ≡ min (old.calls + 1) 18446744073709551615
  pub wherever : Contains new.failing new.calls → IsErr result × (new.behind ≡ old.behind)
  pub cause : OnErr result (Contains new.failing new.calls ⊎ HasRisen old.behind new.behind)
