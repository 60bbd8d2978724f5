-- How pieces are handed to a sink, whichever it is.
use Rattle.std.specs.Prelude.{◌≢◌, ℕ, List, [], ◌∷◌, drop, Bool, true, false, Ok, Err}
use Rattle.edge.specs.declared.failed.Failed.{Failed}
use Rattle.edge.specs.declared.sink.Sink.{Ghosts}

-- the piece is handed over, and what a call leaves of it again, until nothing is left (true) or a call fails (false)
pub data HandsPiece {S : Type 0} (sink : Ghosts S) : S → List ℕ → Bool → S → Type 0 where
  taken : (s : S) → HandsPiece sink s [] true s
  failed : (s t : S) (piece : List ℕ) (fault : Failed) → piece ≢ [] → sink.puts s piece (Err fault) t →
      HandsPiece sink s piece false t
  again : (s t u : S) (piece : List ℕ) (n : ℕ) (ending : Bool) → piece ≢ [] → sink.puts s piece (Ok n) t →
      HandsPiece sink t (drop n piece) ending u → HandsPiece sink s piece ending u

-- the pieces are handed over in order, each as one, up to the first that fails
pub data HandsPieces {S : Type 0} (sink : Ghosts S) : S → List (List ℕ) → Bool → S → Type 0 where
  finished : (s : S) → HandsPieces sink s [] true s
  stops : (s t : S) (piece : List ℕ) (pieces : List (List ℕ)) → HandsPiece sink s piece false t →
      HandsPieces sink s (piece ∷ pieces) false t
  next : (s t u : S) (piece : List ℕ) (pieces : List (List ℕ)) (ending : Bool) → HandsPiece sink s piece true t →
      HandsPieces sink t pieces ending u → HandsPieces sink s (piece ∷ pieces) ending u
