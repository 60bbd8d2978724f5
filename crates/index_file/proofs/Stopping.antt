-- The fault of a piece is that of the whole that it is a part of.
--
-- Main result: `moves`. Behind a piece that was read, the bytes
-- stop in a part; where a whole part goes on to a whole, and what
-- stands before a cut byte of the part stands so in the whole behind the piece, they stop in the whole.
use Rattle.std.proofs.Common.{◌≡◌, ℕ, ◌+◌, List, ◌∷◌, ◌++◌, length, sym, ap}
use Rattle.std.proofs.Common.{◌∙◌, subst, append_assoc, length-append, arith}
use Rattle.edge.specs.declared.shelf.Shelf.{Ghosts}
use Rattle.edge.specs.Readers.{ReadFails, ReadsPiece}
use Rattle.edge.proofs.ReaderLemmas.{fails-behind}
use Rattle.index_file.specs.declared.fault.IndexFault.{IndexFault}
use Rattle.index_file.specs.declared.fault.IndexFault.TheVariants.{ReadFault, Short, Magic, Epsilon}
use Rattle.index_file.specs.declared.fault.IndexFault.TheVariants.{Side, Trailing, NoMemory}
use Rattle.index_file.specs.Stops.{IsFront, IsSide, StopsIn, TakesIn, origin_of}

-- a whole part goes on to a whole behind the piece
abbrev pub GoesOn : (List ℕ → Type 0) → (List ℕ → Type 0) → List ℕ → Type 0
GoesOn Part Whole piece = (bytes : List ℕ) → Part bytes → (tail : List ℕ) × Whole (piece ++ (bytes ++ tail))

-- what stands before a cut byte of the part stands so in the whole behind the piece
abbrev pub Stands : (List ℕ → Type 0) → (List ℕ → Type 0) → List ℕ → Type 0
Stands Before Before' piece = (front : List ℕ) → Before front → Before' (piece ++ front)

module _ (Part Whole : List ℕ → Type 0) where
  pub goes-behind : (piece bytes rest : List ℕ) →
      GoesOn Part Whole piece → Part (bytes ++ rest) → (tail : List ℕ) × Whole ((piece ++ bytes) ++ (rest ++ tail))
  goes-behind piece bytes rest goes part =
      let on = goes (bytes ++ rest) part in (
        on.0,
        subst Whole
            (ap (λ (w : List ℕ). piece ++ w) (append_assoc bytes rest on.0)
            ∙ sym (append_assoc piece bytes (rest ++ on.0))) on.1,
      )

  takes-moves : (offset : ℕ) (piece taken : List ℕ) (fault : IndexFault) →
      GoesOn Part Whole piece → TakesIn Part (offset + length piece) taken fault →
      TakesIn Whole offset (piece ++ taken) fault
  takes-moves offset piece taken (Short got) goes takes = omega (arith, takes, length-append piece taken)
  takes-moves offset piece taken (Side at byte) goes takes = omega (arith, takes, length-append piece taken)
  takes-moves offset piece taken NoMemory goes takes =
      let on = goes-behind piece taken takes.0 goes takes.1 in (takes.0 ++ on.0, on.1)
  takes-moves offset piece taken ReadFault goes takes = takes
  takes-moves offset piece taken (Magic at) goes takes = takes
  takes-moves offset piece taken (Epsilon value) goes takes = takes
  takes-moves offset piece taken (Trailing byte) goes takes = takes

module _ (Part Before Whole Before' : List ℕ → Type 0) where
  pub front-moves : (piece bytes : List ℕ) →
      GoesOn Part Whole piece → IsFront Part bytes → IsFront Whole (piece ++ bytes)
  front-moves piece bytes goes front =
      let on = goes-behind Part Whole piece bytes front.rest goes front.whole in
      record {
        rest = front.rest ++ on.0;
        more = omega (arith, front.more, length-append front.rest on.0);
        whole = on.1;
      }

  side-moves : (offset at byte : ℕ) (piece bytes : List ℕ) →
      Stands Before Before' piece → IsSide Before (offset + length piece) bytes at byte →
      IsSide Before' offset (piece ++ bytes) at byte
  side-moves offset at byte piece bytes stands side = record {
    front = piece ++ side.front;
    behind = side.behind;
    stand = ap (λ (w : List ℕ). piece ++ w) side.stand ∙ sym (append_assoc piece side.front (byte ∷ side.behind));
    before_cut = stands side.front side.before_cut;
    place = omega (arith, side.place, length-append piece side.front);
    no_side = side.no_side;
  }

  stops-moves : (offset : ℕ) (piece bytes : List ℕ) (fault : IndexFault) →
      GoesOn Part Whole piece → Stands Before Before' piece →
      StopsIn Part Before (offset + length piece) bytes fault → StopsIn Whole Before' offset (piece ++ bytes) fault
  stops-moves offset piece bytes (Short got) goes stands stops =
      (front-moves piece bytes goes stops.0, omega (arith, stops.1, length-append piece bytes))
  stops-moves offset piece bytes (Side at byte) goes stands stops = side-moves offset at byte piece bytes stands stops
  stops-moves offset piece bytes ReadFault goes stands stops = stops
  stops-moves offset piece bytes (Magic at) goes stands stops = stops
  stops-moves offset piece bytes (Epsilon value) goes stands stops = stops
  stops-moves offset piece bytes (Trailing byte) goes stands stops = stops
  stops-moves offset piece bytes NoMemory goes stands stops = stops

-- a fault behind a piece; `Kept` is what the taken bytes go on to where memory ran out
pub moves :
    {S : Type 0} (shelf : Ghosts S) (Part Before Kept Whole Before' : List ℕ → Type 0) (offset at : ℕ) (piece : List ℕ)
    (first old new : S) (fault : IndexFault) → at ≡ offset + length piece → ReadsPiece shelf piece first old →
    GoesOn Part Whole piece → Stands Before Before' piece → GoesOn Kept Whole piece →
    ReadFails shelf
    (origin_of fault) (λ bytes. StopsIn Part Before at bytes fault) (λ taken. TakesIn Kept at taken fault) old new →
    ReadFails shelf (origin_of fault)
    (λ bytes. StopsIn Whole Before' offset bytes fault) (λ taken. TakesIn Whole offset taken fault) first new
moves shelf Part Before Kept Whole Before' offset at piece first old new fault same so_far goes stands kept =
    let here : ℕ → Type 0 =
    λ n. ReadFails shelf
    (origin_of fault) (λ bytes. StopsIn Part Before n bytes fault) (λ taken. TakesIn Kept n taken fault) old new in
    λ fails. fails-behind shelf (origin_of fault) _ _ _ _ piece first old new so_far
    (λ bytes. stops-moves Part Before Whole Before' offset piece bytes fault goes stands)
    (λ taken. takes-moves Kept Whole offset piece taken fault kept) (subst here same fails)
