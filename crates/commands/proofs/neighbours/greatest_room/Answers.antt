use Rattle.std.proofs.Common.{◌+◌, ◌≤◌, ◌<◌, ℕ, List, get_or, take, length, min, refl, subst, arith}
use Rattle.std.specs.Prelude.{All}
use Rattle.std.proofs.lemmas.List.{take_all}
use Rattle.std.proofs.lemmas.List.Elements.{All-nil, All-more, All-weaker}
use Rattle.near.specs.Nearest.{IsNear, NearAnswer}
use Rattle.commands.specs.declared.task.Centre.{Centre}
use Rattle.commands.specs.Texts.Neighbours.{TellsNear, near_lines}
use Rattle.commands.proofs.SearchLemmas.{no_centre}
use Rattle.commands.proofs.neighbours.greatest_room.Goals as goal
use Rattle.commands.proofs.neighbours.greatest_room.Goals.{then-most-room, else-most-room}

pub loop-i-init : goal.loop-i-init
loop-i-init c = (All-nil _, All-nil _)

-- the answer at a place, and that there is room for it
module _ (d : ℕ) (centres : List Centre) (sorted : List ℕ) (i most : ℕ) (there : i < length centres) where
  abbrev Fits : ℕ → Centre → Type 0
  Fits n centre = min (length sorted) centre.count ≤ n

  abbrev Has : Centre → Type 0
  Has centre = (pieces : List (List ℕ)) × TellsNear d sorted centre pieces

  abbrev here : Centre
  here = get_or centres i no_centre

  one_more : (before : ℕ) →
      before ≤ most → Fits most here → (answer : NearAnswer) × IsNear d here.place sorted here.count answer →
      All (Fits before) (take i centres)
      × All Has (take i centres) → All (Fits most) (take (i + 1) centres) × All Has (take (i + 1) centres)
  one_more before below fits (answer, is) so_far = (
    All-more (Fits most) centres i no_centre there
        (All-weaker (Fits before) (Fits most) (λ centre few. omega arith) (take i centres) so_far.0) fits,
    All-more Has centres i no_centre there so_far.1 (near_lines d answer, (answer, is, refl)),
  )

pub loop-i-preserved : goal.loop-i-preserved
loop-i-preserved c =
    let boxes = c.args.boxes.now in
    let room = c.room_for-room.ensures.room in
    let answered = c.room_for-room.ensures.answered in
    elim c.if-most-room.branch [
      | then-most-room w ↦
          one_more boxes.dims c.args.centres.now boxes.codes c.loop-i.i c.if-most-room.most (omega arith) c.loop-i.most
          (omega (arith, w.if-most-room, w.most-is)) (omega (arith, w.most-is, room)) answered c.loop-i.invariant
      | else-most-room w ↦
          one_more boxes.dims c.args.centres.now boxes.codes c.loop-i.i c.if-most-room.most (omega arith) c.loop-i.most
          (omega (arith, w.most-is)) (omega (arith, w.if-most-room, w.most-is, room)) answered c.loop-i.invariant
    ]

pub returns : goal.returns
returns c =
    let boxes = c.args.boxes.now in
    let whole = take_all c.loop-i.i c.args.centres.now (omega arith) in
    record {
      room = subst
          (All (λ (centre : Centre). min (length boxes.codes) centre.count ≤ c.loop-i.most)) whole c.loop-i.invariant.0;
      answered =
          subst (All (λ (centre : Centre). (pieces : List (List ℕ)) × TellsNear boxes.dims boxes.codes centre pieces))
          whole c.loop-i.invariant.1;
    }
