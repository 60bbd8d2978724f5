use Rattle.std.proofs.Common.{◌+◌, ◌≤◌, ◌<◌, ◌∷◌, ℕ, List, get_or, take, length, map, refl, subst, arith}
use Rattle.std.specs.Prelude.{All}
use Rattle.std.proofs.lemmas.List.{take_all}
use Rattle.std.proofs.lemmas.List.Elements.{All-nil, All-more, All-weaker}
use Rattle.zorder.specs.declared.regions.Region.{Region}
use Rattle.boxes.specs.BoxAnswers.{codes_inside, IsLooked}
use Rattle.commands.specs.Texts.Regions.{TellsRegion, box_line, point_line}
use Rattle.commands.proofs.SearchLemmas.{no_region}
use Rattle.commands.proofs.regions.greatest_answer.Goals as goal
use Rattle.commands.proofs.regions.greatest_answer.Goals.{then-most-count, else-most-count}

pub loop-i-init : goal.loop-i-init
loop-i-init c = (All-nil _, All-nil _)

-- the answer at a place, and that it is not above the greatest
module _ (regions : List Region) (sorted : List ℕ) (i most : ℕ) (there : i < length regions) where
  abbrev Few : ℕ → Region → Type 0
  Few n region = length (codes_inside region sorted) ≤ n

  abbrev Has : Region → Type 0
  Has region = (pieces : List (List ℕ)) × TellsRegion sorted region pieces

  abbrev here : Region
  here = get_or regions i no_region

  one_more : (before looked : ℕ) →
      before ≤ most → length (codes_inside here sorted) ≤ most → IsLooked here sorted looked →
      All (Few before) (take i regions)
      × All Has (take i regions) → All (Few most) (take (i + 1) regions) × All Has (take (i + 1) regions)
  one_more before looked below few is so_far = (
    All-more (Few most) regions i no_region there
        (All-weaker (Few before) (Few most) (λ region h. omega (arith, h, below)) (take i regions) so_far.0) few,
    All-more Has regions i no_region there so_far.1 (
      box_line (length (codes_inside here sorted)) looked ∷ map (point_line here.d) (codes_inside here sorted),
      (looked, is, refl),
    ),
  )

pub loop-i-preserved : goal.loop-i-preserved
loop-i-preserved c =
    let found = c.count-count.ensures.found in
    let looked = c.count-count.ensures.looked in
    elim c.if-most-count.branch [
      | then-most-count w ↦
          one_more c.args.regions.now c.args.boxes.now.codes c.loop-i.i c.if-most-count.most
          (omega arith) c.loop-i.most c.count-count.result.1
          (omega (arith, w.if-most-count, w.most-is)) (omega (arith, found, w.most-is)) looked c.loop-i.invariant
      | else-most-count w ↦
          one_more c.args.regions.now c.args.boxes.now.codes c.loop-i.i c.if-most-count.most
          (omega arith) c.loop-i.most c.count-count.result.1
          (omega (arith, w.most-is)) (omega (arith, found, w.if-most-count, w.most-is)) looked c.loop-i.invariant
    ]

pub returns : goal.returns
returns c =
    let whole = take_all c.loop-i.i c.args.regions.now (omega arith) in
    record {
      most = subst (All (λ (region : Region). length (codes_inside region c.args.boxes.now.codes) ≤ c.loop-i.most))
          whole c.loop-i.invariant.0;
      answered =
          subst (All (λ (region : Region). (pieces : List (List ℕ)) × TellsRegion c.args.boxes.now.codes region pieces))
          whole c.loop-i.invariant.1;
    }
