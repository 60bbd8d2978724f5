use Rattle.std.proofs.Common.{◌≡◌, ◌∙◌, ap, sym, subst, refl, length, map, arith, ℕ}
use Rattle.std.specs.Prelude.{All}
use Rattle.zorder.specs.Codes.{IsCode}
use Rattle.near.specs.Nearest.{NearAnswer}
use Rattle.near.proofs.CallerLemmas.{nearest_codes}
use Rattle.commands.specs.Texts.Neighbours.{near_line, neighbour_line}
use Rattle.written.proofs.AppendLemmas.{BreaksOff-more}
use Rattle.written.proofs.WritingLemmas.{behind_as, broken, head_broken, head_written}
use Rattle.commands.proofs.neighbours.write_answer.Goals as goal

pub returns-in_err-hand_over-clause-told : goal.returns-in_err-hand_over-clause-told
returns-in_err-hand_over-clause-told g c =
    let points = c.nearest_into-looked.new.points.items in
    let looked = c.nearest_into-looked.result in
    let answer : NearAnswer = record { points = points; boxes = looked } in
    let many : c.len.result ≡ length points = omega (arith, c.len.ensures, c.nearest_into-looked.new.points.ok.0) in
    let head_is = c.as_bytes.ensures ∙ c.fill_near_line.ensures ∙ ap (λ (n : ℕ). near_line n looked) many in (
      _,
      (
        answer,
        record { points = c.nearest_into-looked.ensures.points; boxes = c.nearest_into-looked.ensures.boxes },
        refl,
      ),
      broken _ c.from_residual.result c.from_residual.ensures.1
          (BreaksOff-more _ (head_broken head_is c.in_err-hand_over.ensures)),
    )

pub write_points-requires-clause-codes : goal.write_points-requires-clause-codes
write_points-requires-clause-codes g c =
    let boxes = c.args.boxes.now in
    let each = nearest_codes boxes.dims c.args.centre.now.place
    boxes.codes c.args.centre.now.count c.nearest_into-looked.new.points.items (IsCode boxes.dims)
    c.requires.codes c.nearest_into-looked.ensures.points in
    subst (λ (d : ℕ). All (λ (point : ℕ × ℕ). IsCode d point.1) c.deref.result.now) (sym c.dims.ensures.dims)
    (subst (All (λ (point : ℕ × ℕ). IsCode boxes.dims point.1)) (sym c.deref.ensures.value) each)

pub returns-clause-told : goal.returns-clause-told
returns-clause-told g c =
    let points = c.nearest_into-looked.new.points.items in
    let looked = c.nearest_into-looked.result in
    let answer : NearAnswer = record { points = points; boxes = looked } in
    let many : c.len.result ≡ length points = omega (arith, c.len.ensures, c.nearest_into-looked.new.points.ok.0) in
    let head_is = c.as_bytes.ensures ∙ c.fill_near_line.ensures ∙ ap (λ (n : ℕ). near_line n looked) many in (
      _,
      (
        answer,
        record { points = c.nearest_into-looked.ensures.points; boxes = c.nearest_into-looked.ensures.boxes },
        refl,
      ),
      behind_as c.write_points.new.out c.write_points.result (head_written head_is c.in_ok-hand_over.ensures)
          (ap (map (neighbour_line c.dims.result)) c.deref.ensures.value
          ∙ ap (λ (d : ℕ). map (neighbour_line d) points) c.dims.ensures.dims) c.write_points.ensures,
    )
