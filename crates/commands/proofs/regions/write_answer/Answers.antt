use Rattle.std.proofs.Common.{◌≡◌, ◌∙◌, ap, sym, subst, refl, length, map, arith, ℕ}
use Rattle.std.specs.Prelude.{All}
use Rattle.std.proofs.lemmas.List.Elements.{All-filter, All-same}
use Rattle.zorder.specs.Codes.{IsCode}
use Rattle.boxes.specs.BoxAnswers.{codes_inside, is_inside}
use Rattle.commands.specs.Texts.Regions.{box_line, point_line}
use Rattle.written.proofs.AppendLemmas.{BreaksOff-more}
use Rattle.written.proofs.WritingLemmas.{behind_as, broken, head_broken, head_written}
use Rattle.commands.proofs.regions.write_answer.Goals as goal

pub returns-in_err-hand_over-clause-told : goal.returns-in_err-hand_over-clause-told
returns-in_err-hand_over-clause-told g c =
    let inside = codes_inside c.args.region.now c.args.boxes.now.codes in
    let many : c.len.result ≡ length inside =
    omega (arith, c.len.ensures, c.fill-looked.new.into.ok.0, ap length c.fill-looked.ensures.codes) in
    let head_is =
    c.as_bytes.ensures ∙ c.fill_box_line.ensures ∙ ap (λ (n : ℕ). box_line n c.fill-looked.result) many in (
      _,
      (c.fill-looked.result, c.fill-looked.ensures.looked, refl),
      broken _ c.from_residual.result c.from_residual.ensures.1
          (BreaksOff-more _ (head_broken head_is c.in_err-hand_over.ensures)),
    )

pub write_points-requires-clause-codes : goal.write_points-requires-clause-codes
write_points-requires-clause-codes g c =
    let region = c.args.region.now in
    let sorted = c.args.boxes.now.codes in
    let each = subst (λ (d : ℕ). All (IsCode d) sorted) (sym c.requires.region.0) c.requires.codes in
    All-same (IsCode region.d) c.deref.result.now
    (codes_inside region sorted) (c.deref.ensures.value ∙ c.fill-looked.ensures.codes)
    (All-filter (is_inside region) (IsCode region.d) sorted each)

pub returns-clause-told : goal.returns-clause-told
returns-clause-told g c =
    let inside = codes_inside c.args.region.now c.args.boxes.now.codes in
    let many : c.len.result ≡ length inside =
    omega (arith, c.len.ensures, c.fill-looked.new.into.ok.0, ap length c.fill-looked.ensures.codes) in
    let head_is =
    c.as_bytes.ensures ∙ c.fill_box_line.ensures ∙ ap (λ (n : ℕ). box_line n c.fill-looked.result) many in (
      _,
      (c.fill-looked.result, c.fill-looked.ensures.looked, refl),
      behind_as c.write_points.new.out c.write_points.result (head_written head_is c.in_ok-hand_over.ensures)
          (ap (map (point_line c.args.region.now.d)) (c.deref.ensures.value ∙ c.fill-looked.ensures.codes))
          c.write_points.ensures,
    )
