use Rattle.std.proofs.Common.{◌≡◌, ℕ, ◌/◌, List, [], ◌∷◌, ◌++◌, length, All, refl, sym, ap, ◌∙◌, subst, arith}
use Rattle.std.proofs.lemmas.List.Elements.{All-push}
use Rattle.zorder.specs.Codes.{IsCode}
use Rattle.boxes.proofs.CodeLists.{first_codes, first_codes-more, points_few}
use Rattle.boxes.proofs.codes.point_codes.Goals as goal

pub loop-i-preserved : goal.loop-i-preserved
loop-i-preserved c =
    let codes = c.loop-i.codes.items in
    let pushed = c.in_ok-push.ensures.items in
    let d = c.args.d in
    record {
      items = pushed ∙ ap (λ (xs : List ℕ). xs ++ c.encode.result ∷ []) c.loop-i.invariant.items
          ∙ ap (λ (z : ℕ). first_codes d c.args.points.now c.loop-i.i ++ z ∷ []) c.encode.ensures.code
          ∙ sym (first_codes-more d c.args.points.now c.loop-i.i _ _ refl refl);
      each = subst (λ (xs : List ℕ). All (λ z. IsCode d z) xs) (sym pushed)
          (All-push (λ z. IsCode d z) codes c.encode.result c.loop-i.invariant.each c.encode.ensures.range);
      len = omega (arith, c.in_ok-push.ensures.len, c.loop-i.invariant.len);
    }

pub returns-clause-codes : goal.returns-clause-codes
returns-clause-codes c =
    let last : c.loop-i.i ≡ length c.args.points.now / c.args.d = omega arith in
    c.loop-i.invariant.items ∙ ap (first_codes c.args.d c.args.points.now) last

pub returns-clause-few : goal.returns-clause-few
returns-clause-few c =
    omega (arith, points_few c.args.d c.args.points.now c.requires.dimension c.requires.points, c.loop-i.invariant.len)
