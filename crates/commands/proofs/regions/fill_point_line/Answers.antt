use Rattle.std.proofs.Common.{◌∙◌, ◌++◌, ◌∷◌, [], ap, ℕ, List}
use Rattle.std.specs.Prelude.{codes, decimal}
use Rattle.commands.proofs.regions.fill_point_line.Goals as goal

pub returns : goal.returns
returns c =
    let front = c.push_number.ensures.text ∙ ap (λ (line : List ℕ). line ++ 32 ∷ decimal c.args.code)
    (c.push.ensures ∙ ap (λ (line : List ℕ). line ++ codes "point") c.clear.ensures) in
    c.push-2.ensures ∙ ap (λ (line : List ℕ). line ++ 10 ∷ [])
    (c.push_coordinates.ensures.text (codes "point") (decimal c.args.code ∷ []) front)
