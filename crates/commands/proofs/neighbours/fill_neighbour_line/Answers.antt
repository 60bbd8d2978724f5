use Rattle.std.proofs.Common.{◌∙◌, ◌++◌, ◌∷◌, [], ap, ℕ, List}
use Rattle.std.specs.Prelude.{codes, decimal}
use Rattle.commands.proofs.neighbours.fill_neighbour_line.Goals as goal

pub returns : goal.returns
returns c =
    let distance = c.args.point.0 in
    let code = c.args.point.1 in
    let named = c.push.ensures ∙ ap (λ (line : List ℕ). line ++ codes "point") c.clear.ensures in
    let coded = c.push_number.ensures.text ∙ ap (λ (line : List ℕ). line ++ 32 ∷ decimal code) named in
    let front = c.push_number-2.ensures.text ∙ ap (λ (line : List ℕ). line ++ 32 ∷ decimal distance) coded in
    c.push-2.ensures ∙ ap (λ (line : List ℕ). line ++ 10 ∷ [])
    (c.push_coordinates.ensures.text (codes "point") (decimal code ∷ decimal distance ∷ []) front)
