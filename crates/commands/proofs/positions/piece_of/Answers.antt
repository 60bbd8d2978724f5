use Rattle.std.proofs.Common.{◌≡◌, ◌∙◌, ◌*◌, ◌-◌, ℕ, ap, drop, length, min, take, arith}
use Rattle.std.proofs.lemmas.List.{drop_min, length-drop, take_all, take_min}
use Rattle.commands.proofs.positions.piece_of.Goals as goal

pub returns-clause-piece : goal.returns-clause-piece
returns-clause-piece c =
    let questions = c.args.questions.now in
    let start = c.min-start.result in
    let start_is : start ≡ min (c.args.i * c.args.size) (length questions) =
    omega (arith, c.min-start.ensures, c.saturating_mul.ensures) in
    let whole : take (length questions - start) (drop start questions) ≡ drop start questions =
    take_all (length questions - start) (drop start questions) (omega (arith, length-drop start questions)) in
    let rest = whole ∙ ap (λ (n : ℕ). drop n questions) start_is ∙ drop_min (c.args.i * c.args.size) questions in
    ap (λ (n : ℕ). take n (take (length questions - start) (drop start questions))) c.min.ensures
    ∙ take_min c.args.size (take (length questions - start) (drop start questions)) ∙ ap (take c.args.size) rest
