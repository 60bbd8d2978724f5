-- The position of each question is at its place.
use Rattle.std.proofs.Common.{ℕ, map, sym, ◌∙◌, arith}
use Rattle.std.proofs.lemmas.List.{ext_get_or, get_or-map, length-map}
use Rattle.window_search.specs.Searches.{lb}
use Rattle.kuldebiq.proofs.many.one_by_one.Goals as goal

pub returns : goal.returns
returns c =
    let keys = c.args.index.now.keys in let questions = c.args.questions.now in
    ext_get_or 0 c.loop-i.positions (map (lb keys) questions)
    (omega (arith, c.loop-i.invariant.0, length-map {B = ℕ} questions (lb keys))) (λ i inside.
    c.loop-i.invariant.1 i (omega (arith, c.loop-i.invariant.0, c.loop-i-test.false, inside))
    ∙ sym (get_or-map (lb keys) questions i 0 0 (omega (arith, c.loop-i.invariant.0, inside))))
