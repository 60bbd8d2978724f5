-- The place that is said is the one, or all keys are halved.
use Rattle.std.proofs.Common.{◌≡◌, ◌+◌, length, true≢false, sym, subst, ◌∙◌, arith}
use Rattle.window_search.specs.Brackets.{IsBracket}
use Rattle.window_search.specs.Searches.{lb}
use Rattle.window_search.proofs.CallerLemmas.{bracket-lb, lb-brackets}
use Rattle.hints.proofs.LookupLemmas.{TakesEach-two, TakesEach-halved}
use Rattle.hints.proofs.many.position_at.Goals as goal

pub returns-then-is_bracket-clause-place : goal.returns-then-is_bracket-clause-place
returns-then-is_bracket-clause-place g c =
    let bracket = c.is_bracket.ensures.exact.0 c.if-is_bracket.true in
    record { bracket = bracket; found = λ order. bracket-lb _ _ _ bracket order }

pub returns-then-is_bracket-clause-worst : goal.returns-then-is_bracket-clause-worst
returns-then-is_bracket-clause-worst g c = TakesEach-two _ _ _ c.is_bracket.ensures.cost (omega arith)

pub returns-then-is_bracket-clause-near : goal.returns-then-is_bracket-clause-near
returns-then-is_bracket-clause-near g c = λ order holds. TakesEach-two 4 _ _ c.is_bracket.ensures.cost (omega arith)

pub returns-clause-worst : goal.returns-clause-worst
returns-clause-worst g c =
    TakesEach-halved (length c.args.keys.now + 1) _ _ _ c.is_bracket.ensures.cost c.bracket_of.ensures.cost

pub returns-clause-near : goal.returns-clause-near
returns-clause-near g c = λ order (from, to).
    let keys = c.args.keys.now in
    let same : lb keys c.args.q ≡ c.args.from = omega arith in
    let bracket = subst (IsBracket keys c.args.q) same (lb-brackets keys c.args.q order) in
    absurd (true≢false (sym (c.is_bracket.ensures.exact.1 bracket) ∙ c.if-is_bracket.false))
