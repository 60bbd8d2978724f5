use Rattle.std.proofs.Common.{◌≡◌, Some, drop, sym, ap, subst, ◌∙◌}
use Rattle.published.specs.Histories.{Front}
use Rattle.published.specs.Rules.{GoesOn}
use Rattle.published.proofs.OnlyGrows.{one_last}
use Rattle.published.proofs.copies.show.Goals as goal

pub turned-requires-clause-more : goal.turned-requires-clause-more
turned-requires-clause-more g c = λ last ends.
    let version = c.args.version in
    let shown = c.args.copies.desk.shown.value in
    let same : version ≡ last = one_last shown
    (drop c.queued.result.behind c.queued.result.log.items) version last c.queued.ensures.last ends in
    subst (λ (f : Front). GoesOn f last)
    (sym c.queued.ensures.shown) (subst (λ (f : Front). GoesOn shown f) same c.requires.more)

pub returns-clause-shown : goal.returns-clause-shown
returns-clause-shown g c = c.turned.ensures.shown c.args.version c.queued.ensures.last

pub returns-clause-known : goal.returns-clause-known
returns-clause-known g c =
    c.turned.ensures.known ∙ ap (λ (f : Front). Some f) (c.turned.ensures.shown c.args.version c.queued.ensures.last)
