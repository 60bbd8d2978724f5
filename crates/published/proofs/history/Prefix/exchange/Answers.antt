use Rattle.std.proofs.Common.{◌≡◌, ◌==◌, ◌+◌, sym, ◌∙◌, ap, refl, arith}
use Rattle.published.specs.Histories.{Front, count_of}
use Rattle.published.proofs.Adding.{adds_moves, adds_counts}
use Rattle.published.proofs.history.Prefix.exchange.Goals as goal
use Rattle.published.proofs.history.Prefix.exchange.Goals.{then-found-before, else-found-before}

pub compare_exchange-found-requires : goal.compare_exchange-found-requires
compare_exchange-found-requires c =
    let h = c.requires.own in
    let book = ap (λ (f : Front). f.origin) c.self.view_is in
    let offer = c.plain-offer.ensures in
    let pen = c.no_pen-pen.ensures in (
      ap (λ w. w.tracked) h,
      book ∙ sym (ap (λ w. w.book) h),
      pen.0 ∙ (book ∙ sym (ap (λ w. w.book) h)),
      offer.0,
      rw (ap (λ w. w.key) h, pen.1, offer.1, offer.3)
          (adds_moves c.self.inside.seen.log c.args.batch.now.items c.self.inside.updates
          (c.self.inside.updates + c.len.result) (sym c.self.invariant.0)
          (omega (arith, c.len.ensures, c.args.batch.now.ok.0))
          (omega (arith, c.requires.some, c.args.batch.now.ok.0))),
    )

pub invariant_of-self : goal.invariant_of-self
invariant_of-self c =
    let step = c.compare_exchange-found in
    let told = adds_counts c.self.inside.seen.log
    step.new.seen.log c.args.batch.now.items c.self.inside.updates step.result (sym c.self.invariant.0)
    (step.result == c.self.inside.updates) refl (rw c.plain-offer.ensures.1 at step.ensures.7) in
    let count : c.if-found-before.self ≡ count_of step.new.seen.log = elim c.if-found-before.branch [
      | then-found-before w ↦
          omega (arith, w.self-is, told.0 w.if-found-before.true, c.len.ensures, c.args.batch.now.ok.0)
      | else-found-before w ↦ omega (arith, w.self-is, told.1 w.if-found-before.false)
    ] in (count, told.2)
