-- A number's place is the entry of each step after that of the number before, up to its own.
use Rattle.std.proofs.Common.{◌≡◌, ℕ, length, refl, subst, arith}
use Rattle.radix_table.specs.Tables.{step_of}
use Rattle.radix_table.proofs.CountLemmas.{IsFilled, IsFilled-more, AreCounts-last, Rises-scale}
use Rattle.radix_table.proofs.entries.entries_of.Goals as goal

pub loop-place-preserved : goal.loop-place-preserved
loop-place-preserved c =
    IsFilled-more (step_of c.args.scale.now)
    c.args.xs.now c.loop-place.place c.step-step.result c.loop-place.entries.items c.fill_to.new.entries.items
    (Rises-scale c.args.scale.now c.requires.scale) c.requires.order
    (omega (arith, c.loop-place-test.true, c.loop-place.auto.place-end))
    c.step-step.ensures c.loop-place.invariant c.in_ok-fill_to.ensures

pub returns : goal.returns
returns c =
    let done : c.loop-place.place
    ≡ length c.args.xs.now = omega (arith, c.loop-place-test.false, c.loop-place.auto.place-end) in
    AreCounts-last (step_of c.args.scale.now) c.args.xs.now c.loop-place.entries.items c.push.new.self.items
    (length c.args.xs.now) refl c.in_ok-push.ensures.items
    (subst (λ (n : ℕ). IsFilled (step_of c.args.scale.now) c.args.xs.now n c.loop-place.entries.items)
    done c.loop-place.invariant)
