-- A level is laid, and where it is greedy it is least.
use Rattle.std.proofs.Common.{◌≡◌, ◌<◌, ◌∙◌, sym, ap, length, arith}
use Rattle.levels.specs.declared.level.Level.{Level}
use Rattle.exact_cross.specs.IndexLevels.{level_at}
use Rattle.levels.specs.Stored.{segments_of}
use Rattle.levels.proofs.StoredLemmas.{level_at-kept, segments_of-count}
use Rattle.levels.proofs.IndexLemmas.{IsLevel-least, laid-shown, laid-checked}
use Rattle.levels.proofs.HeightLemmas.{long_level}
use Rattle.levels.proofs.index.Index.segments.Goals as goal

pub returns-clause-shown : goal.returns-clause-shown
returns-clause-shown c =
    let own = c.self.inside in
    let levels = own.stored.items in
    let inside :
    c.args.i < length levels = omega (arith, segments_of-count levels, rw (← c.self.view_is) at c.requires) in
    let here : c.deref.result.now ≡ level_at (segments_of levels) c.args.i =
    c.deref.ensures.value ∙ ap (λ (l : Level). l.segments.items) c.index-level.ensures
    ∙ sym (level_at-kept levels c.args.i c.index-level.result.now inside) in
    rw (← c.self.view_is, here)
    (laid-shown own.keys own.bounds.eps own.bounds.eps_rec (segments_of levels)
    c.self.invariant.stored.first.never_falls c.self.invariant.stored.index c.self.invariant.stored.first.few
    c.self.invariant.stored.first.bounded c.self.invariant.stored.first.bounded_rec c.args.i
    (omega (arith, inside, segments_of-count levels)))

pub returns-clause-above : goal.returns-clause-above
returns-clause-above c =
    let own = c.self.inside in
    let levels = own.stored.items in
    let inside : c.args.i < length (segments_of levels) = rw (← c.self.view_is) at c.requires in
    rw (← c.self.view_is) (c.self.invariant.stored.index.each c.args.i inside).above

pub returns-clause-least : goal.returns-clause-least
returns-clause-least c =
    let own = c.self.inside in
    let levels = own.stored.items in
    let inside :
    c.args.i < length levels = omega (arith, segments_of-count levels, rw (← c.self.view_is) at c.requires) in
    let here : c.deref.result.now ≡ level_at (segments_of levels) c.args.i =
    c.deref.ensures.value ∙ ap (λ (l : Level). l.segments.items) c.index-level.ensures
    ∙ sym (level_at-kept levels c.args.i c.index-level.result.now inside) in
    rw (← c.self.view_is, here) (IsLevel-least own.keys own.bounds.eps own.bounds.eps_rec (segments_of levels) c.args.i)

pub returns-clause-checked : goal.returns-clause-checked
returns-clause-checked c =
    let own = c.self.inside in
    let levels = own.stored.items in
    let inside :
    c.args.i < length levels = omega (arith, segments_of-count levels, rw (← c.self.view_is) at c.requires) in
    let here : c.deref.result.now ≡ level_at (segments_of levels) c.args.i =
    c.deref.ensures.value ∙ ap (λ (l : Level). l.segments.items) c.index-level.ensures
    ∙ sym (level_at-kept levels c.args.i c.index-level.result.now inside) in
    rw (← c.self.view_is, here)
    (laid-checked own.keys own.bounds.eps own.bounds.eps_rec (segments_of levels)
    c.self.invariant.stored.first.never_falls c.self.invariant.stored.index c.self.invariant.stored.first.few
    c.self.invariant.stored.first.bounded c.self.invariant.stored.first.bounded_rec c.args.i
    (omega (arith, inside, segments_of-count levels)))

pub returns-clause-long : goal.returns-clause-long
returns-clause-long c =
    let own = c.self.inside in
    let levels = own.stored.items in
    let inside :
    c.args.i < length levels = omega (arith, segments_of-count levels, rw (← c.self.view_is) at c.requires) in
    let here : c.deref.result.now ≡ level_at (segments_of levels) c.args.i =
    c.deref.ensures.value ∙ ap (λ (l : Level). l.segments.items) c.index-level.ensures
    ∙ sym (level_at-kept levels c.args.i c.index-level.result.now inside) in
    rw (← c.self.view_is, here)
    (long_level own.keys own.bounds.eps own.bounds.eps_rec
    (segments_of levels) c.self.invariant.stored.first.never_falls c.self.invariant.stored.index c.args.i
    (omega (arith, inside, segments_of-count levels)))
