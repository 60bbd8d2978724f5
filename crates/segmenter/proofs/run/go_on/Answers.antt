-- The next place, and the stretch that begins with it and the one before.
use Rattle.std.proofs.Common.{ℕ, ◌+◌, ◌*◌, ◌<◌, ◌≤◌, sym, subst, arith}
use Rattle.std.proofs.lemmas.Bool.{OnTrue_at, lt-ltb}
use Rattle.exact_cross.specs.PointLists.{points_in}
use Rattle.exact_cross.specs.declared.segment.Witness.{Witness}
use Rattle.hulls.specs.Hulls.{bound_of, spare, StandsFor}
use Rattle.segmenter.specs.Stretches.{IsInStretch, IsRefused}
use Rattle.segmenter.proofs.Runs.{IsNext-place}
use Rattle.segmenter.proofs.Stretched.{IsInStretch-begun, IsInStretch-bound, MatchOffer-map, MatchOffer-either}
use Rattle.segmenter.proofs.run.go_on.Goals as goal

pub offer-requires : goal.offer-requires
offer-requires g c =
    let r = c.requires.stands in
    let hulls = c.args.hulls.now in
    let more = c.requires.more in (
      points_in c.args.points,
      bound_of hulls,
      r.0,
      c.args.last + 1,
      IsNext-place hulls c.args.points (bound_of hulls) r.0 (c.args.last + 1) r.1 (omega arith),
      omega arith,
      omega (arith, r.2),
    )

pub returns-in-Cut-clause-stands : goal.returns-in-Cut-clause-stands
returns-in-Cut-clause-stands g c = λ s stands. rw c.in-Cut.ensures.stands stands

pub returns-in-Cut-clause-cut : goal.returns-in-Cut-clause-cut
returns-in-Cut-clause-cut g c = λ s stands.
    let hulls = c.args.hulls.now in
    let more = c.requires.more in
    let next = IsNext-place hulls c.args.points (bound_of hulls) s (c.args.last + 1) stands (omega arith) in
    record {
      refused = c.in-Cut.ensures.fits (points_in c.args.points) (bound_of hulls) s (c.args.last + 1) next;
      witness = c.in-Cut.ensures.witness (points_in c.args.points) (bound_of hulls) s (c.args.last + 1) next;
    }

pub pass_stretch-requires-clause-stretch : goal.pass_stretch-requires-clause-stretch
pass_stretch-requires-clause-stretch g c =
    let r = c.requires.stands in
    let hulls = c.args.hulls.now in
    let more = c.requires.more in
    let next = IsNext-place hulls c.args.points (bound_of hulls) r.0 (c.args.last + 1) r.1 (omega arith) in
    let stands = c.in_default.ensures.stands (points_in c.args.points) (bound_of hulls) r.0 (c.args.last + 1) next in (
      r.0,
      IsInStretch-bound c.offer.new.self (points_in c.args.points) (bound_of hulls)
          (bound_of c.offer.new.self) r.0 (c.args.last + 1) c.stretch_end-end.result (sym c.in_default.ensures.bound)
          (IsInStretch-begun c.offer.new.self (points_in c.args.points) (bound_of hulls) r.0 c.args.last
          c.stretch_end-end.result (omega (arith, r.1.steep.pair.some)) stands c.stretch_end-end.ensures.even),
      omega (arith, r.2, c.in_default.ensures.room, c.stretch_end-end.ensures.within),
    )

pub pass_stretch-requires-clause-on_hulls : goal.pass_stretch-requires-clause-on_hulls
pass_stretch-requires-clause-on_hulls g c =
    OnTrue_at (lt-ltb (c.args.last + 1) c.stretch_end-end.result c.if-in_stretch.true) c.in_default.ensures.end

pub returns-then-in_stretch-clause-stands : goal.returns-then-in_stretch-clause-stands
returns-then-in_stretch-clause-stands g c = λ s stands.
    let hulls = c.args.hulls.now in
    let p = points_in c.args.points in
    let more = c.requires.more in
    let next = IsNext-place hulls c.args.points (bound_of hulls) s (c.args.last + 1) stands (omega arith) in
    subst (λ (n : ℕ). StandsFor c.pass_stretch.new.hulls p n s (c.pass_stretch.result.last + 1))
    c.in_default.ensures.bound
    (c.pass_stretch.ensures.stands s
    (IsInStretch-bound c.offer.new.self p (bound_of hulls)
    (bound_of c.offer.new.self) s (c.args.last + 1) c.stretch_end-end.result (sym c.in_default.ensures.bound)
    (IsInStretch-begun c.offer.new.self p
    (bound_of hulls) s c.args.last c.stretch_end-end.result (omega (arith, stands.steep.pair.some))
    (c.in_default.ensures.stands p (bound_of hulls) s (c.args.last + 1) next) c.stretch_end-end.ensures.even)))

pub returns-clause-stands : goal.returns-clause-stands
returns-clause-stands g c = λ s stands.
    let hulls = c.args.hulls.now in
    let more = c.requires.more in
    c.in_default.ensures.stands (points_in c.args.points) (bound_of hulls) s
    (c.args.last + 1) (IsNext-place hulls c.args.points (bound_of hulls) s (c.args.last + 1) stands (omega arith))

pub returns-then-in_stretch-clause-further : goal.returns-then-in_stretch-clause-further
returns-then-in_stretch-clause-further g c =
    MatchOffer-either (c.args.last < c.pass_stretch.result.last)
    (λ w. Unit {0}) c.pass_stretch.result.offer (omega (arith, c.pass_stretch.ensures.onward)) (λ w. tt)

pub returns-then-in_stretch-clause-within : goal.returns-then-in_stretch-clause-within
returns-then-in_stretch-clause-within g c =
    let within = c.stretch_end-end.ensures.within in
    MatchOffer-map c.pass_stretch.result.offer
    (λ (some : c.pass_stretch.result.last ≤ c.stretch_end-end.result). omega (arith, some, within))
    (λ (w : Witness) (some : c.pass_stretch.result.last < c.stretch_end-end.result). omega (arith, some, within))
    c.pass_stretch.ensures.within

pub returns-then-in_stretch-clause-cut : goal.returns-then-in_stretch-clause-cut
returns-then-in_stretch-clause-cut g c =
    let hulls = c.args.hulls.now in
    let begun = c.offer.new.self in
    let p = points_in c.args.points in
    let more = c.requires.more in
    MatchOffer-map c.pass_stretch.result.offer (λ (none : Unit {0}). none)
    (λ (w : Witness)
    (cut : (s : ℕ) → IsInStretch begun p (bound_of begun) s (c.args.last + 1) c.stretch_end-end.result →
    IsRefused p (bound_of begun) s (c.pass_stretch.result.last + 1) w) (s : ℕ)
    (stands : StandsFor hulls p (bound_of hulls) s (c.args.last + 1)).
    subst (λ (n : ℕ). IsRefused p n s (c.pass_stretch.result.last + 1) w) c.in_default.ensures.bound
    (cut s (IsInStretch-bound begun p
    (bound_of hulls) (bound_of begun) s (c.args.last + 1) c.stretch_end-end.result (sym c.in_default.ensures.bound)
    (IsInStretch-begun begun p
    (bound_of hulls) s c.args.last c.stretch_end-end.result (omega (arith, stands.steep.pair.some))
    (c.in_default.ensures.stands p (bound_of hulls) s
    (c.args.last + 1) (IsNext-place hulls c.args.points (bound_of hulls) s (c.args.last + 1) stands (omega arith)))
    c.stretch_end-end.ensures.even))))
    c.pass_stretch.ensures.cut

pub returns-then-in_stretch-clause-cost : goal.returns-then-in_stretch-clause-cost
returns-then-in_stretch-clause-cost g c =
    let begun = c.in_default.ensures.cost in
    let passed = c.pass_stretch in
    MatchOffer-map passed.result.offer
    (λ (more : passed.new.steps + spare passed.new.hulls + 10 * (c.args.last + 1)
    ≤ c.offer.new.steps + spare c.offer.new.self + 10 * passed.result.last).
    omega (arith, more, begun))
    (λ (w : Witness)
    (more : passed.new.steps + 10 * (c.args.last + 1)
    ≤ c.offer.new.steps + spare c.offer.new.self + 10 * passed.result.last + 10).
    omega (arith, more, begun))
    passed.ensures.cost
