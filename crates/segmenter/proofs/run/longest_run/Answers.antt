-- The hulls stand for the run, further and further, until a place is refused.
use Rattle.std.proofs.Common.{◌≡◌, ◌+◌, ◌<◌, ℕ, ◌∙◌, refl, sym, subst, arith}
use Rattle.exact_cross.specs.PointLists.{points_in}
use Rattle.exact_cross.proofs.CallerLemmas.{IsAscending-points_in}
use Rattle.hulls.specs.Hulls.{bound_of, StandsFor}
use Rattle.segmenter.specs.Stretches.{IsRefused}
use Rattle.segmenter.proofs.Stretched.{MatchOffer-cut}
use Rattle.segmenter.proofs.Runs.{IsNext-place, IsLongest-whole, IsLongest-cut, HasItsCut-cut}
use Rattle.segmenter.proofs.run.longest_run.Goals as goal

pub loop-last-init : goal.loop-last-init
loop-last-init g c =
    let p = points_in c.args.points in
    let ascends = IsAscending-points_in c.args.points in
    record {
      onward = omega arith;
      within = omega arith;
      stands = c.start.ensures.stands p ascends (omega arith) refl refl;
      cost = omega (arith, c.start.ensures.spare);
      room = c.start.ensures.room;
      bound = c.start.ensures.bound;
    }

pub go_on-progress-requires-clause-stands : goal.go_on-progress-requires-clause-stands
go_on-progress-requires-clause-stands g c =
    let so_far = c.loop-last.invariant in (
      c.args.start,
      subst (λ (n : ℕ). StandsFor c.loop-last.hulls (points_in c.args.points) n c.args.start
          (c.loop-last.last + 1)) (sym so_far.bound) so_far.stands,
      omega (arith, so_far.room),
    )

-- ---- a place that begins no stretch

pub offer-requires : goal.offer-requires
offer-requires g c =
    let so_far = c.loop-last.invariant in
    let last = c.loop-last.last in
    let inside : last + 1 < c.args.to = c.loop-last-test.true in (
      points_in c.args.points,
      bound_of c.args.hulls.now,
      c.args.start,
      last + 1,
      IsNext-place c.loop-last.hulls c.args.points (bound_of c.args.hulls.now) c.args.start (last + 1) so_far.stands
          (omega arith),
      omega arith,
      omega (arith, so_far.room),
    )

pub loop-last-preserved-then-not-may_begin_stretch : goal.loop-last-preserved-then-not-may_begin_stretch
loop-last-preserved-then-not-may_begin_stretch g c =
    let so_far = c.loop-last.invariant in
    let eps = bound_of c.args.hulls.now in
    let last = c.loop-last.last in
    let inside : last + 1 < c.args.to = c.loop-last-test.true in
    let taken = c.in_default.ensures in
    let next = IsNext-place c.loop-last.hulls c.args.points eps c.args.start (last + 1) so_far.stands (omega arith) in
    record {
      onward = omega arith;
      within = omega arith;
      stands = taken.stands (points_in c.args.points) eps c.args.start (last + 1) next;
      cost = omega (arith, so_far.cost, taken.cost);
      room = omega (arith, so_far.room, taken.room);
      bound = taken.bound ∙ so_far.bound;
    }

pub run_of-requires : goal.run_of-requires
run_of-requires g c = (
  points_in c.args.points,
  bound_of c.args.hulls.now,
  rw c.in-Cut.ensures.stands
      c.loop-last.invariant.stands,
)

pub returns-in-Cut-clause-longest : goal.returns-in-Cut-clause-longest
returns-in-Cut-clause-longest g c =
    let so_far = c.loop-last.invariant in
    let p = points_in c.args.points in
    let eps = bound_of c.args.hulls.now in
    let last = c.loop-last.last in
    let inside : last + 1 < c.args.to = c.loop-last-test.true in
    let next = IsNext-place c.loop-last.hulls c.args.points eps c.args.start (last + 1) so_far.stands (omega arith) in
    rw c.run_of.ensures.end (IsLongest-cut c.loop-last.hulls p eps c.args.to c.args.start (last + 1) so_far.stands
    (c.in-Cut.ensures.fits p eps c.args.start (last + 1) next))

pub returns-in-Cut-clause-steep : goal.returns-in-Cut-clause-steep
returns-in-Cut-clause-steep g c =
    rw c.run_of.ensures.end (c.run_of.ensures.steep (points_in c.args.points) (bound_of c.args.hulls.now) (rw
    c.in-Cut.ensures.stands c.loop-last.invariant.stands))

pub returns-in-Cut-clause-flat : goal.returns-in-Cut-clause-flat
returns-in-Cut-clause-flat g c =
    rw c.run_of.ensures.end (c.run_of.ensures.flat (points_in c.args.points) (bound_of c.args.hulls.now) (rw
    c.in-Cut.ensures.stands c.loop-last.invariant.stands))

pub returns-in-Cut-clause-cut : goal.returns-in-Cut-clause-cut
returns-in-Cut-clause-cut g c =
    let so_far = c.loop-last.invariant in
    let p = points_in c.args.points in
    let eps = bound_of c.args.hulls.now in
    let last = c.loop-last.last in
    let inside : last + 1 < c.args.to = c.loop-last-test.true in
    let next = IsNext-place c.loop-last.hulls c.args.points eps c.args.start (last + 1) so_far.stands (omega arith) in
    rw c.run_of.ensures.end (HasItsCut-cut p eps c.args.to c.args.start (last + 1) c.in-Cut.witness
    c.run_of.result.segment c.run_of.ensures.start c.run_of.ensures.cut inside
    (c.in-Cut.ensures.witness p eps c.args.start (last + 1) next))

-- ---- a place that may begin one

pub run_of-requires-in-Cut-offer : goal.run_of-requires-in-Cut-offer
run_of-requires-in-Cut-offer g c =
    let p = points_in c.args.points in
    let so_far = c.loop-last.invariant in
    let progress = c.go_on-progress in
    let begun = subst (λ (n : ℕ). StandsFor c.loop-last.hulls p n c.args.start (c.loop-last.last + 1)) (sym
    so_far.bound) so_far.stands in (
      p,
      bound_of c.args.hulls.now,
      subst (λ (n : ℕ). StandsFor progress.new.hulls p n c.args.start (progress.result.last + 1)) so_far.bound
          (progress.ensures.stands c.args.start begun),
    )

pub returns-in-Cut-offer-clause-longest : goal.returns-in-Cut-offer-clause-longest
returns-in-Cut-offer-clause-longest g c =
    let p = points_in c.args.points in
    let so_far = c.loop-last.invariant in
    let progress = c.go_on-progress in
    let end = progress.result.last + 1 in
    let begun = subst (λ (n : ℕ). StandsFor c.loop-last.hulls p n c.args.start (c.loop-last.last + 1)) (sym
    so_far.bound) so_far.stands in
    let stands = subst (λ (n : ℕ). StandsFor progress.new.hulls p n c.args.start end) so_far.bound
    (progress.ensures.stands c.args.start begun) in
    let refused : IsRefused p (bound_of c.loop-last.hulls) c.args.start end c.in-Cut-offer.witness = MatchOffer-cut _
    _ progress.result.offer c.in-Cut-offer.witness c.in-Cut-offer.is progress.ensures.cut c.args.start begun in
    rw c.run_of-in-Cut-offer.ensures.end
    (IsLongest-cut progress.new.hulls p (bound_of c.args.hulls.now) c.args.to c.args.start end stands
    (subst (λ (n : ℕ). IsRefused p n c.args.start end c.in-Cut-offer.witness) so_far.bound refused).refused)

pub returns-in-Cut-offer-clause-steep : goal.returns-in-Cut-offer-clause-steep
returns-in-Cut-offer-clause-steep g c =
    let p = points_in c.args.points in
    let so_far = c.loop-last.invariant in
    let progress = c.go_on-progress in
    let begun = subst (λ (n : ℕ). StandsFor c.loop-last.hulls p n c.args.start (c.loop-last.last + 1)) (sym
    so_far.bound) so_far.stands in
    rw c.run_of-in-Cut-offer.ensures.end
    (c.run_of-in-Cut-offer.ensures.steep p (bound_of c.args.hulls.now)
    (subst (λ (n : ℕ). StandsFor progress.new.hulls p n c.args.start (progress.result.last + 1)) so_far.bound
    (progress.ensures.stands c.args.start begun)))

pub returns-in-Cut-offer-clause-flat : goal.returns-in-Cut-offer-clause-flat
returns-in-Cut-offer-clause-flat g c =
    let p = points_in c.args.points in
    let so_far = c.loop-last.invariant in
    let progress = c.go_on-progress in
    let begun = subst (λ (n : ℕ). StandsFor c.loop-last.hulls p n c.args.start (c.loop-last.last + 1)) (sym
    so_far.bound) so_far.stands in
    rw c.run_of-in-Cut-offer.ensures.end
    (c.run_of-in-Cut-offer.ensures.flat p (bound_of c.args.hulls.now)
    (subst (λ (n : ℕ). StandsFor progress.new.hulls p n c.args.start (progress.result.last + 1)) so_far.bound
    (progress.ensures.stands c.args.start begun)))

pub returns-in-Cut-offer-clause-cut : goal.returns-in-Cut-offer-clause-cut
returns-in-Cut-offer-clause-cut g c =
    let p = points_in c.args.points in
    let so_far = c.loop-last.invariant in
    let progress = c.go_on-progress in
    let end = progress.result.last + 1 in
    let begun = subst (λ (n : ℕ). StandsFor c.loop-last.hulls p n c.args.start (c.loop-last.last + 1)) (sym
    so_far.bound) so_far.stands in
    let refused : IsRefused p (bound_of c.loop-last.hulls) c.args.start end c.in-Cut-offer.witness = MatchOffer-cut _
    _ progress.result.offer c.in-Cut-offer.witness c.in-Cut-offer.is progress.ensures.cut c.args.start begun in
    let within : end < c.args.to = MatchOffer-cut _ _ progress.result.offer c.in-Cut-offer.witness c.in-Cut-offer.is
    progress.ensures.within in
    rw c.run_of-in-Cut-offer.ensures.end
    (HasItsCut-cut p (bound_of c.args.hulls.now) c.args.to c.args.start end c.in-Cut-offer.witness
    c.run_of-in-Cut-offer.result.segment
    c.run_of-in-Cut-offer.ensures.start c.run_of-in-Cut-offer.ensures.cut within
    (subst (λ (n : ℕ). IsRefused p n c.args.start end c.in-Cut-offer.witness) so_far.bound refused).witness)

-- ---- all places are taken in

pub returns-clause-longest : goal.returns-clause-longest
returns-clause-longest g c =
    let so_far = c.loop-last.invariant in
    let at_end : c.loop-last.last + 1 ≡ c.args.to = omega (arith, so_far.within) in
    rw c.run_of-2.ensures.end (IsLongest-whole c.loop-last.hulls (points_in c.args.points) (bound_of c.args.hulls.now)
    c.args.to c.args.start (rw at_end at so_far.stands))

pub returns-clause-steep : goal.returns-clause-steep
returns-clause-steep g c =
    let so_far = c.loop-last.invariant in
    let at_end : c.loop-last.last + 1 ≡ c.args.to = omega (arith, so_far.within) in
    rw c.run_of-2.ensures.end (c.run_of-2.ensures.steep (points_in c.args.points) (bound_of c.args.hulls.now) (rw
    at_end at so_far.stands))

pub returns-clause-flat : goal.returns-clause-flat
returns-clause-flat g c =
    let so_far = c.loop-last.invariant in
    let at_end : c.loop-last.last + 1 ≡ c.args.to = omega (arith, so_far.within) in
    rw c.run_of-2.ensures.end (c.run_of-2.ensures.flat (points_in c.args.points) (bound_of c.args.hulls.now) (rw
    at_end at so_far.stands))
