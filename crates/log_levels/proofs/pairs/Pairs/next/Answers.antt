use Rattle.std.proofs.Common.{◌≡◌, ◌<◌, ◌+◌, None, Some, refl, subst, sym, arith}
use Rattle.log_levels.specs.Accepted.{entries_of}
use Rattle.log_levels.specs.Kept.{IsLeft}
use Rattle.log_levels.specs.Shapes.{Left}
use Rattle.log_levels.proofs.PairLemmas.{IsFrontTaken, front-none, front-some, pairs-crossed}
use Rattle.log_levels.proofs.WalkLemmas.{pairs-none, pairs-past}
use Rattle.log_levels.proofs.pairs.Pairs.next.Goals as goal

pub returns-then-end-self : goal.returns-then-end-self
returns-then-end-self c =
    let inside : Left = record { map = c.self.inside.map.now; low = c.self.inside.low; high = c.self.inside.high } in
    let past : inside.high < inside.low = omega (arith, c.if-end-self.true, c.from-end.ensures) in
    let taken = subst (λ (old : Left). IsFrontTaken old old None) c.self.view_is
    (front-none inside inside refl past
    (λ updates stands. pairs-crossed updates inside.low inside.high past)) in
    record { map = taken.map; first = taken.first; left = taken.left }

pub returns-in_default : goal.returns-in_default
returns-in_default c =
    let inside : Left = record { map = c.self.inside.map.now; low = c.self.inside.low; high = c.self.inside.high } in
    let after : Left = record { map = inside.map; low = c.from-end.result + 1; high = inside.high } in
    let taken = subst (λ (old : Left). IsFrontTaken old after None) c.self.view_is
    (front-none inside after refl (omega (arith, c.from-end.ensures))
    (λ updates stands. pairs-none updates inside.low inside.high
    (c.in_default.ensures.live (entries_of updates) stands))) in
    record { map = taken.map; first = taken.first; left = taken.left }

pub returns-then-self-key : goal.returns-then-self-key
returns-then-self-key c =
    let inside : Left = record { map = c.self.inside.map.now; low = c.self.inside.low; high = c.self.inside.high } in
    let after : Left = record { map = inside.map; low = c.from-end.result + 1; high = inside.high } in
    let taken = subst (λ (old : Left). IsFrontTaken old after None) c.self.view_is
    (front-none inside after refl (omega (arith, c.from-end.ensures))
    (λ updates stands. pairs-past updates inside.low inside.high c.in-Some.key c.in-Some.value
    (c.in-Some.ensures.live (entries_of updates) stands) c.if-self-key.true)) in
    record { map = taken.map; first = taken.first; left = taken.left }

pub returns : goal.returns
returns c =
    let inside : Left = record { map = c.self.inside.map.now; low = c.self.inside.low; high = c.self.inside.high } in
    let after : Left = record { map = inside.map; low = c.from.result + 1; high = inside.high } in
    let taken = subst (λ (old : Left). IsFrontTaken old after (Some (c.in-Some.key, c.in-Some.value))) c.self.view_is
    (front-some inside (c.from.result + 1) c.in-Some.key c.in-Some.value c.if-self-key.false
    (omega (arith, c.from.ensures))
    (λ updates stands. c.in-Some.ensures.live (entries_of updates) stands)) in
    record { map = taken.map; first = taken.first; left = taken.left }

pub invariant_of-self-2 : goal.invariant_of-self-2
invariant_of-self-2 c = record {
  few = omega (arith, c.from.ensures);
  front = λ some. subst (λ k. IsLeft c.self.inside.map.now c.next_pair.new.walk (k + 1))
      (sym c.from.ensures) c.in-Some.ensures.left;
  back = λ some. c.self.invariant.back (omega (arith, c.if-end-self.false, c.from-end.ensures));
}
