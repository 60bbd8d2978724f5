use Rattle.std.proofs.Common.{◌≡◌, ◌<◌, ◌+◌, ◌-◌, ◌++◌, ◌∷◌, [], List, ℕ, None, Some, refl, subst, sym, ap, ◌∙◌, arith}
use Rattle.log_levels.specs.Accepted.{entries_of}
use Rattle.log_levels.specs.Kept.{ArePlaces, IsLastLive}
use Rattle.log_levels.specs.Shapes.{Left}
use Rattle.log_levels.proofs.PairLemmas.{IsBackTaken, back-none, back-some, pairs-crossed}
use Rattle.log_levels.proofs.PairLemmas.{pairs-back, pairs-none_back, pairs-only}
use Rattle.log_levels.proofs.pairs.Pairs.next_back.Goals as goal

pub returns-then-end-self : goal.returns-then-end-self
returns-then-end-self c =
    let inside : Left = record { map = c.self.inside.map.now; low = c.self.inside.low; high = c.self.inside.high } in
    let past : inside.high < inside.low = omega (arith, c.if-end-self.true, c.from-end.ensures) in
    let taken = subst (λ (old : Left). IsBackTaken old old None) c.self.view_is
    (back-none inside inside refl past
    (λ updates stands. pairs-crossed updates inside.low inside.high past)) in
    record { map = taken.map; last = taken.last; left = taken.left }

pub returns-in_default : goal.returns-in_default
returns-in_default c =
    let inside : Left = record { map = c.self.inside.map.now; low = c.self.inside.low; high = c.self.inside.high } in
    let after : Left = record { map = inside.map; low = c.from-end.result + 1; high = inside.high } in
    let taken = subst (λ (old : Left). IsBackTaken old after None) c.self.view_is
    (back-none inside after refl (omega (arith, c.from-end.ensures))
    (λ updates stands. pairs-none_back updates inside.low inside.high
    (subst (λ k. IsLastLive (entries_of updates) inside.low (k + 1) None) c.from-end.ensures
    (c.in_default.ensures.live (entries_of updates) stands)))) in
    record { map = taken.map; last = taken.last; left = taken.left }

pub returns-then-from-self : goal.returns-then-from-self
returns-then-from-self c =
    let inside : Left = record { map = c.self.inside.map.now; low = c.self.inside.low; high = c.self.inside.high } in
    let after : Left = record { map = inside.map; low = c.from-end.result + 1; high = inside.high } in
    let crossed : after.high < after.low = omega (arith, c.from-end.ensures) in
    let taken = subst (λ (old : Left). IsBackTaken old after (Some (c.in-Some.key, c.in-Some.value))) c.self.view_is
    (back-some inside after c.in-Some.key c.in-Some.value refl (omega arith)
    (λ updates stands. pairs-only updates inside.low inside.high c.in-Some.key c.in-Some.value
    (subst (λ k. IsLastLive (entries_of updates) inside.low (k + 1) (Some (c.in-Some.key, c.in-Some.value)))
    c.from-end.ensures (c.in-Some.ensures.live (entries_of updates) stands))
    (omega (arith, c.if-from-self.true, c.from.ensures))
    ∙ ap (λ (l : List (ℕ × ℕ)). l ++ (c.in-Some.key, c.in-Some.value) ∷ [])
    (sym (pairs-crossed updates after.low after.high crossed)))) in
    record { map = taken.map; last = taken.last; left = taken.left }

pub returns : goal.returns
returns c =
    let inside : Left = record { map = c.self.inside.map.now; low = c.self.inside.low; high = c.self.inside.high } in
    let after : Left = record { map = inside.map; low = inside.low; high = c.in-Some.key - 1 } in
    let typed = rw c.in-Some.is at c.previous_pair.type_inv in
    let taken = subst (λ (old : Left). IsBackTaken old after (Some (c.in-Some.key, c.in-Some.value))) c.self.view_is
    (back-some inside after c.in-Some.key c.in-Some.value refl (omega (arith, typed))
    (λ updates stands. pairs-back updates inside.low inside.high c.in-Some.key c.in-Some.value
    (subst (λ k. IsLastLive (entries_of updates) inside.low (k + 1) (Some (c.in-Some.key, c.in-Some.value)))
    c.from-end.ensures (c.in-Some.ensures.live (entries_of updates) stands))
    (omega (arith, c.if-from-self.false, c.from.ensures, c.in-Some.ensures.from)))) in
    record { map = taken.map; last = taken.last; left = taken.left }

pub invariant_of-self-2 : goal.invariant_of-self-2
invariant_of-self-2 c =
    let one : c.in-Some.key - 1 + 1 ≡ c.in-Some.key =
    omega (arith, c.if-from-self.false, c.from.ensures, c.in-Some.ensures.from) in
    record {
      few = c.self.invariant.few;
      front = λ some. c.self.invariant.front (omega (arith, c.if-end-self.false, c.from-end.ensures));
      back =
          λ some. subst (ArePlaces c.self.inside.map.now c.previous_pair.new.places) (sym one) c.in-Some.ensures.places;
    }
