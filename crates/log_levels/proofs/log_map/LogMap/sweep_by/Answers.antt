use Rattle.std.proofs.Common.{◌++◌, ◌∷◌, [], List, length, length-append, refl, subst, sym, ap, ◌∙◌, arith}
use Rattle.tombstones.specs.declared.entry.Entry.{Entry}
use Rattle.log_levels.specs.declared.update.Update.TheVariants.{Sweep}
use Rattle.log_levels.specs.Accepted.{entries_of, entries_for}
use Rattle.log_levels.specs.Maps.{map_after}
use Rattle.log_levels.specs.Shapes.{Held, IsCutOf, StandsFor, capacity_of}
use Rattle.log_levels.proofs.BareLemmas.{value-none, value-swept}
use Rattle.log_levels.proofs.SearchLemmas.{one-value}
use Rattle.log_levels.proofs.RefusalLemmas.{applied-memory, refuses-full, refuses-none, sweep-plain}
use Rattle.log_levels.proofs.UpdateLemmas.{entries_of-sweep}
use Rattle.log_levels.proofs.WalkLemmas.{length-sweep}
use Rattle.log_levels.proofs.log_map.LogMap.sweep_by.Goals as goal

pub returns-then-count-capacity-clause-swept : goal.returns-then-count-capacity-clause-swept
returns-then-count-capacity-clause-swept g c = record {
  applied = tt;
  refused = refuses-full (StandsFor c.args.self.now) c.args.self.now.accepted (capacity_of c.args.self.now)
      c.accepted-accepted.result (Sweep c.args.low c.args.high ∷ []) c.accepted-accepted.ensures.count
      (λ updates stands.
      omega (
        arith,
        length-sweep updates c.args.low c.args.high,
        stands.accepted,
        c.accepted-accepted.ensures.count,
        c.count-count.ensures updates stands,
        c.capacity.ensures,
        c.if-count-capacity.true,
      ))
      (λ plain. absurd (sweep-plain c.args.low c.args.high plain));
  unchanged = refl;
  levels = refl;
}

pub returns-in_err-deletions-clause-swept : goal.returns-in_err-deletions-clause-swept
returns-in_err-deletions-clause-swept g c =
    applied-memory c.args.self.now c.args.self.now (Sweep c.args.low c.args.high ∷ []) c.from_residual.result
    c.from_residual.ensures.1 (λ plain. absurd (sweep-plain c.args.low c.args.high plain)) refl

pub returns-in_err-deletions-clause-full : goal.returns-in_err-deletions-clause-full
returns-in_err-deletions-clause-full g c = λ updates stands over.
    absurd (omega (
      arith,
      length-sweep updates c.args.low c.args.high,
      stands.accepted,
      c.accepted-accepted.ensures.count,
      c.accepted-accepted.ensures.within,
      c.count-count.ensures updates stands,
      c.capacity.ensures,
      c.if-count-capacity.false,
    ))

pub append-requires : goal.append-requires
append-requires g c =
    let (updates, stands) = c.accepted-accepted.ensures.stands in
    let size = ap (λ (l : List Entry). length l) (c.deref.ensures.value ∙ c.in_ok-deletions.ensures updates stands) in
    let all = ap (λ (l : List Entry). length l) (entries_of-sweep updates c.args.low c.args.high) in
    record {
      ready = c.requires;
      room = omega (
        arith,
        length-append (entries_of updates) c.deref.result.now,
        length-sweep updates c.args.low c.args.high,
        stands.accepted,
        c.accepted-accepted.ensures.count,
        c.accepted-accepted.ensures.within,
        c.count-count.ensures updates stands,
        c.capacity.ensures,
        c.if-count-capacity.false,
        length-append (entries_of updates) (entries_for (map_after updates) (Sweep c.args.low c.args.high)),
      );
    }

pub returns-in_err-append-clause-full : goal.returns-in_err-append-clause-full
returns-in_err-append-clause-full g c = λ updates stands over.
    absurd (omega (
      arith,
      length-sweep updates c.args.low c.args.high,
      stands.accepted,
      c.accepted-accepted.ensures.count,
      c.accepted-accepted.ensures.within,
      c.count-count.ensures updates stands,
      c.capacity.ensures,
      c.if-count-capacity.false,
    ))

pub returns-in_err-append-clause-swept : goal.returns-in_err-append-clause-swept
returns-in_err-append-clause-swept g c =
    applied-memory c.args.self.now c.append.new.self
    (Sweep c.args.low c.args.high ∷ []) c.from_residual-in_err-append.result c.from_residual-in_err-append.ensures.1
    (λ plain. absurd (sweep-plain c.args.low c.args.high plain)) c.in_err-append.ensures.unchanged

pub leave_bare-requires : goal.leave_bare-requires
leave_bare-requires g c = λ entries key cut above below.
    let (updates, stands) = c.accepted-accepted.ensures.stands in
    let swept = updates ++ Sweep c.args.low c.args.high ∷ [] in
    let now : StandsFor c.append.new.self swept =
    subst (IsCutOf c.append.new.self)
    (ap (λ (list : List Entry). entries_of updates ++ list)
    (c.deref.ensures.value ∙ c.in_ok-deletions.ensures updates stands)
    ∙ sym (entries_of-sweep updates c.args.low c.args.high))
    (c.in_ok-append.ensures.cut (entries_of updates) stands) in
    one-value c.append.new.self entries (entries_of swept) key cut now
    ∙ value-none swept key (value-swept updates c.args.low c.args.high key above below)

pub returns-clause-swept : goal.returns-clause-swept
returns-clause-swept g c = record {
  applied = λ updates stands.
      subst (λ (now : Held). StandsFor now (updates ++ Sweep c.args.low c.args.high ∷ [])) (sym c.leave_bare.ensures)
      (subst (IsCutOf c.append.new.self)
      (ap (λ (list : List Entry). entries_of updates ++ list)
      (c.deref.ensures.value ∙ c.in_ok-deletions.ensures updates stands)
      ∙ sym (entries_of-sweep updates c.args.low c.args.high))
      (c.in_ok-append.ensures.cut (entries_of updates) stands));
  refused = refuses-none (StandsFor c.args.self.now) c.args.self.now.accepted
      (capacity_of c.args.self.now) (Sweep c.args.low c.args.high ∷ []) c.count-count.result
      (λ updates stands.
      omega (
        arith,
        length-sweep updates c.args.low c.args.high,
        stands.accepted,
        c.accepted-accepted.ensures.count,
        c.accepted-accepted.ensures.within,
        c.count-count.ensures updates stands,
        c.capacity.ensures,
        c.if-count-capacity.false,
      ))
      (λ plain. absurd (sweep-plain c.args.low c.args.high plain));
  unchanged = tt;
  levels = ap (λ (held : Held). length held.levels) c.leave_bare.ensures ∙ c.append.ensures.levels;
}

pub returns-clause-full : goal.returns-clause-full
returns-clause-full g c = λ updates stands over.
    absurd (omega (
      arith,
      length-sweep updates c.args.low c.args.high,
      stands.accepted,
      c.accepted-accepted.ensures.count,
      c.accepted-accepted.ensures.within,
      c.count-count.ensures updates stands,
      c.capacity.ensures,
      c.if-count-capacity.false,
    ))
