use Rattle.std.proofs.Common.{◌++◌, ◌∷◌, [], refl, subst, sym, ap, ◌∙◌, arith}
use Rattle.tombstones.specs.declared.entry.Entry.{Entry}
use Rattle.log_levels.specs.Accepted.{entries_of}
use Rattle.log_levels.specs.Shapes.{IsCutOf, StandsFor, capacity_of}
use Rattle.log_levels.proofs.RefusalLemmas.{applied-memory, plain-one, refuses-full, refuses-none}
use Rattle.log_levels.proofs.UpdateLemmas.{entries_of-plain, length-plain}
use Rattle.log_levels.proofs.log_map.LogMap.add.Goals as goal

pub returns-then-accepted-capacity : goal.returns-then-accepted-capacity
returns-then-accepted-capacity c = λ update plain is. record {
  applied = tt;
  refused = refuses-full (StandsFor c.args.self.now) c.args.self.now.accepted
      (capacity_of c.args.self.now) c.accepted-accepted.result (update ∷ []) c.accepted-accepted.ensures.count
      (λ before stands. omega (
        arith,
        length-plain before (update ∷ []) (plain-one update plain),
        stands.accepted,
        c.accepted-accepted.ensures.count,
        c.capacity.ensures,
        c.if-accepted-capacity.true,
      ))
      (λ all. omega (arith, c.accepted-accepted.ensures.count, c.capacity.ensures, c.if-accepted-capacity.true));
  unchanged = refl;
  levels = refl;
}

pub returns-in_err-append : goal.returns-in_err-append
returns-in_err-append c = λ update plain is.
    applied-memory c.args.self.now c.append.new.self (update ∷ []) c.from_residual.result c.from_residual.ensures.1
    (λ all. omega (
      arith,
      c.accepted-accepted.ensures.count,
      c.accepted-accepted.ensures.within,
      c.capacity.ensures,
      c.if-accepted-capacity.false,
    ))
    c.in_err-append.ensures.unchanged

pub returns : goal.returns
returns c = λ update plain is.
    record {
      applied = λ before stands. subst (IsCutOf c.append.new.self)
          (ap (λ (entry : Entry). entries_of before ++ entry ∷ []) is
          ∙ sym (entries_of-plain before (update ∷ []) (plain-one update plain)))
          (c.in_ok-append.ensures.cut (entries_of before) stands);
      refused = refuses-none
          (StandsFor c.args.self.now) c.args.self.now.accepted (capacity_of c.args.self.now) (update ∷ []) tt
          (λ before stands. omega (
            arith,
            length-plain before (update ∷ []) (plain-one update plain),
            stands.accepted,
            c.accepted-accepted.ensures.count,
            c.accepted-accepted.ensures.within,
            c.capacity.ensures,
            c.if-accepted-capacity.false,
          ))
          (λ all. omega (
            arith,
            c.accepted-accepted.ensures.count,
            c.accepted-accepted.ensures.within,
            c.capacity.ensures,
            c.if-accepted-capacity.false,
          ));
      unchanged = tt;
      levels = c.append.ensures.levels;
    }
