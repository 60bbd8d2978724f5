use Rattle.std.proofs.Common.{subst}
use Rattle.log_levels.specs.Shapes.{StandsFor, capacity_of}
use Rattle.log_levels.specs.Refusals.{Refuses}
use Rattle.log_levels.proofs.RefusalLemmas.{applied-err, refuses-ok}
use Rattle.log_levels.proofs.log_map.LogMap.apply_here.Goals as goal

pub returns-in_err-self : goal.returns-in_err-self
returns-in_err-self c =
    applied-err
    c.args.self.now c.args.updates.now c.in_err-self.field-0.0 c.from_residual.result c.from_residual.ensures.1
    (subst (Refuses c.args.self.now c.args.updates.now) c.in_err-self.was c.with_updates.ensures.refused)

pub returns : goal.returns
returns c = record {
  applied = c.in_ok-self.ensures.applied;
  refused = refuses-ok (StandsFor c.args.self.now) c.args.self.now.accepted
      (capacity_of c.args.self.now) c.args.updates.now c.in_ok-self.field-0 tt
      (subst (Refuses c.args.self.now c.args.updates.now) c.in_ok-self.was c.with_updates.ensures.refused);
  unchanged = tt;
  levels = c.in_ok-self.ensures.levels;
}
