use Rattle.std.proofs.Common.{subst, inl, inr}
use Rattle.log_levels.specs.Shapes.{IsCutOf}
use Rattle.log_levels.proofs.log_map.LogMap.leave_bare.Goals as goal

pub invariant_of-self : goal.invariant_of-self
invariant_of-self c = record {
  cut = c.self.invariant.cut;
  roomy = c.self.invariant.roomy;
  some = c.self.invariant.some;
  few = c.self.invariant.few;
  bare = λ entries key cut inside. elim (c.with-self-inside.ensures key inside) [
    | inl was ↦ c.self.invariant.bare entries key cut was
    | inr between ↦ c.requires entries key (subst (λ held. IsCutOf held entries) c.self.view_is cut) between.0 between.1
  ];
}
