-- The cuts are those that were gone over.
use Rattle.std.proofs.Common.{◌<◌, ℕ, arith}
use Rattle.std.proofs.lemmas.List.Elements.{All-from_get_or}
use Rattle.index_tests.proofs.piece_join_rows.are_cuts.Goals as goal

pub returns : goal.returns
returns c = λ yes. record {
  are = record {
    rise = λ k inside. c.loop-cut.invariant.rise k (omega arith);
    inside = All-from_get_or (λ (cut : ℕ). (0 < cut) × (cut < c.args.m)) c.args.cuts.now 0
        (λ k inside. c.loop-cut.invariant.inside k (omega arith));
  };
  few = omega arith;
}
