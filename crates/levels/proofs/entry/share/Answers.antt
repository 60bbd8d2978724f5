-- One level more has its share.
use Rattle.std.proofs.Common.{◌≡◌, ◌+◌, ◌-◌, ◌*◌, ◌^◌, ◌≤◌, ap, subst, arith}
use Rattle.std.proofs.Math.Nat.{pow-zero}
use Rattle.levels.proofs.EntryLemmas.{share-up}
use Rattle.levels.proofs.entry.share.Goals as goal

pub loop-level-init : goal.loop-level-init
loop-level-init c = record {
  from = omega arith;
  to = omega (arith, c.requires);
  share = omega (arith, pow-zero (4 * (2 * c.args.eps_rec + 3)));
}

pub loop-level-preserved : goal.loop-level-preserved
loop-level-preserved c =
    let inv = c.loop-level.invariant in
    record {
      from = omega (arith, inv.from);
      to = omega (arith, c.loop-level-test.true);
      share = share-up (4 * (2 * c.args.eps_rec + 3))
          c.loop-level._level c.loop-level.most c.saturating_mul-most.result inv.from inv.share
          (omega
          (arith, c.saturating_mul-most.ensures, ap (λ e. c.loop-level.most * (4 * (2 * e + 3))) c.from.ensures));
    }

pub returns : goal.returns
returns c =
    let inv = c.loop-level.invariant in
    let all : c.loop-level._level ≡ c.args.levels = omega (arith, inv.to, c.loop-level-test.false) in
    subst (λ n. c.loop-level.most ≤ (4 * (2 * c.args.eps_rec + 3)) ^ (n - 1)) all inv.share
