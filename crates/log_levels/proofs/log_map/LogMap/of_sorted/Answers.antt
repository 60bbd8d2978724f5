use Rattle.std.proofs.Common.{◌≡◌, ◌-◌, ◌*◌, ◌%◌, ◌^◌, refl, subst, sym, ◌∙◌, arith}
use Rattle.log_levels.specs.Shapes.{IsCutOf}
use Rattle.log_levels.proofs.HeldLemmas.{capacity_is}
use Rattle.log_levels.proofs.LoadLemmas.{entries-puts, length-put, map-puts, rises-pairs}
use Rattle.log_levels.proofs.log_map.LogMap.of_sorted.Goals as goal

pub returns-then-pairs-accepted-clause-full_only : goal.returns-then-pairs-accepted-clause-full_only
returns-then-pairs-accepted-clause-full_only c = λ accepted is.
    let (whole, some, small) = capacity_is c.args.levels c.args.levels refl c.requires.few in
    let same : 64 * 2 ^ c.args.levels % 2 ^ 64 - 1 ≡ accepted = cc in
    (omega (arith, whole, same), omega (arith, same, c.if-pairs-accepted.true))

pub returns-clause-made : goal.returns-clause-made
returns-clause-made c = record {
  stands = subst (IsCutOf c.in_ok-map.map) (sym (entries-puts c.args.pairs.now)) c.in_ok-map.ensures.cut;
  same = map-puts c.args.pairs.now (rises-pairs c.args.pairs.now (c.in_default.ensures.rising refl));
  accepted = c.in_ok-map.ensures.cut.accepted ∙ length-put c.args.pairs.now;
  level_count = c.in_ok-map.ensures.levels;
}
