use Rattle.std.proofs.Common.{◌≡◌, ◌++◌, ◌∷◌, [], List, Err, length, take, ap, ◌∙◌, arith}
use Rattle.std.proofs.lemmas.List.{take_more}
use Rattle.log_levels.specs.declared.update.Update.{Update}
use Rattle.log_levels.specs.declared.update.Update.TheVariants.{Put, Sweep}
use Rattle.log_levels.specs.declared.fault.MapFault.{MapFault}
use Rattle.log_levels.specs.declared.fault.MapFault.TheVariants.{Full}
use Rattle.log_levels.specs.Accepted.{entries_of}
use Rattle.log_levels.proofs.UpdateLemmas.{length-first, length-plain}
use Rattle.log_levels.proofs.log_map.LogMap.add_run.Goals as goal

pub returns-in-Err-clause-full_only : goal.returns-in-Err-clause-full_only
returns-in-Err-clause-full_only g c = λ accepted is before stands.
    let over = (c.in-Err.ensures.swept.refused.full_only accepted is).1 before stands in
    let first : take 1 c.args.updates.now ≡ Sweep c.in-Sweep.low c.in-Sweep.high ∷ [] =
    take_more c.args.updates.now 0 (Put 0 0) c.requires.some ∙ ap (λ update. update ∷ []) c.in-Sweep.is in
    omega (
      arith,
      over,
      length-first 1 before c.args.updates.now,
      ap (λ (list : List Update). length (entries_of (before ++ list))) first,
    )

pub returns-in-Err-add_plain : goal.returns-in-Err-add_plain
returns-in-Err-add_plain g c = record {
  some = tt;
  within = tt;
  added = tt;
  full_only = λ accepted is before stands.
      let fault : c.in-Err-add_plain.fault ≡ Full accepted = cc in
      let over = c.in-Err-add_plain.ensures.full_only accepted (ap (λ (f : MapFault). Err f) fault) in
      omega (
        arith,
        over,
        stands.accepted,
        length-first c.plain_len-count.result before c.args.updates.now,
        length-plain before (take c.plain_len-count.result c.args.updates.now) c.plain_len-count.ensures.plain,
      );
  levels = c.in-Err-add_plain.ensures.levels;
}
