use Rattle.std.proofs.Common.{◌≡◌, ◌+◌, ◌/◌, ◌∙◌, List, length, subst, sym, ap, arith, Vec, Global}
use Rattle.tombstones.specs.declared.entry.Entry.{Entry}
use Rattle.tombstones.specs.Entries.{IsAscending}
use Rattle.log_levels.specs.Shapes.{IsCutOf}
use Rattle.log_levels.specs.Kept.{IsMergedTo}
use Rattle.log_levels.proofs.GrowthLemmas.{merged-none, merged-some, merged-skip}
use Rattle.log_levels.proofs.log_map.LogMap.merged_below.Goals as goal
use Rattle.log_levels.proofs.log_map.LogMap.merged_below.Goals.{in-Some+in_ok-merged-2, in_default}

pub loop-i-init : goal.loop-i-init
loop-i-init g c = record {
  ascending = c.in_ok-merged.ensures.ascending;
  lasts = λ entries cut. merged-none entries c.blocks_with-blocks.result (length entries / 64)
      c.args.new.now c.args.self.now.buffer c.in_ok-latest.latest.items c.in_ok-merged.merged.items
      (c.blocks_with-blocks.ensures.blocks ∙ ap (λ k. k / 64) (omega (arith, cut.accepted)))
      cut.buffer c.in_ok-latest.ensures c.in_ok-merged.ensures.ascending c.in_ok-merged.ensures.keeps;
}

pub loop-i-preserved : goal.loop-i-preserved
loop-i-preserved g c = elim c.match-level.branch [
  | in-Some+in_ok-merged-2 w ↦
      let is : c.match-level.merged.items
      ≡ w.in_ok-merged-2.merged.items = ap (λ (v : Vec Entry Global). v.items) w.merged-is in
      let next : IsMerged c w.in_ok-merged-2.merged.items = record {
        ascending = w.in_ok-merged-2.ensures.ascending;
        lasts = λ entries cut. merged-some entries c.blocks_with-blocks.result (length entries / 64)
            c.loop-i.i c.args.new.now c.loop-i.merged.items w.deref.result.now w.entries.result.now w.in-Some.level.now
            w.in_ok-merged-2.merged.items _
            (c.blocks_with-blocks.ensures.blocks ∙ ap (λ k. k / 64) (omega (arith, cut.accepted))) w.in-Some.ensures
            (cut.levels c.loop-i.i (omega arith)) w.deref.ensures.value w.entries.ensures.entries
            (c.loop-i.invariant.lasts entries cut)
            w.in_ok-merged-2.ensures.ascending w.in_ok-merged-2.ensures.winners;
      } in
      subst (IsMerged c) (sym is) next
  | in_default w ↦
      let is : c.match-level.merged.items
      ≡ c.loop-i.merged.items = ap (λ (v : Vec Entry Global). v.items) w.merged-is in
      let next : IsMerged c c.loop-i.merged.items = record {
        ascending = c.loop-i.invariant.ascending;
        lasts = λ entries cut. merged-skip entries (length entries / 64) c.loop-i.i c.args.new.now c.loop-i.merged.items
            _ w.in_default.ensures (cut.levels c.loop-i.i (omega arith)) (c.loop-i.invariant.lasts entries cut);
      } in
      subst (IsMerged c) (sym is) next
]
  where
    IsMerged : goal.Joined-level g → List Entry → Type 0
    IsMerged c items = record {
      ascending : IsAscending items;
      lasts : (entries : List Entry) → IsCutOf c.args.self.now entries →
          IsMergedTo entries (length entries / 64) (c.loop-i.i + 1) c.args.new.now items;
    }

pub returns : goal.returns
returns g c =
    λ entries cut. subst (λ i. IsMergedTo entries (length entries / 64) i c.args.new.now c.loop-i.merged.items)
    (omega arith) (c.loop-i.invariant.lasts entries cut)
