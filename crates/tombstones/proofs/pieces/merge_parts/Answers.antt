-- A part's merge is put behind those of the parts before it.
use Rattle.std.proofs.Common.{◌≡◌, ◌∙◌, ◌+◌, ◌<◌, ◌≤◌, Some, Ok, IfOk, ap, subst, sym}
use Rattle.std.proofs.Common.{arith, List, ◌++◌, slice_index_or, length, max, Vec, Global}
use Rattle.std.proofs.lemmas.Result.{IfOk-at_ok}
use Rattle.tombstones.specs.declared.entry.Entry.{Entry}
use Rattle.tombstones.specs.Parts.{IsBetween, IsMergedPart, edge_of, longer_of, merged_at}
use Rattle.tombstones.proofs.PartLemmas.{one_part_more}
use Rattle.tombstones.proofs.pieces.merge_parts.Goals as goal

pub loop-list-preserved : goal.loop-list-preserved
loop-list-preserved g c =
    let i = c.loop-list.list-index in
    let newer = c.args.newer.now in
    let older = c.args.older.now in
    let inside : i < c.min-parts.result =
    omega (arith, c.in_ok-lists.ensures.len, c.deref-list-items.ensures.len, c.in_ok-lists.lists.ok.0) in
    let few : c.min-parts.result ≤ max (length newer) (length older) = omega arith in
    let called = (c.in_ok-lists.ensures.each i c.list-item.result inside).1.met in
    let IsPart = λ (list : Vec Entry Global). IsMergedPart newer older c.args.deepest c.min-parts.result i list.items in
    let of_call : IfOk (slice_index_or c.in_ok-lists.lists.items i c.list-item.result) IsPart = called in
    let is : slice_index_or c.in_ok-lists.lists.items i c.list-item.result ≡ Ok c.in-Ok.list =
    sym (ap (λ lists. slice_index_or lists i c.list-item.result) c.deref-list-items.ensures.value)
    ∙ sym c.list-item.is ∙ c.in-Ok.is in
    let part : IsMergedPart newer older c.args.deepest c.min-parts.result i c.in-Ok.list.items =
    IfOk-at_ok IsPart {x = c.in-Ok.list} is of_call in
    subst (IsBetween
    (Some 0) (edge_of (longer_of newer older) c.min-parts.result (i + 1)) (merged_at newer older c.args.deepest))
    (sym (c.in_ok-extend_from_slice-in-Ok.ensures.items
    ∙ ap (λ (list : List Entry). c.loop-list.merged.items ++ list) c.deref.ensures.value))
    (one_part_more newer older c.args.deepest c.min-parts.result i c.loop-list.merged.items
    c.in-Ok.list.items c.requires.newer_ascending c.requires.older_ascending few inside c.loop-list.invariant part)
