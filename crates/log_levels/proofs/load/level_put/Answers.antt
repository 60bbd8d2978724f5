-- The level of a bit is its part of the pairs.
use Rattle.std.proofs.Common.{◌≡◌, ◌/◌, ◌++◌, Some, List, length, subst, sym, ap, ◌∙◌, arith, inl, inr}
use Rattle.std.proofs.lemmas.Nat.{div-add-mod'}
use Rattle.std.specs.Int.{bit_at}
use Rattle.tombstones.specs.declared.entry.Entry.{Entry}
use Rattle.tombstones.specs.Entries.{IsAscending}
use Rattle.log_levels.specs.Shapes.{IsLevelFor}
use Rattle.log_levels.specs.Kept.{entries_put}
use Rattle.log_levels.proofs.BitLemmas.{bit-cases, from_bit-antitone, from_bit-le}
use Rattle.log_levels.proofs.LoadLemmas.{ascending-part, part-put, rises-pairs}
use Rattle.log_levels.proofs.load.level_put.Goals as goal

pub part-part-requires-clause-order : goal.part-part-requires-clause-order
part-part-requires-clause-order c =
    omega (
      arith,
      from_bit-antitone c.args.i 1 (length c.args.pairs.now / 64),
      c.entries_from_bit-start.ensures,
      c.entries_from_bit-end.ensures,
    )

pub part-part-requires-clause-within : goal.part-part-requires-clause-within
part-part-requires-clause-within c =
    omega (
      arith,
      from_bit-le c.args.i (length c.args.pairs.now / 64),
      div-add-mod' (length c.args.pairs.now) 64,
      c.entries_from_bit-end.ensures,
    )

pub shared-requires-clause-ascending : goal.shared-requires-clause-ascending
shared-requires-clause-ascending c =
    subst IsAscending
    (sym (c.put_each.ensures.items
    ∙ ap (λ (l : List Entry). l ++ entries_put c.part-part.result.now) c.in_ok-entries.ensures.items
    ∙ ap entries_put c.part-part.ensures.part))
    (ascending-part c.args.pairs.now c.entries_from_bit-start.result c.entries_from_bit-end.result
    (rises-pairs c.args.pairs.now c.requires.rising))

pub returns : goal.returns
returns c =
    let blocks = length c.args.pairs.now / 64 in
    let set : bit_at blocks c.args.i
    ≡ 1 = elim (bit-cases blocks c.args.i) [ inl clear ↦ absurd (c.if-blocks-i-eq0.false clear) | inr set ↦ set ] in
    subst (λ list. IsLevelFor (entries_put c.args.pairs.now) blocks c.args.i (Some list))
    (sym (c.in_ok-shared.ensures ∙ c.put_each.ensures.items
    ∙ ap (λ (l : List Entry). l ++ entries_put c.part-part.result.now) c.in_ok-entries.ensures.items
    ∙ ap entries_put c.part-part.ensures.part))
    (part-put c.args.pairs.now blocks c.args.i c.entries_from_bit-start.result c.entries_from_bit-end.result
    (rises-pairs c.args.pairs.now c.requires.rising)
    set c.entries_from_bit-start.ensures c.entries_from_bit-end.ensures)
