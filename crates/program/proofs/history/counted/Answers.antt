use Rattle.std.proofs.Common.{◌≡◌, ◌∙◌, [], Err, ap, length, arith}
use Rattle.log_levels.specs.declared.fault.MapFault.TheVariants.{Full}
use Rattle.log_levels.proofs.UpdateLemmas.{length-plain, entries_of-none}
use Rattle.program.proofs.FewEntries.{room_for_all}
use Rattle.program.proofs.history.counted.Goals as goal

pub returns-then-are_plain-clause-count : goal.returns-then-are_plain-clause-count
returns-then-are_plain-clause-count c =
    let none = ap length entries_of-none in
    let more = length-plain [] c.args.updates.now (c.are_plain.ensures c.if-are_plain.true) in
    omega (arith, more, none)

-- a full map would have more entries than two for each update
pub unreachable-requires : goal.unreachable-requires
unreachable-requires c =
    let accepted = c.in-Err-Full.field-0-0 in
    let full : c.apply_here.result ≡ Err (Full accepted) = c.in-Err-Full.is ∙ ap Err c.in-Err-Full.field-0-is in
    let over = (c.apply_here.ensures.refused.full_only accepted full).1 [] c.in_ok-map.ensures.empty in
    let room = room_for_all c.in_ok-map.map c.args.updates.now c.in_ok-map.ensures.levels c.requires in
    omega (arith, over, room)
