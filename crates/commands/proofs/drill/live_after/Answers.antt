-- The map has room for more updates than there are.
use Rattle.std.proofs.Common.{◌≡◌, ◌-◌, ◌*◌, ◌^◌, ◌∙◌, [], Err, ap, length, refl, ℕ, arith}
use Rattle.log_levels.specs.declared.fault.MapFault.TheVariants.{Full}
use Rattle.log_levels.specs.Accepted.{entries_from, entries_of}
use Rattle.log_levels.specs.Shapes.{capacity_of}
use Rattle.log_levels.proofs.UpdateLemmas.{length-plain}
use Rattle.commands.proofs.drill.live_after.Goals as goal

pub unreachable-requires : goal.unreachable-requires
unfolding entries_from
unreachable-requires g c =
    let is : c.apply.result ≡ Err (Full c.in-Err-Full.field-0-0) = c.in-Err-Full.is ∙ ap Err c.in-Err-Full.field-0-is in
    let over = (c.apply.ensures.refused.full_only c.in-Err-Full.field-0-0 is).1 [] c.in_ok-map.ensures.empty in
    let many = length-plain [] c.args.updates.now c.requires.plain in
    let none : length (entries_of []) ≡ 0 = refl in
    let room : capacity_of c.in_ok-map.map
    ≡ 67108863 = ap (λ (levels : ℕ). 64 * 2 ^ levels - 1) c.in_ok-map.ensures.levels in
    omega (arith, over, many, none, room, c.requires.few)
