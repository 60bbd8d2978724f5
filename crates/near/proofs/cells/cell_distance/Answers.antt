-- By one more coordinate none is nearer.
use Rattle.std.proofs.Common.{◌+◌, ◌-◌, ◌*◌, ◌/◌, ◌^◌, ◌≤◌, ℕ, ap, sym, ◌∙◌, arith, w64}
use Rattle.std.specs.Prelude.{bit_xor}
use Rattle.std.specs.Int.{leading_zeros}
use Rattle.zorder.specs.Codes.{coordinate}
use Rattle.zorder.proofs.CallerLemmas.{code_fits}
use Rattle.near.proofs.CellLemmas.{begin_alike, between_alike, coordinates_alike, differing_bits}
use Rattle.near.proofs.Distances.{apart_from_distance}
use Rattle.near.proofs.cells.cell_distance.Goals as goal

pub loop-c-preserved : goal.loop-c-preserved
loop-c-preserved c = λ z code from to.
    let d = c.args.d in
    let at = c.loop-c.c in
    let first = c.args.first in
    let last = c.args.last in
    let n = 64 - leading_zeros w64 (bit_xor first last) in
    let free = (n + d - 1 - at) / d in
    let alike = between_alike first last z n
    (begin_alike first last n
    (differing_bits first last (code_fits d first c.requires.dimension c.requires.code) c.ranges.last.fits))
    from to in
    let enough : n ≤ free * d + at = omega arith in
    let same =
    coordinates_alike d at first z n free (omega arith) (code_fits d first c.requires.dimension c.requires.code)
    (code_fits d z c.requires.dimension code) alike enough in
    let near = c.interval_distance.ensures (coordinate d at z)
    (same ∙ ap (λ (v : ℕ). v / 2 ^ free) (sym (c.decode-coords.ensures.coordinates at (omega arith)))) in
    omega (arith, near, apart_from_distance d c.args.centre.now z at (omega arith), c.loop-c.invariant z code from to)
