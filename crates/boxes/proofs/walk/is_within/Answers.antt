-- The distances compare as the coordinate and its ends do.
use Rattle.std.proofs.Common.{◌≤◌, subst, inl, inr, arith}
use Rattle.std.proofs.lemmas.Bool.{and_parts, and_from, cases_eq, leb-true, le-leb}
use Rattle.zorder.specs.Dilated.{dilated}
use Rattle.boxes.proofs.OrderedCorners.{distance_within}
use Rattle.boxes.proofs.walk.is_within.Goals as goal

pub loop-c-preserved : goal.loop-c-preserved
loop-c-preserved c =
    let low = c.dilated_coordinate-least in
    let high = c.dilated_coordinate in
    let z = c.dilated_coordinate-in-loop-c in
    let ordered : low.result ≤ high.result =
    omega (arith, c.requires.ordered c.loop-c.c c.loop-c-test.true, low.ensures, high.ensures) in
    let near = distance_within low.result high.result z.result ordered high.type_inv z.type_inv in (
      λ passes.
          let parts = and_parts _ _ passes in
          let here = near.0 (leb-true _ _ parts.1) in
          λ k below. elim (cases_eq c.loop-c.c k) [
            | inl same ↦
                subst (λ i. (dilated c.args.d i c.args.low ≤ dilated c.args.d i c.args.z)
                × (dilated c.args.d i c.args.z ≤ dilated c.args.d i c.args.high)) same
                (omega (arith, here.0, low.ensures, z.ensures), omega (arith, here.1, high.ensures, z.ensures))
            | inr apart ↦ c.loop-c.invariant.0 parts.0 k (omega arith)
          ],
      λ each.
          let here = each c.loop-c.c (omega arith) in
          and_from _ _ (c.loop-c.invariant.1 (λ k below. each k (omega arith)))
          (le-leb _ _
          (near.1 (omega (arith, here.0, low.ensures, z.ensures), omega (arith, here.1, high.ensures, z.ensures)))),
    )
