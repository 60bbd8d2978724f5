-- The first of all pairs, once sorted, are the nearest, and the last of them tells the number of boxes.
use Rattle.std.proofs.Common.{◌≡◌, ◌-◌, ℕ, List, length, get_or, min, sym, ap, ◌∙◌, subst, refl, arith}
use Rattle.std.specs.Prelude.{All}
use Rattle.std.proofs.lemmas.List.Sorted.{length_permutation}
use Rattle.zorder.specs.Codes.{IsCode}
use Rattle.near.specs.Kept.{HasBits}
use Rattle.near.specs.Nearest.{AreNearest}
use Rattle.near.proofs.BoxesLemmas.{boxes_from_last}
use Rattle.near.proofs.NearestLemmas.{codes_small, nearest_from_first, none_nearest}
use Rattle.near.proofs.search.nearest_into.Goals as goal

pub returns-then-found-eq0-clause-points : goal.returns-then-found-eq0-clause-points
returns-then-found-eq0-clause-points c =
    let boxes = c.args.boxes.now in
    let centre = c.args.centre.now in
    let each = subst (All (IsCode boxes.dims)) c.codes.ensures.codes c.codes.ensures.each in
    let few : c.min-found.result ≡ min (length boxes.codes) c.args.k = c.min-found.ensures
    ∙ ap (λ (codes : List ℕ). min (length codes) c.args.k) c.codes.ensures.codes in
    subst (AreNearest boxes.dims centre boxes.codes c.args.k) (sym c.clear.ensures.items)
    (none_nearest boxes.dims centre boxes.codes c.args.k
    (codes_small boxes.dims centre c.codes.ensures.dimension boxes.codes each) (sym few ∙ c.if-found-eq0.true))

pub returns-clause-points : goal.returns-clause-points
returns-clause-points c =
    let boxes = c.args.boxes.now in
    let each = subst (All (IsCode boxes.dims)) c.codes.ensures.codes c.codes.ensures.each in
    let first = c.fill_nearest.new.points.items in
    let points = c.sort_unstable.new.self.items in
    let moved = length_permutation first points c.sort_unstable.ensures.permutation in
    nearest_from_first boxes.dims
    c.args.centre.now c.codes.ensures.dimension boxes.codes c.args.k first points each c.fill_nearest.ensures.first
    c.sort_unstable.ensures.permutation c.sort_unstable.ensures.sorted
    (omega (
      arith,
      moved,
      c.fill_nearest.ensures.len,
      c.fill_nearest.new.points.ok.0,
      c.min-found.ensures,
      ap length c.codes.ensures.codes,
    ))

pub returns-clause-boxes : goal.returns-clause-boxes
returns-clause-boxes c =
    let boxes = c.args.boxes.now in
    let each = subst (All (IsCode boxes.dims)) c.codes.ensures.codes c.codes.ensures.each in
    let first = c.fill_nearest.new.points.items in
    let points = c.sort_unstable.new.self.items in
    let found = c.min-found.result in
    let moved = length_permutation first points c.sort_unstable.ensures.permutation in
    let near : AreNearest boxes.dims c.args.centre.now boxes.codes c.args.k points =
    nearest_from_first boxes.dims
    c.args.centre.now c.codes.ensures.dimension boxes.codes c.args.k first points each c.fill_nearest.ensures.first
    c.sort_unstable.ensures.permutation c.sort_unstable.ensures.sorted
    (omega (
      arith,
      moved,
      c.fill_nearest.ensures.len,
      c.fill_nearest.new.points.ok.0,
      c.min-found.ensures,
      ap length c.codes.ensures.codes,
    )) in
    let long : found
    ≡ length points = omega (arith, moved, c.fill_nearest.ensures.len, c.fill_nearest.new.points.ok.0) in
    let bits = c.box_count.ensures.bits in
    let last = subst (λ (pair : ℕ × ℕ). HasBits pair.0 bits.0) c.index.ensures bits.2 in
    let last' = subst (λ (n : ℕ). HasBits (get_or points (n - 1) c.index.result.now).0 bits.0) long last in
    boxes_from_last boxes.dims c.args.centre.now c.codes.ensures.dimension
    (omega (arith, c.told-centre, c.codes.ensures.dimension)) boxes.codes c.args.k (length points) bits.0
    c.box_count.result points c.index.result.now each near refl (omega (arith, long, c.if-found-eq0.false)) last' bits.1
