-- No number stands in a higher step than the last one.
use Rattle.std.proofs.Common.{◌-◌, length, slice_index, arith}
use Rattle.std.proofs.lemmas.Bool.{ltb-true}
use Rattle.radix_table.proofs.CountLemmas.{Rises-scale}
use Rattle.radix_table.proofs.scale.Scale.has_fewer_than.Goals as goal

pub returns-else-is_empty : goal.returns-else-is_empty
returns-else-is_empty c = λ less k inside.
    let scale = c.args.self.now in
    let xs = c.args.xs.now in
    let last = length xs - 1 in
    let up = Rises-scale scale c.requires.scale in
    let below = ltb-true c.step.result c.args.most less in
    omega (
      arith,
      below,
      c.step.ensures,
      c.requires.most,
      up.rises (slice_index xs k) (slice_index xs last) (c.requires.order k last 0 (omega arith) (omega arith)),
    )
