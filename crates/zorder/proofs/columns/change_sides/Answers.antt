-- What changes sides is combined with either, at its places there.
use Rattle.std.proofs.Common.{ℕ, ◌*◌, ◌%◌, ◌^◌, get_or, replicate, refl, ap, ◌∙◌, bit_xor}
use lib.Lanes.{zip2}
use Rattle.zorder.proofs.LaneLemmas.{long, lane, lane_with}
use Rattle.zorder.proofs.columns.change_sides.Goals as goal

abbrev up : ℕ → ℕ → ℕ
up a b = a * 2 ^ b % 2 ^ 8

pub returns-clause-lower : goal.returns-clause-lower
returns-clause-lower c =
    let t = c.crossing_bits-crossing.result in
    let moved = zip2 up t (replicate 16 c.args.shift) in
    let long_moved = long up t (replicate 16 c.args.shift) c.crossing_bits-crossing.ensures.len refl in
    record {
      len = long bit_xor c.args.a moved c.fits-a.0 long_moved;
      lanes = λ l h. lane bit_xor c.args.a moved c.fits-a.0 long_moved l h
          ∙ ap (bit_xor (get_or c.args.a l 0))
          (lane_with up t c.args.shift c.crossing_bits-crossing.ensures.len l h
          ∙ ap (λ n. up n c.args.shift) (c.crossing_bits-crossing.ensures.lanes l h));
    }

pub returns-clause-upper : goal.returns-clause-upper
returns-clause-upper c =
    let t = c.crossing_bits-crossing.result in
    record {
      len = long bit_xor c.args.b t c.fits-b.0 c.crossing_bits-crossing.ensures.len;
      lanes = λ l h. lane bit_xor c.args.b t c.fits-b.0 c.crossing_bits-crossing.ensures.len l h
          ∙ ap (bit_xor (get_or c.args.b l 0)) (c.crossing_bits-crossing.ensures.lanes l h);
    }
