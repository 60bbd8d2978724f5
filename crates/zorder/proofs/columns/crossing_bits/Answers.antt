-- Lane by lane: a shift, a difference and a mask.
use Rattle.std.proofs.Common.{ℕ, ◌/◌, ◌^◌, get_or, replicate, refl, ap, ◌∙◌, bit_and, bit_xor}
use lib.Lanes.{zip2}
use Rattle.zorder.proofs.LaneLemmas.{long, lane, lane_with}
use Rattle.zorder.proofs.columns.crossing_bits.Goals as goal

abbrev down : ℕ → ℕ → ℕ
down a b = a / 2 ^ b

pub returns : goal.returns
returns c =
    let shifted = zip2 down c.args.a (replicate 16 c.args.shift) in
    let long_shifted = long down c.args.a (replicate 16 c.args.shift) c.fits-a.0 refl in
    let long_differing = long bit_xor shifted c.args.b long_shifted c.fits-b.0 in
    record {
      len = long bit_and (zip2 bit_xor shifted c.args.b) (replicate 16 c.args.mask) long_differing refl;
      lanes = λ l h. lane_with bit_and (zip2 bit_xor shifted c.args.b) c.args.mask long_differing l h
          ∙ ap (λ n. bit_and n c.args.mask) (lane bit_xor shifted c.args.b long_shifted c.fits-b.0 l h
          ∙ ap (λ n. bit_xor n (get_or c.args.b l 0)) (lane_with down c.args.a c.args.shift c.fits-a.0 l h));
    }
