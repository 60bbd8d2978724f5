-- Lane by lane: the tables' bytes for either half.
use Rattle.std.proofs.Common.{◌≡◌, ℕ, ◌/◌, ◌^◌, ◌<◌, List, get_or, replicate, refl, ap, ◌∙◌, arith, bit_and, bit_or, w8}
use Rattle.std.specs.Int.{bit_at}
use Rattle.std.proofs.lemmas.Nat.{and_le_r}
use Rattle.std.proofs.lemmas.Simd.{Each1-all, Each1-get_or, Each1-weaker, Each1-zip2, Each2-splat}
use Rattle.std.proofs.lemmas.Simd.{SwzOk-from_below, below_from_Fits, get_or-swz_l_below, length-swz_l, swz_l}
use lib.Lanes.{zip2}
use Rattle.zorder.specs.declared.triples.TheConstants.{OF_LOW, OF_HIGH}
use Rattle.zorder.proofs.LaneLemmas.{long, lane, lane_with}
use Rattle.zorder.proofs.ThirdLemmas.{bit_at-in_thirds}
use Rattle.zorder.proofs.triples.bits_in_thirds.Goals as goal

abbrev down : ℕ → ℕ → ℕ
down a b = a / 2 ^ b

abbrev low : List ℕ → List ℕ
low v = zip2 bit_and v (replicate 16 15)

abbrev high : List ℕ → List ℕ
high v = zip2 down v (replicate 16 4)

pub swizzle-low : goal.swizzle-low
swizzle-low c =
    let v = c.args.bytes in
    SwzOk-from_below w8 16 1 16 0 (low v) refl (omega (arith, long bit_and v (replicate 16 15) c.fits-bytes.0 refl))
    (Each1-zip2 bit_and (λ j. j < 16) v (replicate 16 15)
    (Each2-splat
    (λ a b. bit_and a b < 16) v 16 15 (Each1-all (λ a. bit_and a 15 < 16) (λ a. omega (arith, and_le_r a 15)) v)))

pub swizzle-high : goal.swizzle-high
swizzle-high c =
    let v = c.args.bytes in
    SwzOk-from_below w8 16 1 16 0 (high v) refl (omega (arith, long down v (replicate 16 4) c.fits-bytes.0 refl))
    (Each1-zip2 down (λ j. j < 16) v (replicate 16 4) (Each2-splat (λ a b. down a b < 16) v 16 4
    (Each1-weaker (λ a. a < 256) (λ a. down a 4 < 16) (λ a h. omega arith) v (below_from_Fits w8 v c.fits-bytes.1))))

pub returns-clause-long : goal.returns-clause-long
returns-clause-long c =
    let v = c.args.bytes in
    let long_low = length-swz_l w8 16 OF_LOW 0 (low v) ∙ long bit_and v (replicate 16 15) c.fits-bytes.0 refl in
    let long_high = length-swz_l w8 16 OF_HIGH 0 (high v) ∙ long down v (replicate 16 4) c.fits-bytes.0 refl in
    long bit_or (swz_l w8 16 OF_LOW 0 (low v)) (swz_l w8 16 OF_HIGH 0 (high v)) long_low long_high

pub returns-clause-bits : goal.returns-clause-bits
returns-clause-bits c l q within near =
    let v = c.args.bytes in
    let x = get_or v l 0 in
    let long_and = long bit_and v (replicate 16 15) c.fits-bytes.0 refl in
    let long_down = long down v (replicate 16 4) c.fits-bytes.0 refl in
    let long_low = length-swz_l w8 16 OF_LOW 0 (low v) ∙ long_and in
    let long_high = length-swz_l w8 16 OF_HIGH 0 (high v) ∙ long_down in
    let byte : x < 256 =
    Each1-get_or (λ x. x < 256) v l 0 (omega (arith, c.fits-bytes.0)) (below_from_Fits w8 v c.fits-bytes.1) in
    let at_low : get_or (low v) l 0 ≡ bit_and x 15 = lane_with bit_and v 15 c.fits-bytes.0 l within in
    let at_high : get_or (high v) l 0 ≡ x / 2 ^ 4 = lane_with down v 4 c.fits-bytes.0 l within in
    let from_low : get_or (swz_l w8 16 OF_LOW 0 (low v)) l 0 ≡ get_or OF_LOW (bit_and x 15) 0 =
    get_or-swz_l_below w8 16 OF_LOW 0 (low v) l (omega (arith, long_and)) (omega (arith, at_low, and_le_r x 15))
    ∙ ap (λ k. get_or OF_LOW k 0) (omega (arith, at_low)) in
    let from_high : get_or (swz_l w8 16 OF_HIGH 0 (high v)) l 0 ≡ get_or OF_HIGH (x / 2 ^ 4) 0 =
    get_or-swz_l_below w8 16 OF_HIGH 0 (high v) l (omega (arith, long_down)) (omega (arith, at_high))
    ∙ ap (λ k. get_or OF_HIGH k 0) (omega (arith, at_high)) in
    ap (λ n. bit_at n q)
    (lane bit_or (swz_l w8 16 OF_LOW 0 (low v)) (swz_l w8 16 OF_HIGH 0 (high v)) long_low long_high l within
    ∙ ap (λ n. bit_or n (get_or (swz_l w8 16 OF_HIGH 0 (high v)) l 0)) from_low
    ∙ ap (bit_or (get_or OF_LOW (bit_and x 15) 0)) from_high)
    ∙ bit_at-in_thirds x q byte near
