-- The numbers of a region as its corners, and those of a centre.
use Rattle.std.proofs.Common.{◌≡◌, ℕ, zero, suc, ◌+◌, ◌-◌, ◌^◌, ◌<◌, ◌≤◌, List, [], ◌∷◌, ◌++◌, length}
use Rattle.std.proofs.Common.{length-append, take, drop, get_or, replicate, sym, ap, ◌∙◌, arith, lit≤}
use Rattle.std.proofs.lemmas.List.{take-take, drop-take, get_or-replicate, get_or_append_left, length-replicate}
use Rattle.zorder.specs.Codes.{IsDimension, coordinate_bits}
use Rattle.zorder.specs.declared.regions.Region.{Region}
use Rattle.pgm_script.specs.Commands.{box_command, corner, greatest, most_points, near_command, region_of}
use Rattle.pgm_script.specs.Verbs.{AreWithin}

-- a corner is that of the numbers up to its end
low-corner : (d : ℕ) (numbers : List ℕ) → corner d numbers ≡ corner d (take (d + d) numbers)
low-corner d numbers = ap (λ (w : List ℕ). w ++ replicate (4 - d) 0) (sym (take-take d (d + d) numbers (omega arith)))

high-corner : (d : ℕ) (numbers : List ℕ) → corner d (drop d numbers) ≡ corner d (drop d (take (d + d) numbers))
high-corner d numbers =
    ap (λ (w : List ℕ). w ++ replicate (4 - d) 0)
    (sym (ap (take d) (drop-take d d numbers) ∙ take-take d d (drop d numbers) (omega arith)))

same-region : (d d' : ℕ) (low low' high high' : List ℕ) → d ≡ d' → low ≡ low' → high ≡ high' →
    (let one : Region = record { d = d; low = low; high = high } in
    let other : Region = record { d = d'; low = low'; high = high' } in one ≡ other)
same-region d d' low low' high high' p q r = cc

pub region-is : (region : Region) (d : ℕ) (numbers : List ℕ) → region.d ≡ d → region.low ≡ corner d numbers →
    region.high ≡ corner d (drop d numbers) → region ≡ region_of d (take (d + d) numbers)
region-is region d numbers same low high =
    same-region region.d d region.low (corner d (take (d + d) numbers)) region.high
    (corner d (drop d (take (d + d) numbers))) same (low ∙ low-corner d numbers) (high ∙ high-corner d numbers)

pub of-dimension : (P : ℕ → Type 0) → P 2 → P 3 → P 4 → (d : ℕ) → IsDimension d → P d
of-dimension P two three four zero is = absurd (omega arith)
of-dimension P two three four (suc zero) is = absurd (omega arith)
of-dimension P two three four (suc (suc zero)) is = two
of-dimension P two three four (suc (suc (suc zero))) is = three
of-dimension P two three four (suc (suc (suc (suc zero)))) is = four
of-dimension P two three four (suc (suc (suc (suc (suc d))))) is = absurd (omega arith)

bits-few : (d : ℕ) → IsDimension d → 2 ^ coordinate_bits d ≤ 2 ^ 32
bits-few = of-dimension (λ d. 2 ^ coordinate_bits d ≤ 2 ^ 32) (lit≤ tt) (lit≤ tt) (lit≤ tt)

-- a number in range has at most 32 bits
pub in-range : (d : ℕ) (numbers : List ℕ) (c : ℕ) →
    IsDimension d → AreWithin (box_command d).most numbers → c < d + d → get_or numbers c 0 < 2 ^ 32
in-range d numbers c dimension all below =
    omega (
      arith,
      all c (omega (arith, below, length-replicate (d + d) (greatest d))),
      get_or-replicate (d + d) c (greatest d) 0 below,
      bits-few d dimension,
    )

-- ---- a centre and how many points are asked for

pub near-count : (d : ℕ) → length (near_command d).most ≡ d + 1
near-count d = length-append (replicate d (greatest d)) (most_points ∷ [])
    ∙ ap (λ (n : ℕ). n + 1) (length-replicate d (greatest d))

-- each coordinate is in the range of a coordinate
pub near-coordinate : (d : ℕ) (numbers : List ℕ) (c : ℕ) →
    AreWithin (near_command d).most numbers → c < d → get_or numbers c 0 ≤ greatest d
near-coordinate d numbers c all below =
    omega (
      arith,
      all c (omega (arith, near-count d)),
      get_or_append_left
          (replicate d (greatest d)) (most_points ∷ []) 0 c (omega (arith, length-replicate d (greatest d))),
      get_or-replicate d c (greatest d) 0 below,
    )
