-- Products and quotients by the width of a number.
use Rattle.std.proofs.Common.{ℕ, ◌+◌, ◌*◌, ◌/◌, ◌<◌, ◌≤◌, arith, mul-le-mul_left, mul-add, mul-one, ⊎_elim}
use Rattle.std.proofs.lemmas.Bool.{cases_lt}

-- what is over of whole numbers is less than one
pub over-last : (width n : ℕ) → 0 < width → n < width * (n / width) + width
over-last width n some = omega arith

pub whole-in : (width n : ℕ) → 0 < width → width * (n / width) ≤ n
whole-in width n some = omega arith

-- bytes that fit the room have no more numbers
pub numbers-fit : (width n room : ℕ) → 0 < width → n ≤ width * room → n / width ≤ room
numbers-fit width n room some fit =
    ⊎_elim
    (λ more. let up = mul-le-mul_left width more in
    let split = mul-add width room 1 in let one = mul-one width in absurd (omega arith))
    (λ few. few)
    (cases_lt room (n / width))
