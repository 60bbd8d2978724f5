-- How many digits write a number.
--
-- Main result: a number from 10^k on and below 10^(k + 1) has k + 1 digits (`length-decimal`).
use Rattle.std.proofs.Common.{◌≡◌, ℕ, zero, suc, ◌+◌, ◌*◌, ◌/◌, ◌^◌, ◌<◌, ◌≤◌, length, ap, ◌∙◌, arith, length-append}
use Rattle.std.proofs.Math.Nat.{pow-succ'}
use Rattle.std.specs.Fmt.{decimal}
use Rattle.std.proofs.lemmas.Fmt.{decimal_digit, decimal_step, decimal_nonempty, length-decimal-le}

one-more : (n : ℕ) → 10 ≤ n → n < 2 ^ 64 → length (decimal n) ≡ length (decimal (n / 10)) + 1
one-more n from below = ap length (decimal_step n from below) ∙ length-append _ _

next-power : (k : ℕ) → 10 ^ suc k ≡ 10 * 10 ^ k
next-power k = pow-succ' 10 k

some : (k : ℕ) → 1 ≤ 10 ^ k
some zero = omega arith
some (suc k) = omega (arith, next-power k, some k)

enough : (k n : ℕ) → 10 ^ k ≤ n → n < 2 ^ 64 → k + 1 ≤ length (decimal n)
enough zero n from below = omega (arith, decimal_nonempty n below)
enough (suc k) n from below =
    let next : 10 * 10 ^ k ≤ n = omega (arith, next-power k) in
    let fewer : k + 1 ≤ length (decimal (n / 10)) = enough k (n / 10) (omega arith) (omega arith) in
    omega (arith, one-more n (omega (arith, some k)) below)

pub length-decimal : (k n : ℕ) → 10 ^ k ≤ n → n < 10 * 10 ^ k → n < 2 ^ 64 → length (decimal n) ≡ k + 1
length-decimal k n from next below =
    let small : n < 10 ^ suc k = omega (arith, next-power k) in
    omega (arith, enough k n from below, length-decimal-le (suc k) n (omega arith) small below)

pub length-decimal-one : (n : ℕ) → n < 10 → length (decimal n) ≡ 1
length-decimal-one n below = ap length (decimal_digit n below)

pub length-decimal-64 : (n : ℕ) → n < 2 ^ 64 → length (decimal n) ≤ 20
length-decimal-64 n below = length-decimal-le 20 n (omega arith) (omega arith) below

pub length-decimal-32 : (n : ℕ) → n < 2 ^ 32 → length (decimal n) ≤ 10
length-decimal-32 n below = length-decimal-le 10 n (omega arith) (omega arith) (omega arith)
