-- Bytes below 256 are the bytes of the number that they spell, and a number's bytes spell it.
use Rattle.std.proofs.Common.{◌≡◌, ℕ, zero, suc, ◌+◌, ◌*◌, ◌/◌, ◌%◌, ◌^◌, ◌<◌, ◌≤◌, List}
use Rattle.std.proofs.Common.{[], ◌∷◌, length, take, get_or, refl, sym, ap, ◌∙◌, arith}
use Rattle.std.proofs.Math.Nat.{div-div-eq-div-mul, div-one, pow-succ'}
use Rattle.std.specs.Int.{byte_at, bytes_low_first}
use Rattle.byteorder.specs.Endian.{little_from, little_bytes, little_number}
use Rattle.byteorder.specs.Numbers.{little_from-cons}

byte_at-pow : (k x : ℕ) → byte_at k x ≡ x / 256 ^ k % 256
byte_at-pow zero x = ap (λ (y : ℕ). y % 256) (sym (div-one x))
byte_at-pow (suc k) x = refl

-- the bytes above the lowest are those of the number without it
bytes-above : (i n x : ℕ) → bytes_low_first (suc i) n x ≡ bytes_low_first i n (x / 256)
bytes-above i zero x = refl
bytes-above i (suc n) x =
    let shift : x / 256 ^ suc i ≡ x / 256 / 256 ^ i = ap (λ (p : ℕ). x / p) (pow-succ' 256 i)
    ∙ sym (div-div-eq-div-mul x 256 (256 ^ i)) in
    rw (byte_at-pow i (x / 256), bytes-above (suc i) n x, shift) refl

lowest-of : (b y : ℕ) → b < 256 → (b + 256 * y) % 256 ≡ b
lowest-of b y h = omega arith

above-of : (b y : ℕ) → b < 256 → (b + 256 * y) / 256 ≡ y
above-of b y h = omega arith

-- the bytes of the number that n bytes spell are these bytes
pub little_bytes-little_number : (n : ℕ) (bytes : List ℕ) → n ≤ length bytes → ((k : ℕ) → get_or bytes k 0 < 256) →
    little_bytes n (little_number n bytes) ≡ take n bytes
little_bytes-little_number zero bytes long small = refl
little_bytes-little_number (suc n) [] long small = absurd (omega arith)
little_bytes-little_number (suc n) (b ∷ bytes) long small =
    let rest = little_bytes-little_number n bytes (omega arith) (λ k. small (suc k)) in
    rw (
      little_from-cons 0 n b bytes,
      bytes-above 0 n (b + 256 * little_from 0 n bytes),
      lowest-of b (little_from 0 n bytes) (small 0),
      above-of b (little_from 0 n bytes) (small 0),
      rest,
    ) refl
