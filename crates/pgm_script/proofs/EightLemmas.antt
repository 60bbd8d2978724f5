-- Eight digits taken as the bytes of one number.
--
-- Main result: in every second byte of ten times the digits and
-- the same a byte on stand the numbers of pairs of digits, and
-- from them comes the number that the eight write (`eight-value`).
use Rattle.std.proofs.Common.{◌≡◌, ℕ, ◌+◌, ◌-◌, ◌*◌, ◌/◌, ◌%◌, ◌<◌, ◌≤◌, true, ◌∙◌, arith}
use Rattle.std.specs.Char.{is_ascii_digit}
use Rattle.std.proofs.lemmas.Bool.Decides.{nat_tests}
use Rattle.pgm_script.specs.Cuts.{of_bytes}

-- the digit of a byte
pub record IsDigitOf (byte digit : ℕ) : Type 0 where
  pub is : byte ≡ digit + 48
  pub below : digit ≤ 9

pub digit-of : (byte : ℕ) → is_ascii_digit byte ≡ true → IsDigitOf byte (byte - 48)
digit-of byte is =
    let low : 48 ≤ byte = grind (arith, nat_tests) in
    let high : byte ≤ 57 = grind (arith, nat_tests) in
    record { is = omega arith; below = omega arith }

-- the number that four pairs write which stand in every second byte
abbrev pub of_pairs : ℕ → ℕ
of_pairs p = (p % 256 * 100 + p / 65536 % 256) * 10000 + (p / 4294967296 % 256 * 100 + p / 281474976710656 % 256)

of_pairs-is : (p k l m n r s t u : ℕ) →
    k < 256 → l < 256 → m < 256 → n < 256 → r < 256 → s < 256 → t < 256 → u < 65536 →
    p ≡ of_bytes k l m n r s t u → of_pairs p ≡ (k * 100 + m) * 10000 + (r * 100 + t)
of_pairs-is p k l m n r s t u k< l< m< n< r< s< t< u< is =
    let one : p % 256 ≡ k = omega arith in
    let two : p / 65536 ≡ m + 256 * (n + 256 * (r + 256 * (s + 256 * (t + 256 * u)))) = omega arith in
    let three : p / 4294967296 ≡ r + 256 * (s + 256 * (t + 256 * u)) = omega arith in
    let four : p / 281474976710656 ≡ t + 256 * u = omega arith in
    let two' : p / 65536 % 256 ≡ m = omega arith in
    let three' : p / 4294967296 % 256 ≡ r = omega arith in
    let four' : p / 281474976710656 % 256 ≡ t = omega arith in
    omega arith

of-digits : (digits a b c d e f g h : ℕ) →
    a ≤ 9 → b ≤ 9 → c ≤ 9 → d ≤ 9 → e ≤ 9 → f ≤ 9 → g ≤ 9 → h ≤ 9 → digits ≡ of_bytes a b c d e f g h →
    of_pairs (digits * 10 + digits / 256)
    ≡ (((((((a * 10 + b) * 10 + c) * 10 + d) * 10 + e) * 10 + f) * 10 + g) * 10 + h)
of-digits digits a b c d e f g h a-few b-few c-few d-few e-few f-few g-few h-few is =
    let next : digits / 256 ≡ b + 256 * (c + 256 * (d + 256 * (e + 256 * (f + 256 * (g + 256 * h))))) = omega arith in
    let pairs : digits * 10 + digits / 256
    ≡ of_bytes (a * 10 + b) (b * 10 + c) (c * 10 + d) (d * 10 + e) (e * 10 + f) (f * 10 + g) (g * 10 + h) (h * 10) =
    omega arith in
    let value : of_pairs (digits * 10 + digits / 256)
    ≡ ((a * 10 + b) * 100 + (c * 10 + d)) * 10000 + ((e * 10 + f) * 100 + (g * 10 + h)) =
    of_pairs-is (digits * 10 + digits / 256)
    (a * 10 + b) (b * 10 + c) (c * 10 + d) (d * 10 + e) (e * 10 + f) (f * 10 + g) (g * 10 + h) (h * 10)
    (omega arith)
    (omega arith) (omega arith) (omega arith) (omega arith) (omega arith) (omega arith) (omega arith) pairs in
    value ∙ (let same : ((a * 10 + b) * 100 + (c * 10 + d)) * 10000 + ((e * 10 + f) * 100 + (g * 10 + h))
    ≡ (((((((a * 10 + b) * 10 + c) * 10 + d) * 10 + e) * 10 + f) * 10 + g) * 10 + h) = omega arith in same)

less-zeros : (word a' b' c' d' e' f' g' h' a b c d e f g h : ℕ) → a' ≡ a + 48 → b' ≡ b + 48 → c' ≡ c + 48 →
    d' ≡ d + 48 → e' ≡ e + 48 → f' ≡ f + 48 → g' ≡ g + 48 → h' ≡ h + 48 → word ≡ of_bytes a' b' c' d' e' f' g' h' →
    word - 3472328296227680304 ≡ of_bytes a b c d e f g h
less-zeros word a' b' c' d' e' f' g' h' a b c d e f g h is-a is-b is-c is-d is-e is-f is-g is-h is = omega arith

pub eight-value : (word a' b' c' d' e' f' g' h' a b c d e f g h : ℕ) →
    IsDigitOf a' a → IsDigitOf b' b → IsDigitOf c' c → IsDigitOf d' d →
    IsDigitOf e' e → IsDigitOf f' f → IsDigitOf g' g → IsDigitOf h' h → word ≡ of_bytes a' b' c' d' e' f' g' h' →
    of_pairs ((word - 3472328296227680304) * 10 + (word - 3472328296227680304) / 256)
    ≡ (((((((a * 10 + b) * 10 + c) * 10 + d) * 10 + e) * 10 + f) * 10 + g) * 10 + h)
eight-value word a' b' c' d' e' f' g' h' a b c d e f g h of-a of-b of-c of-d of-e of-f of-g of-h is =
    of-digits (word - 3472328296227680304)
    a b c d e f g h of-a.below of-b.below of-c.below of-d.below of-e.below of-f.below of-g.below of-h.below
    (less-zeros
    word a' b' c' d' e' f' g' h' a b c d e f g h of-a.is of-b.is of-c.is of-d.is of-e.is of-f.is of-g.is of-h.is is)

pub eight-below : (a b c d e f g h : ℕ) → a ≤ 9 → b ≤ 9 → c ≤ 9 → d ≤ 9 → e ≤ 9 →
    f ≤ 9 → g ≤ 9 → h ≤ 9 → (((((((a * 10 + b) * 10 + c) * 10 + d) * 10 + e) * 10 + f) * 10 + g) * 10 + h) < 100000000
eight-below a b c d e f g h a-few b-few c-few d-few e-few f-few g-few h-few = omega arith
