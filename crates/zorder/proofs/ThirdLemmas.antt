-- Bytes with their bits in thirds, and every third of them.
use Rattle.std.proofs.Common.{◌≡◌, ℕ, zero, suc, ◌+◌, ◌*◌, ◌/◌, ◌%◌, ◌^◌, ◌<◌, ◌≤◌, true, List, [], ◌∷◌, ◌++◌}
use Rattle.std.proofs.Common.{length, get_or, refl, sym, ap, ◌∙◌, inl, inr, arith, lit<, cond, eqb, eqb-true, w8}
use Rattle.std.specs.Prelude.{bit_and, bit_or, nat_lt, if◌then◌else◌}
use Rattle.std.specs.Int.{bit_at}
use Rattle.std.proofs.lemmas.Bool.{cases_lt}
use Rattle.std.proofs.lemmas.Bool.Decides.{nat_tests}
use Rattle.std.proofs.lemmas.List.{get_or_append_left, get_or-append_right}
use Rattle.std.proofs.lemmas.Nat.{pow_pos}
use Rattle.std.proofs.lemmas.Nat.Bits.{bit_at_above}
use Rattle.std.proofs.lemmas.Simd.{Each1-get_or, get_or_narrower, get_or-swz_l, get_or-swz_l_below, swz_l}
use lib.Lanes.{Each1, digits_l, number_l}
use mir.Val.{zeroes}
use Rattle.zorder.specs.Triples.{HasThirds}
use Rattle.zorder.specs.declared.triples.TheConstants.{OF_LOW, OF_HIGH}
use Rattle.zorder.proofs.BitLemmas.{all_below, all_below-true}
use Rattle.zorder.proofs.SideLemmas.{bit_at-byte}

-- what the two tables make of a byte
abbrev pub in_thirds : ℕ → ℕ
in_thirds x = bit_or (get_or OF_LOW (bit_and x 15) 0) (get_or OF_HIGH (x / 2 ^ 4) 0)

tested : all_below 256 (λ x. all_below 8 (λ q. eqb (bit_at (in_thirds x) q) (bit_at x (3 * q % 8)))) ≡ true
tested = refl

pub bit_at-in_thirds : (x q : ℕ) → x < 256 → q < 8 → bit_at (in_thirds x) q ≡ bit_at x (3 * q % 8)
bit_at-in_thirds x q within near =
    eqb-true _ _ (all_below-true 8 (λ q. eqb (bit_at (in_thirds x) q) (bit_at x (3 * q % 8)))
    (all_below-true 256 (λ x. all_below 8 (λ q. eqb (bit_at (in_thirds x) q) (bit_at x (3 * q % 8)))) tested x within)
    q near)

when_below : (a b r limit n : ℕ) → r < limit → n ≡ (if nat_lt r limit then a else b) → n ≡ a
when_below a b r limit n below e = grind (arith, nat_tests)

when_from : (a b r limit n : ℕ) → limit ≤ r → n ≡ (if nat_lt r limit then a else b) → n ≡ b
when_from a b r limit n from e = grind (arith, nat_tests)

-- where every third byte of two codes stands among theirs, from
-- byte s on, four lanes for each code; at 128 there is none
abbrev pub place : ℕ → ℕ → ℕ
place s l = if nat_lt (3 * (l % 4) + s) 8 then 8 * (l / 4) + (3 * (l % 4) + s) else 128

module _ (codes thirds : List ℕ) (many : length codes ≡ 2) (fits : Each1 (λ z. z < 2 ^ 64) codes)
    (bits : (l q : ℕ) → l < 16 → q < 8 → bit_at (get_or thirds l 0) q
    ≡ bit_at (get_or (digits_l 256 16 (number_l (2 ^ 64) codes)) l 0) (3 * q % 8)) where
  -- byte k of code i
  byte_bit : (i k q : ℕ) →
      i < 2 → k < 8 → q < 8 → bit_at (get_or thirds (8 * i + k) 0) q ≡ bit_at (get_or codes i 0) (k * 8 + 3 * q % 8)
  byte_bit i k q among within near =
      bits (8 * i + k) q (omega arith) near
      ∙ ap (λ x. bit_at x (3 * q % 8)) (get_or_narrower (2 ^ 64) 8 256 16 codes i k refl fits within (omega arith))
      ∙ bit_at-byte (get_or codes i 0) k (3 * q % 8) (omega arith)

  -- byte m of those from byte s on, by a table that has their places from lane `first` on
  pub third_bit : (js : List ℕ) (s first : ℕ) →
      length js ≡ 16 → first + 8 ≤ 16 → s < 3 → all_below 8 (λ l. eqb (get_or js (first + l) 0) (place s l)) ≡ true
      → (l i m q : ℕ) → l ≡ first + (4 * i + m) → i < 2 → m < 4 → q < 8
      → bit_at (get_or (swz_l w8 16 thirds 0 js) l 0) q ≡ bit_at (get_or codes i 0) (24 * m + 8 * s + 3 * q % 8)
  third_bit js s first long room among table l i m q lane within low near =
      elim (cases_lt (3 * ((4 * i + m) % 4) + s) 8) [
        | inl there ↦
            let is : get_or js l 0
            ≡ 8 * ((4 * i + m) / 4) + (3 * ((4 * i + m) % 4) + s) = when_below _ _ _ _ _ there entry in
            let same : 8 * ((4 * i + m) / 4) + (3 * ((4 * i + m) % 4) + s) ≡ 8 * i + (3 * m + s) = omega arith in
            let small : get_or js l 0 < 16 = omega (arith, is, same) in
            ap (λ x. bit_at x q)
            (get_or-swz_l_below w8 16 thirds 0 js l (omega (arith, long)) small
            ∙ ap (λ k. get_or thirds k 0) (omega (arith, is, same)))
            ∙ byte_bit i (3 * m + s) q within (omega arith) near ∙ ap (bit_at (get_or codes i 0)) (omega arith)
        | inr none ↦
            let is : get_or js l 0 ≡ 128 = when_from _ _ _ _ _ none entry in
            ap (λ x. bit_at x q)
            (get_or-swz_l w8 16 thirds 0 js l (omega (arith, long))
            ∙ ap (λ j. cond (zeroes 16 w8 j) 0 (get_or thirds (16 * ((0 + l) / 16) + j) 0)) is)
            ∙ bit_at_above 0 0 q (pow_pos 0) (omega arith)
            ∙ sym (bit_at_above (get_or codes i 0) 64 (24 * m + 8 * s + 3 * q % 8)
            (Each1-get_or (λ z. z < 2 ^ 64) codes i 0 (omega (arith, many)) fits) (omega arith))
      ]
    where
      entry : get_or js l 0 ≡ place s (4 * i + m)
      entry = ap (λ k. get_or js k 0) lane ∙ eqb-true _ _
          (all_below-true 8 (λ l. eqb (get_or js (first + l) 0) (place s l)) table (4 * i + m) (omega arith))

-- ---- four codes of two and two

-- the same of equal numbers
moved : (s z z' x x' : ℕ) → z ≡ z' → x' ≡ x → HasThirds s z x → HasThirds s z' x'
moved s z z' x x' codes numbers is m q low near =
    ap (λ n. bit_at n (m * 8 + q)) numbers ∙ is m q low near ∙ ap (λ n. bit_at n (24 * m + 8 * s + 3 * q % 8)) codes

module _ (s k : ℕ) (codes a b : List ℕ) (four : length codes ≡ 4) (long : length a ≡ 4) (room : k + 1 < 4) where
  code : (i : ℕ) → i < 4 → get_or (codes ++ codes) i 0 ≡ get_or codes i 0
  code i h = get_or_append_left codes codes 0 i (omega arith)

  lower : (i : ℕ) → i < 4 → get_or (a ++ b) i 0 ≡ get_or a i 0
  lower i h = get_or_append_left a b 0 i (omega arith)

  upper : (i : ℕ) → get_or (a ++ b) (4 + i) 0 ≡ get_or b i 0
  upper i = get_or-append_right a b 4 (4 + i) 0 long (omega arith) ∙ ap (λ n. get_or b n 0) (omega arith)

  pub four_of_twos : HasThirds s (get_or (codes ++ codes) 0 0) (get_or a k 0) →
      HasThirds s (get_or (codes ++ codes) 1 0) (get_or a (k + 1) 0)
      → HasThirds s (get_or (codes ++ codes) 2 0) (get_or b k 0) →
      HasThirds s (get_or (codes ++ codes) 3 0) (get_or b (k + 1) 0) → (i : ℕ) → i < 4
      → HasThirds s (get_or codes i 0)
      (get_or (get_or (a ++ b) k 0
      ∷ get_or (a ++ b) (k + 1) 0 ∷ get_or (a ++ b) (4 + k) 0 ∷ get_or (a ++ b) (4 + (k + 1)) 0 ∷ []) i 0)
  four_of_twos is_0 is_1 is_2 is_3 zero h = moved s _ _ _ _ (code 0 (lit< tt)) (lower k (omega arith)) is_0
  four_of_twos is_0 is_1 is_2 is_3 (suc zero) h = moved s _ _ _ _ (code 1 (lit< tt)) (lower (k + 1) room) is_1
  four_of_twos is_0 is_1 is_2 is_3 (suc (suc zero)) h = moved s _ _ _ _ (code 2 (lit< tt)) (upper k) is_2
  four_of_twos is_0 is_1 is_2 is_3 (suc (suc (suc zero))) h = moved s _ _ _ _ (code 3 (lit< tt)) (upper (k + 1)) is_3
  four_of_twos is_0 is_1 is_2 is_3 (suc (suc (suc (suc i)))) h = absurd (omega arith)
