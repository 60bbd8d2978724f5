-- Three thirds in turn are every third bit, so coordinates of codes of three.
use Rattle.std.proofs.Common.{◌≡◌, ℕ, ◌+◌, ◌-◌, ◌*◌, ◌/◌, ◌%◌, ◌^◌, ◌<◌, ◌≤◌, max, min, refl}
use Rattle.std.proofs.Common.{sym, ap, ◌∙◌, inl, inr, arith, lit<, add-zero, eqb, eqb-true}
use Rattle.std.specs.Prelude.{bit_and, bit_or, nat_lt, if◌then◌else◌}
use Rattle.std.specs.Int.{bit_at}
use Rattle.std.proofs.lemmas.Bool.{cases_lt}
use Rattle.std.proofs.lemmas.Bool.Decides.{nat_tests}
use Rattle.std.proofs.lemmas.Nat.Bits.{bit_at_and, bit_at_or, bit_at-lt, bit_at_above, bit_at_cat_high}
use Rattle.std.proofs.lemmas.Nat.{pow_pos}
use Rattle.zorder.specs.Codes.{coordinate}
use Rattle.zorder.specs.Triples.{HasThirds}
use Rattle.zorder.proofs.BitLemmas.{all_below-true, bit_at-mod, bit_at-shr}
use Rattle.zorder.proofs.CodeLemmas.{below_from_bits, coordinate_from_bits}

-- ---- bits of three numbers in turn

abbrev pub in_turn : ℕ → ℕ → ℕ → ℕ
in_turn a b c = bit_or (bit_or (bit_and a 0x07070707) (bit_and b 0x38383838)) (bit_and c 0xc0c0c0c0)

-- what belongs to the places of a, of b or of c, by the place in a byte
abbrev one_of : ℕ → ℕ → ℕ → ℕ → ℕ
one_of r a b c = if nat_lt r 3 then a else (if nat_lt r 6 then b else c)

mask_a : (j : ℕ) → j < 32 → bit_at 0x07070707 j ≡ one_of (j % 8) 1 0 0
mask_a j within = eqb-true _ _ (all_below-true 32 (λ j. eqb (bit_at 0x07070707 j) (one_of (j % 8) 1 0 0)) refl j within)

mask_b : (j : ℕ) → j < 32 → bit_at 0x38383838 j ≡ one_of (j % 8) 0 1 0
mask_b j within = eqb-true _ _ (all_below-true 32 (λ j. eqb (bit_at 0x38383838 j) (one_of (j % 8) 0 1 0)) refl j within)

mask_c : (j : ℕ) → j < 32 → bit_at 0xc0c0c0c0 j ≡ one_of (j % 8) 0 0 1
mask_c j within = eqb-true _ _ (all_below-true 32 (λ j. eqb (bit_at 0xc0c0c0c0 j) (one_of (j % 8) 0 0 1)) refl j within)

first_of : (r a b c n : ℕ) → r < 3 → n ≡ one_of r a b c → n ≡ a
first_of r a b c n below e = grind (arith, nat_tests)

second_of : (r a b c n : ℕ) → 3 ≤ r → r < 6 → n ≡ one_of r a b c → n ≡ b
second_of r a b c n from below e = grind (arith, nat_tests)

third_of : (r a b c n : ℕ) → 6 ≤ r → n ≡ one_of r a b c → n ≡ c
third_of r a b c n from e = grind (arith, nat_tests)

turn_bit : (a b c j : ℕ) → bit_at (in_turn a b c) j
    ≡ max (max (min (bit_at a j) (bit_at 0x07070707 j)) (min (bit_at b j) (bit_at 0x38383838 j)))
    (min (bit_at c j) (bit_at 0xc0c0c0c0 j))
turn_bit a b c j = omega (
  arith,
  bit_at_or (bit_or (bit_and a 0x07070707) (bit_and b 0x38383838)) (bit_and c 0xc0c0c0c0) j,
  bit_at_or (bit_and a 0x07070707) (bit_and b 0x38383838) j,
  bit_at_and a 0x07070707 j,
  bit_at_and b 0x38383838 j,
  bit_at_and c 0xc0c0c0c0 j,
)

pub in_turn-lt : (a b c : ℕ) → in_turn a b c < 2 ^ 32
in_turn-lt a b c = below_from_bits (in_turn a b c) 32 (λ j high.
    omega (
      arith,
      turn_bit a b c j,
      bit_at_above 0x07070707 32 j (lit< tt) high,
      bit_at_above 0x38383838 32 j (lit< tt) high,
      bit_at_above 0xc0c0c0c0 32 j (lit< tt) high,
    ))

module _ (a b c j : ℕ) (within : j < 32) where
  pub in_turn_first : j % 8 < 3 → bit_at (in_turn a b c) j ≡ bit_at a j
  in_turn_first below =
      omega (
        arith,
        turn_bit a b c j,
        first_of _ _ _ _ _ below (mask_a j within),
        first_of _ _ _ _ _ below (mask_b j within),
        first_of _ _ _ _ _ below (mask_c j within),
        bit_at-lt a j,
      )

  pub in_turn_second : 3 ≤ j % 8 → j % 8 < 6 → bit_at (in_turn a b c) j ≡ bit_at b j
  in_turn_second from below =
      omega (
        arith,
        turn_bit a b c j,
        second_of _ _ _ _ _ from below (mask_a j within),
        second_of _ _ _ _ _ from below
            (mask_b j within),
        second_of _ _ _ _ _ from below (mask_c j within),
        bit_at-lt b j,
      )

  pub in_turn_third : 6 ≤ j % 8 → bit_at (in_turn a b c) j ≡ bit_at c j
  in_turn_third from =
      omega (
        arith,
        turn_bit a b c j,
        third_of _ _ _ _ _ from (mask_a j within),
        third_of _ _ _ _ _ from (mask_b j within),
        third_of _ _ _ _ _ from (mask_c j within),
        bit_at-lt c j,
      )

-- ---- a coordinate

-- a bit of every third byte, by its place in the number
third_at : (s z x : ℕ) →
    HasThirds s z x → (j : ℕ) → j < 32 → bit_at x j ≡ bit_at z (24 * (j / 8) + 8 * s + 3 * (j % 8) % 8)
third_at s z x is j within = ap (bit_at x) (omega arith) ∙ is (j / 8) (j % 8) (omega arith) (omega arith)

-- a number of 32 bits, a byte higher
pub bit_at-byte_up : (x j : ℕ) → 8 ≤ j → j < 32 → bit_at (x * 2 ^ 8 % 2 ^ 32) j ≡ bit_at x (j - 8)
bit_at-byte_up x j from within =
    bit_at-mod (x * 2 ^ 8) 32 j within
    ∙ ap (λ n. bit_at n j) (sym (add-zero (x * 2 ^ 8))) ∙ bit_at_cat_high x 8 0 j (pow_pos 8) from

-- a bit of every third byte, a byte higher
third_up : (s z x y : ℕ) → HasThirds s z x → y ≡ x * 2 ^ 8 % 2 ^ 32 → (j : ℕ) → 8 ≤ j → j < 32
    → bit_at y j ≡ bit_at z (24 * ((j - 8) / 8) + 8 * s + 3 * ((j - 8) % 8) % 8)
third_up s z x y is up j from within =
    ap (λ n. bit_at n j) up ∙ bit_at-byte_up x j from within ∙ third_at s z x is (j - 8) (omega arith)

-- n has the bits that three numbers have in turn
pub record IsInTurn (n a b c : ℕ) : Type 0 where
  pub first : (j : ℕ) → j < 32 → j % 8 < 3 → bit_at n j ≡ bit_at a j
  pub second : (j : ℕ) → j < 32 → 3 ≤ j % 8 → j % 8 < 6 → bit_at n j ≡ bit_at b j
  pub third : (j : ℕ) → j < 32 → 6 ≤ j % 8 → bit_at n j ≡ bit_at c j

-- the number with every third bit of a code, from bit c on, is its coordinate c
column : (c z x : ℕ) → c < 3 → z < 2 ^ 64 →
    x < 2 ^ (32 - 3 * c) → ((b : ℕ) → 3 * c + b < 32 → bit_at x b ≡ bit_at z (b * 3 + c)) → x ≡ coordinate 3 c z
column c z x among fits narrow near =
    sym (coordinate_from_bits 3 c z x (lit< tt) fits (λ b. elim (cases_lt (3 * c + b) 32) [
      | inl low ↦ sym (near b low)
      | inr high ↦ bit_at_above z 64 (b * 3 + c) fits (omega arith)
          ∙ sym (bit_at_above x (32 - 3 * c) b narrow (omega arith))
    ]))

module _ (z n from_0 from_1 from_2 : ℕ) (fits : z < 2 ^ 64)
    (small : n < 2 ^ 32) (is_0 : HasThirds 0 z from_0) (is_1 : HasThirds 1 z from_1) (is_2 : HasThirds 2 z from_2) where
  -- by the three ranges of a place in its byte
  by_turn : (j : ℕ) (P : Type 0) → (j % 8 < 3 → P) → (3 ≤ j % 8 → j % 8 < 6 → P) → (6 ≤ j % 8 → P) → P
  by_turn j P first second third = elim (cases_lt (j % 8) 3) [
    | inl low ↦ first low
    | inr from_3 ↦ elim (cases_lt (j % 8) 6) [ inl middle ↦ second from_3 middle | inr high ↦ third high ]
  ]

  pub first_column : IsInTurn n from_0 from_1 from_2 → n ≡ coordinate 3 0 z
  first_column turns = column 0 z n (lit< tt) fits small (λ b low. by_turn b (bit_at n b ≡ bit_at z (b * 3 + 0))
      (λ below. turns.first b (omega arith) below
      ∙ third_at 0 z from_0 is_0 b (omega arith) ∙ ap (bit_at z) (omega arith))
      (λ from below. turns.second b (omega arith) from below
      ∙ third_at 1 z from_1 is_1 b (omega arith) ∙ ap (bit_at z) (omega arith))
      (λ from. turns.third b (omega arith) from
      ∙ third_at 2 z from_2 is_2 b (omega arith) ∙ ap (bit_at z) (omega arith)))

  module _ (before : ℕ) (up_2 : before ≡ from_2 * 2 ^ 8 % 2 ^ 32) where
    pub second_column : IsInTurn n before from_0 from_1 → n / 2 ^ 3 ≡ coordinate 3 1 z
    second_column turns = column 1 z (n / 2 ^ 3) (lit< tt) fits
        (omega arith) (λ b low. bit_at-shr n 3 b ∙ by_turn (3 + b) (bit_at n (3 + b) ≡ bit_at z (b * 3 + 1))
        (λ below. turns.first (3 + b) low below
        ∙ third_up 2 z from_2 before is_2 up_2 (3 + b) (omega arith) low ∙ ap (bit_at z) (omega arith))
        (λ from below. turns.second (3 + b) low from below
        ∙ third_at 0 z from_0 is_0 (3 + b) low ∙ ap (bit_at z) (omega arith))
        (λ from. turns.third (3 + b) low from ∙ third_at 1 z from_1 is_1 (3 + b) low ∙ ap (bit_at z) (omega arith)))

    pub third_column : (before_twice : ℕ) →
        before_twice ≡ from_1 * 2 ^ 8 % 2 ^ 32 → IsInTurn n before_twice before from_0 → n / 2 ^ 6 ≡ coordinate 3 2 z
    third_column before_twice up_1 turns = column 2 z (n / 2 ^ 6) (lit< tt) fits
        (omega arith) (λ b low. bit_at-shr n 6 b ∙ by_turn (6 + b) (bit_at n (6 + b) ≡ bit_at z (b * 3 + 2))
        (λ below. turns.first (6 + b) low below
        ∙ third_up 1 z from_1 before_twice is_1 up_1 (6 + b) (omega arith) low ∙ ap (bit_at z) (omega arith))
        (λ from below. turns.second (6 + b) low from below
        ∙ third_up 2 z from_2 before is_2 up_2 (6 + b) (omega arith) low ∙ ap (bit_at z) (omega arith))
        (λ from. turns.third (6 + b) low from ∙ third_at 0 z from_0 is_0 (6 + b) low ∙ ap (bit_at z) (omega arith)))
