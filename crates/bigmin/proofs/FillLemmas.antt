-- A number that is filled down by steps that double in length, and what it says of the places where two numbers differ.
use Rattle.std.proofs.Common.{◌≡◌, ◌↔◌, ℕ, ◌+◌, ◌-◌, ◌*◌, ◌/◌, ◌%◌, ◌^◌, ◌<◌, ◌≤◌}
use Rattle.std.proofs.Common.{min, max, w64, sym, ap, ◌∙◌, inl, inr, refl, arith}
use Rattle.std.specs.Prelude.{bit_and, bit_or, bit_xor}
use Rattle.std.specs.Int.{bit_at, bit_not}
use Rattle.std.proofs.lemmas.Bool.{cases_lt, cases_eq}
use Rattle.std.proofs.lemmas.Nat.{div-add-mod', mod_below}
use Rattle.std.proofs.Math.Nat.{add-mul-mod_self_right, div-le_self, mul-le-mul_right}
use Rattle.std.proofs.lemmas.Nat.Bits.{bit_at-lt, bit_at_above, bit_at_and, bit_at_or, bit_at_xor, bit_at_not}
use Rattle.zorder.proofs.CallerLemmas.{DiffersAt, bit_at-shr, bit_at-own, bit_at-other}
use Rattle.zorder.specs.Dilated.{dilated}
use Rattle.bigmin.specs.Openings.{IsFilledDown}

-- a place at which a number of 64 bits has a one
pub place_below : (n i : ℕ) → n < 2 ^ 64 → bit_at n i ≡ 1 → i < 64
place_below n i fits one =
    elim (cases_lt i 64) [ inl low ↦ low | inr high ↦ absurd (omega (arith, bit_at_above n 64 i fits high)) ]

-- ---- the steps of filling

-- the same as `IsFilledDown`, where a one fills only so many places
abbrev pub IsFilledFor : ℕ → ℕ → ℕ → ℕ → Type 0
IsFilledFor d count bits filled =
    (i : ℕ) → (bit_at filled i ≡ 1) ↔ ((steps : ℕ) × (steps < count) × (bit_at bits (i + steps * d) ≡ 1))

pub filled_twice : (d count shift bits filled : ℕ) → shift ≡ count * d →
    IsFilledFor d count bits filled → IsFilledFor d (count * 2) bits (bit_or filled (filled / 2 ^ shift))
filled_twice d count shift bits filled width so_far i = (only, wherever)
  where
    both : bit_at (bit_or filled (filled / 2 ^ shift)) i ≡ max (bit_at filled i) (bit_at filled (shift + i))
    both = bit_at_or filled (filled / 2 ^ shift) i ∙ ap (λ n. max (bit_at filled i) n) (bit_at-shr filled shift i)

    moved : (steps : ℕ) → i + (count + steps) * d ≡ shift + i + steps * d
    moved steps = omega (arith, width)

    only : bit_at (bit_or filled (filled / 2 ^ shift)) i ≡ 1 →
        (steps : ℕ) × (steps < count * 2) × (bit_at bits (i + steps * d) ≡ 1)
    only one = elim (cases_eq (bit_at filled i) 1) [
      | inl near ↦ let (steps, few, at) = (so_far i).0 near in (steps, omega arith, at)
      | inr apart ↦
          let far : bit_at filled (shift + i)
          ≡ 1 = omega (arith, one, both, bit_at-lt filled i, bit_at-lt filled (shift + i)) in
          let (steps, few, at) = (so_far (shift + i)).0 far in
          (count + steps, omega arith, ap (bit_at bits) (moved steps) ∙ at)
    ]

    wherever : (steps : ℕ)
        × (steps < count * 2) × (bit_at bits (i + steps * d) ≡ 1) → bit_at (bit_or filled (filled / 2 ^ shift)) i ≡ 1
    wherever (steps, few, at) = elim (cases_lt steps count) [
      | inl near ↦ let one = (so_far i).1 (steps, near, at) in omega (arith, both, one, bit_at-lt filled (shift + i))
      | inr rest ↦
          let more = steps - count in
          let same : steps ≡ count + more = omega arith in
          let there : i + steps * d ≡ shift + i + more * d = ap (λ n. i + n * d) same ∙ moved more in
          let far = (so_far (shift + i)).1 (more, omega arith, sym (ap (bit_at bits) there) ∙ at) in
          omega (arith, both, far, bit_at-lt filled i)
    ]

pub filled_all : (d count shift bits filled : ℕ) →
    shift ≡ count * d → 64 ≤ shift → bits < 2 ^ 64 → IsFilledFor d count bits filled → IsFilledDown d bits filled
filled_all d count shift bits filled width wide fits so_far i = (
  λ one. let (steps, few, at) = (so_far i).0 one in (steps, at),
  λ (steps, at). (so_far i).1 (steps, near steps at, at),
)
  where
    near : (steps : ℕ) → bit_at bits (i + steps * d) ≡ 1 → steps < count
    near steps at = elim (cases_lt steps count) [
      | inl few ↦ few
      | inr rest ↦ absurd (omega (arith, mul-le-mul_right d rest, place_below bits (i + steps * d) fits at, width))
    ]

-- ---- the highest place at which coordinates differ

-- from a place to a higher one of the same coordinate
pub steps_to : (d i j : ℕ) → 0 < d → i ≤ j → j % d ≡ i % d → (steps : ℕ) × (j ≡ i + steps * d)
steps_to d i j some from same = (j / d - i / d, whole)
  where
    not_below : i / d ≤ j / d
    not_below = elim (cases_lt (j / d) (i / d)) [
      | inr rest ↦ rest
      | inl falls ↦
          let later : j / d + 1 ≤ i / d = omega arith in
          absurd (omega (arith, mul-le-mul_right d later, div-add-mod' i d, div-add-mod' j d, mod_below j d some))
    ]

    whole : j ≡ i + (j / d - i / d) * d
    whole =
        let sum : j / d ≡ i / d + (j / d - i / d) = omega (arith, not_below) in
        let times : j / d * d ≡ i / d * d + (j / d - i / d) * d = ap (λ n. n * d) sum ∙ omega arith in
        omega (arith, times, div-add-mod' i d, div-add-mod' j d)

module _ (d a b filled : ℕ)
    (some : 0 < d) (a_fits : a < 2 ^ 64) (b_fits : b < 2 ^ 64) (is_filled : IsFilledDown d (bit_xor a b) filled) where
  -- there is a one just where a coordinate differs at that place or above
  pub one_from_apart : (i j : ℕ) → i ≤ j → j % d ≡ i % d → bit_at (bit_xor a b) j ≡ 1 → bit_at filled i ≡ 1
  one_from_apart i j from same apart =
      let (steps, at) = steps_to d i j some from same in
      (is_filled i).1 (steps, sym (ap (bit_at (bit_xor a b)) at) ∙ apart)

  pub apart_from_one : (i : ℕ) →
      bit_at filled i ≡ 1 → (j : ℕ) × (i ≤ j) × (j % d ≡ i % d) × (bit_at (bit_xor a b) j ≡ 1)
  apart_from_one i one =
      let (steps, at) = (is_filled i).0 one in
      (i + steps * d, omega arith, add-mul-mod_self_right i steps d, at)

  -- what is left of it where the next place of the coordinate has none, and b has a one
  abbrev pub deciding_bits : ℕ
  deciding_bits = bit_and (bit_and filled (bit_not w64 (filled / 2 ^ d))) b

  next_place : (t : ℕ) → (d + t) % d ≡ t % d
  next_place t = let later : d + t ≡ t + 1 * d = omega arith in ap (λ n. n % d) later ∙ add-mul-mod_self_right t 1 d

  module _ (filled_fits : filled < 2 ^ 64) (t : ℕ) (b_one : bit_at b t ≡ 1) where
    three : bit_at deciding_bits t ≡ min (min (bit_at filled t) (1 - bit_at filled (d + t))) (bit_at b t)
    three =
        let rest_fits : filled / 2 ^ d < 2 ^ 64 = omega (arith, div-le_self filled (2 ^ d)) in
        let other : bit_at (bit_not w64 (filled / 2 ^ d)) t ≡ 1 - bit_at filled (d + t) =
        bit_at_not w64 (filled / 2 ^ d) t rest_fits (place_below b t b_fits b_one)
        ∙ ap (λ n. 1 - n) (bit_at-shr filled d t) in
        bit_at_and (bit_and filled (bit_not w64 (filled / 2 ^ d))) b t
        ∙ ap (λ n. min n (bit_at b t))
        (bit_at_and filled (bit_not w64 (filled / 2 ^ d)) t ∙ ap (λ n. min (bit_at filled t) n) other)

    module _ (f_one : bit_at filled t ≡ 1) (next_zero : bit_at filled (d + t) ≡ 0) where
      agree : (j : ℕ) → t < j → j % d ≡ t % d → bit_at a j ≡ bit_at b j
      agree j higher same = elim (cases_eq (bit_at (bit_xor a b) j) 1) [
        | inr equal ↦ omega (arith, equal, bit_at_xor a b j, bit_at-lt a j, bit_at-lt b j)
        | inl apart ↦
            let (steps, at) = steps_to d t j some (omega arith) same in
            let one = one_from_apart (d + t) j (from j higher steps at) (same ∙ sym (next_place t)) apart in
            absurd (omega (arith, one, next_zero))
      ]
        where
          from : (j : ℕ) → t < j → (steps : ℕ) → j ≡ t + steps * d → d + t ≤ j
          from j higher steps at = elim (cases_lt 0 steps) [
            | inl some_steps ↦ omega (arith, mul-le-mul_right d some_steps, at)
            | inr none ↦ let zero_steps : steps ≡ 0 = omega arith in
                absurd (omega (arith, at, ap (λ n. n * d) zero_steps))
          ]

      a_zero : bit_at a t ≡ 0
      a_zero =
          let (j, from, same, apart) = apart_from_one t f_one in
          elim (cases_eq j t) [
            | inl here ↦ omega (arith, ap (bit_at (bit_xor a b)) here, apart, bit_at_xor a b t, b_one, bit_at-lt a t)
            | inr later ↦ absurd (omega (arith, agree j (omega arith) same, apart, bit_at_xor a b j, bit_at-lt a j))
          ]

      found : DiffersAt t (dilated d (t % d) a) (dilated d (t % d) b)
      found = record {
        clear = bit_at-own d (t % d) a t a_fits refl ∙ a_zero;
        set = bit_at-own d (t % d) b t b_fits refl ∙ b_one;
        above = λ j higher. elim (cases_eq (j % d) (t % d)) [
          | inl same ↦ bit_at-own d (t % d) a j a_fits same
              ∙ agree j higher same ∙ sym (bit_at-own d (t % d) b j b_fits same)
          | inr other ↦ bit_at-other d (t % d) a j other ∙ sym (bit_at-other d (t % d) b j other)
        ];
      }

  pub differs_from_bit : filled < 2 ^ 64 →
      (t : ℕ) → bit_at deciding_bits t ≡ 1 → DiffersAt t (dilated d (t % d) a) (dilated d (t % d) b)
  differs_from_bit filled_fits t one =
      let b_one : bit_at b t
      ≡ 1 = omega (arith, one, bit_at_and (bit_and filled (bit_not w64 (filled / 2 ^ d))) b t, bit_at-lt b t) in
      let parts = three filled_fits t b_one in
      found filled_fits t b_one
      (omega (arith, one, parts, bit_at-lt filled t)) (omega (arith, one, parts, bit_at-lt filled (d + t)))

  pub bit_from_differs : filled < 2 ^ 64 →
      (t : ℕ) → DiffersAt t (dilated d (t % d) a) (dilated d (t % d) b) → bit_at deciding_bits t ≡ 1
  bit_from_differs filled_fits t differs =
      let parts = three filled_fits t b_one in
      omega (arith, parts, b_one, f_one, next_zero)
    where
      b_one : bit_at b t ≡ 1
      b_one = sym (bit_at-own d (t % d) b t b_fits refl) ∙ differs.set

      f_one : bit_at filled t ≡ 1
      f_one = one_from_apart t t (omega arith) refl
          (omega (arith, bit_at_xor a b t, b_one, sym (bit_at-own d (t % d) a t a_fits refl) ∙ differs.clear))

      next_zero : bit_at filled (d + t) ≡ 0
      next_zero = elim (cases_eq (bit_at filled (d + t)) 1) [
        | inr other ↦ omega (arith, other, bit_at-lt filled (d + t))
        | inl one ↦
            let (j, from, same, apart) = apart_from_one (d + t) one in
            let own : j % d ≡ t % d = same ∙ next_place t in
            let equal : bit_at a j ≡ bit_at b j =
            sym (bit_at-own d (t % d) a j a_fits own)
            ∙ differs.above j (omega arith) ∙ bit_at-own d (t % d) b j b_fits own in
            absurd (omega (arith, equal, apart, bit_at_xor a b j, bit_at-lt a j))
      ]
