-- The places of an opening, as the bits of the numbers that are computed.
use Rattle.std.proofs.Common.{◌≡◌, ◌↔◌, ◌⊎◌, ℕ, ◌+◌, ◌-◌, ◌*◌, ◌%◌, ◌^◌, ◌<◌, ◌≤◌, min, w64}
use Rattle.std.proofs.Common.{sym, ap, ◌∙◌, subst, inl, inr, refl, lit<, arith, add-one}
use Rattle.std.specs.Prelude.{bit_and, bit_or, bit_xor}
use Rattle.std.specs.Int.{bit_at, bit_not, trailing_zeros}
use Rattle.std.proofs.lemmas.Bool.{cases_lt, cases_eq}
use Rattle.std.proofs.lemmas.Nat.{mod_below}
use Rattle.std.proofs.Math.Nat.{pow-suc}
use Rattle.std.proofs.lemmas.Nat.Bits.{bit_at-lt, bit_at-zero, bit_at_above, bit_at_and, bit_at_or}
use Rattle.std.proofs.lemmas.Nat.Bits.{bit_at_xor, bit_at_not, ones_shl, bit_at_mask_inside}
use Rattle.std.proofs.lemmas.Nat.Bits.{bit_at_mask_below, bit_at_mask_above, bit_at-trailing_zeros}
use Rattle.zorder.proofs.CallerLemmas.{DiffersAt, top_difference}
use Rattle.zorder.proofs.CodeLemmas.{below_from_bits}
use Rattle.zorder.specs.Dilated.{dilated}
use Rattle.bigmin.specs.Openings.{IsDecidedAt, IsHighestDecision, IsFilledDown, HasRoom, Opens}
use Rattle.zorder.proofs.CallerLemmas.{dilated-lt, bit_at-own, own_from_one}
use Rattle.bigmin.proofs.FillLemmas.{place_below, one_from_apart, apart_from_one}

pub top_below : (d c a b t : ℕ) → DiffersAt t (dilated d c a) (dilated d c b) → t < 64
top_below d c a b t found = place_below (dilated d c b) t (dilated-lt d c b) found.set

-- ---- the highest decision

pub decided_either : (d z low high falling rising t : ℕ) →
    (bit_at falling t ≡ 1) ↔ DiffersAt t (dilated d (t % d) z) (dilated d (t % d) low) →
    (bit_at rising t ≡ 1) ↔ DiffersAt t (dilated d (t % d) high) (dilated d (t % d) z) →
    (bit_at (bit_or falling rising) t ≡ 1) ↔ IsDecidedAt d z low high (t % d) t
decided_either d z low high falling rising t falls rises = (
  λ one. elim (cases_eq (bit_at falling t) 1) [
    | inl first ↦ inl (falls.0 first)
    | inr apart ↦ inr (rises.0 (omega (arith, one, apart, bit_at_or falling rising t, bit_at-lt falling t)))
  ],
  λ decided. elim decided [
    | inl found ↦ omega (arith, falls.1 found, bit_at_or falling rising t, bit_at-lt rising t)
    | inr found ↦ omega (arith, rises.1 found, bit_at_or falling rising t, bit_at-lt falling t)
  ],
)

pub marked-positive : (n : ℕ) → 0 < bit_or n 1
marked-positive n = elim (cases_eq (bit_or n 1) 0) [
  | inr some ↦ omega arith
  | inl none ↦
      absurd (omega (arith, bit_at_or n 1 0, ap (λ m. bit_at m 0) none, bit_at-zero 0, bit_at-lt n 0, one_here))
]
  where
    one_here : bit_at 1 0 ≡ 1
    one_here = refl

-- the highest one of the decisions, or place 0
module _ (d z low high decisions place : ℕ)
    (some : 0 < d) (decided : (t : ℕ) → (bit_at decisions t ≡ 1) ↔ IsDecidedAt d z low high (t % d) t)
    (least : 2 ^ place ≤ bit_or decisions 1) (most : bit_or decisions 1 < 2 * 2 ^ place) where
  below_next : bit_or decisions 1 < 2 ^ (place + 1)
  below_next = let double : 2 ^ (place + 1) ≡ 2 * 2 ^ place = ap (λ n. 2 ^ n) (add-one place)
      ∙ omega (arith, pow-suc 2 place) in omega (arith, most, double)

  top_one : bit_at (bit_or decisions 1) place ≡ 1
  top_one = elim (cases_eq (bit_at (bit_or decisions 1) place) 1) [
    | inl one ↦ one
    | inr apart ↦ absurd (omega (arith, least, below_from_bits (bit_or decisions 1) place (above apart)))
  ]
    where
      above : (bit_at (bit_or decisions 1) place ≡ 1 → ⊥) → (j : ℕ) → place ≤ j → bit_at (bit_or decisions 1) j ≡ 0
      above apart j from = elim (cases_eq j place) [
        | inl here ↦ ap (bit_at (bit_or decisions 1)) here ∙ omega (arith, apart, bit_at-lt (bit_or decisions 1) place)
        | inr later ↦ bit_at_above (bit_or decisions 1) (place + 1) j below_next (omega arith)
      ]

  one_within : (t : ℕ) → bit_at decisions t ≡ 1 → t ≤ place
  one_within t one = elim (cases_lt place t) [
    | inr rest ↦ rest
    | inl higher ↦
        let marked : bit_at (bit_or decisions 1) t ≡ 1 = omega (arith, bit_at_or decisions 1 t, one, bit_at-lt 1 t) in
        absurd (omega (arith, marked, bit_at_above (bit_or decisions 1) (place + 1) t below_next (omega arith)))
  ]

  decided_own : (c t : ℕ) → IsDecidedAt d z low high c t → t % d ≡ c
  decided_own c t (inl falls) = own_from_one d c low t falls.set
  decided_own c t (inr rises) = own_from_one d c z t rises.set

  attained : (place ≡ 0) ⊎ ((c : ℕ) × (c < d) × IsDecidedAt d z low high c place)
  attained = elim (cases_eq (bit_at decisions place) 1) [
    | inl one ↦ inr (place % d, mod_below place d some, (decided place).0 one)
    | inr apart ↦ elim (cases_eq place 0) [
      | inl none ↦ inl none
      | inr later ↦
          let small : 1 < 2 ^ 1 = lit< tt in
          absurd (omega (
            arith,
            apart,
            top_one,
            bit_at_or decisions 1 place,
            bit_at-lt decisions place,
            bit_at_above 1 1 place small (omega arith),
          ))
    ]
  ]

  pub highest_from_log : IsHighestDecision d z low high place
  highest_from_log = record {
    highest = λ c t below found.
        one_within t ((decided t).1 (subst (λ k. IsDecidedAt d z low high k t) (sym (decided_own c t found)) found));
    attained = attained;
  }

-- ---- the lowest opening

-- the zeros below a difference from the high end, from the highest decision on, are the openings
module _ (d z low high place from_high : ℕ)
    (some : 0 < d) (z_fits : z < 2 ^ 64) (high_fits : high < 2 ^ 64) (place_fits : place < 64)
    (highest : IsHighestDecision d z low high place) (is_filled : IsFilledDown d (bit_xor high z) from_high) where
  abbrev pub open_bits : ℕ
  open_bits = bit_and (bit_and (bit_not w64 z) from_high) ((2 ^ 64 - 1) * 2 ^ place % 2 ^ 64)

  three : (i : ℕ) →
      bit_at open_bits i ≡ min (min (bit_at (bit_not w64 z) i) (bit_at from_high i)) (bit_at (2 ^ 64 - 2 ^ place) i)
  three i =
      bit_at_and (bit_and (bit_not w64 z) from_high) ((2 ^ 64 - 1) * 2 ^ place % 2 ^ 64) i
      ∙ ap (λ n. min n (bit_at ((2 ^ 64 - 1) * 2 ^ place % 2 ^ 64) i)) (bit_at_and (bit_not w64 z) from_high i)
      ∙ ap (λ n. min (min (bit_at (bit_not w64 z) i) (bit_at from_high i)) (bit_at n i))
      (ones_shl 64 place (omega (arith, place_fits)))

  -- what differs in a coordinate is at or below the highest place that does
  apart_within : (c j t a b : ℕ) → a < 2 ^ 64 →
      b < 2 ^ 64 → j % d ≡ c → (bit_at a j ≡ bit_at b j → ⊥) → DiffersAt t (dilated d c a) (dilated d c b) → j ≤ t
  apart_within c j t a b a_fits b_fits own apart found = elim (cases_lt t j) [
    | inr rest ↦ rest
    | inl higher ↦
        absurd (apart (sym (bit_at-own d c a j a_fits own) ∙ found.above j higher ∙ bit_at-own d c b j b_fits own))
  ]

  module _ (i : ℕ) (one : bit_at open_bits i ≡ 1) where
    from : place ≤ i
    from = elim (cases_lt i place) [
      | inr rest ↦ rest
      | inl lower ↦ absurd (omega (arith, one, three i, bit_at_mask_below place 64 i lower))
    ]

    near : i < 64
    near = elim (cases_lt i 64) [
      | inl low ↦ low
      | inr far ↦ absurd (omega (arith, one, three i, bit_at_mask_above place 64 i far))
    ]

    clear : bit_at z i ≡ 0
    clear = omega (arith, one, three i, bit_at_not w64 z i z_fits near, bit_at-lt z i)

    room : HasRoom d z high i
    room =
        let (j, up, own, differ) = apart_from_one d high z from_high some high_fits z_fits is_filled i
        (omega (arith, one, three i, bit_at-lt from_high i)) in
        let apart : bit_at high j
        ≡ bit_at z j → ⊥ = λ same. omega (arith, same, differ, bit_at_xor high z j, bit_at-lt z j) in
        elim (cases_lt (dilated d (i % d) z) (dilated d (i % d) high)) [
          | inl less ↦
              let (t, found) = top_difference 64 _ _ (dilated-lt d (i % d) high) less in
              let within = apart_within (i % d) j t z high z_fits high_fits own (λ same. apart (sym same)) found in
              record { clear = clear; top = t; differs = found; within = omega arith }
          | inr rest ↦ elim (cases_lt (dilated d (i % d) high) (dilated d (i % d) z)) [
            | inl falls ↦
                let (t, found) = top_difference 64 _ _ (dilated-lt d (i % d) z) falls in
                let within = apart_within (i % d) j t high z high_fits z_fits own apart found in
                let decided : t ≤ place = highest.highest (i % d) t (mod_below i d some) (inr found) in
                let here : t ≡ i = omega (arith, from) in
                let set : bit_at z i ≡ 1 = sym (bit_at-own d (i % d) z i z_fits refl)
                ∙ sym (ap (bit_at (dilated d (i % d) z)) here) ∙ found.set in
                absurd (omega (arith, set, clear))
            | inr other ↦
                let same : dilated d (i % d) high ≡ dilated d (i % d) z = omega arith in
                absurd (apart (sym (bit_at-own d (i % d) high j high_fits own)
                ∙ ap (λ n. bit_at n j) same ∙ bit_at-own d (i % d) z j z_fits own))
          ]
        ]

  pub opens-from_bit : (i : ℕ) → bit_at open_bits i ≡ 1 → Opens d z low high i
  opens-from_bit i one = record {
    room = room i one;
    undecided = λ c t below decided. omega (arith, highest.highest c t below decided, from i one);
  }

  pub bit-from_opens : (i : ℕ) → Opens d z low high i → bit_at open_bits i ≡ 1
  bit-from_opens i opens =
      let top = opens.room.differs in
      let t = opens.room.top in
      let near : i < 64 = omega (arith, opens.room.within, top_below d (i % d) z high t top) in
      let own : t % d ≡ i % d = own_from_one d (i % d) high t top.set in
      let differ : bit_at (bit_xor high z) t ≡ 1 =
      bit_at_xor high z t
      ∙ omega (
        arith,
        sym (bit_at-own d (i % d) high t high_fits own)
            ∙ top.set,
        sym (bit_at-own d (i % d) z t z_fits own) ∙ top.clear,
      ) in
      let filled = one_from_apart d high z from_high some high_fits z_fits is_filled i t opens.room.within own differ in
      let from : place ≤ i = elim highest.attained
      [ inl none ↦ omega arith | inr found ↦ opens.undecided found.0 place found.1 found.2 ] in
      omega (
        arith,
        three i,
        filled,
        bit_at_not w64 z i z_fits near,
        opens.room.clear,
        bit_at_mask_inside place 64 i from near,
      )

  open_fits : open_bits < 2 ^ 64
  open_fits = below_from_bits open_bits 64 (λ i far. omega (arith, three i, bit_at_mask_above place 64 i far))

  -- so the lowest one is the lowest opening
  pub lowest-from_open : 0 < open_bits →
      Opens d z low high (trailing_zeros w64 open_bits)
      × ((i : ℕ) → Opens d z low high i → trailing_zeros w64 open_bits ≤ i)
  lowest-from_open positive =
      let lowest = bit_at-trailing_zeros w64 open_bits positive open_fits in (
        opens-from_bit (trailing_zeros w64 open_bits) lowest.1,
        λ i opens. elim (cases_lt i (trailing_zeros w64 open_bits)) [
          | inr rest ↦ rest
          | inl lower ↦ absurd (omega (arith, lowest.2 i lower, bit-from_opens i opens))
        ],
      )
