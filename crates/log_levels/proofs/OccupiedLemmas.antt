-- The occupied levels, from the newest on: the bits of a number that are 1, from the lowest on.
use Rattle.std.proofs.Common.{◌≡◌, ℕ, zero, suc, ◌+◌, ◌-◌, ◌*◌, ◌/◌, ◌%◌, ◌^◌, min, ◌<◌, ◌≤◌, List, length, take}
use Rattle.std.proofs.Common.{Option, Some, None, IsSome, rules, refl, sym, ap, ◌∙◌, inl, inr, ◌⊎◌, arith, add-one}
use Rattle.std.proofs.Math.Nat.{mul-div_cancel}
use Rattle.std.proofs.lemmas.Nat.{pow_pos, shr-shr}
use Rattle.std.proofs.lemmas.Nat.Bits.{bit_at-zero, bit_at_and, bit_at_above, bit_at_ones_above}
use Rattle.std.proofs.lemmas.Nat.Bits.{bit_at_cat_low, bit_at_cat_high, bit_at-trailing_zeros, same_from_bits}
use Rattle.std.proofs.lemmas.Bool.{cases_lt}
use Rattle.std.specs.Int.{bit_at, trailing_zeros, w64}
use Rattle.std.specs.Prelude.{bit_and}
use Rattle.tombstones.specs.declared.entry.Entry.{Entry}
use Rattle.map_level.specs.Levels.{last_at}
use Rattle.log_levels.specs.Shapes.{Held, IsCutOf, IsLevelFor, level_of, from_bit}
use Rattle.log_levels.specs.Kept.{value_of, entry_in}
use Rattle.log_levels.proofs.SearchLemmas.{search-none, search-in-found, search-in-missed, blocks-few}
use Rattle.log_levels.proofs.BitLemmas.{from_bit-zero, from_bit-le, from_bit-clear, from_bit-set, power-more}

-- where no bit below a place is 1, none is left out
pub from_bit-all : (n t : ℕ) → ((i : ℕ) → i < t → bit_at n i ≡ 0) → from_bit t n ≡ n
from_bit-all n zero clear = from_bit-zero n
from_bit-all n (suc t) clear =
    ap (λ k. from_bit k n) (sym (add-one t))
    ∙ sym (from_bit-clear t n (clear t (omega arith))) ∙ from_bit-all n t (λ i less. clear i (omega arith))

-- the bits that are left out are 0, and the others stay
pub bit-left_out : (j f i : ℕ) → i < j → bit_at (from_bit j f) i ≡ 0
bit-left_out j f i less =
    let whole : f / 2 ^ j * 2 ^ j + 0 ≡ from_bit j f = omega arith in
    ap (λ n. bit_at n i) (sym whole) ∙ bit_at_cat_low (f / 2 ^ j) j 0 i less ∙ bit_at-zero i

pub bit-stays : (j f i low : ℕ) → low < 2 ^ j → j ≤ i → bit_at (from_bit j f + low) i ≡ bit_at (f / 2 ^ j) (i - j)
bit-stays j f i low small from = bit_at_cat_high (f / 2 ^ j) j low i small from

pub bit-kept : (j f i : ℕ) → j ≤ i → bit_at (from_bit j f) i ≡ bit_at f i
bit-kept j f i from =
    let place : j + (i - j) ≡ i = omega arith in
    let whole : from_bit j f + 0 ≡ from_bit j f = omega arith in
    ap (λ n. bit_at n i) (sym whole) ∙ bit-stays j f i 0 (pow_pos j) from
    ∙ ap (λ q. q % 2) (shr-shr f j (i - j)) ∙ ap (λ k. f / 2 ^ k % 2) place

-- to leave out more bits of what is left is to leave them out
pub from_bit-twice : (j t f : ℕ) → j ≤ t → from_bit t (from_bit j f) ≡ from_bit t f
from_bit-twice j t f below =
    let place : j + (t - j) ≡ t = omega arith in
    let part : from_bit j f / 2 ^ j ≡ f / 2 ^ j = mul-div_cancel (f / 2 ^ j) (pow_pos j) in
    let quotient : from_bit j f / 2 ^ t ≡ f / 2 ^ t =
    ap (λ k. from_bit j f / 2 ^ k) (sym place) ∙ sym (shr-shr (from_bit j f) j (t - j)) ∙ ap (λ q. q / 2 ^ (t - j)) part
    ∙ shr-shr f j (t - j) ∙ ap (λ k. f / 2 ^ k) place in
    ap (λ q. q * 2 ^ t) quotient

-- without its lowest bit that is 1 a number is what `n & (n - 1)` gives
pub and-less_one : (n t : ℕ) → from_bit t n ≡ n → bit_at n t ≡ 1 → bit_and n (n - 1) ≡ from_bit (t + 1) n
and-less_one n t all set = same_from_bits (bit_and n (n - 1)) (from_bit (t + 1) n) each
  where
    is : n ≡ from_bit (t + 1) n + 2 ^ t
    is = sym all ∙ from_bit-set t n set

    less : n - 1 ≡ from_bit (t + 1) n + (2 ^ t - 1)
    less = omega (arith, is, pow_pos t)

    twice : 2 ^ (t + 1) ≡ 2 * 2 ^ t
    twice = power-more t

    low : (i : ℕ) → i < t + 1 → min (bit_at n i) (bit_at (n - 1) i) ≡ 0
    low i below = elim (cases_lt i t) [
      | inl under ↦ let clear = ap (λ k. bit_at k i) (sym all) ∙ bit-left_out t n i under in omega (arith, clear)
      | inr from ↦
          let at : i ≡ t = omega arith in
          let gone : bit_at (n - 1) i ≡ 0 = ap (λ k. bit_at k i) less
          ∙ bit_at_cat_low (n / 2 ^ (t + 1)) (t + 1) (2 ^ t - 1) i below ∙ bit_at_ones_above t i from in
          omega (arith, gone)
    ]

    upper : (i : ℕ) → t + 1 ≤ i → min (bit_at n i) (bit_at (n - 1) i) ≡ bit_at (from_bit (t + 1) n) i
    upper i from =
        let q = bit_at (n / 2 ^ (t + 1)) (i - (t + 1)) in
        let one : bit_at n i ≡ q = ap (λ k. bit_at k i) is
        ∙ bit-stays (t + 1) n i (2 ^ t) (omega (arith, twice, pow_pos t)) from in
        let two : bit_at (n - 1) i ≡ q = ap (λ k. bit_at k i) less
        ∙ bit-stays (t + 1) n i (2 ^ t - 1) (omega (arith, twice, pow_pos t)) from in
        let whole : from_bit (t + 1) n + 0 ≡ from_bit (t + 1) n = omega arith in
        let three : bit_at (from_bit (t + 1) n) i ≡ q = ap (λ k. bit_at k i) (sym whole)
        ∙ bit-stays (t + 1) n i 0 (pow_pos (t + 1)) from in
        omega (arith, one, two, three)

    each : (i : ℕ) → bit_at (bit_and n (n - 1)) i ≡ bit_at (from_bit (t + 1) n) i
    each i = bit_at_and n (n - 1) i ∙ elim (cases_lt i (t + 1)) [
      | inl below ↦ low i below ∙ sym (bit-left_out (t + 1) n i below)
      | inr from ↦ upper i from
    ]

-- what is known of the lowest bit that is 1
pub record IsLowest (n t : ℕ) : Type 0 where
  pub set : bit_at n t ≡ 1
  pub lowest : from_bit t n ≡ n
  pub rest : bit_and n (n - 1) ≡ from_bit (t + 1) n

pub lowest-one : (n : ℕ) → 0 < n → n < 2 ^ 64 → IsLowest n (trailing_zeros w64 n)
lowest-one n some small =
    let (few, set, clear) = bit_at-trailing_zeros w64 n some small in
    let all = from_bit-all n (trailing_zeros w64 n) clear in
    record { set = set; lowest = all; rest = and-less_one n (trailing_zeros w64 n) all set }

-- a bit that is 1 is within the number
pub bit-within : (n k i : ℕ) → n < 2 ^ k → bit_at n i ≡ 1 → i < k
bit-within n k i small set = elim (cases_lt i k) [
  | inl less ↦ less
  | inr from ↦ absurd (omega (arith, set, bit_at_above n k i small from))
]

-- the bits that are left behind the lowest one
pub bit-behind : (n t i : ℕ) → from_bit t n ≡ n → bit_at (from_bit (t + 1) n) i ≡ 0 → (bit_at n i ≡ 0) ⊎ (i ≡ t)
bit-behind n t i all clear = elim (cases_lt i t) [
  | inl under ↦ inl (ap (λ k. bit_at k i) (sym all) ∙ bit-left_out t n i under)
  | inr from ↦ elim (cases_lt t i) [
    | inl above ↦ inl (sym (bit-kept (t + 1) n i (omega arith)) ∙ clear)
    | inr at ↦ inr (omega arith)
  ]
]

pub bit-still : (n t i : ℕ) → bit_at (from_bit (t + 1) n) i ≡ 1 → (t < i) × (bit_at n i ≡ 1)
bit-still n t i set = elim (cases_lt i (t + 1)) [
  | inl below ↦ absurd (omega (arith, set, bit-left_out (t + 1) n i below))
  | inr from ↦ (omega arith, sym (bit-kept (t + 1) n i from) ∙ set)
]

-- a level is free where its bit is 0
pub level-free : (held : Held) (entries : List Entry) (i : ℕ) →
    IsCutOf held entries → i < length held.levels → bit_at (held.accepted / 64) i ≡ 0 → level_of held i ≡ None
level-free held entries i cut inside clear = go (level_of held i) (cut.levels i inside)
  where
    go : (level : Option (List Entry)) → IsLevelFor entries (length entries / 64) i level → level ≡ None
    go None free = refl
    go (Some level) (set, last) = absurd (omega (arith, set, clear, ap (λ n. bit_at (n / 64) i) cut.accepted))

-- and is taken where it is 1
pub level-taken : (held : Held) (entries : List Entry) (i : ℕ) →
    IsCutOf held entries → bit_at (held.accepted / 64) i ≡ 1 → IsSome (level_of held i)
level-taken held entries i cut set = go (level_of held i) (cut.levels i inside)
  where
    inside : i < length held.levels
    inside = bit-within (held.accepted / 64)
        (length held.levels) i (omega (arith, blocks-few held entries cut, ap (λ n. n / 64) cut.accepted)) set

    go : (level : Option (List Entry)) → IsLevelFor entries (length entries / 64) i level → IsSome level
    go None free = absurd (omega (arith, free, set, ap (λ n. bit_at (n / 64) i) cut.accepted))
    go (Some level) has = search rules

-- how far a search has come: the last entry of the key is in the blocks of these bits, if any has a value
pub record IsReached (entries : List Entry) (key rest : ℕ) : Type 0 where
  pub place : (j : ℕ) × (rest ≡ from_bit j (length entries / 64))
  pub value : value_of (last_at entries key) ≡ value_of (last_at (take (64 * rest) entries) key)

pub reached-start : (held : Held) (entries : List Entry) (key : ℕ) →
    IsCutOf held entries → last_at held.buffer key ≡ None → IsReached entries key (held.accepted / 64)
reached-start held entries key cut none =
    let f = length entries / 64 in
    let all : from_bit 0 f ≡ held.accepted / 64 = from_bit-zero f ∙ ap (λ n. n / 64) (sym cut.accepted) in
    record {
      place = (0, sym all);
      value = ap value_of (search-none entries held.buffer f key cut.buffer none)
          ∙ ap (λ k. value_of (last_at (take (64 * k) entries) key)) all;
    }

-- the lowest bit that is left is that of the next level
reached-next : (entries : List Entry) (key rest i : ℕ) →
    IsReached entries key rest → bit_at rest i ≡ 1 → from_bit i rest ≡ rest
    → (from_bit i (length entries / 64) ≡ rest) × (from_bit (i + 1) rest ≡ from_bit (i + 1) (length entries / 64))
reached-next entries key rest i reached set lowest =
    let f = length entries / 64 in
    let (j, is) = reached.place in
    let from : j ≤ i = elim (cases_lt i j) [
      | inl less ↦ absurd (omega (arith, set, ap (λ n. bit_at n i) is ∙ bit-left_out j f i less))
      | inr le ↦ le
    ] in (
      sym (from_bit-twice j i f from) ∙ ap (λ n. from_bit i n) (sym is) ∙ lowest,
      ap (λ n. from_bit (i + 1) n) is ∙ from_bit-twice j (i + 1) f (omega arith),
    )

pub reached-within : (held : Held) (entries : List Entry) (key rest i : ℕ) →
    IsCutOf held entries → IsReached entries key rest → bit_at rest i ≡ 1 → i < length held.levels
reached-within held entries key rest i cut reached set =
    let (j, is) = reached.place in
    bit-within rest
    (length held.levels) i (omega (arith, is, from_bit-le j (length entries / 64), blocks-few held entries cut)) set

pub reached-found : (held : Held) (entries : List Entry) (key rest i : ℕ) (entry : Entry) →
    IsCutOf held entries → IsReached entries key rest → bit_at rest i ≡ 1 → from_bit i rest ≡ rest
    → Some entry ≡ entry_in (level_of held i) key → entry.value ≡ value_of (last_at entries key)
reached-found held entries key rest i entry cut reached set lowest found =
    let f = length entries / 64 in
    let has = cut.levels i (reached-within held entries key rest i cut reached set) in
    let (same, behind) = reached-next entries key rest i reached set lowest in
    sym (reached.value ∙ ap (λ k. value_of (last_at (take (64 * k) entries) key)) (sym same)
    ∙ ap value_of (search-in-found entries f i key (level_of held i) entry has found))

pub reached-missed : (held : Held) (entries : List Entry) (key rest i : ℕ) →
    IsCutOf held entries → IsReached entries key rest → bit_at rest i ≡ 1 → from_bit i rest ≡ rest
    → None ≡ entry_in (level_of held i) key → IsReached entries key (from_bit (i + 1) rest)
reached-missed held entries key rest i cut reached set lowest missed =
    let f = length entries / 64 in
    let has = cut.levels i (reached-within held entries key rest i cut reached set) in
    let (same, behind) = reached-next entries key rest i reached set lowest in
    let value_in = λ (k : ℕ). value_of (last_at (take (64 * k) entries) key) in
    record {
      place = (i + 1, behind);
      value = reached.value ∙ ap value_in (sym same)
          ∙ search-in-missed entries f i key (level_of held i) has missed ∙ ap value_in (sym behind);
    }
