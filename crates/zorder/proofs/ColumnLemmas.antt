-- Four codes of two coordinates, by their bytes: what three changes of sides leave are their coordinates.
use Rattle.std.proofs.Common.{◌≡◌, ◌≢◌, ℕ, zero, suc, ◌+◌, ◌-◌, ◌*◌, ◌/◌, ◌%◌, ◌^◌, ◌<◌, ◌≤◌}
use Rattle.std.proofs.Common.{List, length, slice_index, slice_set, get_or, refl, sym, subst}
use Rattle.std.proofs.Common.{ap, ◌∙◌, inl, inr, arith, lit<, get_or-set_other, get_or-set_same}
use Rattle.std.specs.Int.{bit_at}
use Rattle.std.proofs.lemmas.Bool.{cases_lt}
use Rattle.std.proofs.lemmas.Nat.{mod_below}
use Rattle.std.proofs.lemmas.Nat.Bits.{bit_at_above}
use Rattle.std.proofs.lemmas.Simd.{Each1-chunk, get_or-chunk, get_or-put_chunk_at, get_or-put_chunk_below, get_or_wider}
use lib.Lanes.{Each1, chunk, digits_l, number_l, put_chunk}
use Rattle.zorder.specs.Codes.{coordinate}
use Rattle.zorder.specs.Columns.{HasLanes, byte_of, lower_side, upper_side}
use Rattle.zorder.proofs.CodeLemmas.{coordinate_from_bits}
use Rattle.zorder.proofs.SideLemmas.{AreSides, IsSideMask, side_mask, sides_changed, bit_at-byte, bit_at-number_l}

mask_4 : IsSideMask 4 0x0f
mask_4 = side_mask 4 0x0f (λ q r within near. omega arith) refl

mask_2 : IsSideMask 2 0x33
mask_2 = side_mask 2 0x33 (λ q r within near. omega arith) refl

mask_1 : IsSideMask 1 0x55
mask_1 = side_mask 1 0x55 (λ q r within near. omega arith) refl

-- the 16 bits of a code from which the byte of lane l comes
abbrev pub piece : List ℕ → ℕ → ℕ → ℕ
piece codes l i = bit_at (slice_index codes (l / 4)) (l % 4 * 16 + i)

module _ (codes even odd : List ℕ)
    (evens : HasLanes even (λ l. byte_of codes (2 * l))) (odds : HasLanes odd (λ l. byte_of codes (2 * l + 1))) where
  pub sides_8 : (l : ℕ) → l < 16 → AreSides 8 (piece codes l) (slice_index even l) (slice_index odd l)
  sides_8 l h = record {
    lower = λ j r within near.
        let same : (2 * l) / 8 ≡ l / 4 = omega arith in
        let place : (2 * l) % 8 * 8 + (j * 8 + r) ≡ l % 4 * 16 + (j * 16 + r) = omega arith in
        ap (λ n. bit_at n (j * 8 + r)) (evens.lanes l h)
        ∙ bit_at-byte (slice_index codes ((2 * l) / 8)) ((2 * l) % 8) (j * 8 + r) near
        ∙ ap (λ k. bit_at (slice_index codes k) ((2 * l) % 8 * 8 + (j * 8 + r))) same
        ∙ ap (bit_at (slice_index codes (l / 4))) place;
    upper = λ j r within near.
        let same : (2 * l + 1) / 8 ≡ l / 4 = omega arith in
        let place : (2 * l + 1) % 8 * 8 + (j * 8 + r) ≡ l % 4 * 16 + (j * 16 + (8 + r)) = omega arith in
        ap (λ n. bit_at n (j * 8 + r)) (odds.lanes l h)
        ∙ bit_at-byte (slice_index codes ((2 * l + 1) / 8)) ((2 * l + 1) % 8) (j * 8 + r) near
        ∙ ap (λ k. bit_at (slice_index codes k) ((2 * l + 1) % 8 * 8 + (j * 8 + r))) same
        ∙ ap (bit_at (slice_index codes (l / 4))) place;
  }

-- one change of sides, in a lane
changed : (k mask l : ℕ) (bits : ℕ → ℕ) (a b first second : List ℕ) →
    IsSideMask k mask → l < 16 → AreSides (k + k) bits (slice_index a l) (slice_index b l)
    → HasLanes first (λ i. lower_side k mask (slice_index a i) (slice_index b i)) →
    HasLanes second (λ i. upper_side k mask (slice_index a i) (slice_index b i))
    → AreSides k bits (slice_index first l) (slice_index second l)
changed k mask l bits a b first second is_mask h before lowers uppers =
    rw (lowers.lanes l h, uppers.lanes l h)
    (sides_changed k mask (slice_index a l) (slice_index b l) bits is_mask before)

module _ (codes even odd f4 s4 f2 s2 f1 s1 : List ℕ)
    (evens : HasLanes even (λ l. byte_of codes (2 * l))) (odds : HasLanes odd (λ l. byte_of codes (2 * l + 1)))
    (lower_4 : HasLanes f4 (λ l. lower_side 4 0x0f (slice_index even l) (slice_index odd l)))
    (upper_4 : HasLanes s4 (λ l. upper_side 4 0x0f (slice_index even l) (slice_index odd l)))
    (lower_2 : HasLanes f2 (λ l. lower_side 2 0x33 (slice_index f4 l) (slice_index s4 l)))
    (upper_2 : HasLanes s2 (λ l. upper_side 2 0x33 (slice_index f4 l) (slice_index s4 l)))
    (lower_1 : HasLanes f1 (λ l. lower_side 1 0x55 (slice_index f2 l) (slice_index s2 l)))
    (upper_1 : HasLanes s1 (λ l. upper_side 1 0x55 (slice_index f2 l) (slice_index s2 l))) where
  pub sides : (l : ℕ) → l < 16 → AreSides 1 (piece codes l) (slice_index f1 l) (slice_index s1 l)
  sides l h =
      changed 1 0x55 l (piece codes l) f2 s2 f1 s1 mask_1 h
      (changed 2 0x33 l (piece codes l) f4 s4 f2 s2 mask_2 h
      (changed 4 0x0f l (piece codes l) even odd f4 s4 mask_4 h (sides_8 codes even odd evens odds l h) lower_4 upper_4)
      lower_2 upper_2)
      lower_1 upper_1

-- numbers of four bytes each, by their bits
module _ (bytes : List ℕ) (long : length bytes ≡ 16) (each : Each1 (λ x. x < 256) bytes) (i : ℕ) (h : i < 4) where
  pub number_bit : (m q : ℕ) → m < 4 → q < 8 →
      bit_at (get_or (digits_l (2 ^ 32) 4 (number_l 256 bytes)) i 0) (m * 8 + q) ≡ bit_at (get_or bytes (4 * i + m) 0) q
  number_bit m q low within =
      ap (λ n. bit_at n (m * 8 + q)) (get_or_wider 256 4 (2 ^ 32) 4 bytes i refl each h)
      ∙ bit_at-number_l (chunk (4 * i) 4 bytes) (Each1-chunk (λ x. x < 256) (4 * i) 4 bytes each) m q within
      ∙ ap (λ n. bit_at n q) (get_or-chunk (4 * i) 4 bytes m 0 low)

pub digits_below : (p : ℕ) → 0 < p → (n x : ℕ) → Each1 (λ y. y < p) (digits_l p n x)
digits_below p some zero x = tt
digits_below p some (suc n) x = (mod_below x p some, digits_below p some n (x / p))

-- a number whose bytes have each second bit of the code's pieces, from bit c on, is its coordinate c
module _ (codes bytes : List ℕ)
    (c i x : ℕ) (among : c < 2) (h : i < 4) (fits : slice_index codes i < 2 ^ 64) (range : x < 2 ^ 32)
    (number : (m q : ℕ) → m < 4 → q < 8 → bit_at x (m * 8 + q) ≡ bit_at (slice_index bytes (4 * i + m)) q)
    (bits : (l q : ℕ) → l < 16 → q < 8 → bit_at (slice_index bytes l) q ≡ piece codes l (2 * q + c)) where
  near : (b : ℕ) → b / 8 < 4 → bit_at x b ≡ bit_at (slice_index codes i) (b * 2 + c)
  near b low =
      let same : (4 * i + b / 8) / 4 ≡ i = omega arith in
      let place : (4 * i + b / 8) % 4 * 16 + (2 * (b % 8) + c) ≡ b * 2 + c = omega arith in
      ap (bit_at x) (omega arith)
      ∙ number (b / 8) (b % 8) low (omega arith) ∙ bits (4 * i + b / 8) (b % 8) (omega arith) (omega arith)
      ∙ ap (λ k. bit_at (slice_index codes k) ((4 * i + b / 8) % 4 * 16 + (2 * (b % 8) + c))) same
      ∙ ap (bit_at (slice_index codes i)) place

  far : (b : ℕ) → 4 ≤ b / 8 → bit_at x b ≡ bit_at (slice_index codes i) (b * 2 + c)
  far b high = bit_at_above x 32 b range (omega arith)
      ∙ sym (bit_at_above (slice_index codes i) 64 (b * 2 + c) fits (omega arith))

  bit : (b : ℕ) → bit_at (slice_index codes i) (b * 2 + c) ≡ bit_at x b
  bit b = elim (cases_lt (b / 8) 4) [ inl low ↦ sym (near b low) | inr high ↦ sym (far b high) ]

  pub column : x ≡ coordinate 2 c (slice_index codes i)
  column = sym (coordinate_from_bits 2 c (slice_index codes i) x (lit< tt) fits bit)

-- four numbers, put behind those that are there
pub put_four : (xs four : List ℕ) (f : ℕ → ℕ) (at : ℕ) →
    length four ≡ 4 → at + 4 ≤ length xs → ((i : ℕ) → i < at → get_or xs i 0 ≡ f i)
    → ((i : ℕ) → i < 4 → get_or four i 0 ≡ f (at + i)) → (i : ℕ) → i < at + 4 → get_or (put_chunk at xs four) i 0 ≡ f i
put_four xs four f at long room before these i within = elim (cases_lt i at) [
  | inl earlier ↦ get_or-put_chunk_below at xs four i 0 earlier ∙ before i earlier
  | inr from ↦
      let place : at + (i - at) ≡ i = omega arith in
      ap (λ k. get_or (put_chunk at xs four) k 0) (sym place)
      ∙ get_or-put_chunk_at at xs four (i - at) 0 (omega arith) (omega arith)
      ∙ these (i - at) (omega arith) ∙ ap f place
]

-- one number, put behind those that are there
pub set_next : (xs : List ℕ) (f : ℕ → ℕ) (from i value : ℕ) →
    i < length xs → value ≡ f i → ((k : ℕ) → from ≤ k → k < i → get_or xs k 0 ≡ f k)
    → (k : ℕ) → from ≤ k → k < i + 1 → get_or (slice_set xs i value) k 0 ≡ f k
set_next xs f from i value room is before k not_below within = elim (cases_lt k i) [
  | inl earlier ↦
      let apart : k ≢ i = omega arith in
      get_or-set_other xs i k value 0 apart ∙ before k not_below earlier
  | inr last ↦
      let here : i ≡ k = omega arith in
      subst (λ n. get_or (slice_set xs i value) n 0 ≡ f n) here (get_or-set_same xs i value 0 room ∙ is)
]
