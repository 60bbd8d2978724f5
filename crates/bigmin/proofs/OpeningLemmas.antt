-- From where the next code of a box begins to differ, and that the least code from there on is the next one.
-- A code of the box above z differs from z first at a zero of z. There z's coordinate is still within reach of its
-- high end, and no coordinate of z is decided to be out of its interval by a higher place: else the code, which
-- agrees with z above, were out of it too. So the lowest such place is where the next code begins to differ, and
-- of the codes that do so there the least has the least coordinates: z's bits down to that place, or the low end.
use Rattle.std.proofs.Common.{◌≡◌, ℕ, ◌%◌, ◌^◌, ◌<◌, ◌≤◌, max, sym, ap, ◌∙◌, subst, inl, inr, refl, arith}
use Rattle.std.specs.Int.{bit_at}
use Rattle.std.proofs.lemmas.Bool.{cases_lt, cases_eq}
use Rattle.std.proofs.lemmas.Nat.{mod_below}
use Rattle.std.proofs.lemmas.Nat.Bits.{same_from_bits}
use Rattle.zorder.proofs.CallerLemmas.{DiffersAt, less_by_bit, top_difference}
use Rattle.zorder.specs.Dilated.{dilated, IsBetween}
use Rattle.bigmin.specs.Openings.{IsDecidedAt, HasRoom, Opens, IsLeastFrom}
use Rattle.zorder.proofs.CallerLemmas.{dilated-lt, bit_at-own, bit_at-other, own_from_one, agree_dilated}
use Rattle.bigmin.proofs.GreaterLemmas.{max_cases, bit_at-greater_other}

-- two numbers differ at t as others do that have the same bits from t on
swap_lesser : (t a a' b : ℕ) → ((j : ℕ) → t ≤ j → bit_at a' j ≡ bit_at a j) → DiffersAt t a b → DiffersAt t a' b
swap_lesser t a a' b same found = record {
  clear = same t (omega arith) ∙ found.clear;
  set = found.set;
  above = λ j higher. same j (omega arith) ∙ found.above j higher;
}

swap_greater : (t a b b' : ℕ) → ((j : ℕ) → t ≤ j → bit_at b' j ≡ bit_at b j) → DiffersAt t a b → DiffersAt t a b'
swap_greater t a b b' same found = record {
  clear = found.clear;
  set = same t (omega arith) ∙ found.set;
  above = λ j higher. found.above j higher ∙ sym (same j (omega arith));
}

module _ (d z low high : ℕ) (some : 0 < d) (z_fits : z < 2 ^ 64) where
  -- ---- a code of the box above z shows an opening

  module _ (w i : ℕ) (w_fits : w < 2 ^ 64) (found : DiffersAt i z w) (between : IsBetween d low high w) where
    -- above the place i the coordinates of z and w agree
    agree : (c j : ℕ) → i < j → bit_at (dilated d c w) j ≡ bit_at (dilated d c z) j
    agree c j higher = sym (agree_dilated d c z w j z_fits w_fits (found.above j higher))

    differ_here : DiffersAt i (dilated d (i % d) z) (dilated d (i % d) w)
    differ_here = record {
      clear = bit_at-own d (i % d) z i z_fits refl ∙ found.clear;
      set = bit_at-own d (i % d) w i w_fits refl ∙ found.set;
      above = λ j higher. sym (agree (i % d) j higher);
    }

    room : HasRoom d z high i
    room =
        let within : i % d < d = mod_below i d some in
        let (t, top) = top_difference 64 (dilated d (i % d) z) (dilated d (i % d) high) (dilated-lt d (i % d) high)
        (omega (arith, less_by_bit i _ _ differ_here, between.not_above (i % d) within)) in
        record {
          clear = found.clear;
          top = t;
          differs = top;
          within = elim (cases_lt t i) [
            | inr rest ↦ rest
            | inl lower ↦ absurd
                (omega (
                  arith,
                  between.not_above (i % d) within,
                  less_by_bit i _ _ (swap_lesser i _ _ _ (λ j higher. sym (top.above j (omega arith))) differ_here),
                ))
          ];
        }

    undecided : (c t : ℕ) → c < d → IsDecidedAt d z low high c t → t ≤ i
    undecided c t below (inl falls) = elim (cases_lt i t) [
      | inr rest ↦ rest
      | inl higher ↦ absurd
          (omega (
            arith,
            between.not_below c below,
            less_by_bit t _ _ (swap_lesser t _ _ _ (λ j from. agree c j (omega arith)) falls),
          ))
    ]
    undecided c t below (inr rises) = elim (cases_lt i t) [
      | inr rest ↦ rest
      | inl higher ↦ absurd
          (omega (
            arith,
            between.not_above c below,
            less_by_bit t _ _ (swap_greater t _ _ _ (λ j from. agree c j (omega arith)) rises),
          ))
    ]

    pub Opens-from_code : Opens d z low high i
    Opens-from_code = record { room = room; undecided = undecided }

-- the bits of z above the place b, then a one, then zeros
pub record IsFirst (z b first : ℕ) : Type 0 where
  pub fits : first < 2 ^ 64
  pub below : (j : ℕ) → j < b → bit_at first j ≡ 0
  pub at : bit_at first b ≡ 1
  pub above : (j : ℕ) → b < j → bit_at first j ≡ bit_at z j

module _ (d z low high b first code : ℕ) (some : 0 < d)
    (z_fits : z < 2 ^ 64) (low_fits : low < 2 ^ 64) (opens : Opens d z low high b) (is_first : IsFirst z b first)
    (least : IsLeastFrom d first low code)
    (code_fits : code < 2 ^ 64) (ordered : (c : ℕ) → c < d → dilated d c low ≤ dilated d c high) where
  -- ---- the least code from an opening is in the box

  abbrev greater_of : ℕ → ℕ
  greater_of c = max (dilated d c first) (dilated d c low)

  -- first has z's bits above b in each coordinate
  first_above : (c j : ℕ) → b < j → bit_at (dilated d c first) j ≡ bit_at (dilated d c z) j
  first_above c j higher = agree_dilated d c first z j is_first.fits z_fits (is_first.above j higher)

  -- no coordinate of first is above its high end
  first_within : (c : ℕ) → c < d → dilated d c first ≤ dilated d c high
  first_within c below = elim (cases_lt (dilated d c high) (dilated d c first)) [
    | inr rest ↦ rest
    | inl falls ↦ let (t, found) = top_difference 64 _ _ (dilated-lt d c first) falls in absurd (never t found)
  ]
    where
      at_b : (t : ℕ) → t ≡ b → DiffersAt t (dilated d c high) (dilated d c first) → ⊥
      at_b t here found =
          let own : b % d ≡ c = ap (λ n. n % d) (sym here) ∙ own_from_one d c first t found.set in
          let room = opens.room in
          let top = subst (λ k. DiffersAt room.top (dilated d k z) (dilated d k high)) own room.differs in
          elim (cases_lt t room.top) [
            | inl lower ↦ absurd
                (omega (arith, top.clear, top.set, found.above room.top lower, first_above c room.top (omega arith)))
            | inr rest ↦ let same : room.top ≡ t = omega (arith, room.within) in
                absurd (omega (arith, top.set, found.clear, ap (bit_at (dilated d c high)) same))
          ]

      never : (t : ℕ) → DiffersAt t (dilated d c high) (dilated d c first) → ⊥
      never t found =
          let own = own_from_one d c first t found.set in
          elim (cases_lt t b) [
            | inl lower ↦ omega (arith, found.set, bit_at-own d c first t is_first.fits own, is_first.below t lower)
            | inr rest ↦ elim (cases_eq t b) [
              | inl here ↦ at_b t here found
              | inr apart ↦
                  let decided = opens.undecided c t below
                  (inr (swap_greater t _ _ _ (λ j from. sym (first_above c j (omega arith))) found)) in
                  omega arith
            ]
          ]

  -- from b on each coordinate has the bits of first
  first_kept : (c j : ℕ) → c < d → b ≤ j → bit_at (greater_of c) j ≡ bit_at (dilated d c first) j
  first_kept c j below from = elim (max_cases (dilated d c first) (dilated d c low)) [
    | inl (rest, same) ↦ ap (λ m. bit_at m j) same
    | inr (less, same) ↦
        let (t, found) = top_difference 64 _ _ (dilated-lt d c low) less in
        ap (λ m. bit_at m j) same ∙ sym (found.above j (omega (arith, lower t found)))
  ]
    where
      lower : (t : ℕ) → DiffersAt t (dilated d c first) (dilated d c low) → t < b
      lower t found = elim (cases_lt t b) [
        | inl less ↦ less
        | inr rest ↦ elim (cases_eq t b) [
          | inl here ↦
              let own = own_from_one d c low t found.set in
              absurd (omega
              (arith, found.clear, bit_at-own d c first t is_first.fits own, is_first.at, ap (bit_at first) here))
          | inr apart ↦
              let decided = opens.undecided c t below
              (inl (swap_lesser t _ _ _ (λ j from. sym (first_above c j (omega arith))) found)) in
              absurd (omega arith)
        ]
      ]

  code_kept : (j : ℕ) → b ≤ j → bit_at code j ≡ bit_at first j
  code_kept j from =
      least j ∙ first_kept (j % d) j (mod_below j d some) from ∙ bit_at-own d (j % d) first j is_first.fits refl

  pub code_above : z < code
  code_above = less_by_bit b z code (record {
    clear = opens.room.clear;
    set = code_kept b (omega arith) ∙ is_first.at;
    above = λ j higher. sym (code_kept j (omega arith) ∙ is_first.above j higher);
  })

  -- its coordinates are those greater ones
  dilated-code : (c : ℕ) → dilated d c code ≡ greater_of c
  dilated-code c = same_from_bits (dilated d c code) (greater_of c) (λ j. elim (cases_eq (j % d) c) [
    | inl own ↦ bit_at-own d c code j code_fits own ∙ least j ∙ ap (λ k. bit_at (greater_of k) j) own
    | inr other ↦ bit_at-other d c code j other ∙ sym (bit_at-greater_other d c first low j other)
  ])

  pub code_between : IsBetween d low high code
  code_between = record {
    not_below = λ c below. omega (arith, dilated-code c);
    not_above = λ c below. omega (arith, dilated-code c, first_within c below, ordered c below);
  }

  -- ---- and it is the least of those above z, where the opening is the lowest

  pub code_least : (w : ℕ) →
      w < 2 ^ 64 → z < w → IsBetween d low high w → ((i : ℕ) → Opens d z low high i → b ≤ i) → code ≤ w
  code_least w w_fits more between lowest =
      let (i, found) = top_difference 64 z w w_fits more in
      let from = lowest i (Opens-from_code d z low high some z_fits w i w_fits found between) in
      elim (cases_lt b i) [
        | inl lower ↦
            let less = less_by_bit i code w
            (swap_lesser i z code w (λ j higher. code_kept j (omega arith) ∙ is_first.above j (omega arith)) found) in
            omega arith
        | inr rest ↦ elim (cases_lt w code) [
          | inr at_most ↦ at_most
          | inl falls ↦ let (t, under) = top_difference 64 w code code_fits falls in
              absurd (never i (omega arith) found t under)
        ]
      ]
    where
      -- w has the bits of first from b on
      agree : (i : ℕ) → i ≡ b → DiffersAt i z w → (j : ℕ) → b ≤ j → bit_at w j ≡ bit_at first j
      agree i here found j from = elim (cases_eq j b) [
        | inl same ↦ ap (bit_at w) (same ∙ sym here) ∙ found.set ∙ sym (ap (bit_at first) same ∙ is_first.at)
        | inr apart ↦ sym (found.above j (omega arith)) ∙ sym (is_first.above j (omega arith))
      ]

      -- so no coordinate of it is below first's
      not_below_first : (i c : ℕ) → i ≡ b → DiffersAt i z w → dilated d c first ≤ dilated d c w
      not_below_first i c here found = elim (cases_lt (dilated d c w) (dilated d c first)) [
        | inr rest ↦ rest
        | inl falls ↦
            let (t, under) = top_difference 64 _ _ (dilated-lt d c first) falls in
            let own = own_from_one d c first t under.set in
            elim (cases_lt t b) [
              | inl lower ↦
                  absurd (omega (arith, under.set, bit_at-own d c first t is_first.fits own, is_first.below t lower))
              | inr from ↦ absurd
                  (omega (
                    arith,
                    under.set,
                    under.clear,
                    bit_at-own d c first t is_first.fits own,
                    bit_at-own d c w t w_fits own,
                    agree i here found t from,
                  ))
            ]
      ]

      never : (i : ℕ) → i ≡ b → DiffersAt i z w → (t : ℕ) → DiffersAt t w code → ⊥
      never i here found t under =
          let c = t % d in
          let below : c < d = mod_below t d some in
          let lane : DiffersAt t (dilated d c w) (dilated d c code) = record {
            clear = bit_at-own d c w t w_fits refl ∙ under.clear;
            set = bit_at-own d c code t code_fits refl ∙ under.set;
            above = λ j higher. agree_dilated d c w code j w_fits code_fits (under.above j higher);
          } in
          omega
          (arith, less_by_bit t _ _ lane, dilated-code c, not_below_first i c here found, between.not_below c below)
