-- A line with its gap at each place of a run, and which pair it touches first.
--
-- The idea: a line that fits the run rises from c to d by at most
-- the pair's slope, and by just that where it touches both. So
-- where the line of (a, b) fits, (a, b) is the best pair, and
-- a pair of the same slope touches that same line. Then it is
-- enough that no place before a touches as a does, and none between a and b as b does (`first_of_ties`). The other way
-- round, the best pair's line fits where no pair's slope rules it out, read off at each place by the pair with a or b
-- (`allows-from_pairs`).
--
-- `low` and `up` are the ends of the gaps and `most` their greatest width.
use Rattle.std.proofs.Common.{◌≡◌, ℕ, ◌+◌, ◌<◌, ◌≤◌, inl, inr, arith}
use Rattle.std.proofs.lemmas.Bool.{cases_lt, cases_order}
use Rattle.exact_cross.specs.Steep.{IsPair, ComesFirst}
use Rattle.cut_witness.specs.declared.pairs.Gap.{Gap}
use Rattle.cut_witness.specs.Pairs.{Allows}

abbrev pub gap_at : (ℕ → ℕ) → (ℕ → ℕ) → ℕ → ℕ → Gap
gap_at low up most j = record { lower = low j; upper = up j; most = most }

-- the line is allowed at each place of s..e
abbrev pub AllAllow : (ℕ → ℕ) → (ℕ → ℕ) → ℕ → ℕ → ℕ → ℕ → ℕ → Type 0
AllAllow low up most s e a b = (j : ℕ) → s ≤ j → j < e → Allows (gap_at low up most j) a b j

-- a pair that widens the gap by all that it can comes no earlier than (a, b)
pub first_of_ties : (low up : ℕ → ℕ) (most s e a b : ℕ) → AllAllow low up most s e a b → (c d : ℕ) → IsPair s e c d →
    up c + low d + most ≤ up d + low c → ComesFirst a b c d
first_of_ties low up most s e a b allow c d pair ties =
    let at_c = allow c pair.from_start (omega (arith, pair.rises, pair.to_end)) in
    let at_d = allow d (omega (arith, pair.from_start, pair.rises)) pair.to_end in
    elim (cases_lt c a) [
      | inl before ↦ absurd (omega (arith, at_c.before_a before, at_d.not_above))
      | inr after ↦ elim (cases_order b d) [
        | inl same ↦ inr (same, after)
        | inr (inl less) ↦ inl less
        | inr (inr more) ↦ absurd (omega (arith, at_c.not_below, at_d.before_b (omega (arith, pair.rises)) more))
      ]
    ]

-- what the slopes of pairs say of a line that touches a and b
pub record AreApart (low up : ℕ → ℕ) (most s e a b : ℕ) : Type 0 where
  pub pair : IsPair s e a b
  pub at_a : up a ≡ low a
  pub at_b : up b ≡ low b + most
  pub rises : (c d : ℕ) → IsPair s e c d → up d + low c ≤ up c + low d + most
  pub falls : (c d : ℕ) → IsPair s e c d → up c + low d ≤ up d + low c + most
  pub first : (c d : ℕ) → IsPair s e c d → up c + low d + most ≤ up d + low c → ComesFirst a b c d

pair_of : (s e c d : ℕ) → s ≤ c → c < d → d < e → IsPair s e c d
pair_of s e c d from rises to = record { from_start = from; rises = rises; to_end = to }

not_below : (low up : ℕ → ℕ) (most s e a b j : ℕ) → AreApart low up most s e a b → s ≤ j → j < e → low j ≤ up j
not_below low up most s e a b j apart from to =
    let pair = apart.pair in
    elim (cases_order j b) [
      | inl same ↦ rw same (omega (arith, apart.at_b))
      | inr (inl before) ↦ omega (arith, apart.at_b, apart.rises j b (pair_of s e j b from before pair.to_end))
      | inr (inr after) ↦ omega
          (arith, apart.at_b, apart.falls b j (pair_of s e b j (omega (arith, pair.from_start, pair.rises)) after to))
    ]

not_above : (low up : ℕ → ℕ) (most s e a b j : ℕ) → AreApart low up most s e a b → s ≤ j → j < e → up j ≤ low j + most
not_above low up most s e a b j apart from to =
    let pair = apart.pair in
    elim (cases_order j a) [
      | inl same ↦ rw same (omega (arith, apart.at_a))
      | inr (inl before) ↦ omega
          (arith, apart.at_a, apart.falls j a (pair_of s e j a from before (omega (arith, pair.rises, pair.to_end))))
      | inr (inr after) ↦ omega (arith, apart.at_a, apart.rises a j (pair_of s e a j pair.from_start after to))
    ]

before_a : (low up : ℕ → ℕ) (most s e a b j : ℕ) → AreApart low up most s e a b → s ≤ j → j < a → low j < up j
before_a low up most s e a b j apart from before =
    let pair = apart.pair in
    elim (cases_lt (low j) (up j)) [
      | inl less ↦ less
      | inr more ↦
          let comes = apart.first j b
          (pair_of s e j b from (omega (arith, pair.rises)) pair.to_end) (omega (arith, apart.at_b, more)) in
          elim comes [ inl later ↦ absurd (omega (arith, later)) | inr same ↦ absurd (omega (arith, same.1, before)) ]
    ]

before_b : (low up : ℕ → ℕ) (most s e a b j : ℕ) → AreApart low up most s e a b → a < j → j < b → up j < low j + most
before_b low up most s e a b j apart after before =
    let pair = apart.pair in
    elim (cases_lt (up j) (low j + most)) [
      | inl less ↦ less
      | inr more ↦
          let comes = apart.first a j (pair_of s e a j pair.from_start after (omega (arith, pair.to_end, before)))
          (omega (arith, apart.at_a, more)) in
          elim comes
          [ inl later ↦ absurd (omega (arith, later, before)) | inr same ↦ absurd (omega (arith, same.0, before)) ]
    ]

pub allows-from_pairs : (low up : ℕ → ℕ) (most s e a b : ℕ) →
    AreApart low up most s e a b → AllAllow low up most s e a b
allows-from_pairs low up most s e a b apart = λ j from to. record {
  not_below = not_below low up most s e a b j apart from to;
  not_above = not_above low up most s e a b j apart from to;
  before_a = before_a low up most s e a b j apart from;
  before_b = before_b low up most s e a b j apart;
}
