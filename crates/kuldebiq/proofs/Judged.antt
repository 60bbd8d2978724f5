-- Keys that have hints, and how those that have none are refused.
use Rattle.std.proofs.Common.{◌≡◌, ◌⊎◌, ℕ, zero, suc, ◌+◌, ◌-◌, ◌^◌, ◌<◌, ◌≤◌, List}
use Rattle.std.proofs.Common.{length, slice_index, ap, ◌∙◌, inl, inr, refl, arith}
use Rattle.std.proofs.lemmas.Bool.{cases_lt}
use Rattle.std.specs.List.Sorted.{IsNonDecreasing}
use Rattle.exact_cross.proofs.CallerLemmas.{IsNonDecreasing-from_neighbours}
use Rattle.key_points.specs.Falls.{IsFirstFall}
use Rattle.key_points.specs.declared.fault.KeysFault.{KeysFault}
use Rattle.key_points.specs.declared.fault.KeysFault.TheVariants.{TooMany, Falls, NoMemory}
use Rattle.kuldebiq.specs.declared.answer.Answer.{Answer}
use Rattle.kuldebiq.specs.Answers.{refuses}
use Rattle.kuldebiq.specs.Building.{refused_as}
use Rattle.kuldebiq.specs.Hints.{CanHaveHints, IsHintsRefusal}

-- none of the first n falls
not_before : (keys : List ℕ) → ((place : ℕ) → IsFirstFall keys place → ⊥) →
    (n : ℕ) → n ≤ length keys → (k : ℕ) → k < n → slice_index keys (k - 1) ≤ slice_index keys k
not_before keys none zero few k less = absurd (omega arith)
not_before keys none (suc n) few k less = elim (cases_lt k n) [
  | inl low ↦ not_before keys none n (omega arith) k low
  | inr rest ↦ elim (cases_lt (slice_index keys n) (slice_index keys (n - 1))) [
    | inl falls ↦ absurd
        (none n (record {
          inside = omega arith;
          falls = falls;
          before = λ j before. not_before keys none n (omega arith) j before;
        }))
    | inr rises ↦
        let same : k ≡ n = omega arith in
        omega (arith, rises, ap (λ j. slice_index keys (j - 1)) same, ap (slice_index keys) same)
  ]
]

no_fall : (keys : List ℕ) → ((place : ℕ) → IsFirstFall keys place → ⊥) → IsNonDecreasing keys
no_fall keys none = IsNonDecreasing-from_neighbours keys (λ k inside.
    let here : k + 1 - 1 ≡ k = omega arith in
    omega (
      arith,
      not_before keys none (length keys) (omega arith) (k + 1) (omega (arith, inside)),
      ap (slice_index keys) here,
    ))

-- keys that aren't refused
pub can_have : (keys : List ℕ) (eps : ℕ) → eps ≤ 1048576 → (2 ^ 32 ≤ length keys → ⊥) →
    ((place : ℕ) → length keys < 2 ^ 32 → IsFirstFall keys place → ⊥) → CanHaveHints keys eps
can_have keys eps bounded not_many none = elim (cases_lt (length keys) (2 ^ 32)) [
  | inl few ↦ record { never_falls = no_fall keys (λ place first. none place few first); few = few; bounded = bounded }
  | inr many ↦ absurd (not_many many)
]

-- keys that are, by their fault
pub refused_hints : (keys : List ℕ) (eps : ℕ) (fault : KeysFault) (answer : Answer) →
    eps ≤ 1048576 → answer ≡ refused_as fault
    → ((count : ℕ) → fault ≡ TooMany count → (count ≡ length keys) × (2 ^ 32 ≤ count)) →
    ((place : ℕ) → fault ≡ Falls place → IsFirstFall keys place)
    → (2 ^ 32 ≤ length keys → fault ≡ TooMany (length keys)) →
    ((place : ℕ) → length keys < 2 ^ 32 → IsFirstFall keys place → fault ≡ Falls place)
    → IsHintsRefusal keys eps answer ⊎ (CanHaveHints keys eps × (answer ≡ refuses 1 0))
refused_hints keys eps (TooMany count) answer bounded is many_only falls_only many falls =
    let only = many_only count refl in
    inl (inr (bounded, inl (is ∙ ap (refuses 5) only.0, omega (arith, only.0, only.1))))
refused_hints keys eps (Falls place) answer bounded is many_only falls_only many falls =
    elim (cases_lt (length keys) (2 ^ 32)) [
      | inl few ↦ inl (inr (bounded, inr (few, (place, is, falls_only place refl))))
      | inr much ↦ let wrong : Falls place ≡ TooMany (length keys) = many much in cc
    ]
refused_hints keys eps NoMemory answer bounded is many_only falls_only many falls =
    inr (
      can_have keys eps bounded (λ much. let wrong : NoMemory ≡ TooMany (length keys) = many much in cc)
          (λ place few first. let wrong : NoMemory ≡ Falls place = falls place few first in cc),
      is,
    )
