-- What a worker's seat has drawn.
use Rattle.std.proofs.Common.{◌≡◌, ℕ, ◌<◌, ◌≤◌, List, [], ◌∷◌, ◌++◌, length}
use Rattle.std.proofs.Common.{All, Some, None, inl, inr, refl, ap, ◌∙◌, arith}
use Rattle.std.proofs.lemmas.Bool.{cases_lt, cases_Bool}
use Rattle.std.proofs.lemmas.List.{length_push, get_or_push}
use Rattle.claims.specs.Claims.{Drawn, IsDraw}

-- after a number it has drawn one number more
pub IsDraw-some : (before after : Drawn) (n : ℕ) → IsDraw before (Some n) after → after.drawn ≡ before.drawn ++ n ∷ []
IsDraw-some before after n draw = elim (cases_Bool before.ended) [
  | inl over ↦ let is : Some n ≡ None = (draw.spent over).0 in absurd (cc)
  | inr live ↦
      let step = draw.live live in
      elim (cases_lt step.0 before.origin.pieces) [
        | inl below ↦
            let is : Some n ≡ Some step.0 = (step.1.some below).0 in
            let same : n ≡ step.0 = cc in
            ap (λ (d : Drawn). d.drawn) (step.1.some below).1 ∙ ap (λ (w : ℕ). before.drawn ++ w ∷ []) (cc)
        | inr from ↦ let is : Some n ≡ None = (step.1.none from).0 in absurd (cc)
      ]
]

-- so many different numbers are below no lesser bound
pub record AreFew (drawn : List ℕ) : Type 0 where
  pub few : (n : ℕ) → All (λ m. m < n) drawn → length drawn ≤ n

pub AreFew-more : (drawn : List ℕ) (w : ℕ) → AreFew drawn → All (λ m. m < w) drawn → AreFew (drawn ++ w ∷ [])
AreFew-more drawn w are above = record {
  few = λ n below.
      let count = length_push drawn w in
      let last = get_or_push drawn w 0 (length drawn) refl in
      omega (arith, count, last, are.few w above, below (length drawn) 0 (omega (arith, count)));
}
