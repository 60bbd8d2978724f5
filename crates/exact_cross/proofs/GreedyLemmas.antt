-- The greedy cover is one, and no cover has fewer runs.
--
-- Main results: `IsGreedy-unique`, `IsGreedy-least`. By induction
-- the greedy run of each number ends no earlier than any cover's
-- run of that number: it begins no earlier, and goes as far as a
-- line can, while a line that fits a run fits each part of it.
use Rattle.std.proofs.Common.{◌≡◌, ℕ, ◌+◌, ◌≤◌, List, [], ◌∷◌, length, inl, inr, refl, ap, sym, ◌∙◌, subst, arith}
use Rattle.std.proofs.lemmas.Bool.{cases_lt}
use Rattle.exact_cross.specs.Points.{Points}
use Rattle.exact_cross.specs.Lines.{SomeLineFits}
use Rattle.exact_cross.specs.Covers.{run_end, CutsInto, IsCover, IsLongest, IsGreedy}
use Rattle.exact_cross.proofs.RunLemmas.{SomeLineFits-part}

-- what is cut goes up
pub CutsInto-rises : (R : ℕ → ℕ → Type 0) (starts : List ℕ) (from to : ℕ) → CutsInto R from to starts → from ≤ to
CutsInto-rises R [] from to cuts = omega arith
CutsInto-rises R (start ∷ later) from to cuts =
    omega (arith, cuts.1, CutsInto-rises R later (run_end later to) to cuts.3)

-- a longest run goes at least as far as each run from there or before that some line fits
longest_furthest : (p : Points) (eps to before s e e' : ℕ) →
    before ≤ s → s ≤ e → e' ≤ to → IsLongest p eps to s e → SomeLineFits p eps before e' → e' ≤ e
longest_furthest p eps to before s e e' earlier some within longest fits =
    elim (cases_lt e e') [
      | inl further ↦ absurd
          (longest.no_longer (omega arith) (SomeLineFits-part p eps before e' s (e + 1) earlier (omega arith) fits))
      | inr less ↦ less
    ]

pub IsGreedy-least : (p : Points) (eps to : ℕ) (starts others : List ℕ) (from before : ℕ) →
    before ≤ from → IsGreedy p eps from to starts → IsCover p eps before to others →
    length starts ≤ length others
IsGreedy-least p eps to [] others from before earlier greedy cover = omega arith
IsGreedy-least p eps to (start ∷ later) [] from before earlier greedy cover =
    absurd (omega (arith, greedy.1, CutsInto-rises (IsLongest p eps to) later (run_end later to) to greedy.3))
IsGreedy-least p eps to (start ∷ later) (other ∷ rest) from before earlier greedy cover =
    let furthest =
    longest_furthest p eps to before from (run_end later to) (run_end rest to) earlier (omega (arith, greedy.1))
    (CutsInto-rises (SomeLineFits p eps) rest (run_end rest to) to cover.3) greedy.2 cover.2 in
    omega (arith, IsGreedy-least p eps to later rest (run_end later to) (run_end rest to) furthest greedy.3 cover.3)

pub IsGreedy-unique : (p : Points) (eps to : ℕ) (starts others : List ℕ) (from : ℕ) →
    IsGreedy p eps from to starts → IsGreedy p eps from to others → starts ≡ others
IsGreedy-unique p eps to [] [] from one two = refl
IsGreedy-unique p eps to [] (other ∷ rest) from one two =
    absurd (omega (arith, two.1, CutsInto-rises (IsLongest p eps to) rest (run_end rest to) to two.3))
IsGreedy-unique p eps to (start ∷ later) [] from one two =
    absurd (omega (arith, one.1, CutsInto-rises (IsLongest p eps to) later (run_end later to) to one.3))
IsGreedy-unique p eps to (start ∷ later) (other ∷ rest) from one two =
    let e = run_end later to in
    let e' = run_end rest to in
    let up = longest_furthest p eps to from from e e'
    (omega arith) (omega (arith, one.1)) (CutsInto-rises (IsLongest p eps to) rest e' to two.3) one.2 two.2.fits in
    let down = longest_furthest p eps to from from e' e
    (omega arith) (omega (arith, two.1)) (CutsInto-rises (IsLongest p eps to) later e to one.3) two.2 one.2.fits in
    let same : e ≡ e' = omega arith in
    let tails =
    IsGreedy-unique p eps to later rest e one.3 (subst (λ (n : ℕ). IsGreedy p eps n to rest) (sym same) two.3) in
    ap (λ (head : ℕ). head ∷ later) (one.0 ∙ sym two.0) ∙ ap (λ (tail : List ℕ). other ∷ tail) tails
