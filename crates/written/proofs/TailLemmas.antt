-- What is left of a list.
use Rattle.std.proofs.Common.{◌≡◌, ◌≢◌, ℕ, ◌≤◌, ◌-◌, List, [], ◌∷◌, length, take, drop}
use Rattle.std.proofs.Common.{Bool, true, false, refl, sym, ◌∙◌, length-drop, nat_eq, arith}
use Rattle.std.proofs.lemmas.Bool.Decides.{nat_tests}
use Rattle.std.proofs.lemmas.List.{take_all}

-- what `is_empty` tells
pub not_empty : (xs : List ℕ) (b : Bool) → b ≡ nat_eq (length xs) 0 → b ≡ false → xs ≢ []
not_empty [] b is some e = cc
not_empty (x ∷ xs) b is some e = cc

pub empty : (xs : List ℕ) (b : Bool) → b ≡ nat_eq (length xs) 0 → b ≡ true → xs ≡ []
empty [] b is none = refl
empty (x ∷ xs) b is none =
    let never : nat_eq (length (x ∷ xs)) 0 ≡ true = sym is ∙ none in absurd (grind (arith, nat_tests))

-- what the range to the end leaves
pub tail_is : (xs : List ℕ) (n : ℕ) → n ≤ length xs → take (length xs - n) (drop n xs) ≡ drop n xs
tail_is xs n h = take_all (length xs - n) (drop n xs) (omega (arith, length-drop n xs))
