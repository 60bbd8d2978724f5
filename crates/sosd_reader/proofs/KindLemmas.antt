-- What the two kinds have in common: a number follows or it doesn't,
-- and a list whose numbers follow goes on by one that does.
use Rattle.std.proofs.Common.{◌≡◌, ◌⊎◌, ⊎_elim, inl, inr, ℕ, ◌+◌, ◌-◌, ◌*◌, ◌^◌, ◌<◌, ◌≤◌, List}
use Rattle.std.proofs.Common.{[], ◌∷◌, ◌++◌, length, get_or, All, refl, sym, ap, ◌∙◌, subst, arith}
use Rattle.std.specs.List.Sorted.{IsNonDecreasing}
use Rattle.std.proofs.lemmas.Bool.{cases_lt}
use Rattle.std.proofs.lemmas.List.{get_or_append_left, get_or_push, get_or_default, length_push}
use Rattle.std.proofs.lemmas.List.Sorted.{IsNonDecreasingBy-from_all_adjacent}
use Rattle.zorder.specs.Codes.{coordinate_bits}
use Rattle.sosd_reader.specs.NumberFiles.{Kind, IsKind, IsOfKeys, IsOfPoints, number_width, Follows, Fails, AllFollow}
use Rattle.sosd_reader.specs.NumberFiles.Kind.{of_keys, of_points}

pub width-some : (kind : Kind) → IsKind kind → 0 < number_width kind
width-some (of_keys width) is = ⊎_elim (λ four. omega (arith, four)) (λ eight. omega (arith, eight)) is
width-some (of_points d) is = omega arith

pub not-both : (kind : Kind) → IsOfKeys kind → IsOfPoints kind → ⊥
not-both (of_keys width) is_keys is_points = is_points
not-both (of_points d) is_keys is_points = is_keys

-- a number follows or fails, and not both
pub follows-or-fails : (kind : Kind) (before number : ℕ) → Follows kind before number ⊎ Fails kind before number
follows-or-fails (of_keys width) before number = ⊎_elim (λ less. inr less) (λ up. inl up) (cases_lt number before)
follows-or-fails (of_points d) before number = cases_lt number (2 ^ coordinate_bits d)

pub follows-clash : (kind : Kind) (before number : ℕ) → Follows kind before number → Fails kind before number → ⊥
follows-clash (of_keys width) before number follows fails = omega (arith, follows, fails)
follows-clash (of_points d) before number follows fails = omega (arith, follows, fails)

-- what is said of two numbers is said of those equal to them
pub follows-same : (kind : Kind) (a b x y : ℕ) → a ≡ x → b ≡ y → Follows kind x y → Follows kind a b
follows-same kind a b x y p q h =
    subst (λ (v : ℕ). Follows kind v b) (sym p) (subst (λ (v : ℕ). Follows kind x v) (sym q) h)

pub follow-push : (kind : Kind) (list : List ℕ) (number : ℕ) →
    AllFollow kind list → Follows kind (get_or (list ++ number ∷ []) (length list - 1) 0) number →
    AllFollow kind (list ++ number ∷ [])
follow-push kind list number all last j within =
    let W = list ++ number ∷ [] in
    ⊎_elim
    (λ less. follows-same kind _ _ _ _ (get_or_append_left list (number ∷ []) 0 (j - 1) (omega arith))
    (get_or_append_left list (number ∷ []) 0 j less) (all j less))
    (λ more.
    let place : j ≡ length list = omega (arith, length_push list number) in
    follows-same kind _ _ _ _ (ap (λ (k : ℕ). get_or W (k - 1) 0) place)
    (ap (λ (k : ℕ). get_or W k 0) place ∙ get_or_push list number 0 (length list) refl) last)
    (cases_lt j (length list))

-- the last number so far, where there is one, stands before the next
pub last-before : (list : List ℕ) (number : ℕ) →
    0 < length list → get_or (list ++ number ∷ []) (length list - 1) 0 ≡ get_or list (length list - 1) 0
last-before list number some = get_or_append_left list (number ∷ []) 0 (length list - 1) (omega arith)

-- keys that follow one another never fall, and coordinates are in range
pub never-falls-from : (width : ℕ) (list : List ℕ) → AllFollow (of_keys width) list → IsNonDecreasing list
never-falls-from width list all = IsNonDecreasingBy-from_all_adjacent (λ (x : ℕ). x) list (λ k d within.
    let same : k + 1 - 1 ≡ k = omega arith in
    omega (
      arith,
      all (k + 1) within,
      ap (λ (i : ℕ). get_or list i 0) same,
      get_or_default list k d 0 (omega arith),
      get_or_default list (k + 1) d 0 within,
    ))

pub range-from : (d : ℕ) (list : List ℕ) →
    AllFollow (of_points d) list → All (λ value. value < 2 ^ coordinate_bits d) list
range-from d list all k e within = omega (arith, all k within, get_or_default list k e 0 within)

-- what is not in range is out of it
pub out-of-range : (d value : ℕ) → (value < 2 ^ coordinate_bits d → ⊥) → 2 ^ coordinate_bits d ≤ value
out-of-range d value not = ⊎_elim (λ less. absurd (not less)) (λ more. more) (cases_lt value (2 ^ coordinate_bits d))

-- no number is wider than eight bytes
pub width-most : (kind : Kind) → IsKind kind → number_width kind ≤ 8
width-most (of_keys width) is = ⊎_elim (λ four. omega (arith, four)) (λ eight. omega (arith, eight)) is
width-most (of_points d) is = omega arith

pub product-most : (width n : ℕ) → width ≤ 8 → width * n ≤ 8 * n
product-most width n most = grind arith

-- fewer than 2 ^ 32 times at most four
pub total-few : (count each : ℕ) → count < 2 ^ 32 → each ≤ 4 → count * each < 2 ^ 35
total-few count each few most =
    let product : count * each ≤ count * 4 = grind arith in
    omega (arith, product)
