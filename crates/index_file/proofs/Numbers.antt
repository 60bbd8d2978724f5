-- The bytes of numbers: there are four, and four bytes are those of one number.
use Rattle.std.proofs.Common.{◌≡◌, ℕ, zero, suc, ◌+◌, ◌^◌, ◌<◌, ◌≤◌, List, [], ◌∷◌, ◌++◌}
use Rattle.std.proofs.Common.{length, take, drop, get_or, refl, sym, ap, ◌∙◌, arith}
use Rattle.std.specs.Int.{w32, from_le_bytes}
use Rattle.std.proofs.lemmas.Nat.{from_le_bytes-to_le_bytes_4, le_bytes_4}
use Rattle.std.proofs.lemmas.List.{take-append-drop, take-append-le, drop-take, length-take-le}
use Rattle.std.proofs.Math.Seq.{drop-cons}
use Rattle.index_file.specs.Spelling.{number}
use Rattle.index_file.specs.Stops.{IsNumber}

pub length-number : (n : ℕ) → length (number n) ≡ 4
unfolding number
length-number n = refl

-- four bytes are those of the number that they say
pub number-of : (bytes : List ℕ) (n : ℕ) →
    length bytes ≡ 4 → ((i : ℕ) → get_or bytes i 0 < 256) → n ≡ from_le_bytes w32 bytes → number n ≡ bytes
unfolding number
number-of bytes n four small is = le_bytes_4 bytes n four small is

pub from_le_bytes-small : (bytes : List ℕ) → ((i : ℕ) → get_or bytes i 0 < 256) → from_le_bytes w32 bytes < 2 ^ 32
from_le_bytes-small bytes small = omega (arith, small 0, small 1, small 2, small 3)

-- and a number is told by its bytes
pub number-injective : (m n : ℕ) → m < 2 ^ 32 → n < 2 ^ 32 → number m ≡ number n → m ≡ n
unfolding number
number-injective m n small small' same =
    sym (from_le_bytes-to_le_bytes_4 m small) ∙ ap (from_le_bytes w32) same ∙ from_le_bytes-to_le_bytes_4 n small'

-- one more byte of a list's middle
take-next : (n : ℕ) (xs : List ℕ) (i j : ℕ) →
    j ≡ suc i → i < length xs → get_or xs i 0 ∷ take n (drop j xs) ≡ take (suc n) (drop i xs)
take-next n xs i j next inside =
    ap (λ (k : ℕ). get_or xs i 0 ∷ take n (drop k xs)) next ∙ sym (ap (take (suc n)) (drop-cons xs i 0 inside))

pub four-of : (xs : List ℕ) (i j k l : ℕ) → j ≡ suc i → k ≡ suc j → l ≡ suc k → l < length xs →
    get_or xs i 0 ∷ get_or xs j 0 ∷ get_or xs k 0 ∷ get_or xs l 0 ∷ [] ≡ take 4 (drop i xs)
four-of xs i j k l second third fourth inside =
    let d = take-next 0 xs l (suc l) refl inside in
    let c = ap (λ (w : List ℕ). get_or xs k 0 ∷ w) d ∙ take-next 1 xs k l fourth (omega arith) in
    let b = ap (λ (w : List ℕ). get_or xs j 0 ∷ w) c ∙ take-next 2 xs j k third (omega arith) in
    ap (λ (w : List ℕ). get_or xs i 0 ∷ w) b ∙ take-next 3 xs i j second (omega arith)

-- four of a list's bytes are bytes
pub four-small : (a b c d : ℕ) → a < 256 → b < 256 → c < 256 → d < 256 → (k : ℕ) → get_or (a ∷ b ∷ c ∷ d ∷ []) k 0 < 256
four-small a b c d ha hb hc hd zero = ha
four-small a b c d ha hb hc hd (suc zero) = hb
four-small a b c d ha hb hc hd (suc (suc zero)) = hc
four-small a b c d ha hb hc hd (suc (suc (suc zero))) = hd
four-small a b c d ha hb hc hd (suc (suc (suc (suc k)))) = omega arith

-- four bytes of a list are those of a number
pub number-in : (xs : List ℕ) (i : ℕ) →
    i + 4 ≤ length xs → ((k : ℕ) → get_or xs k 0 < 256) → IsNumber (take 4 (drop i xs))
number-in xs i inside small =
    let four = four-of xs i (i + 1) (i + 2) (i + 3) (omega arith) (omega arith) (omega arith) (omega arith) in
    let bytes : List ℕ = get_or xs i 0 ∷ get_or xs (i + 1) 0 ∷ get_or xs (i + 2) 0 ∷ get_or xs (i + 3) 0 ∷ [] in
    let each = four-small (get_or xs i 0) (get_or xs (i + 1) 0)
    (get_or xs (i + 2) 0) (get_or xs (i + 3) 0) (small i) (small (i + 1)) (small (i + 2)) (small (i + 3)) in (
      from_le_bytes w32 bytes,
      from_le_bytes-small bytes each,
      sym (number-of bytes (from_le_bytes w32 bytes) refl each refl ∙ four),
    )

-- the front of a list is its front and what comes after it
pub take-split : (n m : ℕ) (xs : List ℕ) →
    n ≤ length xs → n + m ≤ length xs → take (n + m) xs ≡ take n xs ++ take m (drop n xs)
take-split n m xs less inside =
    let long = length-take-le (n + m) xs inside in
    let front : take n xs ≡ take n (take (n + m) xs) =
    ap (take n) (sym (take-append-drop (n + m) xs))
    ∙ take-append-le n (take (n + m) xs) (drop (n + m) xs) (omega arith) in
    sym (take-append-drop n (take (n + m) xs)) ∙ ap (λ (w : List ℕ). w ++ drop n (take (n + m) xs)) (sym front)
    ∙ ap (λ (w : List ℕ). take n xs ++ w) (drop-take n m xs)
