-- Blocks of a list that is cut by the bits of a number, and what they become when entries are added behind.
use Rattle.std.proofs.Common.{◌≡◌, ℕ, zero, suc, ◌+◌, ◌-◌, ◌*◌, ◌^◌, ◌≤◌, List, [], ◌∷◌, ◌++◌, length}
use Rattle.std.proofs.Common.{take, drop, refl, sym, ap, ◌∙◌, arith, length-drop, zero-add, suc-add}
use Rattle.std.proofs.lemmas.List.{take-append-drop, drop-drop, take-append-le, drop-append-le}
use Rattle.std.proofs.Math.Seq.{take-append-add, drop-append-add}
use Rattle.std.specs.Int.{bit_at}
use Rattle.tombstones.specs.declared.entry.Entry.{Entry}
use Rattle.log_levels.specs.Shapes.{from_bit, block_of}
use Rattle.log_levels.proofs.BitLemmas.{from_bit-more}

-- what comes behind the blocks of the bits from bit i on
abbrev pub behind : List Entry → ℕ → ℕ → List Entry
behind entries f i = drop (64 * from_bit i f) entries

-- the blocks of the bits from bit i on
abbrev pub before : List Entry → ℕ → ℕ → List Entry
before entries f i = take (64 * from_bit i f) entries

take-nil : {A : Type 0} (n : ℕ) → take n (let none : List A = [] in none) ≡ []
take-nil zero = refl
take-nil (suc n) = refl

pub take-add : {A : Type 0} (m n : ℕ) (xs : List A) → take (m + n) xs ≡ take m xs ++ take n (drop m xs)
take-add zero n xs = ap (λ k. take k xs) (zero-add n)
take-add {A} (suc m) n [] = take-nil {A = A} (suc m + n) ∙ sym (take-nil {A = A} n)
take-add (suc m) n (x ∷ xs) = ap (λ k. take k (x ∷ xs)) (suc-add m n) ∙ ap (λ rest. x ∷ rest) (take-add m n xs)

-- the block of bit i is the first of what comes behind the higher bits
pub behind-more : (entries : List Entry) (f i : ℕ) →
    behind entries f (i + 1) ≡ block_of entries f i ++ behind entries f i
behind-more entries f i =
    let size = 64 * (bit_at f i * 2 ^ i) in
    let start = 64 * from_bit (i + 1) f in
    let ends : start + size ≡ 64 * from_bit i f = omega (arith, from_bit-more i f) in
    sym (take-append-drop size (drop start entries))
    ∙ ap (λ rest. block_of entries f i ++ rest) (drop-drop size start entries ∙ ap (λ k. drop k entries) ends)

-- and the last of the blocks from bit i on
pub before-more : (entries : List Entry) (f i : ℕ) →
    before entries f i ≡ before entries f (i + 1) ++ block_of entries f i
before-more entries f i =
    let size = 64 * (bit_at f i * 2 ^ i) in
    let start = 64 * from_bit (i + 1) f in
    let ends : 64 * from_bit i f ≡ start + size = omega (arith, from_bit-more i f) in
    ap (λ k. take k entries) ends ∙ take-add start size entries

-- an empty block
pub block-clear : (entries : List Entry) (f i : ℕ) → bit_at f i ≡ 0 → block_of entries f i ≡ []
block-clear entries f i clear =
    let none : 64 * (bit_at f i * 2 ^ i) ≡ 0 = omega (arith, ap (λ b. b * 2 ^ i) clear) in
    ap (λ k. take k (drop (64 * from_bit (i + 1) f) entries)) none

pub drop-append-ge : (n : ℕ) (xs ys : List Entry) → length xs ≤ n → drop n (xs ++ ys) ≡ drop (n - length xs) ys
drop-append-ge n xs ys ge =
    let place : length xs + (n - length xs) ≡ n = omega arith in
    ap (λ k. drop k (xs ++ ys)) (sym place) ∙ drop-append-add xs ys (n - length xs)

take-append-ge : (n : ℕ) (xs ys : List Entry) → length xs ≤ n → take n (xs ++ ys) ≡ xs ++ take (n - length xs) ys
take-append-ge n xs ys ge =
    let place : length xs + (n - length xs) ≡ n = omega arith in
    ap (λ k. take k (xs ++ ys)) (sym place) ∙ take-append-add xs ys (n - length xs)

-- a block of entries behind others
pub block-behind : (entries new : List Entry) (f i : ℕ) → length entries ≤ 64 * from_bit (i + 1) f → bit_at f i ≡ 1
    → block_of (entries ++ new) f i ≡ take (64 * 2 ^ i) (drop (64 * from_bit (i + 1) f - length entries) new)
block-behind entries new f i behind set =
    let size : 64 * (bit_at f i * 2 ^ i) ≡ 64 * 2 ^ i = omega (arith, ap (λ b. b * 2 ^ i) set) in
    ap (take (64 * (bit_at f i * 2 ^ i))) (drop-append-ge (64 * from_bit (i + 1) f) entries new behind)
    ∙ ap (λ k. take k (drop (64 * from_bit (i + 1) f - length entries) new)) size

-- a block before others
pub block-before : (entries new : List Entry) (f i : ℕ) →
    64 * from_bit i f ≤ length entries → block_of (entries ++ new) f i ≡ block_of entries f i
block-before entries new f i fits =
    let size = 64 * (bit_at f i * 2 ^ i) in
    let start = 64 * from_bit (i + 1) f in
    let ends : 64 * from_bit i f ≡ start + size = omega (arith, from_bit-more i f) in
    let enough : size ≤ length (drop start entries) = omega (arith, length-drop start entries) in
    ap (take size) (drop-append-le start entries new (omega arith))
    ∙ take-append-le size (drop start entries) new enough

-- a block across the seam: what comes behind the blocks of the bits above it, and new entries
pub block-across : (entries new : List Entry) (f i : ℕ) →
    64 * from_bit (i + 1) f ≤ length entries → length entries ≤ 64 * from_bit i f → bit_at f i ≡ 1
    → block_of (entries ++ new) f i ≡ drop (64 * from_bit (i + 1) f) entries
    ++ take (64 * from_bit i f - length entries) new
block-across entries new f i from to set =
    let size = 64 * (bit_at f i * 2 ^ i) in
    let start = 64 * from_bit (i + 1) f in
    let ends : 64 * from_bit i f ≡ start + size = omega (arith, from_bit-more i f) in
    let rest : length (drop start entries) ≡ length entries - start = length-drop start entries in
    let more : size - length (drop start entries) ≡ 64 * from_bit i f - length entries = omega arith in
    ap (take size) (drop-append-le start entries new from)
    ∙ take-append-ge size (drop start entries) new (omega arith)
    ∙ ap (λ k. drop start entries ++ take k new) more
