-- The filters of levels: a few bits of one word for each key, set. No public clause cites it.
-- Sources: B. H. Bloom, Space/time trade-offs in hash coding with allowable errors, CACM 13(7), 1970; F. Putze, P.
-- Sanders and J. Singler, Cache-, hash- and space-efficient Bloom filters, WEA 2007 (all bits of a key in one block).
use Rattle.std.specs.Prelude.{◌≡◌, ℕ, ◌*◌, ◌/◌, ◌%◌, ◌^◌, List, length, slice_index, bit_and, bit_or, bit_xor, All}

-- both halves of the product of a key with 2^64 by the golden ratio, folded into one word
abbrev pub hash_of : ℕ → ℕ
hash_of key = bit_xor (key * 11400714819323198485 % 2 ^ 64) (key * 11400714819323198485 / 2 ^ 64)

-- which of so many words has the bits of a hash, by its high half
unfoldable pub slot_of : ℕ → ℕ → ℕ
slot_of hash count = hash / 2 ^ 32 * count / 2 ^ 32

-- the bits of a hash, four or fewer, by its low half
unfoldable pub bits_of : ℕ → ℕ
bits_of hash = bit_or
    (bit_or (2 ^ (hash % 64)) (2 ^ (hash / 64 % 64))) (bit_or (2 ^ (hash / 4096 % 64)) (2 ^ (hash / 262144 % 64)))

-- the bits of the hash are set
abbrev pub Passes : List ℕ → ℕ → Type 0
Passes words hash = bit_and (slice_index words (slot_of hash (length words))) (bits_of hash) ≡ bits_of hash

-- none of the keys is denied
abbrev pub ArePassed : List ℕ → List ℕ → Type 0
ArePassed words keys = All (λ key. Passes words (hash_of key)) keys
