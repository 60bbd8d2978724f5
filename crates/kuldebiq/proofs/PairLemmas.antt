-- Pairs of C as keys and values.
use Rattle.std.proofs.Common.{◌≡◌, ℕ, ◌<◌, List, length, slice_index_or, ap}
use Rattle.std.proofs.lemmas.List.{get_or-map, length-map}
use Rattle.kuldebiq.specs.declared.map_calls.Pair.{Pair}
use Rattle.kuldebiq.specs.Pairs.{tuple_of, tuples_of}

abbrev pub no_pair : Pair
no_pair = record { key = 0; value = 0 }

pub length-tuples : (pairs : List Pair) → length (tuples_of pairs) ≡ length pairs
length-tuples pairs = length-map {B = ℕ × ℕ} pairs tuple_of

pub key-of : (pairs : List Pair) (k : ℕ) →
    k < length pairs → (slice_index_or (tuples_of pairs) k (0, 0)).0 ≡ (slice_index_or pairs k no_pair).key
key-of pairs k inside = ap (λ (pair : ℕ × ℕ). pair.0) (get_or-map tuple_of pairs k no_pair (0, 0) inside)
