-- The points that level 0 stands on: each distinct key of a file
-- with its first position, and a closing point past equal keys.
use Rattle.std.specs.Prelude.{ℕ, ◌+◌, List, [], ◌∷◌, length, slice_index, map}
use Rattle.std.specs.Prelude.{Bool, nat_eq, nat_lt, count_by, if◌then◌else◌, ◌&&◌}
use Rattle.std.specs.List.{dedup, flat_map}
use Rattle.window_search.specs.Searches.{lb}

-- the keys without repeats
abbrev pub distinct_of : List ℕ → List ℕ
distinct_of keys = dedup nat_eq keys

-- how many keys are below the j-th distinct one, counted from 0, and all of them where j is the number of distinct ones
abbrev pub first_of : List ℕ → ℕ → ℕ
first_of keys j =
    if nat_lt j (length (distinct_of keys)) then lb keys (slice_index (distinct_of keys) j) else length keys

-- how many keys are equal to this one
abbrev pub times : List ℕ → ℕ → ℕ
times keys key = count_by (λ k. nat_eq k key) keys

-- the key stands more than once, is not the greatest of 64 bits, and the next number is no key
abbrev pub is_closed : List ℕ → ℕ → Bool
is_closed keys key =
    nat_lt 1 (times keys key) && (nat_lt key 18446744073709551615 && nat_eq (times keys (key + 1)) 0)

-- a key, and past it the number at which its equal keys are closed
abbrev pub with_closing : List ℕ → ℕ → List ℕ
with_closing keys key = if is_closed keys key then key ∷ (key + 1) ∷ [] else key ∷ []

-- the x of the points, from left to right
abbrev pub xs_of : List ℕ → List ℕ
xs_of keys = flat_map (with_closing keys) (distinct_of keys)

-- and the y: how many keys of the file are below each x
abbrev pub ys_of : List ℕ → List ℕ
ys_of keys = map (lb keys) (xs_of keys)
