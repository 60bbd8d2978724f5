-- The first x of each line, by its place.
use Rattle.std.proofs.Common.{◌≡◌, ℕ, ◌*◌, ◌/◌, ◌<◌, List, length, slice_index, arith}
use Rattle.std.proofs.lemmas.List.FromFn.{length-map-range_with_len, get_or-map-range_with_len}
use Rattle.hints.specs.Told.{first_xs}

pub length-first_xs : (lines : List ℕ) → length (first_xs lines) ≡ length lines / 3
length-first_xs lines = length-map-range_with_len (λ i. slice_index lines (3 * i)) 0 (length lines / 3)

pub first_xs-at : (lines : List ℕ) (i : ℕ) →
    i < length lines / 3 → slice_index (first_xs lines) i ≡ slice_index lines (3 * i)
first_xs-at lines i inside =
    get_or-map-range_with_len (λ j. slice_index lines (3 * j)) 0 (length lines / 3) i i 0 inside (omega arith)

-- the place of a line's first x
pub first_inside : (lines : List ℕ) (i : ℕ) → i < length (first_xs lines) → 3 * i < length lines
first_inside lines i inside = omega (arith, length-first_xs lines)
