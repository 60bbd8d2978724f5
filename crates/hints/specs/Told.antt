-- Where hints say that the place of a question is: a head of six, a table, and lines of three numbers each.
-- The head: the format's number, ε, how many lines there are, how many
-- numbers the table has, the shift of its steps, and the first x.
use Rattle.std.specs.Prelude.{◌≡◌, ◌⊎◌, ℕ, ◌+◌, ◌-◌, ◌*◌, ◌/◌, ◌%◌, ◌^◌, ◌<◌, ◌≤◌}
use Rattle.std.specs.Prelude.{List, length, map, min, slice_index, slice_range}
use Rattle.std.specs.List.{range_with_len}
use Rattle.window_search.specs.Brackets.{IsBracket}
use Rattle.hints.specs.declared.hint_list.TheConstants.{FORMAT, HEAD_LEN}

-- the hints are in the format: the first one is its number, and the table and the lines are there
pub record IsWhole (hints : List ℕ) : Type 0 where
  pub format : slice_index hints 0 ≡ FORMAT
  pub room : HEAD_LEN + slice_index hints 3 + 3 * slice_index hints 2 ≤ length hints

-- the numbers of the lines, behind the table
abbrev pub lines_in : List ℕ → List ℕ
lines_in hints =
    slice_range hints (HEAD_LEN + slice_index hints 3) (HEAD_LEN + slice_index hints 3 + 3 * slice_index hints 2)

-- the first x of each line
abbrev pub first_xs : List ℕ → List ℕ
first_xs lines = map (λ i. slice_index lines (3 * i)) (range_with_len 0 (length lines / 3))

-- the height of line i at its first x, raised by ε
abbrev pub first_height : List ℕ → ℕ → ℕ
first_height lines i = slice_index lines (3 * i + 2) / 128

-- the height of line i at q, raised by ε: its slope is a whole number over a power of two
abbrev pub height_at : List ℕ → ℕ → ℕ → ℕ
height_at lines i q = first_height lines i
    + (q - slice_index lines (3 * i)) * slice_index lines (3 * i + 1) / 2 ^ (slice_index lines (3 * i + 2) % 128)

-- the place that lines tell, where i of them begin at or before q: the first one
-- where none does, else that of the last such line, up to where the next line begins
pub record IsToldBy (lines : List ℕ) (eps n q i place : ℕ) : Type 0 where
  pub front : i ≡ 0 → place ≡ 0
  pub between : 0 < i →
      i < length lines / 3 → place ≡ min n (min (height_at lines (i - 1) q) (first_height lines i) - eps)
  pub last : 0 < i → length lines / 3 ≤ i → place ≡ min n (height_at lines (i - 1) q - eps)

-- the place, among n + 1, that the hints tell for q: that of the lines, of which some place
-- brackets q + 1 by their first x, and the first place where the hints are in no format
unfoldable pub IsTold : List ℕ → ℕ → ℕ → ℕ → Type 0
IsTold hints n q place =
    (IsWhole hints
    × ((i : ℕ) × IsBracket (first_xs (lines_in hints)) (q + 1) i
    × IsToldBy (lines_in hints) (slice_index hints 1) n q i place))
    ⊎ ((IsWhole hints → ⊥) × (place ≡ 0))
