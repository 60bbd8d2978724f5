-- The inputs that are drawn for n and a seed, each from the draws after those of the one before it.
use Rattle.std.specs.Prelude.{ℕ, ◌+◌, ◌*◌, ◌%◌, List, [], ◌∷◌, map, sum, nat_eq, if◌then◌else◌}
use Rattle.std.specs.List.{range_with_len}
use Rattle.zorder.specs.declared.regions.Region.{Region}
use Rattle.log_levels.specs.declared.update.Update.{Update}
use Rattle.log_levels.specs.declared.update.Update.TheVariants.{Put, Del}
use Rattle.drill_inputs.specs.Draws.{drawn}

-- the sum of the first `count` draws, each modulo 16
abbrev pub sum_of_first : ℕ → ℕ → ℕ
sum_of_first seed count = sum (map (λ j. drawn seed j % 16) (range_with_len 0 count))

-- key i: the sum of the first i + 1 draws, each modulo 16
abbrev pub key_at : ℕ → ℕ → ℕ
key_at seed i = sum_of_first seed (i + 1)

-- question i: draw n + i, modulo 16 * n
abbrev pub find_at : ℕ → ℕ → ℕ → ℕ
find_at n seed i = drawn seed (n + i) % (16 * n)

-- coordinate i of all points together, two for each point: draw 2 * n + i, modulo 256
abbrev pub coordinate_at : ℕ → ℕ → ℕ → ℕ
coordinate_at n seed i = drawn seed (2 * n + i) % 256

-- the update that a draw makes of a key: a multiple of 4 deletes the key, and any other draw is put there
abbrev pub update_by : ℕ → ℕ → Update
update_by key draw = if nat_eq (draw % 4) 0 then Del key else Put key draw

-- update i: draw 4 * n + 2 * i, modulo n, is its key, and the next draw makes it
abbrev pub update_at : ℕ → ℕ → ℕ → Update
update_at n seed i = update_by (drawn seed (4 * n + 2 * i) % n) (drawn seed (4 * n + 2 * i + 1))

-- n keys
unfoldable pub keys_of : ℕ → ℕ → List ℕ
keys_of n seed = map (key_at seed) (range_with_len 0 n)

-- n questions
unfoldable pub finds_of : ℕ → ℕ → List ℕ
finds_of n seed = map (find_at n seed) (range_with_len 0 n)

-- the coordinates of n points, those of the first point first
unfoldable pub coordinates_of : ℕ → ℕ → List ℕ
coordinates_of n seed = map (coordinate_at n seed) (range_with_len 0 (2 * n))

-- n updates
unfoldable pub updates_of : ℕ → ℕ → List Update
updates_of n seed = map (update_at n seed) (range_with_len 0 n)

-- the region of the points from (64, 64) to (191, 191)
abbrev pub searched_region : Region
searched_region = record { d = 2; low = 64 ∷ 64 ∷ 0 ∷ 0 ∷ []; high = 191 ∷ 191 ∷ 0 ∷ 0 ∷ [] }
