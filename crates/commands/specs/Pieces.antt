-- Lists of questions, cut into pieces.
use Rattle.std.specs.Prelude.{ℕ, ◌*◌, List, drop, take}

-- the questions of piece i, where a piece has `size` of them; behind the last there are none
abbrev pub piece_of : List ℕ → ℕ → ℕ → List ℕ
piece_of questions size i = take size (drop (i * size) questions)
