use Rattle.std.proofs.Common.{◌≡◌, ◌≤◌, ◌+◌, ◌*◌, ◌++◌, ◌∷◌, ℕ, List, length}
use Rattle.std.specs.List.{join_with_byte}
use Rattle.commands.specs.Texts.Coordinates.{coordinate_words}
use Rattle.commands.proofs.coordinates.push_coordinates.Given as goal

-- the coordinates before this one were added
abbrev pub invariant-loop-c : goal.invariant-loop-c
invariant-loop-c l =
    ((first : List ℕ) (words : List (List ℕ)) → l.fn.line ≡ join_with_byte 32 (first ∷ words) →
    l.line ≡ join_with_byte 32 (first ∷ (words ++ coordinate_words l.d l.code l.c)))
    × (length l.line ≤ length l.fn.line + l.c * 11)
