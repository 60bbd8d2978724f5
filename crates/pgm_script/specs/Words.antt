-- The lines of a text, the words of a line and the number that a word writes.
use Rattle.std.specs.Prelude.{ℕ, Bool, false, not, ◌==◌, ◌||◌, ◌&&◌, nat_le}
use Rattle.std.specs.Prelude.{if◌then◌else◌, List, [], ◌∷◌, Option, Some, None}
use Rattle.std.specs.Char.{is_ascii_digit}
use Rattle.std.specs.List.{list_all}
use Rattle.std.specs.Str.Parse.{digits_value}

-- the byte in front of the first part, or alone where there is none
abbrev pub put_first : ℕ → List (List ℕ) → List (List ℕ)
put_first byte [] = (byte ∷ []) ∷ []
put_first byte (part ∷ parts) = (byte ∷ part) ∷ parts

-- the lines of a text: each byte 10 ends one, and what follows the last is a line unless it is empty
abbrev pub lines_of : List ℕ → List (List ℕ)
lines_of [] = []
lines_of (byte ∷ bytes) = if byte == 10 then [] ∷ lines_of bytes else put_first byte (lines_of bytes)

-- a space or a tab
abbrev pub is_blank : ℕ → Bool
is_blank byte = byte == 32 || byte == 9

-- a word goes on here
abbrev pub goes_on : List ℕ → Bool
goes_on [] = false
goes_on (byte ∷ bytes) = not (is_blank byte)

-- the words of a line: what spaces and tabs divide
abbrev pub words_of : List ℕ → List (List ℕ)
words_of [] = []
words_of (byte ∷ bytes) =
    if is_blank byte then words_of bytes
    else (if goes_on bytes then put_first byte (words_of bytes) else (byte ∷ []) ∷ words_of bytes)

-- the number that a word of ASCII digits writes, where it is not above `most`
abbrev pub number_of : ℕ → List ℕ → Option ℕ
number_of most word =
    if list_all is_ascii_digit word && nat_le (digits_value 10 word) most then Some (digits_value 10 word) else None
