-- A number at the front of a line. No public clause cites it.
use Rattle.std.specs.Prelude.{◌≡◌, ℕ, ◌+◌, ◌*◌, ◌<◌, ◌≤◌, true, false, List}
use Rattle.std.specs.Prelude.{[], ◌∷◌, length, take, slice_index, Some, None}
use Rattle.std.specs.Char.{is_ascii_digit}
use Rattle.std.specs.List.{list_all}
use Rattle.std.specs.Str.Parse.{digits_value}
use Rattle.pgm_script.specs.declared.fault.Why.{Why}
use Rattle.pgm_script.specs.declared.fault.Why.TheVariants.{NotUtf8, Word, Number, Missing, Extra}
use Rattle.pgm_script.specs.Words.{words_of, number_of}

-- the first i bytes are digits, and write this value
pub record HasDigits (word : List ℕ) (i value : ℕ) : Type 0 where
  pub digits : list_all is_ascii_digit (take i word) ≡ true
  pub value_is : value ≡ digits_value 10 (take i word)

-- eight digits stand from this place on
pub record AreEightDigits (word : List ℕ) (at : ℕ) : Type 0 where
  pub within : at + 8 ≤ length word
  pub digits : (i : ℕ) → at ≤ i → i < at + 8 → is_ascii_digit (slice_index word i) ≡ true

-- these numbers as the bytes of one, the first the lowest
abbrev pub of_bytes : (a b c d e f g h : ℕ) → ℕ
of_bytes a b c d e f g h = a + 256 * (b + 256 * (c + 256 * (d + 256 * (e + 256 * (f + 256 * (g + 256 * h))))))

-- the eight bytes from this place on as one number, the first the lowest
abbrev pub eight_bytes : List ℕ → ℕ → ℕ
eight_bytes word at =
    of_bytes (slice_index word at) (slice_index word (at + 1)) (slice_index word (at + 2)) (slice_index word (at + 3))
    (slice_index word (at + 4)) (slice_index word (at + 5)) (slice_index word (at + 6)) (slice_index word (at + 7))

-- and no digit follows
pub record ReadsDigits (line : List ℕ) (len value : ℕ) : Type 0 where
  pub read : HasDigits line len value
  pub within : len ≤ length line
  pub ends : len < length line → is_ascii_digit (slice_index line len) ≡ false

-- digits in front write 2^64 or more
pub record HasTooGreat (line : List ℕ) : Type 0 where
  pub len : ℕ
  pub value : ℕ
  pub read : HasDigits line len value
  pub within : len ≤ length line
  pub great : 18446744073709551616 ≤ value

-- the first word writes this number, and the line goes on after it
pub record BeginsWithNumber (most : ℕ) (line : List ℕ) (number : ℕ) (after : List ℕ) : Type 0 where
  pub word : List ℕ
  pub words : words_of line ≡ word ∷ words_of after
  pub is : number_of most word ≡ Some number

pub record BeginsWithOther (most : ℕ) (line : List ℕ) : Type 0 where
  pub word : List ℕ
  pub others : List (List ℕ)
  pub words : words_of line ≡ word ∷ others
  pub is : number_of most word ≡ None

-- there is no word, or the first one is no such number
abbrev pub BeginsWithout : ℕ → List ℕ → Why → Type 0
BeginsWithout most line Missing = words_of line ≡ []
BeginsWithout most line Number = BeginsWithOther most line
BeginsWithout most line NotUtf8 = ⊥
BeginsWithout most line Word = ⊥
BeginsWithout most line Extra = ⊥
