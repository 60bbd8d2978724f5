-- A line of a command's letters, and behind one space each its numbers: its words, and what it is.
use Rattle.std.proofs.Common.{◌≡◌, ℕ, zero, suc, ◌+◌, ◌-◌, ◌<◌, ◌≤◌, Bool, true, false, not, if◌then◌else◌}
use Rattle.std.proofs.Common.{◌&&◌, leb, eqb, List, [], ◌∷◌, ◌++◌, length, take, drop, drop-cons, replicate}
use Rattle.std.proofs.Common.{get_or, slice_index, refl, sym, ap, ◌∙◌, append_assoc, length-append, All}
use Rattle.std.proofs.Common.{arith, Option, Some, None, Ok, Err, ⊎_elim, bytes_eq, find}
use Rattle.std.specs.Char.{is_ascii_digit}
use Rattle.std.specs.List.{list_all}
use Rattle.std.specs.Str.{IsAscii, is_utf8}
use Rattle.std.specs.Str.Lines.{strip_carriage_return}
use Rattle.std.specs.Str.Parse.{digits_value}
use Rattle.std.proofs.lemmas.Bool.{false≢true}
use Rattle.std.proofs.lemmas.Bool.Decides.{nat_tests}
use Rattle.std.proofs.lemmas.List.{append-nil, take_rest}
use Rattle.std.proofs.lemmas.List.Elements.{All-append, All-cons}
use Rattle.std.proofs.lemmas.List.Folds.{list_all_at}
use Rattle.std.proofs.lemmas.Str.{IsUtf8-from_ascii, is_utf8-from_IsUtf8}
use Rattle.pgm_script.specs.declared.script.ScriptKind.{ScriptKind}
use Rattle.pgm_script.specs.declared.fault.Why.TheVariants.{NotUtf8}
use Rattle.pgm_script.specs.Words.{put_first, lines_of, is_blank, goes_on, words_of, number_of}
use Rattle.pgm_script.specs.Commands.{Command, commands_of, any, map_commands, map_kind, sweep_command}
use Rattle.pgm_script.specs.Scripts.{and_then, numbers_of, made, command_reading, words_reading, line_reading}
use Rattle.pgm_script.proofs.WordLemmas.{differ}
use Rattle.pgm_script.proofs.CutLemmas.{bool-cases}
use Rattle.pgm_script.specs.Plain.{AreLetters, BeginsWithCommand, BeginsWithDigits, BeginsWithLine}

-- bytes from the space on, of ASCII
abbrev pub ArePlain : List ℕ → Type 0
ArePlain bytes = All (λ byte. (32 ≤ byte) × (byte < 128)) bytes

-- letters and digits, which no blank divides
abbrev pub AreWhole : List ℕ → Type 0
AreWhole bytes = All (λ byte. (33 ≤ byte) × (byte < 128)) bytes

not-blank : (byte : ℕ) → 33 ≤ byte → is_blank byte ≡ false
not-blank byte high = grind (arith, nat_tests)

-- a text up to its first byte 10
lines-plain : (line after : List ℕ) → ArePlain line → lines_of (line ++ 10 ∷ after) ≡ line ∷ lines_of after
lines-plain [] after plain = refl
lines-plain (x ∷ xs) after plain =
    let here : 32 ≤ x = (plain 0 0 (omega arith)).0 in
    ap (λ (b : Bool). if b then [] ∷ lines_of (xs ++ 10 ∷ after) else put_first x (lines_of (xs ++ 10 ∷ after)))
    (differ x 10 (λ is. omega (arith, is, here)))
    ∙ ap (put_first x) (lines-plain xs after (λ k d inside. plain (suc k) d (omega (arith, inside))))

-- nothing, or a blank and more
abbrev pub IsDivided : List ℕ → Type 0
IsDivided tail = goes_on tail ≡ false

-- a word in front of what divides it from others
words-whole : (word tail : List ℕ) →
    AreWhole word → 0 < length word → IsDivided tail → words_of (word ++ tail) ≡ word ∷ words_of tail
words-whole [] tail whole some divided = absurd (omega arith)
words-whole (x ∷ []) tail whole some divided =
    ap (λ (b : Bool).
    if b then words_of tail else (if goes_on tail then put_first x (words_of tail) else (x ∷ []) ∷ words_of tail))
    (not-blank x (whole 0 0 (omega arith)).0)
    ∙ ap (λ (b : Bool). if b then put_first x (words_of tail) else (x ∷ []) ∷ words_of tail) divided
words-whole (x ∷ y ∷ xs) tail whole some divided =
    let rest : List ℕ = (y ∷ xs) ++ tail in
    ap (λ (b : Bool).
    if b then words_of rest else (if goes_on rest then put_first x (words_of rest) else (x ∷ []) ∷ words_of rest))
    (not-blank x (whole 0 0 (omega arith)).0)
    ∙ ap (λ (b : Bool). if b then put_first x (words_of rest) else (x ∷ []) ∷ words_of rest)
    (ap not (not-blank y (whole 1 0 (omega arith)).0))
    ∙ ap (put_first x)
    (words-whole (y ∷ xs) tail (λ k d inside. whole (suc k) d (omega (arith, inside))) (omega arith) divided)

digit-whole : (byte : ℕ) → is_ascii_digit byte ≡ true → (33 ≤ byte) × (byte < 128)
digit-whole byte is = (grind (arith, nat_tests), grind (arith, nat_tests))

each-passes : (test : ℕ → Bool) (bytes : List ℕ) (k d : ℕ) →
    list_all test bytes ≡ true → k < length bytes → test (get_or bytes k d) ≡ true
each-passes test bytes k d all inside =
    ⊎_elim (λ yes. yes) (λ other. absurd (false≢true (sym (list_all_at test bytes k d inside other) ∙ all)))
    (bool-cases (test (get_or bytes k d)))

digits-whole : (digits : List ℕ) → list_all is_ascii_digit digits ≡ true → AreWhole digits
digits-whole digits are k d inside = digit-whole (get_or digits k d) (each-passes is_ascii_digit digits k d are inside)

-- a small letter
abbrev pub is_letter : ℕ → Bool
is_letter byte = leb 97 byte && leb byte 122

letter-is : (byte : ℕ) → is_letter byte ≡ true → (97 ≤ byte) × (byte ≤ 122)
letter-is byte is = (grind (arith, nat_tests), grind (arith, nat_tests))

pub letters-are : (word : List ℕ) → list_all is_letter word ≡ true → AreLetters word
letters-are word all k d inside = letter-is (get_or word k d) (each-passes is_letter word k d all inside)

letters-whole : (word : List ℕ) → AreLetters word → AreWhole word
letters-whole word letters k d inside = let here = letters k d inside in (omega (arith, here.0), omega (arith, here.1))

whole-plain : (bytes : List ℕ) → AreWhole bytes → ArePlain bytes
whole-plain bytes whole k d inside = let here = whole k d inside in (omega (arith, here.0), here.1)

ascii-at : (bytes : List ℕ) → ArePlain bytes → IsAscii bytes
ascii-at [] plain = λ i. omega arith
ascii-at (x ∷ xs) plain =
    elim [
      | zero ↦ (plain 0 0 (omega arith)).1
      | suc i ↦ ascii-at xs (λ k d inside. plain (suc k) d (omega (arith, inside))) i
    ]

plain-text : (bytes : List ℕ) → ArePlain bytes → is_utf8 bytes ≡ true
plain-text bytes plain = is_utf8-from_IsUtf8 bytes (IsUtf8-from_ascii bytes (ascii-at bytes plain))

plain-end : (bytes : List ℕ) → ArePlain bytes → 0 < length bytes → strip_carriage_return bytes ≡ bytes
plain-end bytes plain some =
    let last : 32 ≤ slice_index bytes (length bytes - 1) = (plain (length bytes - 1) 0 (omega (arith, some))).0 in
    ap (λ (b : Bool). if b then take (length bytes - 1) bytes else bytes)
    (differ (slice_index bytes (length bytes - 1)) 13 (λ is. omega (arith, is, last)))

-- the number of a word of digits
number-any : (digits : List ℕ) (number most : ℕ) →
    list_all is_ascii_digit digits ≡ true → number ≡ digits_value 10 digits → number ≤ most →
    number_of most digits ≡ Some number
number-any digits number most are value few =
    let low : leb (digits_value 10 digits) most ≡ true = grind (arith, nat_tests) in
    ap (λ (b : Bool). if b && leb (digits_value 10 digits) most then Some (digits_value 10 digits) else None) are
    ∙ ap (λ (b : Bool). if b then Some (digits_value 10 digits) else None) low
    ∙ ap Some (sym value)

-- a line of such words is read by the table
plain-reading : (kind : ScriptKind) (line word : List ℕ) (words : List (List ℕ))
    (command : Command) (numbers : List ℕ) → ArePlain line → 0 < length line → words_of line ≡ word ∷ words →
    AreLetters word → 0 < length word → find (λ command. bytes_eq word command.word) (commands_of kind) ≡ Some command →
    numbers_of command.most words ≡ Ok numbers →
    line_reading kind line ≡ Ok (Some (command.line numbers))
plain-reading kind line word words command numbers plain some divided letters long found read =
    let other : eqb (slice_index word 0) 35
    ≡ false = differ (slice_index word 0) 35 (λ is. omega (arith, is, (letters 0 0 long).0)) in
    ap (λ (b : Bool). if b then words_reading kind (words_of (strip_carriage_return line)) else Err NotUtf8)
    (plain-text line plain)
    ∙ ap (λ (bytes : List ℕ). words_reading kind (words_of bytes)) (plain-end line plain some)
    ∙ ap (words_reading kind) divided
    ∙ ap (λ (b : Bool). if b then Ok None else command_reading
    (find (λ command. bytes_eq word command.word) (commands_of kind)) words) other
    ∙ ap (λ (c : Option Command). command_reading c words) found
    ∙ ap (made command) read

digits-word : (digits : List ℕ) →
    list_all is_ascii_digit digits ≡ true → 0 < length digits → words_of digits ≡ digits ∷ []
digits-word digits are some =
    ap words_of (sym (append-nil digits)) ∙ words-whole digits [] (digits-whole digits are) some refl

space-plain : (bytes : List ℕ) → ArePlain bytes → ArePlain (32 ∷ bytes)
space-plain bytes plain = All-cons (λ byte. (32 ≤ byte) × (byte < 128)) 32 bytes (omega arith, omega arith) plain

append-plain : (front back : List ℕ) → ArePlain front → ArePlain back → ArePlain (front ++ back)
append-plain front back one two = All-append (λ byte. (32 ≤ byte) × (byte < 128)) front back one two

module _ (kind : ScriptKind)
    (text : List ℕ) (command : Command) (behind : List ℕ) (begins : BeginsWithCommand kind text command behind) where
  word-plain : ArePlain begins.word
  word-plain = whole-plain begins.word (letters-whole begins.word begins.letters)

  any-of : (n : ℕ) → length command.most ≡ n → command.most ≡ replicate n any
  any-of n count = begins.any_value ∙ ap (λ (n : ℕ). replicate n any) count

  -- the line goes on behind the word, and ends
  whole-line : (tail after : List ℕ) (words : List (List ℕ)) (numbers : List ℕ) →
      behind ≡ 32 ∷ (tail ++ 10 ∷ after) → ArePlain tail → words_of tail ≡ words →
      numbers_of command.most words ≡ Ok numbers → BeginsWithLine kind text (command.line numbers) after
  whole-line tail after words numbers is plain divided read =
      let line : List ℕ = begins.word ++ 32 ∷ tail in
      let line-plain : ArePlain line = append-plain begins.word (32 ∷ tail) word-plain (space-plain tail plain) in
      let parts : text ≡ line ++ 10 ∷ after =
      begins.parts
      ∙ ap (λ (l : List ℕ). begins.word ++ l) is ∙ sym (append_assoc begins.word (32 ∷ tail) (10 ∷ after)) in
      let all : words_of line ≡ begins.word
      ∷ words = words-whole begins.word (32 ∷ tail) (letters-whole begins.word begins.letters) begins.some refl
      ∙ ap (λ (l : List (List ℕ)). begins.word ∷ l) divided in
      let long : 0 < length line = omega (arith, length-append begins.word (32 ∷ tail), begins.some) in
      record {
        line = line;
        cut = ap lines_of parts ∙ lines-plain line after line-plain;
        is = plain-reading kind
            line begins.word words command numbers line-plain long all begins.letters begins.some begins.found read;
        shorter = omega (arith, ap length parts, length-append line (10 ∷ after));
      }

  pub one-number : (first : ℕ) (end after : List ℕ) →
      BeginsWithDigits behind first end → end ≡ 10 ∷ after → length command.most ≡ 1 →
      BeginsWithLine kind text (command.line (first ∷ [])) after
  one-number first end after one ends count =
      whole-line one.digits after (one.digits ∷ []) (first ∷ [])
      (one.parts ∙ ap (λ (l : List ℕ). 32 ∷ (one.digits ++ l)) ends)
      (whole-plain one.digits (digits-whole one.digits one.are))
      (digits-word one.digits one.are one.some)
      (ap (λ (m : List ℕ). numbers_of m (one.digits ∷ [])) (any-of 1 count)
      ∙ ap (λ (n : Option ℕ). and_then n (Ok [])) (number-any one.digits first any one.are one.value one.fits))

  pub two-numbers : (first second : ℕ) (rest end after : List ℕ) → BeginsWithDigits behind first rest →
      BeginsWithDigits rest second end → end ≡ 10 ∷ after → length command.most ≡ 2 →
      BeginsWithLine kind text (command.line (first ∷ second ∷ [])) after
  two-numbers first second rest end after one two ends count =
      let tail : List ℕ = one.digits ++ 32 ∷ two.digits in
      let plain : ArePlain tail =
      append-plain one.digits (32 ∷ two.digits) (whole-plain one.digits (digits-whole one.digits one.are))
      (space-plain two.digits (whole-plain two.digits (digits-whole two.digits two.are))) in
      let is : behind ≡ 32 ∷ (tail ++ 10 ∷ after) =
      one.parts
      ∙ ap (λ (l : List ℕ). 32 ∷ (one.digits ++ l)) (two.parts ∙ ap (λ (l : List ℕ). 32 ∷ (two.digits ++ l)) ends)
      ∙ ap (λ (l : List ℕ). 32 ∷ l) (sym (append_assoc one.digits (32 ∷ two.digits) (10 ∷ after))) in
      let divided : words_of tail ≡ one.digits ∷ two.digits ∷ [] =
      words-whole one.digits (32 ∷ two.digits) (digits-whole one.digits one.are) one.some refl
      ∙ ap (λ (l : List (List ℕ)). one.digits ∷ l) (digits-word two.digits two.are two.some) in
      whole-line tail after (one.digits ∷ two.digits ∷ []) (first ∷ second ∷ []) is plain divided
      (ap (λ (m : List ℕ). numbers_of m (one.digits ∷ two.digits ∷ [])) (any-of 2 count)
      ∙ ap (λ (n : Option ℕ). and_then n (and_then (number_of any two.digits) (Ok [])))
      (number-any one.digits first any one.are one.value one.fits)
      ∙ ap (λ (n : Option ℕ). and_then (Some first) (and_then n (Ok [])))
      (number-any two.digits second any two.are two.value two.fits))

-- these bytes stand from this place on
abbrev pub StandsAt : List ℕ → ℕ → List ℕ → Type 0
StandsAt [] k bytes = Unit {0}
StandsAt (x ∷ word) k bytes = (get_or bytes k 0 ≡ x) × StandsAt word (suc k) bytes

stands-in-front : (word : List ℕ) (k : ℕ) (bytes : List ℕ) →
    k + length word ≤ length bytes → StandsAt word k bytes → drop k bytes ≡ word ++ drop (k + length word) bytes
stands-in-front [] k bytes within stands = ap (λ (n : ℕ). drop n bytes) (let e : k ≡ k + 0 = omega arith in e)
stands-in-front (x ∷ word) k bytes within stands =
    drop-cons bytes k 0 (omega (arith, within))
    ∙ ap (λ (b : ℕ). b ∷ drop (suc k) bytes) stands.0
    ∙ ap (λ (l : List ℕ). x ∷ l) (stands-in-front word (suc k) bytes (omega (arith, within)) stands.1)
    ∙ ap
    (λ (n : ℕ). x ∷ (word ++ drop n bytes)) (let e : suc k + length word ≡ k + suc (length word) = omega arith in e)

pub begins : (asked known : ScriptKind) (text word : List ℕ) (command : Command) → asked ≡ known →
    length word ≤ length text → StandsAt word 0 text → 0 < length word → list_all is_letter word ≡ true →
    find (λ command. bytes_eq word command.word) (commands_of known) ≡ Some command →
    command.most ≡ replicate (length command.most) any → (1 ≤ length command.most) × (length command.most ≤ 2) →
    BeginsWithCommand asked text command (take (length text - length word) (drop (length word) text))
begins asked known text word command same within stands some letters found most counted = record {
  word = word;
  parts = stands-in-front word 0 text (omega (arith, within)) stands
      ∙ ap (λ (n : ℕ). word ++ drop n text) (let e : 0 + length word ≡ length word = omega arith in e)
      ∙ ap (λ (l : List ℕ). word ++ l) (sym (take_rest text (length word)));
  some = some;
  letters = letters-are word letters;
  found = ap (λ (k : ScriptKind). find (λ command. bytes_eq word command.word) (commands_of k)) same ∙ found;
  any_value = most;
  counted = counted;
}

-- a command that stands in the table with sweeps and without
pub found-both : (sweeps : Bool) (word : List ℕ) (command : Command) →
    ((s : Bool) → find (λ command. bytes_eq word command.word) (map_commands s) ≡ Some command) →
    find (λ command. bytes_eq word command.word) (commands_of (map_kind sweeps)) ≡ Some command
found-both true word command in_both = in_both true
found-both false word command in_both = in_both false

-- `sweep` stands in the table where sweeps may stand
pub found-sweep : (sweeps : Bool) → sweeps ≡ true →
    find (λ command. bytes_eq (115 ∷ 119 ∷ 101 ∷ 101 ∷ 112 ∷ []) command.word) (commands_of (map_kind sweeps))
    ≡ Some sweep_command
found-sweep true may = refl
found-sweep false may = absurd (false≢true may)
