-- Where the digits at the front of a line end, the word ends or goes on otherwise.
use Rattle.std.proofs.Common.{◌≡◌, ◌⊎◌, ℕ, suc, zero, ◌+◌, ◌<◌, ◌≤◌, Bool, true, false, not}
use Rattle.std.proofs.Common.{if◌then◌else◌, leb, List, [], ◌∷◌, length, take, drop, get_or, refl, sym}
use Rattle.std.proofs.Common.{ap, ◌∙◌, subst, arith, Option, Some, None, IfNone, ⊎_elim, inl, inr}
use Rattle.std.specs.Char.{is_ascii_digit}
use Rattle.std.specs.List.{list_all, prefix_len}
use Rattle.std.specs.Str.Parse.{digits_value}
use Rattle.std.proofs.lemmas.Bool.{cases_lt, false≢true}
use Rattle.std.proofs.lemmas.Bool.Decides.{nat_tests}
use Rattle.std.proofs.lemmas.List.{take-take, get_or-take, length-take-le, length-drop, get_or-drop}
use Rattle.std.proofs.lemmas.List.Folds.{list_all_at}
use Rattle.std.proofs.lemmas.List.Sums.{prefix_len_passes, prefix_len_stops, prefix_len-le-length}
use Rattle.pgm_script.specs.Words.{is_blank, goes_on, words_of}
use Rattle.pgm_script.specs.Cuts.{HasDigits, ReadsDigits, BeginsWithNumber, BeginsWithOther}
use Rattle.pgm_script.proofs.NumberLemmas.{too-great-front, no-number, number-is}
use Rattle.pgm_script.proofs.WordLemmas.{words-skip, words-cut}

clash : (b : Bool) → b ≡ false → b ≡ true → ⊥
clash b p q = false≢true (sym p ∙ q)

not-true : (b : Bool) → not b ≡ true → b ≡ false
not-true true e = absurd (false≢true e)
not-true false e = refl

not-false : (b : Bool) → not b ≡ false → b ≡ true
not-false true e = refl
not-false false e = absurd (false≢true (sym e))

-- the word at the front: its length
record HasFront (xs : List ℕ) : Type 0 where
  n : ℕ
  some : 0 < n
  within : n ≤ length xs
  whole : (k : ℕ) → k < n → is_blank (get_or xs k 0) ≡ false
  ends : n < length xs → is_blank (get_or xs n 0) ≡ true

front-of : (xs : List ℕ) → 0 < length xs → is_blank (get_or xs 0 0) ≡ false → HasFront xs
front-of xs long whole =
    let p : ℕ → Bool = λ byte. not (is_blank byte) in
    let n = prefix_len p xs in
    let stops : n < length xs → is_blank (get_or xs n 0)
    ≡ true = λ more. not-false (is_blank (get_or xs n 0)) (prefix_len_stops p xs 0 more) in
    record {
      n = n;
      some = ⊎_elim (λ some. some)
          (λ none.
          let zero_is : n ≡ 0 = omega arith in
          absurd (clash (is_blank (get_or xs 0 0)) whole
          (ap (λ (k : ℕ). is_blank (get_or xs k 0)) (sym zero_is) ∙ stops (omega arith))))
          (cases_lt 0 n);
      within = prefix_len-le-length p xs;
      whole = λ k below. not-true (is_blank (get_or xs k 0)) (prefix_len_passes p xs k 0 below);
      ends = stops;
    }

digit-whole : (byte : ℕ) → is_ascii_digit byte ≡ true → is_blank byte ≡ false
digit-whole byte is = grind (arith, nat_tests)

pub bool-cases : (b : Bool) → (b ≡ true) ⊎ (b ≡ false)
bool-cases true = inl refl
bool-cases false = inr refl

digit-at : (xs : List ℕ) (len value k : ℕ) →
    HasDigits xs len value → len ≤ length xs → k < len → is_ascii_digit (get_or xs k 0) ≡ true
digit-at xs len value k has within below =
    ⊎_elim (λ yes. yes)
    (λ other.
    let place : is_ascii_digit (get_or (take len xs) k 0) ≡ false = ap is_ascii_digit (get_or-take len xs k 0 below)
    ∙ other in
    absurd (clash _
    (list_all_at is_ascii_digit (take len xs) k 0 (omega (arith, length-take-le len xs within)) place) has.digits))
    (bool-cases (is_ascii_digit (get_or xs k 0)))

-- the digits at the front are of the word there
digits-within : (xs : List ℕ) (len value : ℕ) (front : HasFront xs) →
    HasDigits xs len value → len ≤ length xs → len ≤ front.n
digits-within xs len value front has within =
    ⊎_elim
    (λ less. absurd (clash (is_blank (get_or xs front.n 0))
    (digit-whole (get_or xs front.n 0) (digit-at xs len value front.n has within less)) (front.ends (omega arith))))
    (λ more. more)
    (cases_lt front.n len)

of-word : (xs : List ℕ) (n len value : ℕ) → len ≤ n → HasDigits xs len value → HasDigits (take n xs) len value
of-word xs n len value fits has = record {
  digits = ap (list_all is_ascii_digit) (take-take len n xs fits) ∙ has.digits;
  value_is = has.value_is ∙ ap (digits_value 10) (sym (take-take len n xs fits));
}

cut-front : (xs : List ℕ) (n : ℕ) → 0 < n → n ≤ length xs →
    ((k : ℕ) → k < n → is_blank (get_or xs k 0) ≡ false) → (n < length xs → is_blank (get_or xs n 0) ≡ true) →
    words_of xs ≡ take n xs ∷ words_of (drop n xs)
cut-front xs zero some within whole ends = absurd (omega arith)
cut-front xs (suc n) some within whole ends = words-cut xs n within whole ends

pub great-word : (most : ℕ) (xs : List ℕ) (len value : ℕ) → 0 < length xs →
    is_blank (get_or xs 0 0) ≡ false → HasDigits xs len value → len ≤ length xs → most < value → BeginsWithOther most xs
great-word most xs len value long begins has within great =
    let front = front-of xs long begins in
    record {
      word = take front.n xs;
      others = words_of (drop front.n xs);
      words = cut-front xs front.n front.some front.within front.whole front.ends;
      is = sym (too-great-front most (take front.n xs) len value
          (of-word xs front.n len value (digits-within xs len value front has within) has) great);
    }

pub other-word : (most : ℕ) (xs : List ℕ) (len value : ℕ) → 0 < length xs → is_blank (get_or xs 0 0) ≡ false →
    ReadsDigits xs len value → len < length xs → is_blank (get_or xs len 0) ≡ false → BeginsWithOther most xs
other-word most xs len value long begins read within on =
    let front = front-of xs long begins in
    let fits = digits-within xs len value front read.read read.within in
    let less : len < front.n = ⊎_elim (λ less. less)
    (λ over.
    let same : front.n ≡ len = omega arith in
    absurd (clash (is_blank (get_or xs len 0)) on
    (ap (λ (k : ℕ). is_blank (get_or xs k 0)) (sym same) ∙ front.ends (omega arith))))
    (cases_lt len front.n) in
    record {
      word = take front.n xs;
      others = words_of (drop front.n xs);
      words = cut-front xs front.n front.some front.within front.whole front.ends;
      is = sym (no-number most
          (take front.n xs) len (get_or xs len 0) (omega (arith, length-take-le front.n xs front.within))
          (sym (get_or-take front.n xs len 0 less)) (read.ends within));
    }

fits-most : (v most : ℕ) → v ≤ most → (if leb v most then Some v else None) ≡ Some v
fits-most v most few =
    let fits : leb v most ≡ true = grind (arith, nat_tests) in ap (λ (b : Bool). if b then Some v else None) fits

pub number-word : (most : ℕ) (xs : List ℕ) (len value : ℕ) → 0 < length xs → is_blank (get_or xs 0 0) ≡ false →
    ReadsDigits xs len value → (len < length xs → is_blank (get_or xs len 0) ≡ true) → value ≤ most →
    BeginsWithNumber most xs value (drop len xs)
number-word most xs len value long begins read ends few =
    let front = front-of xs long begins in
    let fits = digits-within xs len value front read.read read.within in
    let same : front.n ≡ len = ⊎_elim
    (λ less. absurd (clash (is_blank (get_or xs len 0)) (front.whole len less) (ends (omega (arith, front.within)))))
    (λ over. omega arith)
    (cases_lt len front.n) in
    let word = take len xs in
    let long : length word ≡ len = length-take-le len xs read.within in
    let whole : HasDigits word (length word) value =
    subst (λ (k : ℕ). HasDigits word k value) (sym long) (of-word xs len len value (omega arith) read.read) in
    record {
      word = word;
      words = cut-front xs len (omega (arith, front.some)) read.within (λ k below. front.whole k (omega arith)) ends;
      is = number-is most word value whole ∙ fits-most value most few;
    }

pub if-none : {T : Type 0} (r : Option T) (P : Type 0) → P → IfNone r P
if-none None P holds = holds
if-none (Some x) P holds = tt

-- behind the blanks
pub behind-begins : (xs rest : List ℕ) (n : ℕ) → rest ≡ drop n xs → n ≤ length xs →
    (n < length xs → is_blank (get_or xs n 0) ≡ false) → 0 < length rest → is_blank (get_or rest 0 0) ≡ false
behind-begins xs rest n same within whole some =
    let place : get_or rest 0 0 ≡ get_or xs n 0 = ap (λ (w : List ℕ). get_or w 0 0) same
    ∙ get_or-drop n xs 0 0 ∙ ap (λ (k : ℕ). get_or xs k 0) (let e : n + 0 ≡ n = omega arith in e) in
    let long : length rest ≡ length (drop n xs) = ap length same in
    ap is_blank place ∙ whole (omega (arith, length-drop n xs))

same-words : (xs rest : List ℕ) (n : ℕ) →
    rest ≡ drop n xs → n ≤ length xs → ((k : ℕ) → k < n → is_blank (get_or xs k 0) ≡ true) → words_of xs ≡ words_of rest
same-words xs rest n same within blank = words-skip xs n within blank ∙ ap words_of (sym same)

pub behind-other : (most : ℕ) (xs rest : List ℕ) (n : ℕ) → rest ≡ drop n xs → n ≤ length xs →
    ((k : ℕ) → k < n → is_blank (get_or xs k 0) ≡ true) → BeginsWithOther most rest → BeginsWithOther most xs
behind-other most xs rest n same within blank here =
    record {
      word = here.word;
      others = here.others;
      words = same-words xs rest n same within blank ∙ here.words;
      is = here.is;
    }

pub behind-number : (most : ℕ) (xs rest after : List ℕ) (n number : ℕ) →
    rest ≡ drop n xs → n ≤ length xs → ((k : ℕ) → k < n → is_blank (get_or xs k 0) ≡ true) →
    BeginsWithNumber most rest number after → BeginsWithNumber most xs number after
behind-number most xs rest after n number same within blank here =
    record { word = here.word; words = same-words xs rest n same within blank ∙ here.words; is = here.is }

head-on : (xs : List ℕ) → goes_on xs ≡ true → (0 < length xs) × (is_blank (get_or xs 0 0) ≡ false)
head-on [] on = absurd (false≢true on)
head-on (x ∷ xs) on = (omega arith, not-true (is_blank x) on)

head-off : (xs : List ℕ) → goes_on xs ≡ false → 0 < length xs → is_blank (get_or xs 0 0) ≡ true
head-off [] off some = absurd (omega arith)
head-off (x ∷ xs) off some = not-false (is_blank x) off

at-drop : (xs : List ℕ) (n : ℕ) → get_or (drop n xs) 0 0 ≡ get_or xs n 0
at-drop xs n = get_or-drop n xs 0 0 ∙ ap (λ (k : ℕ). get_or xs k 0) (let e : n + 0 ≡ n = omega arith in e)

pub on-there : (xs after : List ℕ) (n : ℕ) →
    after ≡ drop n xs → goes_on after ≡ true → (n < length xs) × (is_blank (get_or xs n 0) ≡ false)
on-there xs after n same on =
    let h = head-on (drop n xs) (ap goes_on (sym same) ∙ on) in
    (omega (arith, h.0, length-drop n xs), ap is_blank (sym (at-drop xs n)) ∙ h.1)

pub off-there : (xs after : List ℕ) (n : ℕ) →
    after ≡ drop n xs → goes_on after ≡ false → n < length xs → is_blank (get_or xs n 0) ≡ true
off-there xs after n same off more = ap is_blank (sym (at-drop xs n))
    ∙ head-off (drop n xs) (ap goes_on (sym same) ∙ off) (omega (arith, length-drop n xs))
