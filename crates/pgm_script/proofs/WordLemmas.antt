-- The first line of a text and the first word of a line: what comes before a byte that divides.
use Rattle.std.proofs.Common.{◌≡◌, ◌≢◌, ℕ, zero, suc, ◌+◌, ◌<◌, ◌≤◌, Bool, true, false, not, if◌then◌else◌, List, []}
use Rattle.std.proofs.Common.{◌∷◌, length, take, drop, get_or, eqb, refl, sym, ap, ◌∙◌, subst, arith, eq-eqb, ⊎_elim}
use Rattle.std.proofs.lemmas.Bool.{cases_lt, false≢true}
use Rattle.std.proofs.lemmas.Bool.Decides.{nat_tests}
use Rattle.std.proofs.lemmas.List.{nil_from_length, length-drop, get_or-drop}
use Rattle.pgm_script.specs.Words.{put_first, lines_of, is_blank, goes_on, words_of}

pub differ : (a b : ℕ) → a ≢ b → eqb a b ≡ false
differ a b ne = grind (arith, nat_tests)

-- a text up to its first byte 10
pub lines-cut : (xs : List ℕ) (n : ℕ) → n < length xs →
    ((k : ℕ) → k < n → get_or xs k 0 ≢ 10) → get_or xs n 0 ≡ 10 → lines_of xs ≡ take n xs ∷ lines_of (drop (suc n) xs)
lines-cut [] n within before here = absurd (omega arith)
lines-cut (x ∷ xs) zero within before here =
    ap (λ (b : Bool). if b then [] ∷ lines_of xs else put_first x (lines_of xs)) (eq-eqb x 10 here)
lines-cut (x ∷ xs) (suc n) within before here =
    ap (λ (b : Bool). if b then [] ∷ lines_of xs else put_first x (lines_of xs)) (differ x 10 (before 0 (omega arith)))
    ∙ ap (put_first x) (lines-cut xs n (omega arith) (λ k below. before (suc k) (omega arith)) here)

-- a text without a byte 10
pub lines-last : (xs : List ℕ) → 0 < length xs → ((k : ℕ) → k < length xs → get_or xs k 0 ≢ 10) → lines_of xs ≡ xs ∷ []
lines-last [] some before = absurd (omega arith)
lines-last (x ∷ []) some before =
    ap (λ (b : Bool). if b then [] ∷ [] else put_first x []) (differ x 10 (before 0 (omega arith)))
lines-last (x ∷ y ∷ xs) some before =
    ap (λ (b : Bool). if b then [] ∷ lines_of (y ∷ xs) else put_first x (lines_of (y ∷ xs)))
    (differ x 10 (before 0 (omega arith)))
    ∙ ap (put_first x) (lines-last (y ∷ xs) (omega arith) (λ k below. before (suc k) (omega arith)))

-- blanks in front play no part
pub words-skip : (xs : List ℕ) (n : ℕ) →
    n ≤ length xs → ((k : ℕ) → k < n → is_blank (get_or xs k 0) ≡ true) → words_of xs ≡ words_of (drop n xs)
words-skip xs zero within blank = refl
words-skip [] (suc n) within blank = absurd (omega arith)
words-skip (x ∷ xs) (suc n) within blank =
    ap (λ (b : Bool).
    if b then words_of xs else (if goes_on xs then put_first x (words_of xs) else (x ∷ []) ∷ words_of xs))
    (blank 0 (omega arith))
    ∙ words-skip xs n (omega arith) (λ k below. blank (suc k) (omega arith))

ends-here : (xs : List ℕ) → (0 < length xs → is_blank (get_or xs 0 0) ≡ true) → goes_on xs ≡ false
ends-here [] blank = refl
ends-here (x ∷ xs) blank = ap not (blank (omega arith))

goes-on-here : (xs : List ℕ) → 0 < length xs → is_blank (get_or xs 0 0) ≡ false → goes_on xs ≡ true
goes-on-here [] some whole = absurd (omega arith)
goes-on-here (x ∷ xs) some whole = ap not whole

-- a line up to the first blank
pub words-cut : (xs : List ℕ) (n : ℕ) → suc n ≤ length xs → ((k : ℕ) → k < suc n → is_blank (get_or xs k 0) ≡ false) →
    (suc n < length xs → is_blank (get_or xs (suc n) 0) ≡ true) →
    words_of xs ≡ take (suc n) xs ∷ words_of (drop (suc n) xs)
words-cut [] n within whole ends = absurd (omega arith)
words-cut (x ∷ xs) zero within whole ends =
    ap (λ (b : Bool).
    if b then words_of xs else (if goes_on xs then put_first x (words_of xs) else (x ∷ []) ∷ words_of xs))
    (whole 0 (omega arith))
    ∙ ap (λ (b : Bool). if b then put_first x (words_of xs) else (x ∷ []) ∷ words_of xs)
    (ends-here xs (λ some. ends (omega arith)))
words-cut (x ∷ xs) (suc n) within whole ends =
    ap (λ (b : Bool).
    if b then words_of xs else (if goes_on xs then put_first x (words_of xs) else (x ∷ []) ∷ words_of xs))
    (whole 0 (omega arith))
    ∙ ap (λ (b : Bool). if b then put_first x (words_of xs) else (x ∷ []) ∷ words_of xs)
    (goes-on-here xs (omega arith) (whole 1 (omega arith)))
    ∙ ap (put_first x)
    (words-cut xs n (omega arith) (λ k below. whole (suc k) (omega arith)) (λ more. ends (omega arith)))

clash : (b : Bool) → b ≡ false → b ≡ true → ⊥
clash b p q = false≢true (sym p ∙ q)

-- behind the blanks there is nothing, or a word
pub blank-line : (xs : List ℕ) (n : ℕ) →
    n ≤ length xs → length xs ≤ n → ((k : ℕ) → k < n → is_blank (get_or xs k 0) ≡ true) → words_of xs ≡ []
blank-line xs n within all blank =
    words-skip xs n within blank ∙ ap words_of (nil_from_length (drop n xs) (omega (arith, length-drop n xs)))

pub no-word : (xs : List ℕ) (n len : ℕ) → n ≤ length xs →
    ((k : ℕ) → k < n → is_blank (get_or xs k 0) ≡ true) → (n < length xs → is_blank (get_or xs n 0) ≡ false) →
    len ≡ 0 → (len < length (drop n xs) → is_blank (get_or (drop n xs) len 0) ≡ true) → words_of xs ≡ []
no-word xs n len within blank whole none ends =
    ⊎_elim
    (λ less.
    let place : get_or (drop n xs) len 0 ≡ get_or xs n 0 = ap (λ (k : ℕ). get_or (drop n xs) k 0) none
    ∙ get_or-drop n xs 0 0 ∙ ap (λ (k : ℕ). get_or xs k 0) (let e : n + 0 ≡ n = omega arith in e) in
    absurd (clash
    (is_blank (get_or xs n 0)) (whole less) (sym (ap is_blank place) ∙ ends (omega (arith, length-drop n xs)))))
    (λ more. blank-line xs n within more blank)
    (cases_lt n (length xs))

pub some-word : (xs : List ℕ) (n len : ℕ) → n ≤ length xs → ((k : ℕ) → k < n → is_blank (get_or xs k 0) ≡ true) →
    0 < len → len ≤ length (drop n xs) → ((k : ℕ) → k < len → is_blank (get_or (drop n xs) k 0) ≡ false) →
    (len < length (drop n xs) → is_blank (get_or (drop n xs) len 0) ≡ true) →
    words_of xs ≡ take len (drop n xs) ∷ words_of (drop len (drop n xs))
some-word xs n zero within blank some fits whole ends = absurd (omega arith)
some-word xs n (suc len) within blank some fits whole ends =
    words-skip xs n within blank ∙ words-cut (drop n xs) len fits whole ends

-- the same where what is behind the blanks has a name of its own
pub no-word-in : (xs rest : List ℕ) (n len : ℕ) → rest ≡ drop n xs → n ≤ length xs →
    ((k : ℕ) → k < n → is_blank (get_or xs k 0) ≡ true) → (n < length xs → is_blank (get_or xs n 0) ≡ false) →
    len ≡ 0 → (len < length rest → is_blank (get_or rest len 0) ≡ true) → words_of xs ≡ []
no-word-in xs rest n len same within blank whole none ends =
    let P : List ℕ → Type 0 = λ w. len < length w → is_blank (get_or w len 0) ≡ true in
    no-word xs n len within blank whole none (subst P same ends)

pub some-word-in : (xs rest : List ℕ) (n len : ℕ) →
    rest ≡ drop n xs → n ≤ length xs → ((k : ℕ) → k < n → is_blank (get_or xs k 0) ≡ true) →
    0 < len → len ≤ length rest → ((k : ℕ) → k < len → is_blank (get_or rest k 0) ≡ false) →
    (len < length rest → is_blank (get_or rest len 0) ≡ true) →
    words_of xs ≡ take len rest ∷ words_of (drop len rest)
some-word-in xs rest n len same within blank some fits whole ends =
    let P : List ℕ → Type 0 = λ w. len ≤ length w →
    ((k : ℕ) → k < len → is_blank (get_or w k 0) ≡ false) → (len < length w → is_blank (get_or w len 0) ≡ true) →
    words_of xs ≡ take len w ∷ words_of (drop len w) in
    subst P (sym same) (λ a b c. some-word xs n len within blank some a b c) fits whole ends

-- behind the blanks a word begins
pub record HasWord (xs : List ℕ) : Type 0 where
  pub word : List ℕ
  pub others : List (List ℕ)
  pub words : words_of xs ≡ word ∷ others

first-of : (x : ℕ) (words : List (List ℕ)) (line : List ℕ) → words_of line ≡ put_first x words → HasWord line
first-of x [] line is = record { word = x ∷ []; others = []; words = is }
first-of x (word ∷ words) line is = record { word = x ∷ word; others = words; words = is }

begins : (x : ℕ) (xs : List ℕ) (b : Bool) → is_blank x ≡ false → goes_on xs ≡ b → HasWord (x ∷ xs)
begins x xs true whole on =
    first-of x (words_of xs) (x ∷ xs)
    (ap (λ (b : Bool).
    if b then words_of xs else (if goes_on xs then put_first x (words_of xs) else (x ∷ []) ∷ words_of xs)) whole
    ∙ ap (λ (b : Bool). if b then put_first x (words_of xs) else (x ∷ []) ∷ words_of xs) on)
begins x xs false whole on = record {
  word = x ∷ [];
  others = words_of xs;
  words =
      ap (λ (b : Bool).
      if b then words_of xs else (if goes_on xs then put_first x (words_of xs) else (x ∷ []) ∷ words_of xs)) whole
      ∙ ap (λ (b : Bool). if b then put_first x (words_of xs) else (x ∷ []) ∷ words_of xs) on;
}

begins-here : (xs : List ℕ) → 0 < length xs → is_blank (get_or xs 0 0) ≡ false → HasWord xs
begins-here [] some whole = absurd (omega arith)
begins-here (x ∷ xs) some whole = begins x xs (goes_on xs) whole refl

pub has-word : (xs : List ℕ) (n : ℕ) →
    n < length xs → ((k : ℕ) → k < n → is_blank (get_or xs k 0) ≡ true) → is_blank (get_or xs n 0) ≡ false → HasWord xs
has-word xs n within blank whole =
    let place : get_or (drop n xs) 0 0 ≡ get_or xs n 0 = get_or-drop n xs 0 0
    ∙ ap (λ (k : ℕ). get_or xs k 0) (let e : n + 0 ≡ n = omega arith in e) in
    let behind = begins-here (drop n xs) (omega (arith, length-drop n xs)) (ap is_blank place ∙ whole) in
    record { word = behind.word; others = behind.others; words = words-skip xs n (omega arith) blank ∙ behind.words }
