-- The number that digits write, as far as they are read.
use Rattle.std.proofs.Common.{◌≡◌, ℕ, ◌+◌, ◌-◌, ◌*◌, ◌<◌, ◌≤◌, Bool, true, false, ◌&&◌, if◌then◌else◌, leb}
use Rattle.std.proofs.Common.{List, length, take, get_or, refl, sym, ap, ◌∙◌, subst, Some, None, arith}
use Rattle.std.specs.Char.{is_ascii_digit, digit_value}
use Rattle.std.specs.List.{list_all}
use Rattle.std.specs.Str.Parse.{digits_value}
use Rattle.std.proofs.lemmas.Bool.Decides.{nat_tests}
use Rattle.std.proofs.lemmas.Int.Digits.{digits_value_more}
use Rattle.std.proofs.lemmas.Str.Parse.{digits_value-take-le}
use Rattle.std.proofs.lemmas.List.{take_all}
use Rattle.std.proofs.lemmas.List.Folds.{list_all_more, list_all_at}
use Rattle.pgm_script.specs.Cuts.{HasDigits, AreEightDigits}
use Rattle.pgm_script.specs.Words.{number_of}

digit-is : (byte : ℕ) → is_ascii_digit byte ≡ true → digit_value byte ≡ byte - 48
digit-is byte is = grind (arith, nat_tests)

both : (a b : Bool) → a ≡ true → b ≡ true → (a && b) ≡ true
both a b p q = rw (p, q) refl

pub digits-more : (word : List ℕ) (i value byte : ℕ) → HasDigits word i value → i < length word →
    byte ≡ get_or word i 0 → is_ascii_digit byte ≡ true → HasDigits word (i + 1) (value * 10 + (byte - 48))
digits-more word i value byte so_far within is digit =
    let P : ℕ → Type 0 = λ b. is_ascii_digit b ≡ true in
    let here : is_ascii_digit (get_or word i 0) ≡ true = subst P is digit in
    record {
      digits = list_all_more is_ascii_digit word i 0 within ∙ both _ _ so_far.digits here;
      value_is =
          sym (digits_value_more 10 word i within ∙ ap (λ (v : ℕ). v * 10 + digit_value (get_or word i 0))
          (sym so_far.value_is) ∙ ap (λ (v : ℕ). value * 10 + v) (ap digit_value (sym is) ∙ digit-is byte digit));
    }

-- a byte that is no digit
pub no-number : (most : ℕ) (word : List ℕ) (i byte : ℕ) →
    i < length word → byte ≡ get_or word i 0 → is_ascii_digit byte ≡ false → None ≡ number_of most word
no-number most word i byte within is other =
    let here : is_ascii_digit (get_or word i 0) ≡ false = ap is_ascii_digit (sym is) ∙ other in
    sym (ap (λ (b : Bool). if b && leb (digits_value 10 word) most then Some (digits_value 10 word) else None)
    (list_all_at is_ascii_digit word i 0 within here))

neither : (a b : Bool) → b ≡ false → (a && b) ≡ false
neither true b q = q
neither false b q = refl

-- digits that write too much
pub too-great : (most : ℕ) (word : List ℕ) → most < digits_value 10 word → None ≡ number_of most word
too-great most word above =
    let fails : leb (digits_value 10 word) most ≡ false = grind (arith, nat_tests) in
    sym (ap (λ (b : Bool). if b then Some (digits_value 10 word) else None)
    (neither (list_all is_ascii_digit word) (leb (digits_value 10 word) most) fails))

pub too-great-front : (most : ℕ) (word : List ℕ) (i value : ℕ) →
    HasDigits word i value → most < value → None ≡ number_of most word
too-great-front most word i value so_far above =
    too-great most word (omega (arith, so_far.value_is, digits_value-take-le 10 word i (omega arith)))

pub number-is : (most : ℕ) (word : List ℕ) (value : ℕ) →
    HasDigits word (length word) value → number_of most word ≡ (if leb value most then Some value else None)
number-is most word value all =
    let whole : take (length word) word ≡ word = take_all (length word) word (omega arith) in
    let digits : list_all is_ascii_digit word ≡ true = ap (list_all is_ascii_digit) (sym whole) ∙ all.digits in
    let same : digits_value 10 word ≡ value = ap (digits_value 10) (sym whole) ∙ sym all.value_is in
    ap (λ (b : Bool). if b && leb (digits_value 10 word) most then Some (digits_value 10 word) else None) digits
    ∙ ap (λ (v : ℕ). if leb v most then Some v else None) same

-- eight digits more
pub digits-eight : (word : List ℕ) (at value a b c d e f g h : ℕ) →
    HasDigits word at value → AreEightDigits word at → a ≡ get_or word at 0 - 48 → b ≡ get_or word (at + 1) 0 - 48 →
    c ≡ get_or word (at + 2) 0 - 48 → d ≡ get_or word (at + 3) 0 - 48 →
    e ≡ get_or word (at + 4) 0 - 48 → f ≡ get_or word (at + 5) 0 - 48 → g ≡ get_or word (at + 6) 0 - 48 →
    h ≡ get_or word (at + 7) 0 - 48 → HasDigits word
    (at + 8) ((((((((value * 10 + a) * 10 + b) * 10 + c) * 10 + d) * 10 + e) * 10 + f) * 10 + g) * 10 + h)
digits-eight word at value a b c d e f g h so_far eight is-a is-b is-c is-d is-e is-f is-g is-h =
    let one = step at (at + 1) value a (omega arith) (omega arith) (omega arith) so_far is-a in
    let two = step (at + 1) (at + 2) _ b (omega arith) (omega arith) (omega arith) one is-b in
    let three = step (at + 2) (at + 3) _ c (omega arith) (omega arith) (omega arith) two is-c in
    let four = step (at + 3) (at + 4) _ d (omega arith) (omega arith) (omega arith) three is-d in
    let five = step (at + 4) (at + 5) _ e (omega arith) (omega arith) (omega arith) four is-e in
    let six = step (at + 5) (at + 6) _ f (omega arith) (omega arith) (omega arith) five is-f in
    let seven = step (at + 6) (at + 7) _ g (omega arith) (omega arith) (omega arith) six is-g in
    step (at + 7) (at + 8) _ h (omega arith) (omega arith) (omega arith) seven is-h
  where
    step : (i next so digit : ℕ) → at ≤ i → i < at + 8 →
        next ≡ i + 1 → HasDigits word i so → digit ≡ get_or word i 0 - 48 → HasDigits word next (so * 10 + digit)
    step i next so digit low high after has is =
        let here : HasDigits word (i + 1) (so * 10 + (get_or word i 0 - 48)) =
        digits-more word i so
        (get_or word i 0) has (omega (arith, high, eight.within)) refl (eight.digits i low high) in
        let with_digit : HasDigits word (i + 1) (so * 10 + digit) =
        subst (λ (n : ℕ). HasDigits word (i + 1) (so * 10 + n)) (sym is) here in
        subst (λ (k : ℕ). HasDigits word k (so * 10 + digit)) (sym after) with_digit
