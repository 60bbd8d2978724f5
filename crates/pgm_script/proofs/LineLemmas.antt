-- The words of a line, one after the other.
use Rattle.std.proofs.Common.{◌≡◌, ℕ, zero, suc, ◌+◌, ◌<◌, ◌≤◌, Bool, true, false, if◌then◌else◌, List}
use Rattle.std.proofs.Common.{[], ◌∷◌, ◌++◌, length, take, drop, drop-cons, get_or, refl, sym, ap, ◌∙◌}
use Rattle.std.proofs.Common.{subst, append_assoc, leb, ◌&&◌, arith, Option, Some, None, Result, Ok, Err}
use Rattle.std.specs.Char.{is_ascii_digit}
use Rattle.std.specs.List.{list_all}
use Rattle.std.specs.Str.Parse.{digits_value}
use Rattle.std.proofs.lemmas.Bool.Decides.{nat_tests}
use Rattle.std.proofs.lemmas.List.{append-nil, drop_all, get_or-take}
use Rattle.pgm_script.specs.declared.fault.Why.{Why}
use Rattle.pgm_script.specs.declared.fault.Why.TheVariants.{Extra}
use Rattle.pgm_script.specs.Words.{number_of}
use Rattle.pgm_script.specs.Verbs.{AreWithin}
use Rattle.pgm_script.specs.Scripts.{numbers_of, and_then}

-- numbers in front of those of the words that are left
abbrev pub behind : List ℕ → Result (List ℕ) Why → Result (List ℕ) Why
behind front (Ok numbers) = Ok (front ++ numbers)
behind front (Err why) = Err why

behind-more : (front : List ℕ) (x : ℕ) (r : Result (List ℕ) Why) →
    behind front (and_then (Some x) r) ≡ behind (front ++ x ∷ []) r
behind-more front x (Ok numbers) = ap Ok (sym (append_assoc front (x ∷ []) numbers))
behind-more front x (Err why) = refl

pub read-more : (most : List ℕ) (words : List (List ℕ)) (i : ℕ) (front : List ℕ) (left : List (List ℕ)) (word : List ℕ)
    (others : List (List ℕ)) (x : ℕ) → numbers_of most words ≡ behind front (numbers_of (drop i most) left) →
    i < length most → left ≡ word ∷ others → number_of (get_or most i 0) word ≡ Some x →
    numbers_of most words ≡ behind (front ++ x ∷ []) (numbers_of (drop (i + 1) most) others)
read-more most words i front left word others x so_far below here some =
    so_far ∙ ap (λ (m : List ℕ). behind front (numbers_of m left)) (drop-cons most i 0 below)
    ∙ ap (λ (w : List (List ℕ)). behind front (numbers_of (get_or most i 0 ∷ drop (suc i) most) w)) here
    ∙ ap (λ (o : Option ℕ). behind front (and_then o (numbers_of (drop (suc i) most) others))) some
    ∙ behind-more front x (numbers_of (drop (suc i) most) others)
    ∙ ap (λ (n : ℕ). behind (front ++ x ∷ []) (numbers_of (drop n most) others))
    (let e : suc i ≡ i + 1 = omega arith in e)

pub read-extra : (most : List ℕ) (words : List (List ℕ)) (i : ℕ) (front : List ℕ) (left : List (List ℕ))
    (word : List ℕ) (others : List (List ℕ)) → numbers_of most words ≡ behind front (numbers_of (drop i most) left) →
    length most ≤ i → left ≡ word ∷ others → numbers_of most words ≡ Err Extra
read-extra most words i front left word others so_far over here =
    so_far ∙ ap (λ (m : List ℕ). behind front (numbers_of m left)) (drop_all i most over)
    ∙ ap (λ (w : List (List ℕ)). behind front (numbers_of [] w)) here

pub read-all : (most : List ℕ) (words : List (List ℕ)) (i : ℕ) (front : List ℕ) (left : List (List ℕ)) →
    numbers_of most words ≡ behind front (numbers_of (drop i most) left) →
    length most ≤ i → left ≡ [] → numbers_of most words ≡ Ok front
read-all most words i front left so_far over none =
    so_far ∙ ap (λ (m : List ℕ). behind front (numbers_of m left)) (drop_all i most over)
    ∙ ap (λ (w : List (List ℕ)). behind front (numbers_of [] w)) none
    ∙ ap Ok (append-nil front)

-- a number is at most the greatest
chosen : (b : Bool) (v x most : ℕ) → (b ≡ true → v ≤ most) → (if b then Some v else None) ≡ Some x → x ≤ most
chosen true v x most few is = let same : v ≡ x = cc in omega (arith, few refl)
chosen false v x most few is = cc

second : (a b : Bool) → (a && b) ≡ true → b ≡ true
second true b is = is
second false b is = cc

number-most : (most : ℕ) (word : List ℕ) (x : ℕ) → number_of most word ≡ Some x → x ≤ most
number-most most word x is =
    let v = digits_value 10 word in
    let a = list_all is_ascii_digit word in
    chosen (a && leb v most) v x most
    (λ both. let fits : leb v most ≡ true = second a (leb v most) both in grind (arith, nat_tests)) is

and-then-most : (most : ℕ) (later : List ℕ) (o : Option ℕ) (r : Result (List ℕ) Why) (xs : List ℕ) →
    ((x : ℕ) → o ≡ Some x → x ≤ most) → ((ys : List ℕ) → r ≡ Ok ys → AreWithin later ys) →
    and_then o r ≡ Ok xs → AreWithin (most ∷ later) xs
and-then-most most later None r xs one others is = cc
and-then-most most later (Some x) (Err why) xs one others is = cc
and-then-most most later (Some x) (Ok ys) xs one others is =
    let same : (x ∷ ys) ≡ xs = cc in
    subst (λ (w : List ℕ). AreWithin (most ∷ later) w) same
    (elim [ zero ↦ λ below. one x refl | suc i ↦ λ below. others ys refl i (omega (arith, below)) ])

pub numbers-most : (most : List ℕ) (words : List (List ℕ)) (xs : List ℕ) →
    numbers_of most words ≡ Ok xs → AreWithin most xs
numbers-most [] words xs is = λ i below. absurd (omega arith)
numbers-most (most ∷ later) [] xs is = cc
numbers-most (most ∷ later) (word ∷ words) xs is =
    and-then-most most later
    (number_of most word) (numbers_of later words) xs (number-most most word) (numbers-most later words) is

pub numbers-range : (most most' : List ℕ) (words : List (List ℕ)) (numbers : List ℕ) →
    most ≡ most' → numbers_of most words ≡ Ok (take (length most) numbers) →
    AreWithin most' numbers
numbers-range most most' words numbers same is =
    let here = numbers-most most words (take (length most) numbers) is in
    subst (λ (m : List ℕ). AreWithin m numbers) same
    (λ i below. omega (arith, here i below, get_or-take (length most) numbers i 0 below))

-- there are as many numbers as the command has
and-then-count : (count : ℕ) (o : Option ℕ) (r : Result (List ℕ) Why) (xs : List ℕ) →
    ((ys : List ℕ) → r ≡ Ok ys → length ys ≡ count) → and_then o r ≡ Ok xs → length xs ≡ suc count
and-then-count count None r xs others is = cc
and-then-count count (Some x) (Err why) xs others is = cc
and-then-count count (Some x) (Ok ys) xs others is =
    let same : (x ∷ ys) ≡ xs = cc in ap length (sym same) ∙ ap suc (others ys refl)

pub numbers-count : (most : List ℕ) (words : List (List ℕ)) (xs : List ℕ) →
    numbers_of most words ≡ Ok xs → length xs ≡ length most
numbers-count [] [] xs is = let same : [] ≡ xs = cc in ap length (sym same)
numbers-count [] (word ∷ words) xs is = cc
numbers-count (most ∷ later) [] xs is = cc
numbers-count (most ∷ later) (word ∷ words) xs is =
    and-then-count (length later) (number_of most word) (numbers_of later words) xs (numbers-count later words) is
