-- Any bytes have a reading: the numbers that are whole are gone
-- through for one that fails, and else the length decides.
use Rattle.std.proofs.Common.{◌≡◌, ◌⊎◌, ℕ, zero, suc, ◌+◌, ◌-◌, ◌*◌, ◌^◌, ◌<◌, ◌≤◌, List, [], ◌∷◌}
use Rattle.std.proofs.Common.{◌++◌, length, take, drop, get_or, refl, sym, ap, ◌∙◌, subst, Result}
use Rattle.std.proofs.Common.{Ok, Err, All, arith, inl, inr, ⊎_elim, mul-le-mul_left, mul-suc}
use Rattle.std.specs.List.{flat_map}
use Rattle.std.proofs.lemmas.Bool.{cases_lt}
use Rattle.std.proofs.lemmas.List.{take-append-drop, length-drop, append-nil, nil_from_length}
use Rattle.std.proofs.lemmas.List.Elements.{All-cons}
use Rattle.byteorder.specs.Endian.{little_bytes, little_number}
use Rattle.byteorder.specs.Numbers.{little_from-lt}
use Rattle.sosd_reader.specs.declared.fault.KeyFault.{KeyFault}
use Rattle.sosd_reader.specs.declared.fault.KeyFault.TheVariants.{TooMany, Short, Unsorted, Wide, Trailing}
use Rattle.sosd_reader.specs.NumberFiles.{Kind, number_width, Follows, Fails, AllFollow, IsFileOf}
use Rattle.sosd_reader.specs.NumberFiles.Kind.{of_keys, of_points}
use Rattle.sosd_reader.specs.FileFaults.{count_in, numbers_said, number_in, IsWhole, NoneFails}
use Rattle.sosd_reader.specs.FileFaults.{HasCount, IsFirstFailing, ReadsAsFile, ReadingsOfKindAreOne}
use Rattle.sosd_reader.proofs.KindLemmas.{follows-or-fails, follows-same}
use Rattle.sosd_reader.proofs.Numbers.{little_bytes-little_number}
use Rattle.sosd_reader.proofs.Beginning.{BeginsWith, number-in}
use Rattle.sosd_reader.proofs.Unique.{one-file-reading}

-- the first number that fails among those below n
record HasFailing (kind : Kind) (bytes : List ℕ) (n : ℕ) : Type 0 where
  at : ℕ
  below : at < n
  whole : IsWhole kind bytes at
  fails : Fails kind (number_in kind bytes (at - 1)) (number_in kind bytes at)
  first : NoneFails kind bytes at

-- the number n either fails, or none up to it does
none-more : (kind : Kind) (bytes : List ℕ) (n : ℕ) → NoneFails kind bytes n →
    (IsWhole kind bytes n → Follows kind (number_in kind bytes (n - 1)) (number_in kind bytes n)) →
    NoneFails kind bytes (suc n)
none-more kind bytes n none here = λ j below whole.
    ⊎_elim (λ less. none j less whole)
    (λ more.
    let same : j ≡ n = omega arith in
    let P : ℕ → Type 0 = λ k. IsWhole kind bytes k →
    Follows kind (number_in kind bytes (k - 1)) (number_in kind bytes k) in
    subst P (sym same) here whole)
    (cases_lt j n)

search-failing : (kind : Kind) (bytes : List ℕ) (n : ℕ) → HasFailing kind bytes n ⊎ NoneFails kind bytes n
search-failing kind bytes zero = inr (λ j below whole. absurd (omega arith))
search-failing kind bytes (suc n) =
    ⊎_elim
    (λ found. inl (record {
      at = found.at;
      below = omega (arith, found.below);
      whole = found.whole;
      fails = found.fails;
      first = found.first;
    }))
    (λ none.
    ⊎_elim
    (λ ends. inr (none-more kind bytes n none (λ whole. absurd (omega (arith, ends, whole)))))
    (λ whole.
    ⊎_elim
    (λ follows. inr (none-more kind bytes n none (λ _. follows)))
    (λ fails. inl (record { at = n; below = omega arith; whole = whole; fails = fails; first = none }))
    (follows-or-fails kind (number_in kind bytes (n - 1)) (number_in kind bytes n)))
    (cases_lt (length bytes) (8 + number_width kind * (n + 1))))
    (search-failing kind bytes n)

-- the first n numbers
numbers_in : ℕ → ℕ → List ℕ → List ℕ
numbers_in width zero bytes = []
numbers_in width (suc n) bytes = little_number width bytes ∷ numbers_in width n (drop width bytes)

length-numbers_in : (width n : ℕ) (bytes : List ℕ) → length (numbers_in width n bytes) ≡ n
unfolding numbers_in
length-numbers_in width zero bytes = refl
length-numbers_in width (suc n) bytes = ap suc (length-numbers_in width n (drop width bytes))

all-dropped : (bytes : List ℕ) (k : ℕ) → ((j : ℕ) → get_or bytes j 0 < 256) → (j : ℕ) → get_or (drop k bytes) j 0 < 256
all-dropped bytes zero small j = small j
all-dropped [] (suc k) small j = small j
all-dropped (b ∷ bytes) (suc k) small j = all-dropped bytes k (λ i. small (suc i)) j

fits-numbers_in : (width n : ℕ) (bytes : List ℕ) →
    ((j : ℕ) → get_or bytes j 0 < 256) → All (λ number. number < 256 ^ width) (numbers_in width n bytes)
unfolding numbers_in
fits-numbers_in width zero bytes small = λ k d below. absurd (omega arith)
fits-numbers_in width (suc n) bytes small =
    All-cons (λ number. number < 256 ^ width)
    (little_number width bytes) (numbers_in width n (drop width bytes)) (little_from-lt 0 width bytes small)
    (fits-numbers_in width n (drop width bytes) (all-dropped bytes width small))

-- whole numbers and nothing else are their own bytes
written-numbers_in : (width n : ℕ) (bytes : List ℕ) → ((j : ℕ) → get_or bytes j 0 < 256) →
    length bytes ≡ width * n → flat_map (little_bytes width) (numbers_in width n bytes) ≡ bytes
unfolding numbers_in
written-numbers_in width zero bytes small long = sym (nil_from_length bytes (omega arith))
written-numbers_in width (suc n) bytes small long =
    let product = mul-suc width n in
    let rest = written-numbers_in width n
    (drop width bytes) (all-dropped bytes width small) (omega (arith, length-drop width bytes, product)) in
    let front = little_bytes-little_number width bytes (omega (arith, product)) small in
    ap (λ (w : List ℕ). w ++ flat_map (little_bytes width) (numbers_in width n (drop width bytes))) front
    ∙ ap (λ (w : List ℕ). take width bytes ++ w) rest
    ∙ take-append-drop width bytes

each-small : (bytes : List ℕ) → All (λ byte. byte < 256) bytes → (j : ℕ) → get_or bytes j 0 < 256
each-small [] all j = omega arith
each-small (b ∷ bytes) all zero = all 0 0 (omega arith)
each-small (b ∷ bytes) all (suc j) = each-small bytes (λ k d below. all (suc k) d (omega arith)) j

-- bytes of the right length whose numbers follow are a file
file-of : (kind : Kind) (bytes : List ℕ) →
    All (λ byte. byte < 256) bytes → HasCount bytes → length bytes ≡ 8 + number_width kind * numbers_said kind bytes →
    NoneFails kind bytes (numbers_said kind bytes) → (numbers : List ℕ) × IsFileOf kind numbers bytes
file-of kind bytes all counted long none =
    let width = number_width kind in
    let small = each-small bytes all in
    let rest = drop 8 bytes in
    let n = numbers_said kind bytes in
    let count = count_in bytes in
    let numbers = numbers_in width n rest in
    let len : length numbers ≡ n = length-numbers_in width n rest in
    let fits = fits-numbers_in width n rest (all-dropped bytes 8 small) in
    let body : flat_map (little_bytes width) numbers
    ≡ rest = written-numbers_in width n rest (all-dropped bytes 8 small) (omega (arith, length-drop 8 bytes)) in
    let head : little_bytes 8 count ≡ take 8 bytes = little_bytes-little_number 8 bytes counted.whole small in
    let written : bytes ≡ little_bytes 8 count ++ flat_map (little_bytes width) numbers =
    sym (take-append-drop 8 bytes)
    ∙ ap (λ (w : List ℕ). w ++ rest) (sym head) ∙ ap (λ (w : List ℕ). little_bytes 8 count ++ w) (sym body) in
    let begins : BeginsWith width count numbers [] bytes = record {
      written = written
          ∙ ap (λ (w : List ℕ). little_bytes 8 count ++ w) (sym (append-nil (flat_map (little_bytes width) numbers)));
      few = counted.few;
      each_fits = fits;
    } in
    let follow : AllFollow kind numbers = λ k within.
    let most = mul-le-mul_left width (let most : k + 1 ≤ n = omega (arith, len) in most) in
    follows-same kind _ _ _ _
    (sym (number-in kind count numbers [] bytes (k - 1) begins (omega arith)))
    (sym (number-in kind count numbers [] bytes k begins within))
    (none k (omega (arith, len)) (omega (arith, long, most))) in (
      numbers,
      record {
        count = count;
        are = record { few = counted.few; whole = len; all_follow = follow; each_fits = fits };
        written = written;
      },
    )

ordered-reading : (kind : Kind) (bytes : List ℕ) →
    All (λ byte. byte < 256) bytes → HasCount bytes → NoneFails kind bytes (numbers_said kind bytes) →
    (reading : Result (List ℕ) KeyFault) × ReadsAsFile kind bytes reading
ordered-reading kind bytes all counted none =
    let whole = 8 + number_width kind * numbers_said kind bytes in
    ⊎_elim
    (λ ends. (Err (Short (length bytes)), record { all = refl; ends = inr (counted, ends, none) }))
    (λ enough.
    ⊎_elim
    (λ more. (
      Err (Trailing (get_or bytes whole 0)),
      record { counted = counted; more = more; byte_is = refl; none_fails = none },
    ))
    (λ no_more. let file = file-of kind bytes all counted (omega (arith, enough, no_more)) none in (Ok file.0, file.1))
    (cases_lt whole (length bytes)))
    (cases_lt (length bytes) whole)

-- a number that fails is a fault of its kind
failing-reading : (kind : Kind) (bytes : List ℕ) (at : ℕ) →
    IsFirstFailing kind bytes at (number_in kind bytes (at - 1)) (number_in kind bytes at) →
    (reading : Result (List ℕ) KeyFault) × ReadsAsFile kind bytes reading
failing-reading (of_keys width) bytes at failing =
    (Err (Unsorted at (number_in (of_keys width) bytes (at - 1)) (number_in (of_keys width) bytes at)), (tt, failing))
failing-reading (of_points d) bytes at failing = (Err (Wide at (number_in (of_points d) bytes at)), (tt, failing))

counted-reading : (kind : Kind) (bytes : List ℕ) → All (λ byte. byte < 256) bytes →
    HasCount bytes → (reading : Result (List ℕ) KeyFault) × ReadsAsFile kind bytes reading
counted-reading kind bytes all counted =
    ⊎_elim
    (λ found. failing-reading kind bytes found.at (record {
      counted = counted;
      within = found.below;
      whole = found.whole;
      before_is = refl;
      number_is = refl;
      fails = found.fails;
      first = found.first;
    }))
    (λ none. ordered-reading kind bytes all counted none)
    (search-failing kind bytes (numbers_said kind bytes))

some-reading : (kind : Kind) (bytes : List ℕ) →
    All (λ byte. byte < 256) bytes → (reading : Result (List ℕ) KeyFault) × ReadsAsFile kind bytes reading
some-reading kind bytes all =
    ⊎_elim
    (λ ends. (Err (Short (length bytes)), record { all = refl; ends = inl ends }))
    (λ whole.
    ⊎_elim
    (λ few. counted-reading kind bytes all (record { whole = whole; few = few }))
    (λ many. (Err (TooMany (count_in bytes)), record { whole = whole; said = refl; many = many }))
    (cases_lt (count_in bytes) (2 ^ 32)))
    (cases_lt (length bytes) 8)

pub readings-are-one : (kind : Kind) → ReadingsOfKindAreOne kind
readings-are-one kind bytes all =
    let some = some-reading kind bytes all in
    record {
      reading = some.0;
      is_one = some.1;
      only = λ other reads. one-file-reading kind bytes other some.0 reads some.1;
    }
