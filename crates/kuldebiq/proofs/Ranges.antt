-- Pairs of a range, block after block.
use Rattle.std.proofs.Common.{◌≡◌, ℕ, zero, suc, ◌+◌, ◌-◌, ◌<◌, ◌≤◌, min, true, false, List}
use Rattle.std.proofs.Common.{[], ◌∷◌, ◌++◌, length, map, take, drop, slice_index_or, sym}
use Rattle.std.proofs.Common.{ap, ◌∙◌, refl, inl, inr, arith, append_assoc, length-drop}
use Rattle.std.proofs.lemmas.List.{length-map, length-take-le, get_or_append_left, get_or-map}
use Rattle.std.proofs.lemmas.List.{get_or-take, map-append, take_at, drop_at, take-append-drop}
use Rattle.std.proofs.lemmas.List.{take-take, drop-take, drop-drop, drop_all, append-nil}
use Rattle.std.proofs.lemmas.Bool.{cases_lt, cases_Bool, le-leb, lt-leb, and_from}
use Rattle.std.proofs.lemmas.Bool.{and_left, and_right, cond-true, cond-false}
use borrow.Rule.Slice.PartMut.{put_mid}
use Rattle.log_levels.specs.Maps.{is_between, pairs_between, count_between}
use Rattle.log_levels.proofs.MapLemmas.{RisesFrom, count-pairs}
use Rattle.kuldebiq.specs.declared.map_calls.Pair.{Pair}
use Rattle.kuldebiq.specs.Pairs.{pair_of}

between-inside : (low high key : ℕ) → low ≤ key → key ≤ high → is_between low high key ≡ true
between-inside low high key above below = and_from _ _ (le-leb low key above) (le-leb key high below)

between-below : (low high key : ℕ) → key < low → is_between low high key ≡ false
between-below low high key less = and_left _ _ (lt-leb low key less)

between-above : (low high key : ℕ) → high < key → is_between low high key ≡ false
between-above low high key greater = and_right _ _ (lt-leb key high greater)

kept : (pair : ℕ × ℕ) (pairs : List (ℕ × ℕ)) (low high : ℕ) →
    is_between low high pair.0 ≡ true → pairs_between (pair ∷ pairs) low high ≡ pair ∷ pairs_between pairs low high
kept pair pairs low high inside = cond-true _ _ _ inside

dropped : (pair : ℕ × ℕ) (pairs : List (ℕ × ℕ)) (low high : ℕ) →
    is_between low high pair.0 ≡ false → pairs_between (pair ∷ pairs) low high ≡ pairs_between pairs low high
dropped pair pairs low high outside = cond-false _ _ _ outside

-- below the first key a bound makes no difference
same-from : (bound : ℕ) (pairs : List (ℕ × ℕ)) (low high : ℕ) →
    RisesFrom bound pairs → low ≤ bound → pairs_between pairs low high ≡ pairs_between pairs bound high
same-from bound [] low high rises le = refl
same-from bound (pair ∷ pairs) low high (from, rest) le =
    let later : pairs_between pairs low high ≡ pairs_between pairs bound high =
    same-from (pair.0 + 1) pairs low high rest (omega arith)
    ∙ sym (same-from (pair.0 + 1) pairs bound high rest (omega arith)) in
    elim (cases_lt high pair.0) [
      | inl past ↦ dropped pair pairs low high (between-above low high pair.0 past)
          ∙ later ∙ sym (dropped pair pairs bound high (between-above bound high pair.0 past))
      | inr inside ↦ kept pair pairs low high (between-inside low high pair.0 (omega arith) inside)
          ∙ ap (λ l. pair ∷ l) later
          ∙ sym (kept pair pairs bound high (between-inside bound high pair.0 from inside))
    ]

abbrev pub key_at : List (ℕ × ℕ) → ℕ → ℕ
key_at pairs n = (slice_index_or pairs n (0, 0)).0

-- the pair at place n of a range has a key in the range, and behind it is the range from the next number on
pub record IsSplitAt (pairs range : List (ℕ × ℕ)) (low high n : ℕ) : Type 0 where
  pub above : low ≤ key_at range n
  pub below : key_at range n ≤ high
  pub rest : drop (suc n) range ≡ pairs_between pairs (key_at range n + 1) high

split-more : (pair : ℕ × ℕ) (pairs range : List (ℕ × ℕ)) (low high n : ℕ) →
    (low ≤ key_at range n → is_between (key_at range n + 1) high pair.0 ≡ false)
    → IsSplitAt pairs range low high n → IsSplitAt (pair ∷ pairs) range low high n
split-more pair pairs range low high n outside split = record {
  above = split.above;
  below = split.below;
  rest = split.rest ∙ sym (dropped pair pairs (key_at range n + 1) high (outside split.above));
}

split-behind : (pair : ℕ × ℕ) (pairs behind range : List (ℕ × ℕ)) (low high n : ℕ) →
    range ≡ pair ∷ behind → IsSplitAt pairs behind low high n → IsSplitAt pairs range low high (suc n)
split-behind pair pairs behind range low high n is split =
    let key : key_at range (suc n) ≡ key_at behind n = ap (λ l. key_at l (suc n)) is in
    record {
      above = omega (arith, split.above, key);
      below = omega (arith, split.below, key);
      rest = ap (λ l. drop (suc (suc n)) l) is ∙ split.rest ∙ ap (λ k. pairs_between pairs (k + 1) high) (sym key);
    }

-- the key at a place of a range whose first pair is kept
above-kept : (bound : ℕ) (pair : ℕ × ℕ) (pairs range : List (ℕ × ℕ)) (n : ℕ) →
    bound ≤ pair.0 → range ≡ pair ∷ pairs → ((m : ℕ) → m < length pairs → pair.0 + 1 ≤ key_at pairs m)
    → n < length range → bound ≤ key_at range n
above-kept bound pair pairs range zero from is later inside = omega (arith, ap (λ l. key_at l 0) is)
above-kept bound pair pairs range (suc m) from is later inside =
    omega
    (arith, later m (omega (arith, inside, ap (λ (l : List (ℕ × ℕ)). length l) is)), ap (λ l. key_at l (suc m)) is)

-- a key of rising pairs is at least their bound
above-first : (bound : ℕ) (pairs range : List (ℕ × ℕ)) (low high n : ℕ) →
    RisesFrom bound pairs → range ≡ pairs_between pairs low high → n < length range → bound ≤ key_at range n
above-first bound [] range low high n rises is inside = absurd (omega (arith, ap (λ (l : List (ℕ × ℕ)). length l) is))
above-first bound (pair ∷ pairs) range low high n (from, rest) is inside =
    elim (cases_Bool (is_between low high pair.0)) [
      | inl has ↦
          above-kept bound pair (pairs_between pairs low high) range n from (is ∙ kept pair pairs low high has)
          (λ m less. above-first (pair.0 + 1) pairs (pairs_between pairs low high) low high m rest refl less) inside
      | inr outside ↦ omega (
        arith,
        above-first (pair.0 + 1) pairs range low high n rest (is ∙ dropped pair pairs low high outside) inside,
      )
    ]

-- a split of a range whose first pair is kept
split-kept : (pair : ℕ × ℕ) (pairs behind range : List (ℕ × ℕ)) (low high n : ℕ) →
    RisesFrom (pair.0 + 1) pairs → low ≤ pair.0 → pair.0 ≤ high → behind ≡ pairs_between pairs low high
    → range ≡ pair ∷ behind → ((m : ℕ) → m < length behind → IsSplitAt pairs behind low high m) →
    n < length range → IsSplitAt (pair ∷ pairs) range low high n
split-kept pair pairs behind range low high zero rises at_least at_most same is later inside =
    let key : key_at range 0 ≡ pair.0 = ap (λ l. key_at l 0) is in
    record {
      above = omega (arith, key);
      below = omega (arith, key);
      rest = ap (λ (l : List (ℕ × ℕ)). drop 1 l) is ∙ same ∙ same-from (pair.0 + 1) pairs low high rises (omega arith)
          ∙ sym (dropped pair pairs (pair.0 + 1) high (between-below (pair.0 + 1) high pair.0 (omega arith)))
          ∙ ap (λ k. pairs_between (pair ∷ pairs) (k + 1) high) (sym key);
    }
split-kept pair pairs behind range low high (suc m) rises at_least at_most same is later inside =
    let less : m < length behind = omega (arith, inside, ap (λ (l : List (ℕ × ℕ)). length l) is) in
    let key : key_at range (suc m) ≡ key_at behind m = ap (λ l. key_at l (suc m)) is in
    let above : pair.0 + 1 ≤ key_at behind m = above-first (pair.0 + 1) pairs behind low high m rises same less in
    split-more pair pairs range low high
    (suc m) (λ low_is. between-below (key_at range (suc m) + 1) high pair.0 (omega (arith, key, above)))
    (split-behind pair pairs behind range low high m is (later m less))

pub split-at : (bound : ℕ) (pairs range : List (ℕ × ℕ)) (low high n : ℕ) →
    RisesFrom bound pairs → range ≡ pairs_between pairs low high → n < length range → IsSplitAt pairs range low high n
split-at bound [] range low high n rises is inside = absurd (omega (arith, ap (λ (l : List (ℕ × ℕ)). length l) is))
split-at bound (pair ∷ pairs) range low high n (from, rest) is inside = elim (cases_lt pair.0 low) [
  | inl before ↦
      split-more pair pairs range low high n (λ above. between-below (key_at range n + 1) high pair.0 (omega arith))
      (split-at (pair.0 + 1) pairs range low high n rest
      (is ∙ dropped pair pairs low high (between-below low high pair.0 before)) inside)
  | inr at_least ↦ elim (cases_lt high pair.0) [
    | inl past ↦
        split-more pair pairs range low high n (λ above. between-above (key_at range n + 1) high pair.0 past)
        (split-at (pair.0 + 1) pairs range low high n rest
        (is ∙ dropped pair pairs low high (between-above low high pair.0 past)) inside)
    | inr at_most ↦
        split-kept pair pairs (pairs_between pairs low high) range low high n rest at_least at_most refl
        (is ∙ kept pair pairs low high (between-inside low high pair.0 at_least at_most))
        (λ m less. split-at (pair.0 + 1) pairs (pairs_between pairs low high) low high m rest refl less) inside
  ]
]

-- from above the upper bound on there is nothing
pub none-past : (pairs : List (ℕ × ℕ)) (low high : ℕ) → high < low → pairs_between pairs low high ≡ []
none-past [] low high past = refl
none-past (pair ∷ pairs) low high past = elim (cases_lt pair.0 low) [
  | inl before ↦ dropped pair pairs low high (between-below low high pair.0 before) ∙ none-past pairs low high past
  | inr at_least ↦ dropped pair pairs low high (between-above low high pair.0 (omega arith))
      ∙ none-past pairs low high past
]

-- the first pairs are written, so many; what is behind them is as it was, and these are left
pub record IsFilled (pairs left : List (ℕ × ℕ)) (now old : List Pair) (count : ℕ) : Type 0 where
  pub counted : count ≤ length pairs
  pub written : now ≡ map pair_of (take count pairs) ++ drop count old
  pub left_is : drop count pairs ≡ left

take-both : (pairs : List (ℕ × ℕ)) (count n : ℕ) →
    take count pairs ++ take n (drop count pairs) ≡ take (count + n) pairs
take-both pairs count n =
    ap (λ (l : List (ℕ × ℕ)). l ++ take n (drop count pairs)) (sym (take-take count (count + n) pairs (omega arith)))
    ∙ ap (λ (l : List (ℕ × ℕ)). take count (take (count + n) pairs) ++ l) (sym (drop-take count n pairs))
    ∙ take-append-drop count (take (count + n) pairs)

pub filled-more : (pairs left later : List (ℕ × ℕ)) (now after old : List Pair) (count n : ℕ) →
    IsFilled pairs left now old count → n ≤ length left
    → after ≡ take count now ++ (map pair_of (take n left) ++ drop n (drop count now)) →
    drop n left ≡ later → IsFilled pairs later after old (count + n)
filled-more pairs left later now after old count n before few is next =
    let front : List Pair = map pair_of (take count pairs) in
    let long : length front ≡ count = length-map {B = Pair} (take count pairs) pair_of
    ∙ length-take-le count pairs before.counted in
    let taken : take count now ≡ front = ap (take count) before.written ∙ take_at front (drop count old) count long in
    let behind : drop count now ≡ drop count old = ap (drop count) before.written
    ∙ drop_at front (drop count old) count long in
    let found : front ++ map pair_of (take n left) ≡ map pair_of (take (count + n) pairs) =
    sym (map-append pair_of (take count pairs) (take n left))
    ∙ ap (λ l. map pair_of (take count pairs ++ take n l)) (sym before.left_is)
    ∙ ap (map pair_of) (take-both pairs count n) in
    record {
      counted = omega (arith, few, length-drop count pairs, ap (λ (l : List (ℕ × ℕ)). length l) before.left_is);
      written = is ∙ ap (λ (l : List Pair). l ++ (map pair_of (take n left) ++ drop n (drop count now))) taken
          ∙ ap (λ (l : List Pair). front ++ (map pair_of (take n left) ++ drop n l)) behind
          ∙ sym (append_assoc front (map pair_of (take n left)) (drop n (drop count old)))
          ∙ ap (λ (l : List Pair). l ++ drop n (drop count old)) found
          ∙ ap (λ (l : List Pair). map pair_of (take (count + n) pairs) ++ l) (drop-drop n count old);
      left_is = sym (drop-drop n count pairs) ∙ ap (drop n) before.left_is ∙ next;
    }

-- the key of the last pair that is written
pub last-key : (pairs left : List (ℕ × ℕ)) (now old : List Pair) (count : ℕ) (d : Pair) →
    IsFilled pairs left now old count → 0 < count
    → (slice_index_or now (count - 1) d).key ≡ key_at pairs (count - 1)
last-key pairs left now old count d filled some =
    let front : List Pair = map pair_of (take count pairs) in
    let long : length (take count pairs) ≡ count = length-take-le count pairs filled.counted in
    ap (λ (l : List Pair). (slice_index_or l (count - 1) d).key) filled.written
    ∙ ap (λ (p : Pair). p.key)
    (get_or_append_left front
    (drop count old) d (count - 1) (omega (arith, long, length-map {B = Pair} (take count pairs) pair_of)))
    ∙ ap (λ (p : Pair). p.key) (get_or-map pair_of (take count pairs) (count - 1) (0, 0) d (omega (arith, long)))
    ∙ ap (λ (p : ℕ × ℕ). p.0) (get_or-take count pairs (count - 1) (0, 0) (omega arith))

-- behind it is the range from the next number on
pub filled-next : (all pairs left : List (ℕ × ℕ)) (now old : List Pair) (low high count last : ℕ) →
    RisesFrom 0 all → pairs ≡ pairs_between all low high
    → IsFilled pairs left now old count →
    0 < count → last ≡ key_at pairs (count - 1) → IsFilled pairs (pairs_between all (last + 1) high) now old count
filled-next all pairs left now old low high count last rises is filled some key =
    let split = split-at 0 all pairs low high (count - 1) rises is (omega (arith, filled.counted)) in
    let same : count ≡ suc (count - 1) = omega arith in
    record {
      counted = filled.counted;
      written = filled.written;
      left_is = ap (λ n. drop n pairs) same ∙ split.rest ∙ ap (λ k. pairs_between all (k + 1) high) (sym key);
    }

-- where it is the highest one, nothing is left
pub filled-last : (all pairs left : List (ℕ × ℕ)) (now old : List Pair) (low high count last : ℕ) →
    RisesFrom 0 all → pairs ≡ pairs_between all low high
    → IsFilled pairs left now old count →
    0 < count → last ≡ key_at pairs (count - 1) → high ≤ last → IsFilled pairs [] now old count
filled-last all pairs left now old low high count last rises is filled some key past =
    let next = filled-next all pairs left now old low high count last rises is filled some key in
    record {
      counted = next.counted;
      written = next.written;
      left_is = next.left_is ∙ none-past all (last + 1) high (omega arith);
    }

-- at the end either the room is full, or no pair is left
pub filled-end : (pairs left : List (ℕ × ℕ)) (now old : List Pair) (count : ℕ) →
    IsFilled pairs left now old count → count ≤ length old → (0 < length left → length old ≤ count)
    → count ≡ min (length old) (length pairs)
filled-end pairs left now old count filled fits full =
    let left_long : length (drop count pairs) ≡ length left = ap (λ (l : List (ℕ × ℕ)). length l) filled.left_is in
    elim (cases_lt 0 (length left)) [
      | inl some ↦ omega (arith, filled.counted, full some, left_long, length-drop count pairs)
      | inr none ↦ omega (arith, filled.counted, left_long, length-drop count pairs)
    ]

-- a part from a place on, put back
put-behind : (now new : List Pair) (count : ℕ) → put_mid count (length now - count) now new ≡ take count now ++ new
put-behind now new count =
    ap (λ (l : List Pair). take count now ++ (new ++ l))
    (drop_all (length now - count) (drop count now) (omega (arith, length-drop count now)))
    ∙ ap (λ (l : List Pair). take count now ++ l) (append-nil new)

-- one more block is written
pub block-filled : (all : List (ℕ × ℕ)) (low from high count found : ℕ) (now new old part : List Pair) →
    IsFilled (pairs_between all low high) (pairs_between all from high) now old count
    → part ≡ drop count now → found ≡ min (min 64 (length part)) (count_between all from high) →
    new ≡ map pair_of (take found (pairs_between all from high)) ++ drop found part
    → IsFilled (pairs_between all low high)
    (drop found (pairs_between all from high)) (put_mid count (length now - count) now new) old (count + found)
block-filled all low from high count found now new old part before part_is found_is new_is =
    filled-more (pairs_between all low high) (pairs_between all from high) (drop found (pairs_between all from high))
    now (put_mid count (length now - count) now new) old count found before
    (omega (arith, found_is, count-pairs all from high))
    (put-behind now new count ∙ ap (λ (l : List Pair). take count now ++ l)
    (new_is ∙ ap (λ (l : List Pair). map pair_of (take found (pairs_between all from high)) ++ drop found l) part_is))
    refl

-- a block that isn't whole is the last one
pub block-end : (all : List (ℕ × ℕ)) (low from high count found : ℕ) (now new old part : List Pair) →
    IsFilled (pairs_between all low high)
    (drop found (pairs_between all from high)) (put_mid count (length now - count) now new) old (count + found)
    → part ≡ drop count now → found ≡ min (min 64 (length part)) (count_between all from high) →
    length now ≡ length old → count ≤ length now → found < 64
    → count + found ≡ min (length old) (count_between all low high)
block-end all low from high count found now new old part filled part_is found_is room_is inside few =
    let part_long : length part ≡ length now - count = ap (λ (l : List Pair). length l) part_is
    ∙ length-drop count now in
    filled-end (pairs_between all low high) (drop found (pairs_between all from high))
    (put_mid count (length now - count) now new) old (count + found) filled
    (omega (arith, found_is, part_long))
    (λ some. omega
    (arith, found_is, part_long, some, count-pairs all from high, length-drop found (pairs_between all from high)))
    ∙ ap (min (length old)) (sym (count-pairs all low high))
