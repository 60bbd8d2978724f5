-- Pairs that rise, and a put of each.
use Rattle.std.proofs.Common.{◌≡◌, ℕ, zero, suc, ◌+◌, ◌-◌, ◌*◌, ◌/◌, ◌^◌, ◌<◌, ◌≤◌, eqb, Bool, true}
use Rattle.std.proofs.Common.{false, if◌then◌else◌, List, [], ◌∷◌, length, take, drop, slice_index_or}
use Rattle.std.proofs.Common.{All, IsSome, Option, Some, None, refl, sym, ap, subst, ◌∙◌, inl, inr, arith}
use Rattle.std.specs.Option.{option_or, option_map}
use Rattle.std.specs.Int.{bit_at}
use Rattle.std.proofs.lemmas.Bool.{cases_eq, eq-eqb, ne_eqb}
use Rattle.std.proofs.lemmas.List.{length-map, take-map, drop-map}
use Rattle.std.proofs.lemmas.List.Elements.{All-cons}
use Rattle.std.proofs.lemmas.List.Kept.{AllPairs-cons}
use Rattle.std.proofs.lemmas.List.Sorted.{IsPermutation-refl}
use Rattle.tombstones.specs.Entries.{IsAscending, entry_at, kept}
use Rattle.tombstones.specs.declared.entry.Entry.{Entry}
use Rattle.log_levels.specs.declared.update.Update.TheVariants.{Put}
use Rattle.log_levels.specs.Maps.{updated, map_after, value_at, AreRising, IsFirstStall}
use Rattle.log_levels.specs.Accepted.{entries_of, entries_from, put_entry, puts_of}
use Rattle.log_levels.specs.Kept.{value_of, entries_put}
use Rattle.log_levels.specs.Shapes.{Held, IsCutOf, IsLevelFor, block_of, from_bit, level_of}
use Rattle.map_level.specs.Levels.{IsLastOfEach, last_at}
use Rattle.map_level.proofs.LastLemmas.{last_at-cons, latest-sorted}
use Rattle.log_levels.proofs.BitLemmas.{from_bit-more}
use Rattle.log_levels.proofs.KeptLemmas.{kept-values}
use Rattle.log_levels.proofs.MapLemmas.{RisesFrom, rises-after, rises-lower, value-here}
use Rattle.log_levels.proofs.MapLemmas.{value-later, value-below, same-pairs}
use Rattle.log_levels.proofs.ValueLemmas.{value-after}

puts-from : (before pairs : List (ℕ × ℕ)) → entries_from before (puts_of pairs) ≡ entries_put pairs
unfolding entries_from
puts-from before [] = refl
puts-from before (pair ∷ pairs) =
    ap (λ list. put_entry pair.0 pair.1 ∷ list) (puts-from (updated before (Put pair.0 pair.1)) pairs)

pub entries-puts : (pairs : List (ℕ × ℕ)) → entries_of (puts_of pairs) ≡ entries_put pairs
entries-puts pairs = puts-from [] pairs

last-put : (low : ℕ) (pairs : List (ℕ × ℕ)) (key : ℕ) →
    RisesFrom low pairs → last_at (entries_put pairs) key ≡ option_map (put_entry key) (value_at pairs key)
last-put low [] key rises = refl
last-put low (pair ∷ pairs) key (from, rest) = last_at-cons (put_entry pair.0 pair.1) (entries_put pairs) key
    ∙ ap (λ last. option_or last (if eqb pair.0 key then Some (put_entry pair.0 pair.1) else None))
    (last-put (pair.0 + 1) pairs key rest)
    ∙ elim (cases_eq pair.0 key) [
      | inl here ↦
          ap (λ value. option_or
          (option_map (put_entry key) value) (if eqb pair.0 key then Some (put_entry pair.0 pair.1) else None))
          (value-below (pair.0 + 1) pairs key rest (omega arith))
          ∙ ap (λ b. if b then Some (put_entry pair.0 pair.1) else None) (eq-eqb pair.0 key here)
          ∙ ap (λ k. Some (put_entry k pair.1)) here
          ∙ ap (option_map (put_entry key)) (sym (value-here pair pairs key (sym here)))
      | inr other ↦
          ap (λ b. option_or
          (option_map (put_entry key) (value_at pairs key)) (if b then Some (put_entry pair.0 pair.1) else None))
          (ne_eqb pair.0 key other)
          ∙ or-none (option_map (put_entry key) (value_at pairs key))
          ∙ ap (option_map (put_entry key)) (sym (value-later pair pairs key (λ same. other (sym same))))
    ]
  where
    or-none : (last : Option Entry) → option_or last None ≡ last
    or-none None = refl
    or-none (Some entry) = refl

value-put : (key : ℕ) (value : Option ℕ) → value_of (option_map (put_entry key) value) ≡ value
value-put key None = refl
value-put key (Some value) = refl

-- the map after puts of rising pairs is these pairs
pub map-puts : (pairs : List (ℕ × ℕ)) → RisesFrom 0 pairs → map_after (puts_of pairs) ≡ pairs
map-puts pairs rises =
    same-pairs 0 (map_after (puts_of pairs)) pairs (rises-after (puts_of pairs)) rises
    (λ key. value-after (puts_of pairs) key ∙ ap (λ list. value_of (last_at list key)) (entries-puts pairs)
    ∙ ap value_of (last-put 0 pairs key rises) ∙ value-put key (value_at pairs key))

-- pairs of which each has a key above the one before it rise
rises-each : (low : ℕ) (pairs : List (ℕ × ℕ)) → (0 < length pairs → low ≤ (slice_index_or pairs 0 (0, 0)).0)
    → ((k : ℕ) → suc k < length pairs → (slice_index_or pairs k (0, 0)).0 < (slice_index_or pairs (suc k) (0, 0)).0) →
    RisesFrom low pairs
rises-each low [] first each = tt
rises-each low (pair ∷ pairs) first each = (
  first (omega arith),
  rises-each
      (pair.0 + 1) pairs (λ some. omega (arith, each 0 (omega arith))) (λ k inside. each (suc k) (omega arith)),
)

pub rises-pairs : (pairs : List (ℕ × ℕ)) → AreRising pairs → RisesFrom 0 pairs
rises-pairs pairs above = rises-each 0 pairs (λ some. omega arith) (λ k inside.
    let here : suc k - 1 ≡ k = omega arith in
    omega (arith, above (suc k) (omega arith) inside, ap (λ i. (slice_index_or pairs i (0, 0)).0) here))

-- and of pairs that rise each key is above the one before it
pairs-apart : (low : ℕ) (pairs : List (ℕ × ℕ)) (k : ℕ) → RisesFrom low pairs →
    suc k < length pairs → (slice_index_or pairs k (0, 0)).0 < (slice_index_or pairs (suc k) (0, 0)).0
pairs-apart low [] k rises inside = absurd (omega arith)
pairs-apart low (pair ∷ []) k rises inside = absurd (omega arith)
pairs-apart low (pair ∷ next ∷ pairs) zero (from, (above, rest)) inside = omega arith
pairs-apart low (pair ∷ next ∷ pairs) (suc k) (from, rest) inside =
    pairs-apart (pair.0 + 1) (next ∷ pairs) k rest (omega arith)

-- so none is the first that isn't
pub no-stall : (pairs : List (ℕ × ℕ)) (place : ℕ) → RisesFrom 0 pairs → IsFirstStall pairs place → ⊥
no-stall pairs zero rises stall = absurd (omega (arith, stall.some))
no-stall pairs (suc k) rises stall =
    let here : suc k - 1 ≡ k = omega arith in
    absurd (omega (
      arith,
      stall.stalls,
      pairs-apart 0 pairs k rises stall.inside,
      ap (λ i. (slice_index_or pairs i (0, 0)).0) here,
    ))

-- rising pairs from a place on, and up to one
rises-drop : (low n : ℕ) (pairs : List (ℕ × ℕ)) → RisesFrom low pairs → RisesFrom low (drop n pairs)
rises-drop low zero pairs rises = rises
rises-drop low (suc n) [] rises = tt
rises-drop low (suc n) (pair ∷ pairs) (from, rest) =
    rises-lower (pair.0 + 1) low (drop n pairs) (omega arith) (rises-drop (pair.0 + 1) n pairs rest)

rises-take : (low n : ℕ) (pairs : List (ℕ × ℕ)) → RisesFrom low pairs → RisesFrom low (take n pairs)
rises-take low zero pairs rises = tt
rises-take low (suc n) [] rises = tt
rises-take low (suc n) (pair ∷ pairs) (from, rest) = (from, rises-take (pair.0 + 1) n pairs rest)

-- their entries rise too, and each has a value
above-put : (low from : ℕ) (pairs : List (ℕ × ℕ)) →
    low < from → RisesFrom from pairs → All (λ (e : Entry). low < e.key) (entries_put pairs)
above-put low from [] less rises = λ i e inside. absurd (omega arith)
above-put low from (pair ∷ pairs) less (here, rest) =
    All-cons (λ (e : Entry). low < e.key) (put_entry pair.0 pair.1)
    (entries_put pairs) (omega arith) (above-put low (pair.0 + 1) pairs (omega arith) rest)

ascending-put : (low : ℕ) (pairs : List (ℕ × ℕ)) → RisesFrom low pairs → IsAscending (entries_put pairs)
ascending-put low [] rises = λ i j d less inside. absurd (omega arith)
ascending-put low (pair ∷ pairs) (from, rest) =
    AllPairs-cons (λ (x y : Entry). x.key < y.key) (put_entry pair.0 pair.1) (entries_put pairs)
    (above-put pair.0 (pair.0 + 1) pairs (omega arith) rest) (ascending-put (pair.0 + 1) pairs rest)

values-put : (pairs : List (ℕ × ℕ)) → All (λ (e : Entry). IsSome e.value) (entries_put pairs)
values-put [] = λ i e inside. absurd (omega arith)
values-put (pair ∷ pairs) =
    All-cons (λ (e : Entry). IsSome e.value) (put_entry pair.0 pair.1) (entries_put pairs) refl (values-put pairs)

-- so they are a level as they are, also the deepest
level-put : (low : ℕ) (pairs : List (ℕ × ℕ)) (deepest : Bool) →
    RisesFrom low pairs → IsLastOfEach deepest (entries_put pairs) (entries_put pairs)
level-put low pairs deepest rises =
    record { ascending = ascending-put low pairs rises; lasts = λ key. here deepest key }
  where
    lasts : (key : ℕ) → entry_at (entries_put pairs) key ≡ last_at (entries_put pairs) key
    lasts key =
        (latest-sorted (entries_put pairs)
        (entries_put pairs) (IsPermutation-refl (entries_put pairs)) (ascending-put low pairs rises)).lasts key

    here : (deepest : Bool) (key : ℕ) →
        entry_at (entries_put pairs) key ≡ kept deepest (last_at (entries_put pairs) key)
    here false key = lasts key
    here true key = kept-values (entries_put pairs) key (values-put pairs) ∙ ap (kept true) (lasts key)

pub ascending-part : (pairs : List (ℕ × ℕ)) (start end : ℕ) →
    RisesFrom 0 pairs → IsAscending (entries_put (take (end - start) (drop start pairs)))
ascending-part pairs start end rises = ascending-put 0 (take (end - start) (drop start pairs))
    (rises-take 0 (end - start) (drop start pairs) (rises-drop 0 start pairs rises))

-- the level of a bit, of its part of the pairs
pub part-put : (pairs : List (ℕ × ℕ)) (f i start end : ℕ) →
    RisesFrom 0 pairs → bit_at f i ≡ 1 → start ≡ 64 * from_bit (i + 1) f → end ≡ 64 * from_bit i f
    → IsLevelFor (entries_put pairs) f i (Some (entries_put (take (end - start) (drop start pairs))))
part-put pairs f i start end rises set from to =
    let put = λ (pair : ℕ × ℕ). put_entry pair.0 pair.1 in
    let part = take (end - start) (drop start pairs) in
    let size : 64 * (bit_at f i * 2 ^ i) ≡ end - start = omega (arith, from_bit-more i f) in
    let block : block_of (entries_put pairs) f i ≡ entries_put part =
    ap (λ n. take n (drop (64 * from_bit (i + 1) f) (entries_put pairs))) size
    ∙ ap (λ n. take (end - start) (drop n (entries_put pairs))) (sym from)
    ∙ ap (take (end - start)) (drop-map put start pairs) ∙ take-map put (end - start) (drop start pairs) in (
      set,
      subst (λ list. IsLastOfEach (eqb (f / 2 ^ (i + 1)) 0) list (entries_put part)) (sym block)
          (level-put 0 part (eqb (f / 2 ^ (i + 1)) 0)
          (rises-take 0 (end - start) (drop start pairs) (rises-drop 0 start pairs rises))),
    )

-- what is behind all blocks
pub rest-put : (pairs : List (ℕ × ℕ)) (n : ℕ) → drop n (entries_put pairs) ≡ entries_put (drop n pairs)
rest-put pairs n = drop-map (λ (pair : ℕ × ℕ). put_entry pair.0 pair.1) n pairs

pub length-put : (pairs : List (ℕ × ℕ)) → length (entries_put pairs) ≡ length pairs
length-put pairs = length-map pairs (λ (pair : ℕ × ℕ). put_entry pair.0 pair.1)

-- a map of these levels, with the rest in its buffer
pub cut-put : (pairs : List (ℕ × ℕ)) (map : Held) (levels : ℕ) →
    map.accepted ≡ length pairs → map.buffer ≡ entries_put (drop (length pairs / 64 * 64) pairs)
    → length map.levels ≡ levels → length pairs < 64 * 2 ^ levels →
    ((i : ℕ) → i < length map.levels → IsLevelFor (entries_put pairs) (length pairs / 64) i (level_of map i))
    → IsCutOf map (entries_put pairs)
cut-put pairs map levels accepted buffer count fit each =
    let long = length-put pairs in
    let blocks : length (entries_put pairs) / 64 ≡ length pairs / 64 = ap (λ n. n / 64) long in
    let place : length pairs / 64 * 64 ≡ 64 * (length (entries_put pairs) / 64) = omega (arith, blocks) in
    record {
      accepted = accepted ∙ sym long;
      fits = omega (arith, long, ap (λ k. 64 * 2 ^ k) count);
      buffer = buffer ∙ sym (rest-put pairs (length pairs / 64 * 64)) ∙ ap (λ n. drop n (entries_put pairs)) place;
      levels =
          λ i inside. subst (λ f. IsLevelFor (entries_put pairs) f i (level_of map i)) (sym blocks) (each i inside);
    }
