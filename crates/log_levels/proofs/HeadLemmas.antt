-- The heads of a walk.
use Rattle.std.proofs.Common.{◌≡◌, ℕ, ◌+◌, ◌%◌, ◌<◌, ◌≤◌, List, [], ◌∷◌, ◌++◌, length, slice_index, slice_index_or}
use Rattle.std.proofs.Common.{slice_set, Option, Some, None, IfSome, IsNone, sym, ap, ◌∙◌, subst, inl, inr, refl, arith}
use Rattle.std.specs.Int.{bit_at}
use Rattle.std.proofs.lemmas.Nat.{pow_pos}
use Rattle.std.proofs.lemmas.Bool.{cases_eq, cases_lt}
use Rattle.std.proofs.lemmas.List.{get_or_append_left, get_or_push, get_or-set_same}
use Rattle.std.proofs.lemmas.List.{get_or-set_other, get_or_past, length-set, length_push}
use Rattle.tombstones.specs.declared.entry.Entry.{Entry}
use Rattle.tombstones.specs.Entries.{IsAscending, entry_at}
use Rattle.window_search.specs.Searches.{lb}
use Rattle.map_level.specs.Levels.{level_keys}
use Rattle.map_level.proofs.LevelLemmas.{missing-between}
use Rattle.log_levels.specs.declared.heads.First.{First}
use Rattle.log_levels.specs.Shapes.{Held, level_of, from_bit}
use Rattle.log_levels.proofs.BitLemmas.{quotient-small}
use Rattle.log_levels.proofs.OccupiedLemmas.{bit-behind, bit-still}
use Rattle.log_levels.specs.Kept.{AreBehind, AreHeads, IsFirst, IsLeastLeft, StandsAt}

-- only a level that there is may be occupied
pub level-inside : (held : Held) (i : ℕ) (level : List Entry) → level_of held i ≡ Some level → i < length held.levels
level-inside held i level is = elim (cases_lt i (length held.levels)) [
  | inl inside ↦ inside
  | inr past ↦ let apart : None ≡ Some level = sym (get_or_past held.levels i None past) ∙ is in cc
]

-- a free level has no head
pub heads-begin : (held : Held) (places : List ℕ) (rest : ℕ) → length held.levels ≤ 26 →
    ((i : ℕ) → i < length held.levels → bit_at rest i ≡ 0 → level_of held i ≡ None) → AreHeads held places rest []
heads-begin held places rest low free = record {
  low = low;
  few = λ j set. omega arith;
  below = λ k j d inside. absurd (omega arith);
  rise = λ j k d less inside. absurd (omega arith);
  stand = λ k d inside. absurd (omega arith);
  each = λ j from key level clear is at le behind. let apart : None
      ≡ Some level = sym (free j (level-inside held j level is) clear) ∙ is in cc;
}

-- the level has no key at its place
pub heads-none : (held : Held) (places : List ℕ) (rest i : ℕ) (heads : List (ℕ × ℕ)) →
    from_bit i rest ≡ rest → AreHeads held places rest heads
    → ((from key : ℕ) (level : List Entry) → level_of held i ≡ Some level →
    slice_index places i ≡ lb (level_keys level) from → from ≤ key → entry_at level key ≡ None) →
    AreHeads held places (from_bit (i + 1) rest) heads
heads-none held places rest i heads lowest are none = record {
  low = are.low;
  few = λ j set. are.few j (bit-still rest i j set).1;
  below = λ k j d inside set. are.below k j d inside (bit-still rest i j set).1;
  rise = are.rise;
  stand = are.stand;
  each = λ j from key level clear is at le behind. elim (bit-behind rest i j lowest clear) [
    | inl earlier ↦ are.each j from key level earlier is at le behind
    | inr same ↦ none from key level (ap (level_of held) (sym same) ∙ is) (ap (slice_index places) (sym same) ∙ at) le
  ];
}

-- what holds of each, and of the one that comes behind
every-pushed : (P : ℕ × ℕ → Type 0) (heads : List (ℕ × ℕ)) (head : ℕ × ℕ) →
    ((k : ℕ) (d : ℕ × ℕ) → k < length heads → P (slice_index_or heads k d)) → P head
    → (k : ℕ) (d : ℕ × ℕ) → k < length (heads ++ head ∷ []) → P (slice_index_or (heads ++ head ∷ []) k d)
every-pushed P heads head all new k d inside = elim (cases_lt k (length heads)) [
  | inl before ↦ subst P (sym (get_or_append_left heads (head ∷ []) d k before)) (all k d before)
  | inr past ↦
      let same : length heads ≡ k = omega (arith, past, inside, length_push heads head) in
      subst P (sym (get_or_push heads head d k same)) new
]

-- it has one, which comes behind the others
pub heads-pushed : (held : Held) (places : List ℕ) (rest i key : ℕ) (heads : List (ℕ × ℕ)) →
    from_bit i rest ≡ rest → bit_at rest i ≡ 1 → AreHeads held places rest heads → StandsAt held places key i
    → ((from other : ℕ) (level : List Entry) → level_of held i ≡ Some level →
    slice_index places i ≡ lb (level_keys level) from → from ≤ other → other < key → entry_at level other ≡ None)
    → AreHeads held places (from_bit (i + 1) rest) (heads ++ (key, i) ∷ [])
heads-pushed held places rest i key heads lowest one are stands none =
    let size = length_push heads (key, i) in
    record {
      low = are.low;
      few = λ j set. omega (arith, size, are.few i one, (bit-still rest i j set).0);
      below = λ k j d inside set.
          let (above, still) = bit-still rest i j set in
          every-pushed (λ head. head.1 < j) heads (key, i) (λ m e fits. are.below m j e fits still) above k d inside;
      rise = λ j k d less inside.
          let fits : j < length heads = omega (arith, less, inside, size) in
          let read : slice_index_or (heads ++ (key, i) ∷ []) j d
          ≡ slice_index_or heads j d = get_or_append_left heads ((key, i) ∷ []) d j fits in
          elim (cases_lt k (length heads)) [
            | inl before ↦
                let other : slice_index_or (heads ++ (key, i) ∷ []) k d
                ≡ slice_index_or heads k d = get_or_append_left heads ((key, i) ∷ []) d k before in
                omega (arith, ap (λ (h : ℕ × ℕ). h.1) read, ap (λ (h : ℕ × ℕ). h.1) other, are.rise j k d less before)
            | inr past ↦
                let same : length heads ≡ k = omega (arith, past, inside, size) in
                omega (
                  arith,
                  ap (λ (h : ℕ × ℕ). h.1) read,
                  ap (λ (h : ℕ × ℕ). h.1) (get_or_push heads (key, i) d k same),
                  are.below j i d fits one,
                )
          ];
      stand = every-pushed (λ head. StandsAt held places head.0 head.1) heads (key, i) are.stand stands;
      each = λ j from other level clear is at le behind. elim (bit-behind rest i j lowest clear) [
        | inl earlier ↦
            are.each j from other level earlier is at le (λ k d fits of_level.
            let read : slice_index_or (heads ++ (key, i) ∷ []) k d
            ≡ slice_index_or heads k d = get_or_append_left heads ((key, i) ∷ []) d k fits in
            omega (
              arith,
              behind k d (omega (arith, size, fits)) (ap (λ (h : ℕ × ℕ). h.1) read ∙ of_level),
              ap (λ (h : ℕ × ℕ). h.0) read,
            ))
        | inr same ↦
            let read = get_or_push heads (key, i) (0, 0) (length heads) refl in
            let below = behind (length heads) (0, 0) (omega (arith, size)) (ap (λ (h : ℕ × ℕ). h.1) read ∙ sym same) in
            none from other level (ap (level_of held) (sym same) ∙ is)
            (ap (slice_index places) (sym same) ∙ at) le (omega (arith, below, ap (λ (h : ℕ × ℕ). h.0) read))
      ];
    }

-- the head that comes first is that of a level with the key at its place
pub first-stands : (held : Held) (places : List ℕ) (rest : ℕ) (heads : List (ℕ × ℕ)) (first : First) →
    AreHeads held places rest heads → IsFirst heads first → StandsAt held places first.key first.level
first-stands held places rest heads first are is =
    subst (λ (head : ℕ × ℕ). StandsAt held places head.0 head.1) (is.is (0, 0)) (are.stand first.place (0, 0) is.inside)

-- another is of another level
first-apart : (held : Held) (places : List ℕ) (rest : ℕ) (heads : List (ℕ × ℕ)) (first : First) (k : ℕ) (d : ℕ × ℕ) →
    AreHeads held places rest heads → IsFirst heads first → k < length heads → (k ≡ first.place → ⊥)
    → (slice_index_or heads k d).1 ≡ first.level → ⊥
first-apart held places rest heads first k d are is fits other same = elim (cases_lt k first.place) [
  | inl before ↦ omega (arith, are.rise k first.place d before is.inside, same, ap (λ (h : ℕ × ℕ). h.1) (is.is d))
  | inr past ↦
      omega (arith, are.rise first.place k d (omega (arith, past, other)) fits, same, ap (λ (h : ℕ × ℕ). h.1) (is.is d))
]

-- a key more, of the same level
level-kept : (heads : List (ℕ × ℕ)) (first : First) (next : ℕ) → IsFirst heads first → (k : ℕ) (d : ℕ × ℕ) →
    (slice_index_or (slice_set heads first.place (next, first.level)) k d).1 ≡ (slice_index_or heads k d).1
level-kept heads first next is k d = elim (cases_eq k first.place) [
  | inl at ↦
      ap (λ m. (slice_index_or (slice_set heads first.place (next, first.level)) m d).1) at
      ∙ ap (λ (h : ℕ × ℕ). h.1) (get_or-set_same heads first.place (next, first.level) d is.inside)
      ∙ sym (ap (λ (h : ℕ × ℕ). h.1) (is.is d)) ∙ ap (λ m. (slice_index_or heads m d).1) (sym at)
  | inr other ↦ ap (λ (h : ℕ × ℕ). h.1) (get_or-set_other heads first.place k (next, first.level) d other)
]

-- its level moves on to the next key
pub heads-moved : (held : Held) (places : List ℕ) (rest next : ℕ) (heads : List (ℕ × ℕ))
    (first : First) (level : List Entry) → AreHeads held places rest heads → IsFirst heads first → length places ≡ 26
    → level_of held first.level ≡ Some level → IsAscending level → slice_index places first.level + 1 < length level →
    slice_index (level_keys level) (slice_index places first.level + 1) ≡ next
    → AreHeads held (slice_set places first.level (slice_index places first.level + 1)) rest
    (slice_set heads first.place (next, first.level))
heads-moved held places rest next heads first level are is count level_is ascending inside next_is =
    let here = first-stands held places rest heads first are is in
    let ahead : List ℕ = slice_set places first.level (slice_index places first.level + 1) in
    let after : List (ℕ × ℕ) = slice_set heads first.place (next, first.level) in
    let size : length after ≡ length heads = length-set heads first.place (next, first.level) in
    let moved : slice_index ahead first.level ≡ slice_index places first.level + 1 = get_or-set_same places first.level
    (slice_index places first.level + 1) 0 (omega (arith, here.inside, are.low, count)) in
    let same_level : (k : ℕ) (d : ℕ × ℕ) → (slice_index_or after k d).1
    ≡ (slice_index_or heads k d).1 = level-kept heads first next is in
    record {
      low = are.low;
      few = λ j set. omega (arith, are.few j set, size);
      below = λ k j d fits set. omega (arith, same_level k d, are.below k j d (omega (arith, fits, size)) set);
      rise = λ j k d less fits.
          omega (arith, same_level j d, same_level k d, are.rise j k d less (omega (arith, fits, size)));
      stand = λ k d fits. elim (cases_eq k first.place) [
        | inl at ↦
            subst (λ (head : ℕ × ℕ). StandsAt held ahead head.0 head.1)
            (sym (ap (λ m. slice_index_or after m d) at
            ∙ get_or-set_same heads first.place (next, first.level) d is.inside)) (record {
              inside = here.inside;
              taken = here.taken;
              stands = λ other other_is.
                  let both : Some level ≡ Some other = sym level_is ∙ other_is in
                  let one : level ≡ other = cc in
                  subst (λ (list : List Entry). (slice_index ahead first.level < length list)
                  × (slice_index (level_keys list) (slice_index ahead first.level) ≡ next)) one
                  (subst (λ p. (p < length level) × (slice_index (level_keys level) p ≡ next))
                  (sym moved) (inside, next_is));
            })
        | inr other ↦
            let old : k < length heads = omega (arith, fits, size) in
            let there = are.stand k d old in
            subst (λ (head : ℕ × ℕ). StandsAt held ahead head.0 head.1)
            (sym (get_or-set_other heads first.place k (next, first.level) d other)) (record {
              inside = there.inside;
              taken = there.taken;
              stands = λ list list_is.
                  subst (λ p. (p < length list) × (slice_index (level_keys list) p ≡ (slice_index_or heads k d).0))
                  (sym (get_or-set_other places first.level
                  (slice_index_or heads k d).1 (slice_index places first.level + 1) 0
                  (first-apart held places rest heads first k d are is old other)))
                  (there.stands list list_is);
            })
      ];
      each = λ j from key list clear list_is at le behind. elim (cases_eq j first.level) [
        | inl same ↦
            let both : Some level ≡ Some list = sym level_is ∙ ap (level_of held) (sym same) ∙ list_is in
            let one : level ≡ list = cc in
            let place : slice_index places first.level + 1 ≡ lb (level_keys level) from = sym moved
            ∙ ap (slice_index ahead) (sym same) ∙ at ∙ ap (λ (l : List Entry). lb (level_keys l) from) (sym one) in
            let read = get_or-set_same heads first.place (next, first.level) (0, 0) is.inside in
            let before : key < next = omega (
              arith,
              behind first.place (0, 0) (omega (arith, is.inside, size)) (ap (λ (h : ℕ × ℕ). h.1) read ∙ sym same),
              ap (λ (h : ℕ × ℕ). h.0) read,
            ) in
            ap (λ (l : List Entry). entry_at l key) (sym one) ∙ missing-between level from key ascending le
            (λ some. omega (arith, before, next_is, ap (slice_index (level_keys level)) place))
        | inr other ↦
            are.each j from key list clear list_is
            (sym (get_or-set_other places first.level j (slice_index places first.level + 1) 0 other) ∙ at) le
            (λ k d fits of_level. elim (cases_eq k first.place) [
              | inl here_is ↦ absurd
                  (other (sym of_level
                  ∙ ap (λ m. (slice_index_or heads m d).1) here_is ∙ ap (λ (h : ℕ × ℕ). h.1) (is.is d)))
              | inr elsewhere ↦
                  let read : slice_index_or after k d ≡ slice_index_or heads k d =
                  get_or-set_other heads first.place k (next, first.level) d elsewhere in
                  omega (
                    arith,
                    behind k d (omega (arith, fits, size)) (ap (λ (h : ℕ × ℕ). h.1) read ∙ of_level),
                    ap (λ (h : ℕ × ℕ). h.0) read,
                  )
            ])
      ];
    }

bit-none : (j : ℕ) → bit_at 0 j ≡ 0
bit-none j = ap (λ q. q % 2) (quotient-small j 0 (pow_pos j))

-- it has the least key that is left, and of the newest level that has it
pub least-head : (held : Held) (places : List ℕ) (low : ℕ) (heads : List (ℕ × ℕ)) (found : Option First) →
    AreHeads held places 0 heads → AreBehind held places low → (IsNone found → heads ≡ [])
    → IfSome found (IsFirst heads) → IsLeastLeft held places low found
least-head held places low heads None are behind none is = record {
  before = λ key j level above below inside level_is.
      let (from, (le, place)) = behind.each j level inside level_is in
      are.each j from key level (bit-none j) level_is place (omega (arith, le, above))
      (λ k d fits of_level. absurd (omega (arith, fits, ap (λ (l : List (ℕ × ℕ)). length l) (none refl))));
  newer = tt;
  at = tt;
}
least-head held places low heads (Some first) are behind none is =
    let stands = first-stands held places 0 heads first are is in
    record {
      before = λ key j level above less inside level_is.
          missing key j level above inside level_is (λ k d fits of_level. omega (arith, is.least k d fits, less));
      newer = λ j level above less level_is.
          missing first.key j level above (omega (arith, less, stands.inside)) level_is (λ k d fits of_level.
          elim (cases_lt k first.place) [
            | inl before ↦ is.newest k d before
            | inr past ↦ elim (cases_eq k first.place) [
              | inl at ↦ absurd
                  (omega (
                    arith,
                    less,
                    of_level,
                    ap (λ m. (slice_index_or heads m d).1) at,
                    ap (λ (h : ℕ × ℕ). h.1) (is.is d),
                  ))
              | inr other ↦ absurd
                  (omega (
                    arith,
                    less,
                    of_level,
                    ap (λ (h : ℕ × ℕ). h.1) (is.is d),
                    are.rise first.place k d (omega (arith, past, other)) fits,
                  ))
            ]
          ]);
      at = stands;
    }
  where
    missing : (other j : ℕ) (level : List Entry) → low ≤ other → j < length held.levels → level_of held j ≡ Some level
        → ((k : ℕ) (d : ℕ × ℕ) →
        k < length heads → (slice_index_or heads k d).1 ≡ j → other < (slice_index_or heads k d).0) →
        entry_at level other ≡ None
    missing other j level above inside level_is all =
        let (from, (le, place)) = behind.each j level inside level_is in
        are.each j from other level (bit-none j) level_is place (omega (arith, le, above)) all
