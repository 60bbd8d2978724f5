-- A search for a key from the newest level on.
use Rattle.std.proofs.Common.{◌≡◌, ℕ, zero, suc, ◌+◌, ◌*◌, ◌/◌, ◌^◌, ◌<◌, ◌≤◌, eqb, Bool, true, false}
use Rattle.std.proofs.Common.{List, [], length, take, drop, Option, Some, None, is_some}
use Rattle.std.proofs.Common.{refl, sym, ap, ◌∙◌, subst, inl, inr, ◌⊎◌, arith, add-one, add-zero}
use Rattle.std.specs.Int.{bit_at}
use Rattle.std.specs.Option.{option_or}
use Rattle.std.proofs.lemmas.Bool.{cases_Bool, eqb-true, cond-true, cond-false}
use Rattle.std.proofs.lemmas.List.{take-append-drop}
use Rattle.std.proofs.lemmas.Nat.{div_below}
use Rattle.tombstones.specs.declared.entry.Entry.{Entry}
use Rattle.tombstones.specs.Entries.{entry_at, kept, with_value}
use Rattle.map_level.specs.Levels.{last_at}
use Rattle.log_levels.specs.Shapes.{Held, IsCutOf, IsLevelFor, level_of, from_bit, block_of}
use Rattle.log_levels.specs.Kept.{value_of, IsAbsent, entry_in}
use Rattle.log_levels.proofs.BitLemmas.{from_bit-zero, from_bit-small}
use Rattle.log_levels.proofs.CutLemmas.{before, before-more, block-clear}
use Rattle.map_level.proofs.LastLemmas.{last_at-append}

-- at the start: no entry in the buffer
pub search-none : (entries buffer : List Entry) (f key : ℕ) →
    buffer ≡ drop (64 * f) entries → last_at buffer key ≡ None → last_at entries key ≡ last_at (before entries f 0) key
search-none entries buffer f key is none =
    let start : before entries f 0 ≡ take (64 * f) entries = ap (λ k. take (64 * k) entries) (from_bit-zero f) in
    ap (λ list. last_at list key) (sym (take-append-drop (64 * f) entries))
    ∙ last_at-append (take (64 * f) entries) (drop (64 * f) entries) key
    ∙ ap (λ last. option_or last (last_at (take (64 * f) entries) key)) (ap (λ list. last_at list key) (sym is) ∙ none)
    ∙ ap (λ list. last_at list key) (sym start)

last-before : (entries : List Entry) (f i key : ℕ) → last_at (before entries f i) key
    ≡ option_or (last_at (block_of entries f i) key) (last_at (before entries f (i + 1)) key)
last-before entries f i key = ap (λ list. last_at list key) (before-more entries f i)
    ∙ last_at-append (before entries f (i + 1)) (block_of entries f i) key

-- a level that isn't occupied
pub search-clear : (entries : List Entry) (f i key : ℕ) →
    bit_at f i ≡ 0 → last_at (before entries f i) key ≡ last_at (before entries f (i + 1)) key
search-clear entries f i key clear = last-before entries f i key
    ∙ ap (λ list. option_or (last_at list key) (last_at (before entries f (i + 1)) key)) (block-clear entries f i clear)

kept-some : (deepest : Bool) (winner : Option Entry) (entry : Entry) →
    kept deepest winner ≡ Some entry → winner ≡ Some entry
kept-some false winner entry is = is
kept-some true None entry is = cc
kept-some true (Some other) entry is = same (cases_Bool (is_some other.value))
  where
    same : (is_some other.value ≡ true) ⊎ (is_some other.value ≡ false) → Some other ≡ Some entry
    same (inl has) = sym (cond-true (is_some other.value) (Some other) None has) ∙ is
    same (inr hasnt) = let gone = sym (cond-false (is_some other.value) (Some other) None hasnt) ∙ is in cc

-- a level with an entry of the key: it is the last one
pub search-found : (entries level : List Entry) (f i key : ℕ) (entry : Entry) → IsLevelFor entries f i (Some level) →
    entry_at level key ≡ Some entry → last_at (before entries f i) key ≡ Some entry
search-found entries level f i key entry (set, last) found =
    let here =
    kept-some (eqb (f / 2 ^ (i + 1)) 0) (last_at (block_of entries f i) key) entry (sym (last.lasts key) ∙ found) in
    last-before entries f i key ∙ ap (λ winner. option_or winner (last_at (before entries f (i + 1)) key)) here

-- a deletion alone has no value
dead : (winner : Option Entry) → with_value winner ≡ None → value_of (option_or winner None) ≡ None
dead None absent = refl
dead (Some entry) absent = go entry.value refl
  where
    go : (value : Option ℕ) → entry.value ≡ value → entry.value ≡ None
    go None is = is
    go (Some value) is =
        let gone = sym (cond-true (is_some entry.value) (Some entry) None (ap is_some is)) ∙ absent in cc

-- a level without one: it is before the level's block, or nothing is there
pub search-missed : (entries level : List Entry) (f i key : ℕ) →
    IsLevelFor entries f i (Some level) → entry_at level key ≡ None
    → value_of (last_at (before entries f i) key) ≡ value_of (last_at (before entries f (i + 1)) key)
search-missed entries level f i key (set, last) none =
    ap value_of (last-before entries f i key) ∙ missed (eqb (f / 2 ^ (i + 1)) 0) refl (sym (last.lasts key) ∙ none)
  where
    missed : (deepest : Bool) →
        eqb (f / 2 ^ (i + 1)) 0 ≡ deepest → kept deepest (last_at (block_of entries f i) key) ≡ None
        → value_of (option_or (last_at (block_of entries f i) key) (last_at (before entries f (i + 1)) key))
        ≡ value_of (last_at (before entries f (i + 1)) key)
    missed false is absent = ap (λ winner. value_of (option_or winner (last_at (before entries f (i + 1)) key))) absent
    missed true is absent =
        let top : from_bit (i + 1) f ≡ 0 = ap (λ q. q * 2 ^ (i + 1)) (eqb-true _ _ is) ∙ omega arith in
        let nothing : before entries f (i + 1) ≡ [] = ap (λ k. take (64 * k) entries) top in
        ap (λ list. value_of (option_or (last_at (block_of entries f i) key) (last_at list key))) nothing
        ∙ dead (last_at (block_of entries f i) key) absent ∙ sym (ap (λ list. value_of (last_at list key)) nothing)

-- past the last level nothing is left
pub search-end : (entries : List Entry) (f i key : ℕ) → f < 2 ^ i → last_at (before entries f i) key ≡ None
search-end entries f i key small = ap (λ k. last_at (take (64 * k) entries) key) (from_bit-small i f small)

-- an entry in the buffer is the last one
pub search-buffer : (entries buffer : List Entry) (key : ℕ) (entry : Entry) → buffer
    ≡ drop (64 * (length entries / 64)) entries → last_at buffer key ≡ Some entry → last_at entries key ≡ Some entry
search-buffer entries buffer key entry is found =
    let k = 64 * (length entries / 64) in
    ap (λ list. last_at list key) (sym (take-append-drop k entries))
    ∙ last_at-append (take k entries) (drop k entries) key
    ∙ ap (λ last. option_or last (last_at (take k entries) key)) (ap (λ list. last_at list key) (sym is) ∙ found)

-- all blocks are in the levels
pub blocks-few : (held : Held) (entries : List Entry) →
    IsCutOf held entries → length entries / 64 < 2 ^ length held.levels
blocks-few held entries cut =
    div_below (length entries) 64 (2 ^ length held.levels) (omega arith) (omega (arith, cut.fits))

-- a key that no entry has isn't in the map
pub absent-value : (held : Held) (entries : List Entry) (key : ℕ) →
    IsCutOf held entries → IsAbsent held key → value_of (last_at entries key) ≡ None
absent-value held entries key cut absent =
    let f = length entries / 64 in
    down (length held.levels) (omega arith)
    ∙ ap value_of (search-end entries f (length held.levels) key (blocks-few held entries cut))
  where
    step : (i : ℕ) (level : Option (List Entry)) → i < length held.levels → level_of held i ≡ level
        → value_of (last_at (before entries (length entries / 64) i) key)
        ≡ value_of (last_at (before entries (length entries / 64) (i + 1)) key)
    step i None inside is = ap value_of
        (search-clear entries
        (length entries / 64) i key (subst (IsLevelFor entries (length entries / 64) i) is (cut.levels i inside)))
    step i (Some level) inside is =
        search-missed entries level
        (length entries / 64) i key (subst (IsLevelFor entries (length entries / 64) i) is (cut.levels i inside))
        (absent.levels i level inside is)

    down : (i : ℕ) → i ≤ length held.levels →
        value_of (last_at entries key) ≡ value_of (last_at (before entries (length entries / 64) i) key)
    down zero within = ap value_of (search-none entries held.buffer (length entries / 64) key cut.buffer absent.buffer)
    down (suc i) within = down i (omega arith) ∙ step i (level_of held i) (omega arith) refl
        ∙ ap (λ k. value_of (last_at (before entries (length entries / 64) k) key)) (add-one i)

-- the same by what a level has, occupied or not
pub search-in-found : (entries : List Entry) (f i key : ℕ) (stored : Option (List Entry)) (entry : Entry) →
    IsLevelFor entries f i stored → Some entry ≡ entry_in stored key
    → last_at (before entries f i) key ≡ Some entry
search-in-found entries f i key None entry has found = cc
search-in-found entries f i key (Some level) entry has found = search-found entries level f i key entry has (sym found)

pub search-in-missed : (entries : List Entry) (f i key : ℕ) (stored : Option (List Entry)) →
    IsLevelFor entries f i stored → None ≡ entry_in stored key
    → value_of (last_at (before entries f i) key) ≡ value_of (last_at (before entries f (i + 1)) key)
search-in-missed entries f i key None has missed = ap value_of (search-clear entries f i key has)
search-in-missed entries f i key (Some level) has missed = search-missed entries level f i key has (sym missed)

-- with no newer entry what a level has is the last one
pub found-level : (held : Held) (entries : List Entry) (i key : ℕ) (level : List Entry) (entry : Entry) →
    IsCutOf held entries → i < length held.levels → last_at held.buffer key ≡ None
    → ((j : ℕ) (other : List Entry) → j < i → level_of held j ≡ Some other → entry_at other key ≡ None) →
    level_of held i ≡ Some level → entry_at level key ≡ Some entry
    → value_of (last_at entries key) ≡ entry.value
found-level held entries i key level entry cut inside none newer is found =
    down i (omega arith) (λ j other less. newer j other less)
    ∙ ap value_of (search-in-found entries (length entries / 64) i key
    (Some level) entry (subst (IsLevelFor entries (length entries / 64) i) is (cut.levels i inside)) (sym found))
  where
    step : (j : ℕ) (stored : Option (List Entry)) → j < length held.levels →
        level_of held j ≡ stored → ((other : List Entry) → level_of held j ≡ Some other → entry_at other key ≡ None)
        → value_of (last_at (before entries (length entries / 64) j) key)
        ≡ value_of (last_at (before entries (length entries / 64) (j + 1)) key)
    step j None inside is none = ap value_of
        (search-clear entries
        (length entries / 64) j key (subst (IsLevelFor entries (length entries / 64) j) is (cut.levels j inside)))
    step j (Some other) inside is none = search-missed entries other (length entries / 64) j key
        (subst (IsLevelFor entries (length entries / 64) j) is (cut.levels j inside)) (none other is)

    down : (j : ℕ) → j ≤ length held.levels →
        ((k : ℕ) (other : List Entry) → k < j → level_of held k ≡ Some other → entry_at other key ≡ None)
        → value_of (last_at entries key) ≡ value_of (last_at (before entries (length entries / 64) j) key)
    down zero within newer = ap value_of (search-none entries held.buffer (length entries / 64) key cut.buffer none)
    down (suc j) within newer = down j (omega arith) (λ k other less. newer k other (omega arith))
        ∙ step j (level_of held j) (omega arith) refl (λ other. newer j other (omega arith))
        ∙ ap (λ k. value_of (last_at (before entries (length entries / 64) k) key)) (add-one j)

-- a map has one value at each key
pub one-value : (held : Held) (one two : List Entry) (key : ℕ) →
    IsCutOf held one → IsCutOf held two → value_of (last_at one key) ≡ value_of (last_at two key)
one-value held one two key cut_one cut_two = in-buffer (last_at held.buffer key) refl
  where
    same : length one ≡ length two
    same = sym cut_one.accepted ∙ cut_two.accepted

    step : (i : ℕ) (level : Option (List Entry)) (found : Option Entry) →
        i < length held.levels → level_of held i ≡ level → entry_in level key ≡ found
        → value_of (last_at (before one (length one / 64) (i + 1)) key)
        ≡ value_of (last_at (before two (length two / 64) (i + 1)) key)
        → value_of (last_at (before one (length one / 64) i) key)
        ≡ value_of (last_at (before two (length two / 64) i) key)
    step i level (Some e) inside is found rest =
        ap value_of (search-in-found one (length one / 64) i key level e
        (subst (IsLevelFor one (length one / 64) i) is (cut_one.levels i inside)) (sym found)
        ∙ sym (search-in-found two (length two / 64) i key level e
        (subst (IsLevelFor two (length two / 64) i) is (cut_two.levels i inside)) (sym found)))
    step i level None inside is found rest =
        search-in-missed one (length one / 64) i key level
        (subst (IsLevelFor one (length one / 64) i) is (cut_one.levels i inside)) (sym found) ∙ rest
        ∙ sym (search-in-missed two (length two / 64) i key level
        (subst (IsLevelFor two (length two / 64) i) is (cut_two.levels i inside)) (sym found))

    up : (n i : ℕ) → i + n ≡ length held.levels → value_of (last_at (before one (length one / 64) i) key)
        ≡ value_of (last_at (before two (length two / 64) i) key)
    up zero i end =
        let small_one = subst (λ k. length one / 64 < 2 ^ k) (sym end ∙ add-zero i) (blocks-few held one cut_one) in
        let small_two = subst (λ k. length two / 64 < 2 ^ k) (sym end ∙ add-zero i) (blocks-few held two cut_two) in
        ap value_of
        (search-end one (length one / 64) i key small_one ∙ sym (search-end two (length two / 64) i key small_two))
    up (suc n) i end =
        step i (level_of held i) (entry_in (level_of held i) key) (omega arith) refl refl (up n (i + 1) (omega arith))

    in-buffer : (found : Option Entry) →
        last_at held.buffer key ≡ found → value_of (last_at one key) ≡ value_of (last_at two key)
    in-buffer (Some e) found = ap value_of
        (search-buffer one held.buffer key e cut_one.buffer found
        ∙ sym (search-buffer two held.buffer key e cut_two.buffer found))
    in-buffer None found = ap value_of (search-none one held.buffer (length one / 64) key cut_one.buffer found)
        ∙ up (length held.levels) 0 (omega arith)
        ∙ sym (ap value_of (search-none two held.buffer (length two / 64) key cut_two.buffer found))
