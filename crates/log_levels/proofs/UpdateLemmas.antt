-- The entries of more updates.
use Rattle.std.proofs.Common.{◌≡◌, ℕ, ◌+◌, ◌≤◌, List, [], ◌∷◌, ◌++◌, length, map, take, drop, suc}
use Rattle.std.proofs.Common.{All, Option, Some, None, refl, sym, ap, ◌∙◌, arith, length-append}
use Rattle.std.specs.List.{fold}
use Rattle.std.proofs.lemmas.List.{append_assoc, append-nil, length-map, take-append-drop}
use Rattle.tombstones.specs.declared.entry.Entry.{Entry}
use Rattle.log_levels.specs.declared.fault.MapFault.{MapFault}
use Rattle.log_levels.specs.declared.fault.MapFault.TheVariants.{Full, NoMemory}
use Rattle.log_levels.specs.declared.update.Update.{Update}
use Rattle.log_levels.specs.declared.update.Update.TheVariants.{Put, Del, Sweep}
use Rattle.log_levels.specs.Maps.{updated, map_after}
use Rattle.log_levels.specs.Accepted.{entries_for, entries_from, entries_of, IsPlain}
use Rattle.log_levels.specs.Kept.{IsFull, plain_entry}
use Rattle.log_levels.proofs.CutLemmas.{take-add}

entries_from-append : (pairs : List (ℕ × ℕ)) (xs ys : List Update) →
    entries_from pairs (xs ++ ys) ≡ entries_from pairs xs ++ entries_from (fold updated pairs xs) ys
unfolding entries_from
entries_from-append pairs [] ys = refl
entries_from-append pairs (x ∷ xs) ys =
    ap (λ list. entries_for pairs x ++ list) (entries_from-append (updated pairs x) xs ys)
    ∙ sym (append_assoc
    (entries_for pairs x) (entries_from (updated pairs x) xs) (entries_from (fold updated (updated pairs x) xs) ys))

-- the entries of updates behind others: those of the first, and
-- then those of the others, which find the map after the first
pub entries_of-append : (xs ys : List Update) → entries_of (xs ++ ys) ≡ entries_of xs ++ entries_from (map_after xs) ys
unfolding map_after
entries_of-append xs ys = entries_from-append [] xs ys

-- no updates have no entry
pub entries_of-none : entries_of [] ≡ []
unfolding entries_from
entries_of-none = refl

-- a sweep has one for each key that it takes away
pub entries_of-sweep : (xs : List Update) (low high : ℕ) →
    entries_of (xs ++ Sweep low high ∷ []) ≡ entries_of xs ++ entries_for (map_after xs) (Sweep low high)
unfolding entries_from
entries_of-sweep xs low high = entries_of-append xs (Sweep low high ∷ [])
    ∙ ap (λ list. entries_of xs ++ list) (append-nil (entries_for (map_after xs) (Sweep low high)))

-- the update of an entry
abbrev pub update_at : ℕ → Option ℕ → Update
update_at key None = Del key
update_at key (Some value) = Put key value

entries_for-update_at : (pairs : List (ℕ × ℕ)) (key : ℕ) (value : Option ℕ) →
    entries_for pairs (update_at key value) ≡ record { key = key; value = value } ∷ []
entries_for-update_at pairs key None = refl
entries_for-update_at pairs key (Some value) = refl

abbrev pub updates_of : List Entry → List Update
updates_of [] = []
updates_of (entry ∷ entries) = update_at entry.key entry.value ∷ updates_of entries

-- entries are those of the updates that they are
pub entries_from-updates : (pairs : List (ℕ × ℕ)) (entries : List Entry) →
    entries_from pairs (updates_of entries) ≡ entries
unfolding entries_from
entries_from-updates pairs [] = refl
entries_from-updates pairs (entry ∷ entries) =
    ap (λ list. list ++ entries_from (updated pairs (update_at entry.key entry.value)) (updates_of entries))
    (entries_for-update_at pairs entry.key entry.value)
    ∙ ap (λ list. entry ∷ list) (entries_from-updates (updated pairs (update_at entry.key entry.value)) entries)

-- updates without a sweep are an entry each
entries_for-plain : (pairs : List (ℕ × ℕ)) (update : Update) →
    IsPlain update → entries_for pairs update ≡ plain_entry update ∷ []
entries_for-plain pairs (Put key value) plain = refl
entries_for-plain pairs (Del key) plain = refl
entries_for-plain pairs (Sweep low high) plain = absurd plain

entries_from-plain : (pairs : List (ℕ × ℕ)) (updates : List Update) →
    All IsPlain updates → entries_from pairs updates ≡ map plain_entry updates
unfolding entries_from
entries_from-plain pairs [] plain = refl
entries_from-plain pairs (update ∷ updates) plain =
    ap (λ list. list ++ entries_from (updated pairs update) updates)
    (entries_for-plain pairs update (plain 0 update (omega arith)))
    ∙ ap (λ list. plain_entry update ∷ list)
    (entries_from-plain (updated pairs update) updates (λ k d inside. plain (suc k) d (omega arith)))

pub entries_of-plain : (before updates : List Update) →
    All IsPlain updates → entries_of (before ++ updates) ≡ entries_of before ++ map plain_entry updates
entries_of-plain before updates plain = entries_of-append before updates
    ∙ ap (λ list. entries_of before ++ list) (entries_from-plain (map_after before) updates plain)

pub length-plain : (before updates : List Update) →
    All IsPlain updates → length (entries_of (before ++ updates)) ≡ length (entries_of before) + length updates
length-plain before updates plain =
    ap (λ (l : List Entry). length l) (entries_of-plain before updates plain)
    ∙ length-append (entries_of before) (map plain_entry updates)
    ∙ omega (arith, length-map updates plain_entry)

-- more updates have no fewer entries
pub length-more : (before updates : List Update) → length (entries_of before) ≤ length (entries_of (before ++ updates))
length-more before updates =
    omega (
      arith,
      ap (λ (l : List Entry). length l) (entries_of-append before updates),
      length-append (entries_of before) (entries_from (map_after before) updates),
    )

-- and so have more of them than the first
pub length-first : (count : ℕ) (before updates : List Update) →
    length (entries_of (before ++ take count updates)) ≤ length (entries_of (before ++ updates))
length-first count before updates =
    let whole : (before ++ take count updates) ++ drop count updates ≡ before ++ updates =
    append_assoc before (take count updates) (drop count updates)
    ∙ ap (λ list. before ++ list) (take-append-drop count updates) in
    omega (
      arith,
      length-more (before ++ take count updates) (drop count updates),
      ap (λ list. length (entries_of list)) whole,
    )

-- some updates of the rest come behind those before it
pub take-drop : (done count : ℕ) (before updates : List Update) →
    (before ++ take done updates) ++ take count (drop done updates) ≡ before ++ take (done + count) updates
take-drop done count before updates =
    append_assoc before (take done updates) (take count (drop done updates))
    ∙ ap (λ list. before ++ list) (sym (take-add done count updates))

pub take-rest : (done : ℕ) (before updates : List Update) →
    (before ++ take done updates) ++ drop done updates ≡ before ++ updates
take-rest done before updates = append_assoc before (take done updates) (drop done updates)
    ∙ ap (λ list. before ++ list) (take-append-drop done updates)

-- a fault of a full map has a number
pub full-is : (fault : MapFault) → IsFull fault → (accepted : ℕ) × (fault ≡ Full accepted)
full-is (Full accepted) full = (accepted, refl)
full-is NoMemory full = absurd full
