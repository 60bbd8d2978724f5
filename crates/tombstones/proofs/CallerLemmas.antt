-- For callers: what `entry_at` says of an ascending list, and that it determines the list.
use Rattle.std.proofs.Common.{◌≡◌, ℕ, zero, suc, ◌<◌, ◌==◌, if◌then◌else◌, true, false, List}
use Rattle.std.proofs.Common.{[], ◌∷◌, get_or, Some, None, refl, sym, inl, inr, ◌∙◌, arith}
use Rattle.std.specs.List.{Contains}
use Rattle.std.proofs.lemmas.Bool.{cases_lt}
use Rattle.std.proofs.lemmas.Bool.Decides.{nat_tests}
use Rattle.tombstones.specs.declared.entry.Entry.{Entry}
use Rattle.tombstones.specs.Entries.{IsAscending, entry_at}
use Rattle.tombstones.proofs.EntryLemmas.{ascending_rest, absent_in_rest, absent_below_first}

-- an entry that is found has the key
pub key-entry_at : (entries : List Entry) (key : ℕ) (entry : Entry) →
    entry_at entries key ≡ Some entry → entry.key ≡ key
key-entry_at [] key entry found = cc
key-entry_at (first ∷ rest) key entry found = grind (arith, nat_tests, key-entry_at rest key entry)

-- and stands in the list
pub Contains-entry_at : (entries : List Entry) (key : ℕ) (entry : Entry) →
    entry_at entries key ≡ Some entry → Contains entries entry
Contains-entry_at [] key entry found = cc
Contains-entry_at (first ∷ rest) key entry found =
    elim (first.key == key) as
    (λ here. (if here then Some first else entry_at rest key) ≡ Some entry → Contains (first ∷ rest) entry) [
      | true ↦ λ is_first. (0, omega arith, cc)
      | false ↦ λ in_rest. let later = Contains-entry_at rest key entry in_rest in
          (suc later.0, omega (arith, later.1), later.2)
    ] found

-- each entry of an ascending list is found at its key
pub entry_at-Contains : (entries : List Entry) (entry : Entry) →
    IsAscending entries → Contains entries entry → entry_at entries entry.key ≡ Some entry
entry_at-Contains [] entry ascending (k, in_range, is) = absurd (omega arith)
entry_at-Contains (first ∷ rest) entry ascending (zero, in_range, is) =
    let is_first : first ≡ entry = is in
    rw is_first (grind (arith, nat_tests))
entry_at-Contains (first ∷ rest) entry ascending (suc k, in_range, is) =
    let is_later : get_or rest k entry ≡ entry = is in
    let above : first.key < entry.key = rw is_later at (ascending 0 (suc k) entry (omega arith) in_range) in
    let found : entry_at rest entry.key
    ≡ Some entry = entry_at-Contains rest entry (ascending_rest _ first rest refl ascending) (k, omega arith, is) in
    grind (arith, nat_tests)

-- two lists differ where one has no entry at the other's first key
apart : (first : Entry) (rest ys : List Entry) →
    ((key : ℕ) → entry_at (first ∷ rest) key ≡ entry_at ys key) → entry_at ys first.key ≡ None → ⊥
apart first rest ys same absent = grind (arith, nat_tests, same first.key)

-- two lists with the same first key, and the same entry there, have the same first entry
same_first : (x y : Entry) (xs ys : List Entry) →
    x.key ≡ y.key → entry_at (x ∷ xs) x.key ≡ entry_at (y ∷ ys) x.key → x ≡ y
same_first x y xs ys same_key same =
    let found : Some x ≡ Some y = grind (arith, nat_tests) in
    cc

-- two ascending lists with the same entry at each key are the same list
pub same_entries : (xs ys : List Entry) →
    IsAscending xs → IsAscending ys → ((key : ℕ) → entry_at xs key ≡ entry_at ys key) → xs ≡ ys
same_entries [] [] xs_ascending ys_ascending same = refl
same_entries [] (y ∷ ys) xs_ascending ys_ascending same = absurd (apart y ys [] (λ key. sym (same key)) refl)
same_entries (x ∷ xs) [] xs_ascending ys_ascending same = absurd (apart x xs [] same refl)
same_entries (x ∷ xs) (y ∷ ys) xs_ascending ys_ascending same = elim (cases_lt x.key y.key) [
  | inl below ↦ absurd (apart x xs (y ∷ ys) same (absent_below_first _ y ys refl ys_ascending x.key below))
  | inr at_least ↦ elim (cases_lt y.key x.key) [
    | inl above ↦
        absurd (apart y ys (x ∷ xs) (λ key. sym (same key)) (absent_below_first _ x xs refl xs_ascending y.key above))
    | inr at_most ↦
        let same_key : x.key ≡ y.key = omega arith in
        let first : x ≡ y = same_first x y xs ys same_key (same x.key) in
        let same_rest : (key : ℕ) → entry_at xs key ≡ entry_at ys key = λ key. elim (cases_lt x.key key) [
          | inl later ↦ grind (arith, nat_tests, same key)
          | inr up_to ↦ absent_in_rest _ x xs refl xs_ascending key up_to
              ∙ sym (absent_in_rest _ y ys refl ys_ascending key (omega arith))
        ] in
        let rest : xs ≡ ys = same_entries xs ys
        (ascending_rest _ x xs refl xs_ascending) (ascending_rest _ y ys refl ys_ascending) same_rest in
        cc
  ]
]
