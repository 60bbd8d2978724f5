-- Taking the winner of the least key off the fronts of two lists: a list whose first key is the least loses it.
use Rattle.std.proofs.Common.{◌≡◌, ℕ, ◌+◌, ◌-◌, ◌<◌, ◌≤◌, ◌==◌, leb, ltb, Bool, true, false, not, if◌then◌else◌}
use Rattle.std.proofs.Common.{List, [], ◌∷◌, length, take, drop, get_or, Some, None, refl, arith, length-drop}
use Rattle.std.specs.Int.{from_bool}
use Rattle.std.proofs.lemmas.Bool.{leb-true, leb-false}
use Rattle.std.proofs.lemmas.List.{get_or-drop, take_rest}
use Rattle.std.proofs.lemmas.Bool.Decides.{nat_tests}
use Rattle.tombstones.specs.declared.entry.Entry.{Entry}
use Rattle.tombstones.specs.Entries.{IsAscending, winner_at}
use Rattle.tombstones.proofs.EntryLemmas.{absent_in_rest, absent_below_first, absent_in_both}

-- the entry is the winner at its key, up to which nothing is left, and at every other key the winner stays
pub record IsTaken (newer older newer_left older_left : List Entry) (entry : Entry) : Type 0 where
  pub taken : (key : ℕ) →
      winner_at newer older key ≡ (if entry.key == key then Some entry else winner_at newer_left older_left key)
  pub least : (key : ℕ) → key ≤ entry.key → winner_at newer_left older_left key ≡ None

-- the newer list has the lesser key
from_newer : (new old : Entry) (newer older : List Entry) → IsAscending (new ∷ newer) →
    IsAscending (old ∷ older) → new.key < old.key → IsTaken (new ∷ newer) (old ∷ older) newer (old ∷ older) new
from_newer new old newer older newer_ascending older_ascending less = record {
  taken = λ key. grind (arith, nat_tests);
  least = λ key le. absent_in_both newer (old ∷ older) key (absent_in_rest _ new newer refl newer_ascending key le)
      (absent_below_first _ old older refl older_ascending key (omega arith));
}

-- both have it
from_both : (new old : Entry) (newer older : List Entry) → IsAscending (new ∷ newer) →
    IsAscending (old ∷ older) → new.key ≡ old.key → IsTaken (new ∷ newer) (old ∷ older) newer older new
from_both new old newer older newer_ascending older_ascending same = record {
  taken = λ key. grind (arith, nat_tests);
  least = λ key le. absent_in_both newer older key (absent_in_rest _ new newer refl newer_ascending key le)
      (absent_in_rest _ old older refl older_ascending key (omega arith));
}

-- the older list has it
from_older : (new old : Entry) (newer older : List Entry) → IsAscending (new ∷ newer) →
    IsAscending (old ∷ older) → old.key < new.key → IsTaken (new ∷ newer) (old ∷ older) (new ∷ newer) older old
from_older new old newer older newer_ascending older_ascending greater = record {
  taken = λ key. grind (arith, nat_tests, absent_below_first _ new newer refl newer_ascending key);
  least = λ key le. absent_in_both
      (new ∷ newer) older key (absent_below_first (new ∷ newer) new newer refl newer_ascending key (omega arith))
      (absent_in_rest _ old older refl older_ascending key le);
}

-- the same by the answers of the two comparisons, each of which moves a list, and by the entry that is chosen
by_answers : (new old : Entry) (newer older : List Entry) (takes_new takes_old : Bool) → IsAscending (new ∷ newer) →
    IsAscending (old ∷ older) → leb new.key old.key ≡ takes_new → leb old.key new.key ≡ takes_old
    → IsTaken (new ∷ newer) (old ∷ older) (drop (from_bool takes_new) (new ∷ newer))
    (drop (from_bool takes_old) (old ∷ older)) (if takes_new then new else old)
by_answers new old newer older true true a b one two =
    from_both new old newer older a b (omega (arith, leb-true _ _ one, leb-true _ _ two))
by_answers new old newer older true false a b one two = from_newer new old newer older a b (leb-false _ _ two)
by_answers new old newer older false true a b one two = from_older new old newer older a b (leb-false _ _ one)
by_answers new old newer older false false a b one two = absurd (omega (arith, leb-false _ _ one, leb-false _ _ two))

-- the second comparison, as the step makes it
leb_not_ltb : (x y : ℕ) → leb y x ≡ not (ltb x y)
leb_not_ltb x y = grind (arith, nat_tests)

-- the same by the keys, and by how many entries each list loses
pub taken-by_keys : (newer older : List Entry) (by_newer by_older new_key old_key : ℕ) (blank least : Entry) →
    0 < length newer → 0 < length older → IsAscending newer → IsAscending older
    → new_key ≡ (get_or newer 0 blank).key → old_key ≡ (get_or older 0 blank).key →
    by_newer ≡ from_bool (leb new_key old_key) → by_older ≡ from_bool (not (ltb new_key old_key))
    → least ≡ (if leb new_key old_key then get_or newer 0 blank else get_or older 0 blank)
    → IsTaken newer older (take (length newer - by_newer) (drop by_newer newer))
    (take (length older - by_older) (drop by_older older)) least
taken-by_keys [] older by_newer by_older new_key old_key blank least newer_left
    older_left newer_ascending older_ascending new_is old_is newer_moves older_moves least_is = absurd (omega arith)
taken-by_keys (new ∷ newer) [] by_newer by_older new_key old_key blank least newer_left
    older_left newer_ascending older_ascending new_is old_is newer_moves older_moves least_is = absurd (omega arith)
taken-by_keys (new ∷ newer) (old ∷ older) by_newer by_older new_key old_key
    blank least newer_left older_left newer_ascending older_ascending new_is old_is newer_moves older_moves least_is =
    let new_is' : new_key ≡ new.key = new_is in
    let old_is' : old_key ≡ old.key = old_is in
    let one : leb new.key old.key ≡ leb new_key old_key = rw (new_is', old_is') refl in
    let two : leb old.key new.key ≡ not (ltb new_key old_key) = rw (new_is', old_is') (leb_not_ltb new.key old.key) in
    let done = by_answers new old newer older
    (leb new_key old_key) (not (ltb new_key old_key)) newer_ascending older_ascending one two in
    rw (take_rest (new ∷ newer) by_newer, take_rest (old ∷ older) by_older, newer_moves, older_moves, least_is) done

-- an ascending list is ascending from any place on
pub ascending_drop : (place : ℕ) (entries : List Entry) → IsAscending entries → IsAscending (drop place entries)
ascending_drop place entries ascending i j d lt inside =
    rw (get_or-drop place entries i d, get_or-drop place entries j d)
    (ascending (place + i) (place + j) d (omega arith) (omega (arith, length-drop place entries)))
