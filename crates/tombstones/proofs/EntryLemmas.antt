-- What an ascending list has at a key.
use Rattle.std.proofs.Common.{◌≡◌, ℕ, suc, ◌<◌, ◌≤◌, List, [], ◌∷◌, length, None, refl, arith}
use Rattle.std.specs.List.{All}
use Rattle.std.proofs.lemmas.Bool.Decides.{nat_tests}
use Rattle.tombstones.specs.declared.entry.Entry.{Entry}
use Rattle.tombstones.specs.Entries.{IsAscending, entry_at, winner_at}

-- where each key is above a key, there is no entry at it
pub absent_below_all : (entries : List Entry) (key : ℕ) →
    All (λ entry. key < entry.key) entries → entry_at entries key ≡ None
absent_below_all [] key above = refl
absent_below_all (entry ∷ rest) key above = grind
    (arith, nat_tests, above 0 entry (omega arith), absent_below_all rest key (λ k d lt. above (suc k) d (omega arith)))

-- an empty list has no entry
pub absent_in_empty : (entries : List Entry) (key : ℕ) → length entries ≡ 0 → entry_at entries key ≡ None
absent_in_empty [] key empty = refl
absent_in_empty (entry ∷ rest) key empty = absurd (omega arith)

-- the rest of an ascending list is ascending
pub ascending_rest : (entries : List Entry) (first : Entry) (rest : List Entry) →
    entries ≡ first ∷ rest → IsAscending entries → IsAscending rest
ascending_rest entries first rest same ascending =
    let ascending' : IsAscending (first ∷ rest) = rw same at ascending in
    λ i j d lt in_range. ascending' (suc i) (suc j) d (omega arith) (omega arith)

-- no entry of the rest has the first key or one below it
pub absent_in_rest : (entries : List Entry) (first : Entry) (rest : List Entry) →
    entries ≡ first ∷ rest → IsAscending entries → (key : ℕ) → key ≤ first.key → entry_at rest key ≡ None
absent_in_rest entries first rest same ascending key le =
    let ascending' : IsAscending (first ∷ rest) = rw same at ascending in
    absent_below_all rest key (λ k d lt. omega (arith, ascending' 0 (suc k) d (omega arith) (omega arith)))

-- no entry of the list has a key below the first
pub absent_below_first : (entries : List Entry) (first : Entry) (rest : List Entry) →
    entries ≡ first ∷ rest → IsAscending entries → (key : ℕ) → key < first.key → entry_at entries key ≡ None
absent_below_first entries first rest same ascending key lt =
    let absent : entry_at rest key ≡ None = absent_in_rest entries first rest same ascending key (omega arith) in
    rw same (grind (arith, nat_tests))

-- a key that is in neither list has no winner
pub absent_in_both : (newer older : List Entry) (key : ℕ) →
    entry_at newer key ≡ None → entry_at older key ≡ None → winner_at newer older key ≡ None
absent_in_both newer older key newer_absent older_absent = rw newer_absent older_absent
