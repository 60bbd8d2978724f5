-- The last entries of each key are no more than all.
use Rattle.std.proofs.Common.{◌≡◌, ℕ, ◌≤◌, ◌==◌, eqb, Bool, true, false, if◌then◌else◌, List, []}
use Rattle.std.proofs.Common.{◌∷◌, length, Option, Some, None, is_some, refl, sym, ap, ◌∙◌, arith}
use Rattle.std.specs.Cmp.{nat_eq_equiv}
use Rattle.std.specs.Set.{is_member}
use Rattle.std.specs.Option.{option_or}
use Rattle.std.proofs.lemmas.Bool.{ne_eqb}
use Rattle.std.proofs.lemmas.Bool.Decides.{nat_tests}
use Rattle.std.proofs.lemmas.Map.Keys.{IsDistinct-from_apart}
use Rattle.std.proofs.lemmas.Map.Made.{length-le_from_is_member}
use Rattle.tombstones.specs.declared.entry.Entry.{Entry}
use Rattle.tombstones.specs.Entries.{entry_at, kept}
use Rattle.map_level.specs.Levels.{IsLastOfEach, last_at, level_keys}
use Rattle.map_level.proofs.LastLemmas.{last_at-cons}
use Rattle.map_level.proofs.LevelLemmas.{keys-rise, length-level_keys}

member-entry_at : (entries : List Entry) (key : ℕ) →
    is_member eqb (level_keys entries) key ≡ is_some (entry_at entries key)
member-entry_at [] key = refl
member-entry_at (entry ∷ entries) key = grind (arith, nat_tests, member-entry_at entries key)

-- there is a last entry of a key just where there is a first one
pub some-last_at : (entries : List Entry) (key : ℕ) → is_some (last_at entries key) ≡ is_some (entry_at entries key)
some-last_at [] key = refl
some-last_at (entry ∷ entries) key = ap is_some (last_at-cons entry entries key)
    ∙ both (last_at entries key) (entry_at entries key) (entry.key == key) (some-last_at entries key)
  where
    both : (last first : Option Entry) (here : Bool) → is_some last ≡ is_some first →
        is_some (option_or last (if here then Some entry else None)) ≡ is_some (if here then Some entry else first)
    both (Some entry) first true same = refl
    both (Some entry) first false same = same
    both None first true same = refl
    both None first false same = same

some-kept : (deepest : Bool) (winner : Option Entry) → is_some (kept deepest winner) ≡ true → is_some winner ≡ true
some-kept deepest (Some entry) some = refl
some-kept true None some = some
some-kept false None some = some

pub length-latest : (deepest : Bool) (entries level : List Entry) →
    IsLastOfEach deepest entries level → length level ≤ length entries
length-latest deepest entries level last =
    let apart = IsDistinct-from_apart eqb (level_keys level)
    (λ i j d less inside.
    ne_eqb _ _ (λ same. absurd (omega (arith, keys-rise level last.ascending i j d less inside)))) in
    let members : (key : ℕ) → is_member eqb (level_keys level) key
    ≡ true → is_member eqb (level_keys entries) key ≡ true =
    λ key is. member-entry_at entries key ∙ sym (some-last_at entries key)
    ∙ some-kept deepest
    (last_at entries key) (ap is_some (sym (last.lasts key)) ∙ sym (member-entry_at level key) ∙ is) in
    let few = length-le_from_is_member nat_eq_equiv (level_keys level) (level_keys entries) apart members in
    omega (arith, length-level_keys level, length-level_keys entries)
