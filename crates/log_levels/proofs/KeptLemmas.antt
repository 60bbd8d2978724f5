-- What is kept where a deletion is left out of the deepest level.
use Rattle.std.proofs.Common.{◌≡◌, ℕ, Bool, true, false, if◌then◌else◌, List, Option, Some}
use Rattle.std.proofs.Common.{None, IsSome, is_some, All, refl, ap, ◌∙◌, subst, arith}
use Rattle.std.specs.Option.{option_or}
use Rattle.tombstones.specs.declared.entry.Entry.{Entry}
use Rattle.tombstones.specs.Entries.{entry_at, kept}
use Rattle.tombstones.proofs.CallerLemmas.{Contains-entry_at}

-- where no entry is a deletion, none is left out
kept-value : (entry : Entry) → IsSome entry.value → Some entry ≡ kept true (Some entry)
kept-value entry has = go entry.value has
  where
    go : (value : Option ℕ) → IsSome value → Some entry ≡ (if is_some value then Some entry else None)
    go None has = cc
    go (Some x) has = refl

pub kept-values : (entries : List Entry) (key : ℕ) →
    All (λ entry. IsSome entry.value) entries → entry_at entries key ≡ kept true (entry_at entries key)
kept-values entries key all = go (entry_at entries key) refl
  where
    go : (found : Option Entry) → entry_at entries key ≡ found → found ≡ kept true found
    go None absent = refl
    go (Some entry) found =
        let (i, inside, at) = Contains-entry_at entries key entry found in
        kept-value entry (subst (λ (e : Entry). IsSome e.value) at (all i entry inside))

-- a deletion that is left out twice is left out
kept-kept : (deepest : Bool) (winner : Option Entry) → kept deepest (kept deepest winner) ≡ kept deepest winner
kept-kept false winner = refl
kept-kept true None = refl
kept-kept true (Some entry) = grind arith

-- a merge into the deepest level may find deletions left out of the older list already
pub kept-winner : (deepest : Bool) (newer older older' : Option Entry) →
    older' ≡ kept deepest older → kept deepest (option_or newer older') ≡ kept deepest (option_or newer older)
kept-winner deepest (Some entry) older older' is = refl
kept-winner deepest None older older' is = ap (kept deepest) is ∙ kept-kept deepest older
