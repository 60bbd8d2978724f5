-- A merge that is under way: entries were taken off two lists in rising order, and the kept ones stand in a third.
use Rattle.std.proofs.Common.{◌≡◌, ℕ, ◌<◌, ◌≤◌, ◌⊎◌, ◌==◌, Bool, true, false, if◌then◌else◌, List, [], ◌∷◌, ◌++◌}
use Rattle.std.proofs.Common.{Option, Some, None, IsSome, is_some, MatchOption, refl, sym, ◌∙◌, inl, inr, arith}
use Rattle.std.specs.List.{All}
use Rattle.std.specs.Option.{option_or}
use Rattle.std.proofs.lemmas.Bool.{cases_lt, false≢true}
use Rattle.std.proofs.lemmas.Bool.Decides.{nat_tests}
use Rattle.std.proofs.lemmas.List.Elements.{All-push}
use Rattle.std.proofs.lemmas.List.Folds.{find-append}
use Rattle.std.proofs.lemmas.List.Quantifiers.{all_pairs_push}
use Rattle.tombstones.specs.declared.entry.Entry.{Entry}
use Rattle.tombstones.specs.Entries.{IsAscending, entry_at, winner_at, kept}

-- what is merged and what is left make up the merge of the whole
-- lists, and every key that is left is above every merged one
pub record IsUnderWay (newer older : List Entry) (deepest : Bool) (newer_left older_left merged : List Entry) :
    Type 0 where
  pub newer_ascending : IsAscending newer_left
  pub older_ascending : IsAscending older_left
  pub ascending : IsAscending merged
  pub above : (key : ℕ) → IsSome (winner_at newer_left older_left key) → All (λ entry. entry.key < key) merged
  pub winners : (key : ℕ) → option_or (entry_at merged key) (kept deepest (winner_at newer_left older_left key))
      ≡ kept deepest (winner_at newer older key)

-- one key of a step that keeps its entry: `before` is what was
-- merged at the key, `left` what is left there after the step
winner_push : (deepest : Bool) (entry : Entry) (before left : Option Entry) (here : Bool) → kept deepest (Some entry)
    ≡ Some entry → option_or (option_or before (if here then Some entry else None)) (kept deepest left)
    ≡ option_or before (kept deepest (if here then Some entry else left))
winner_push deepest entry (Some x) left here keeps = refl
winner_push deepest entry None left true keeps = sym keeps
winner_push deepest entry None left false keeps = refl

-- one step: by key, what is left before it, the entry of the least key in it, and what is left after it
module _ (left rest : ℕ → Option Entry) (entry : Entry) (least : (key : ℕ) → key ≤ entry.key → rest key ≡ None)
    (taken : (key : ℕ) → left key ≡ (if entry.key == key then Some entry else rest key)) where
  -- the entry was left
  entry_left : IsSome (left entry.key)
  entry_left = grind (arith, nat_tests, taken entry.key)

  -- each key that is left after the step is above the entry's
  above_entry : (key : ℕ) → IsSome (rest key) → entry.key < key
  above_entry key some = elim (cases_lt entry.key key) [
    | inl lt ↦ lt
    | inr le ↦ absurd (false≢true (rw (least key le) at some))
  ]

  -- and was left before it
  left_before : (key : ℕ) → IsSome (rest key) → IsSome (left key)
  left_before key some = grind (arith, nat_tests, taken key)

-- a step that keeps its entry: it is taken off the lists, and goes to the end of what is merged
pub under_way_push : (newer older : List Entry)
    (deepest : Bool) (newer_left older_left merged newer_rest older_rest : List Entry) (entry : Entry)
    → IsUnderWay newer older deepest newer_left older_left merged
    → IsAscending newer_rest
    → IsAscending older_rest
    → ((key : ℕ) → key ≤ entry.key → winner_at newer_rest older_rest key ≡ None)
    → ((key : ℕ) → winner_at newer_left older_left key
    ≡ (if entry.key == key then Some entry else winner_at newer_rest older_rest key))
    → kept deepest (Some entry) ≡ Some entry
    → IsUnderWay newer older deepest newer_rest older_rest (merged ++ entry ∷ [])
under_way_push newer older deepest newer_left
    older_left merged newer_rest older_rest entry under_way newer_ascending older_ascending least taken keeps =
    let left = winner_at newer_left older_left in
    let rest = winner_at newer_rest older_rest in record {
      newer_ascending = newer_ascending;
      older_ascending = older_ascending;
      ascending = all_pairs_push (λ x y. x.key < y.key) merged entry under_way.ascending
          (λ k d in_range. under_way.above entry.key (entry_left left rest entry least taken) k d in_range);
      above = λ key some. All-push
          (λ x. x.key < key) merged entry (under_way.above key (left_before left rest entry least taken key some))
          (above_entry left rest entry least taken key some);
      winners = λ key.
          let step = winner_push deepest entry (entry_at merged key) (rest key) (entry.key == key) keeps in
          let before :
          option_or (entry_at merged key) (kept deepest (if entry.key == key then Some entry else rest key))
          ≡ kept deepest (winner_at newer older key) = rw (taken key) at (under_way.winners key) in
          rw (find-append (λ x. x.key == key) merged (entry ∷ [])) (step ∙ before);
    }

-- a step that leaves its entry out
pub under_way_drop : (newer older : List Entry)
    (deepest : Bool) (newer_left older_left merged newer_rest older_rest : List Entry) (entry : Entry)
    → IsUnderWay newer older deepest newer_left older_left merged
    → IsAscending newer_rest
    → IsAscending older_rest
    → ((key : ℕ) → key ≤ entry.key → winner_at newer_rest older_rest key ≡ None)
    → ((key : ℕ) → winner_at newer_left older_left key
    ≡ (if entry.key == key then Some entry else winner_at newer_rest older_rest key))
    → kept deepest (Some entry) ≡ None
    → IsUnderWay newer older deepest newer_rest older_rest merged
under_way_drop newer older deepest newer_left
    older_left merged newer_rest older_rest entry under_way newer_ascending older_ascending least taken drops =
    let left = winner_at newer_left older_left in
    let rest = winner_at newer_rest older_rest in record {
      newer_ascending = newer_ascending;
      older_ascending = older_ascending;
      ascending = under_way.ascending;
      above = λ key some. under_way.above key (left_before left rest entry least taken key some);
      winners = λ key.
          let same : kept deepest (left key)
          ≡ kept deepest (rest key) = grind (arith, nat_tests, taken key, least key) in
          rw same at (under_way.winners key);
    }

-- an entry is kept as it is, or left out
kept_or_not : (deepest : Bool) (entry : Entry) →
    (kept deepest (Some entry) ≡ Some entry) ⊎ (kept deepest (Some entry) ≡ None)
kept_or_not false entry = inl refl
kept_or_not true entry = elim (is_some entry.value) as
    (λ some. ((if some then Some entry else None) ≡ Some entry) ⊎ ((if some then Some entry else None) ≡ None))
    [ true ↦ inl refl | false ↦ inr refl ]

-- the same for any entry: it goes to the end, where it is kept
pub under_way_step : (newer older : List Entry)
    (deepest : Bool) (newer_left older_left merged newer_rest older_rest after : List Entry) (entry : Entry)
    → IsUnderWay newer older deepest newer_left older_left merged
    → IsAscending newer_rest
    → IsAscending older_rest
    → ((key : ℕ) → key ≤ entry.key → winner_at newer_rest older_rest key ≡ None)
    → ((key : ℕ) → winner_at newer_left older_left key
    ≡ (if entry.key == key then Some entry else winner_at newer_rest older_rest key))
    → MatchOption (kept deepest (Some entry)) (after ≡ merged) (λ _. after ≡ merged ++ entry ∷ [])
    → IsUnderWay newer older deepest newer_rest older_rest after
under_way_step newer older deepest newer_left
    older_left merged newer_rest older_rest after entry under_way newer_ascending older_ascending least taken after_is =
    elim (kept_or_not deepest entry) [
      | inl keeps ↦
          let is : after ≡ merged ++ entry ∷ [] = rw keeps at after_is in
          rw is (under_way_push newer older deepest newer_left
          older_left merged newer_rest older_rest entry under_way newer_ascending older_ascending least taken keeps)
      | inr drops ↦
          let is : after ≡ merged = rw drops at after_is in
          rw is (under_way_drop newer older deepest newer_left
          older_left merged newer_rest older_rest entry under_way newer_ascending older_ascending least taken drops)
    ]
