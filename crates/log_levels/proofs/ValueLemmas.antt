-- The map after updates has at each key the value of its last entry.
use Rattle.std.proofs.Common.{◌≡◌, ℕ, eqb, Bool, true, false, not, if◌then◌else◌, List, [], ◌∷◌}
use Rattle.std.proofs.Common.{◌++◌, map, Option, Some, None, refl, sym, ap, ◌∙◌, inl, inr, ◌⊎◌}
use Rattle.std.proofs.lemmas.Bool.{cases_eq, cases_Bool, cond-true, cond-false}
use Rattle.std.proofs.lemmas.Bool.{eq-eqb, ne_eqb, not_from_true, not_from_false}
use Rattle.std.specs.Option.{option_or}
use Rattle.std.specs.List.{fold}
use Rattle.std.specs.Map.{keys_of}
use Rattle.std.proofs.lemmas.List.{append_assoc, append-nil}
use Rattle.tombstones.specs.declared.entry.Entry.{Entry}
use Rattle.log_levels.specs.declared.update.Update.{Update}
use Rattle.log_levels.specs.declared.update.Update.TheVariants.{Put, Del, Sweep}
use Rattle.log_levels.specs.Maps.{is_between, updated, map_after, value_at}
use Rattle.log_levels.specs.Accepted.{put_entry, del_entry, keys_between, entries_for, entries_from, entries_of}
use Rattle.map_level.specs.Levels.{last_at}
use Rattle.log_levels.specs.Kept.{value_of}
use Rattle.map_level.proofs.LastLemmas.{last_at-append, last_at-cons}
use Rattle.log_levels.proofs.MapLemmas.{RisesFrom, rises-updated, value-here, value-later}
use Rattle.log_levels.proofs.MapLemmas.{value-insert-same, value-insert-other, value-remove-same}
use Rattle.log_levels.proofs.MapLemmas.{value-remove-other, value-filter-kept, value-filter-dropped}

-- of deletions none has a value
value-deletions : (keys : List ℕ) (q : ℕ) → value_of (last_at (map del_entry keys) q) ≡ None
value-deletions [] q = refl
value-deletions (key ∷ keys) q = ap value_of (last_at-cons (del_entry key) (map del_entry keys) q)
    ∙ either (last_at (map del_entry keys) q) (eqb key q) (value-deletions keys q)
  where
    either : (last : Option Entry) (here : Bool) →
        value_of last ≡ None → value_of (option_or last (if here then Some (del_entry key) else None)) ≡ None
    either (Some entry) here none = none
    either None true none = refl
    either None false none = refl

module _ (low high q : ℕ) where
  deletions : List (ℕ × ℕ) → List Entry
  deletions pairs = map del_entry (keys_between pairs low high)

  deletions-kept : (pair : ℕ × ℕ) (pairs : List (ℕ × ℕ)) →
      is_between low high pair.0 ≡ true → deletions (pair ∷ pairs) ≡ del_entry pair.0 ∷ deletions pairs
  unfolding deletions
  deletions-kept pair pairs keeps = ap (λ (kept : List (ℕ × ℕ)). map del_entry (keys_of kept)) (cond-true _ _ _ keeps)

  deletions-dropped : (pair : ℕ × ℕ) (pairs : List (ℕ × ℕ)) →
      is_between low high pair.0 ≡ false → deletions (pair ∷ pairs) ≡ deletions pairs
  unfolding deletions
  deletions-dropped pair pairs drops =
      ap (λ (kept : List (ℕ × ℕ)). map del_entry (keys_of kept)) (cond-false _ _ _ drops)

  last-other : (pair : ℕ × ℕ) (pairs : List (ℕ × ℕ)) →
      (q ≡ pair.0 → ⊥) → last_at (deletions (pair ∷ pairs)) q ≡ last_at (deletions pairs) q
  last-other pair pairs other = elim (cases_Bool (is_between low high pair.0)) [
    | inl keeps ↦ ap (λ list. last_at list q) (deletions-kept pair pairs keeps)
        ∙ last_at-cons (del_entry pair.0) (deletions pairs) q
        ∙ ap (λ here. option_or (last_at (deletions pairs) q) (if here then Some (del_entry pair.0) else None))
        (ne_eqb pair.0 q (λ is. other (sym is)))
        ∙ or-none (last_at (deletions pairs) q)
    | inr drops ↦ ap (λ list. last_at list q) (deletions-dropped pair pairs drops)
  ]
    where
      or-none : (last : Option Entry) → option_or last None ≡ last
      or-none None = refl
      or-none (Some entry) = refl

  -- a key outside the range, or none of the map, isn't deleted
  last-none : (pairs : List (ℕ × ℕ)) →
      (is_between low high q ≡ false) ⊎ (value_at pairs q ≡ None) → last_at (deletions pairs) q ≡ None
  unfolding deletions
  last-none [] outside = refl
  last-none (pair ∷ pairs) outside = elim (cases_eq q pair.0) [
    | inl here ↦ elim outside [
      | inl drops ↦
          ap (λ list. last_at list q) (deletions-dropped pair pairs (ap (is_between low high) (sym here) ∙ drops))
          ∙ last-none pairs (inl drops)
      | inr none ↦ absurd (some≢none pair.1 (sym (value-here pair pairs q here) ∙ none))
    ]
    | inr other ↦ last-other pair pairs other ∙ last-none pairs (elim outside [
      | inl drops ↦ inl drops
      | inr none ↦ inr (sym (value-later pair pairs q other) ∙ none)
    ])
  ]
    where
      some≢none : (value : ℕ) → Some value ≡ None → ⊥
      some≢none value is = cc

  -- each other one is
  last-some : (pairs : List (ℕ × ℕ)) (value : ℕ) (before : Option Entry) → is_between low high q ≡ true →
      value_at pairs q ≡ Some value → value_of (option_or (last_at (deletions pairs) q) before) ≡ None
  unfolding deletions
  last-some [] value before inside is = cc
  last-some (pair ∷ pairs) value before inside is = elim (cases_eq q pair.0) [
    | inl here ↦
        ap (λ list. value_of (option_or (last_at list q) before))
        (deletions-kept pair pairs (ap (is_between low high) (sym here) ∙ inside))
        ∙ ap (λ last. value_of (option_or last before)) (last_at-cons (del_entry pair.0) (deletions pairs) q
        ∙ ap (λ here. option_or (last_at (deletions pairs) q) (if here then Some (del_entry pair.0) else None))
        (eq-eqb pair.0 q (sym here)))
        ∙ deleted (last_at (deletions pairs) q) (none pairs)
    | inr other ↦ ap (λ last. value_of (option_or last before)) (last-other pair pairs other)
        ∙ last-some pairs value before inside (sym (value-later pair pairs q other) ∙ is)
  ]
    where
      none : (pairs : List (ℕ × ℕ)) → value_of (last_at (deletions pairs) q) ≡ None
      none pairs = value-deletions (keys_between pairs low high) q

      deleted : (last : Option Entry) →
          value_of last ≡ None → value_of (option_or (option_or last (Some (del_entry pair.0))) before) ≡ None
      deleted (Some entry) none = none
      deleted None none = refl

  pub value-sweep : (pairs : List (ℕ × ℕ)) (before : Option Entry) → value_at pairs q ≡ value_of before
      → value_at (updated pairs (Sweep low high)) q
      ≡ value_of (option_or (last_at (map del_entry (keys_between pairs low high)) q) before)
  unfolding deletions
  value-sweep pairs before same = elim (cases_Bool (is_between low high q)) [
    | inl inside ↦ value-filter-dropped (λ key. not (is_between low high key)) pairs q (not_from_true _ inside)
        ∙ sym (swept (value_at pairs q) refl inside)
    | inr outside ↦ value-filter-kept (λ key. not (is_between low high key)) pairs q (not_from_false _ outside) ∙ same
        ∙ sym (ap (λ last. value_of (option_or last before)) (last-none pairs (inl outside)))
  ]
    where
      swept : (value : Option ℕ) → value_at pairs q ≡ value → is_between low high q ≡ true →
          value_of (option_or (last_at (map del_entry (keys_between pairs low high)) q) before) ≡ None
      swept None is inside = ap (λ last. value_of (option_or last before)) (last-none pairs (inr is)) ∙ sym same ∙ is
      swept (Some value) is inside = last-some pairs value before inside is

-- one update more
value-update : (pairs : List (ℕ × ℕ)) (update : Update) (before : Option Entry) (q : ℕ) →
    RisesFrom 0 pairs → value_at pairs q ≡ value_of before
    → value_at (updated pairs update) q ≡ value_of (option_or (last_at (entries_for pairs update) q) before)
value-update pairs (Put key value) before q rises same = elim (cases_eq q key) [
  | inl here ↦ value-insert-same pairs key value q here ∙ sym
      (ap (λ b. value_of (option_or (if b then Some (put_entry key value) else None) before)) (eq-eqb key q (sym here)))
  | inr other ↦ value-insert-other pairs key value q other ∙ same
      ∙ sym (ap (λ b. value_of (option_or (if b then Some (put_entry key value) else None) before))
      (ne_eqb key q (λ is. other (sym is))))
]
value-update pairs (Del key) before q rises same = elim (cases_eq q key) [
  | inl here ↦ value-remove-same 0 pairs key q rises here
      ∙ sym (ap (λ b. value_of (option_or (if b then Some (del_entry key) else None) before)) (eq-eqb key q (sym here)))
  | inr other ↦ value-remove-other pairs key q other ∙ same
      ∙ sym (ap (λ b. value_of (option_or (if b then Some (del_entry key) else None) before))
      (ne_eqb key q (λ is. other (sym is))))
]
value-update pairs (Sweep low high) before q rises same = value-sweep low high q pairs before same

value-fold : (pairs : List (ℕ × ℕ)) (before : List Entry) (updates : List Update) (q : ℕ) →
    RisesFrom 0 pairs → value_at pairs q ≡ value_of (last_at before q)
    → value_at (fold updated pairs updates) q ≡ value_of (last_at (before ++ entries_from pairs updates) q)
unfolding entries_from
value-fold pairs before [] q rises same = same ∙ ap (λ list. value_of (last_at list q)) (sym (append-nil before))
value-fold pairs before (update ∷ updates) q rises same =
    let next : value_at (updated pairs update) q ≡ value_of (last_at (before ++ entries_for pairs update) q) =
    value-update pairs update (last_at before q) q rises same
    ∙ ap value_of (sym (last_at-append before (entries_for pairs update) q)) in
    value-fold
    (updated pairs update) (before ++ entries_for pairs update) updates q (rises-updated pairs update rises) next
    ∙ ap (λ list. value_of (last_at list q))
    (append_assoc before (entries_for pairs update) (entries_from (updated pairs update) updates))

pub value-after : (updates : List Update) (q : ℕ) →
    value_at (map_after updates) q ≡ value_of (last_at (entries_of updates) q)
unfolding map_after
value-after updates q = value-fold [] [] updates q tt refl
