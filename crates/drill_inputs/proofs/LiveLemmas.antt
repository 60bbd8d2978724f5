-- How many keys the map has after the updates: as many as there are from 0 to the greatest number of 64 bits.
use Rattle.std.proofs.Common.{◌≡◌, ℕ, ◌+◌, ◌*◌, ◌%◌, ◌^◌, ◌<◌, ◌≤◌, Bool, true, List, [], ◌∷◌}
use Rattle.std.proofs.Common.{length, filter, refl, ap, ◌∙◌, arith, nat_cmp, false, eqb, cond}
use Rattle.std.specs.List.{All, fold}
use Rattle.std.specs.Map.{keys_of}
use Rattle.std.specs.BTreeMap.{is_at}
use Rattle.std.proofs.lemmas.Bool.{and_from, le-leb, cond-true}
use Rattle.std.proofs.lemmas.List.Elements.{All-head, All-nil, All-tail, All-weaker}
use Rattle.std.proofs.lemmas.Map.Entries.{length-keys_of}
use Rattle.std.proofs.lemmas.Map.Views.{All-keys-insert_entry, All-map-remove_entry}
use Rattle.log_levels.specs.declared.update.Update.{Update}
use Rattle.log_levels.specs.declared.update.Update.TheVariants.{Put, Del, Sweep}
use Rattle.log_levels.specs.Maps.{is_between, live_in, map_after, updated}
use Rattle.log_levels.proofs.MapLemmas.{count-keys}
use Rattle.drill_inputs.specs.Draws.{drawn}
use Rattle.drill_inputs.specs.Inputs.{update_by, update_at, updates_of}
use Rattle.drill_inputs.proofs.ListLemmas.{All-made}

-- a put at a key below the bound, or a deletion
abbrev pub PutsBelow : ℕ → Update → Type 0
PutsBelow bound (Put key value) = key < bound
PutsBelow bound (Del key) = Unit {0}
PutsBelow bound (Sweep low high) = ⊥

-- so no key of the map reaches the bound
below-updated : (bound : ℕ) (pairs : List (ℕ × ℕ)) (update : Update) →
    PutsBelow bound update → All (λ key. key < bound) (keys_of pairs) →
    All (λ key. key < bound) (keys_of (updated pairs update))
below-updated bound pairs (Put key value) puts all =
    All-keys-insert_entry nat_cmp key value (λ k. k < bound) pairs all puts
below-updated bound pairs (Del key) puts all =
    All-map-remove_entry (is_at (nat_cmp key)) (λ pair. pair.0) (λ k. k < bound) pairs all
below-updated bound pairs (Sweep low high) puts all = absurd puts

below-fold : (bound : ℕ) (pairs : List (ℕ × ℕ)) (updates : List Update) →
    All (PutsBelow bound) updates → All (λ key. key < bound) (keys_of pairs) →
    All (λ key. key < bound) (keys_of (fold updated pairs updates))
below-fold bound pairs [] puts all = all
below-fold bound pairs (update ∷ updates) puts all =
    below-fold bound (updated pairs update) updates (All-tail (PutsBelow bound) update updates puts)
    (below-updated bound pairs update (All-head (PutsBelow bound) update updates puts) all)

pub below-after : (bound : ℕ) (updates : List Update) →
    All (PutsBelow bound) updates → All (λ key. key < bound) (keys_of (map_after updates))
unfolding map_after
below-after bound updates puts = below-fold bound [] updates puts (All-nil (λ key. key < bound))

-- a filter that all pass keeps all
filter-keeps : (p : ℕ → Bool) (xs : List ℕ) → All (λ x. p x ≡ true) xs → filter p xs ≡ xs
filter-keeps p [] all = refl
filter-keeps p (x ∷ xs) all =
    cond-true (p x) _ _ (All-head (λ y. p y ≡ true) x xs all)
    ∙ ap (λ ys. x ∷ ys) (filter-keeps p xs (All-tail (λ y. p y ≡ true) x xs all))

between : (key : ℕ) → key < 2 ^ 64 → is_between 0 18446744073709551615 key ≡ true
between key below = and_from _ _ (le-leb 0 key (omega arith)) (le-leb key 18446744073709551615 (omega arith))

pub count-all : (updates : List Update) →
    All (PutsBelow (2 ^ 64)) updates → live_in (map_after updates) ≡ length (map_after updates)
count-all updates puts =
    let pairs = map_after updates in
    count-keys pairs 0 18446744073709551615
    ∙ ap length (filter-keeps (is_between 0 18446744073709551615) (keys_of pairs)
    (All-weaker (λ key. key < 2 ^ 64) (λ key. is_between 0 18446744073709551615 key ≡ true) between
    (keys_of pairs) (below-after (2 ^ 64) updates puts)))
    ∙ length-keys_of pairs

puts_below : (bound key draw : ℕ) → key < bound → PutsBelow bound (update_by key draw)
puts_below bound key draw below = go (eqb (draw % 4) 0)
  where
    go : (b : Bool) → PutsBelow bound (cond b (Del key) (Put key draw))
    go true = tt
    go false = below

updates_below : (n seed : ℕ) → 1 ≤ n → n ≤ 1000000 → All (PutsBelow (2 ^ 64)) (updates_of n seed)
unfolding updates_of
updates_below n seed some few =
    All-made (PutsBelow (2 ^ 64)) (update_at n seed) n
    (λ i inside. puts_below (2 ^ 64) (drawn seed (4 * n + 2 * i) % n) (drawn seed (4 * n + 2 * i + 1)) (omega arith))

-- the updates that are drawn leave as many keys as there are from 0 to the greatest number
pub live-count : (n seed : ℕ) → 1 ≤ n → n ≤ 1000000 →
    live_in (map_after (updates_of n seed)) ≡ length (map_after (updates_of n seed))
live-count n seed some few = count-all (updates_of n seed) (updates_below n seed some few)
