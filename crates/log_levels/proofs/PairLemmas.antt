-- The pairs of a range, taken at either end.
use Rattle.std.proofs.Common.{◌≡◌, ℕ, ◌+◌, ◌-◌, ◌<◌, ◌≤◌, leb, List, [], ◌∷◌, ◌++◌, length, take, drop}
use Rattle.std.proofs.Common.{find, Option, Some, None, refl, sym, ap, ◌∙◌, inl, inr, arith, length-append}
use Rattle.std.proofs.Math.Seq.{take-length}
use Rattle.std.proofs.lemmas.Bool.{cases_lt, cases_order, cond-true, le-leb}
use Rattle.std.proofs.lemmas.List.{reverse-append, take-append-le}
use Rattle.log_levels.specs.declared.update.Update.{Update}
use Rattle.log_levels.specs.Accepted.{entries_of}
use Rattle.log_levels.specs.Kept.{IsLastLive, IsNextLive}
use Rattle.log_levels.specs.Maps.{first_of, last_of, map_after, pairs_between, value_at}
use Rattle.log_levels.specs.Shapes.{Left, StandsFor, pairs_left}
use Rattle.log_levels.proofs.EndLemmas.{first-cons}
use Rattle.log_levels.proofs.MapLemmas.{RisesFrom, rises-after, value-below, value-here, value-later}
use Rattle.log_levels.proofs.MapLemmas.{between-above, between-below, between-inside, pairs-dropped, pairs-kept}
use Rattle.log_levels.proofs.MapLemmas.{pairs-end, pairs-step}
use Rattle.log_levels.proofs.ValueLemmas.{value-after}
use Rattle.log_levels.proofs.WalkLemmas.{pairs-found}

-- nothing is left where the least key is above the greatest
pub pairs-crossed : (updates : List Update) (low high : ℕ) →
    high < low → pairs_between (map_after updates) low high ≡ []
pairs-crossed updates low high past =
    pairs-end (map_after updates) low high (λ other above below. absurd (omega arith)) 0 (rises-after updates)

-- the last pair of a range comes behind those before it
pairs-front : (bound : ℕ) (pairs : List (ℕ × ℕ)) (low high key value : ℕ) →
    RisesFrom bound pairs → low < key → key ≤ high → value_at pairs key ≡ Some value
    → ((other : ℕ) → key < other → other ≤ high → value_at pairs other ≡ None) →
    pairs_between pairs low high ≡ pairs_between pairs low (key - 1) ++ (key, value) ∷ []
pairs-front bound [] low high key value rises above below is none = cc
pairs-front bound (pair ∷ pairs) low high key value (from, rest) above below is none =
    elim (cases_order pair.0 key) [
      | inl here ↦
          let end : pairs_between pairs low high ≡ [] =
          pairs-end pairs low high (λ other at_least at_most. elim (cases_lt pair.0 other) [
            | inl after ↦ sym (value-later pair pairs other (λ same. absurd (omega arith)))
                ∙ none other (omega arith) at_most
            | inr before ↦ value-below (pair.0 + 1) pairs other rest (omega arith)
          ]) (pair.0 + 1) rest in
          let front : pairs_between (pair ∷ pairs) low (key - 1) ≡ [] =
          pairs-dropped pair pairs low (key - 1) (between-above low (key - 1) pair.0 (omega arith))
          ∙ pairs-end pairs low (key - 1)
          (λ other at_least at_most. value-below (pair.0 + 1) pairs other rest (omega arith)) (pair.0 + 1) rest in
          pairs-kept pair pairs low high (between-inside low high pair.0 (omega arith) (omega arith))
          ∙ ap (λ (later : List (ℕ × ℕ)). pair ∷ later) end
          ∙ ap (λ (p : ℕ × ℕ). p ∷ [])
          (pair-is pair key value here (sym (value-here pair pairs key (sym here)) ∙ is))
          ∙ ap (λ (l : List (ℕ × ℕ)). l ++ (key, value) ∷ []) (sym front)
      | inr (inr greater) ↦
          let apart : Some value ≡ None = sym is
          ∙ value-below pair.0 (pair ∷ pairs) key (omega arith, rest) greater in cc
      | inr (inl less) ↦
          let later : pairs_between pairs low high ≡ pairs_between pairs low (key - 1) ++ (key, value) ∷ [] =
          pairs-front (pair.0 + 1) pairs low high key value rest above below
          (sym (value-later pair pairs key (λ same. absurd (omega arith))) ∙ is)
          (λ other after at_most. sym (value-later pair pairs other (λ same. absurd (omega arith)))
          ∙ none other after at_most) in
          elim (cases_lt pair.0 low) [
            | inl before ↦ pairs-dropped pair pairs low high (between-below low high pair.0 before) ∙ later
                ∙ ap (λ (l : List (ℕ × ℕ)). l ++ (key, value) ∷ [])
                (sym (pairs-dropped pair pairs low (key - 1) (between-below low (key - 1) pair.0 before)))
            | inr at_least ↦ pairs-kept pair pairs low high (between-inside low high pair.0 at_least (omega arith))
                ∙ ap (λ (l : List (ℕ × ℕ)). pair ∷ l) later
                ∙ ap (λ (l : List (ℕ × ℕ)). l ++ (key, value) ∷ [])
                (sym (pairs-kept pair pairs low (key - 1) (between-inside low (key - 1) pair.0 at_least (omega arith))))
          ]
    ]
  where
    pair-is : (pair : ℕ × ℕ) (key value : ℕ) → pair.0 ≡ key → Some pair.1 ≡ Some value → pair ≡ (key, value)
    pair-is (k, v) key value same_key same_value = cc

-- a walk down finds the last pair
pub pairs-back : (updates : List Update) (low high key value : ℕ) →
    IsLastLive (entries_of updates) low (high + 1) (Some (key, value)) → low < key
    → pairs_between (map_after updates) low high
    ≡ pairs_between (map_after updates) low (key - 1) ++ (key, value) ∷ []
pairs-back updates low high key value (above, below, is, none) less =
    pairs-front 0 (map_after updates) low high key value (rises-after updates) less (omega arith)
    (value-after updates key ∙ is) (λ other after at_most. value-after updates other ∙ none other after (omega arith))

-- or the only one
pub pairs-only : (updates : List Update) (low high key value : ℕ) →
    IsLastLive (entries_of updates) low (high + 1) (Some (key, value)) → key ≡ low
    → pairs_between (map_after updates) low high ≡ (key, value) ∷ []
pairs-only updates low high key value (above, below, is, none) same =
    pairs-step 0 (map_after updates) low high key value (rises-after updates) above (omega arith)
    (value-after updates key ∙ is) (λ other from less. absurd (omega arith))
    ∙ ap (λ (l : List (ℕ × ℕ)). (key, value) ∷ l)
    (pairs-end (map_after updates) (key + 1) high
    (λ other after at_most. value-after updates other ∙ none other (omega arith) (omega arith)) 0 (rises-after updates))

-- or none
pub pairs-none_back : (updates : List Update) (low high : ℕ) →
    IsLastLive (entries_of updates) low (high + 1) None → pairs_between (map_after updates) low high ≡ []
pairs-none_back updates low high none = pairs-end (map_after updates) low high
    (λ other above below. value-after updates other ∙ none other above (omega arith)) 0 (rises-after updates)

-- without keys behind a number it makes no difference where they end
pub pairs-bare_end : (updates : List Update) (low end high : ℕ) → end ≤ high
    → ((key : ℕ) → end < key → key ≤ high → value_at (map_after updates) key ≡ None) →
    pairs_between (map_after updates) low high ≡ pairs_between (map_after updates) low end
pairs-bare_end updates low end high within none = go (map_after updates) 0 (rises-after updates) none
  where
    go : (pairs : List (ℕ × ℕ)) (bound : ℕ) → RisesFrom bound pairs
        → ((key : ℕ) → end < key → key ≤ high → value_at pairs key ≡ None) →
        pairs_between pairs low high ≡ pairs_between pairs low end
    go [] bound rises bare = refl
    go (pair ∷ pairs) bound (from, rest) bare =
        let later : pairs_between pairs low high ≡ pairs_between pairs low end =
        go pairs (pair.0 + 1) rest (λ key above at_most. elim (cases_lt pair.0 key) [
          | inl after ↦ sym (value-later pair pairs key (λ same. absurd (omega arith))) ∙ bare key above at_most
          | inr before ↦ value-below (pair.0 + 1) pairs key rest (omega arith)
        ]) in
        elim (cases_lt pair.0 low) [
          | inl before ↦ pairs-dropped pair pairs low high (between-below low high pair.0 before) ∙ later
              ∙ sym (pairs-dropped pair pairs low end (between-below low end pair.0 before))
          | inr at_least ↦ elim (cases_lt high pair.0) [
            | inl past ↦ pairs-dropped pair pairs low high (between-above low high pair.0 past) ∙ later
                ∙ sym (pairs-dropped pair pairs low end (between-above low end pair.0 (omega arith)))
            | inr at_most ↦ elim (cases_lt end pair.0) [
              | inl between ↦ let apart : Some pair.1 ≡ None = sym (value-here pair pairs pair.0 refl)
                  ∙ bare pair.0 between at_most in cc
              | inr inside ↦ pairs-kept pair pairs low high (between-inside low high pair.0 at_least at_most)
                  ∙ ap (λ (l : List (ℕ × ℕ)). pair ∷ l) later
                  ∙ sym (pairs-kept pair pairs low end (between-inside low end pair.0 at_least inside))
            ]
          ]
        ]

-- the last of some pairs, and the others
pub last-behind : (pairs : List (ℕ × ℕ)) (pair : ℕ × ℕ) →
    pair.0 ≤ 18446744073709551615 → last_of (pairs ++ pair ∷ []) ≡ Some pair
last-behind pairs pair small =
    ap (find (λ (p : ℕ × ℕ). leb p.0 18446744073709551615)) (reverse-append pairs (pair ∷ []))
    ∙ cond-true (leb pair.0 18446744073709551615) _ _ (le-leb pair.0 18446744073709551615 small)

pub others-behind : (pairs : List (ℕ × ℕ)) (pair : ℕ × ℕ) →
    take (length (pairs ++ pair ∷ []) - 1) (pairs ++ pair ∷ []) ≡ pairs
others-behind pairs pair =
    let size : length (pairs ++ pair ∷ []) - 1 ≡ length pairs = omega (arith, length-append pairs (pair ∷ [])) in
    ap (λ n. take n (pairs ++ pair ∷ [])) size
    ∙ take-append-le (length pairs) pairs (pair ∷ []) (omega arith) ∙ take-length pairs

-- the first pair that was left is taken, if there was one
pub record IsFrontTaken (old new : Left) (taken : Option (ℕ × ℕ)) : Type 0 where
  pub map : new.map ≡ old.map
  pub first : (updates : List Update) → StandsFor old.map updates → taken ≡ first_of (pairs_left old updates)
  pub left : (updates : List Update) →
      StandsFor old.map updates → pairs_left new updates ≡ drop 1 (pairs_left old updates)

pub front-none : (old new : Left) → new.map ≡ old.map → new.high < new.low
    → ((updates : List Update) → StandsFor old.map updates → pairs_left old updates ≡ []) → IsFrontTaken old new None
front-none old new map crossed none = record {
  map = map;
  first = λ updates stands. sym (ap first_of (none updates stands));
  left = λ updates stands. pairs-crossed updates new.low new.high crossed
      ∙ sym (ap (λ (l : List (ℕ × ℕ)). drop 1 l) (none updates stands));
}

pub front-some : (old : Left) (low key value : ℕ) → key ≤ old.high → low ≡ key + 1 →
    ((updates : List Update) → StandsFor old.map updates → IsNextLive (entries_of updates) old.low (Some (key, value)))
    → IsFrontTaken old (record { map = old.map; low = low; high = old.high }) (Some (key, value))
front-some old low key value within next live = record {
  map = refl;
  first = λ updates stands.
      sym (ap first_of (pairs-found updates old.low old.high key value (live updates stands) within)
      ∙ first-cons (key, value) (pairs_between (map_after updates) (key + 1) old.high));
  left = λ updates stands. ap (λ k. pairs_between (map_after updates) k old.high) next
      ∙ sym (ap (λ (l : List (ℕ × ℕ)). drop 1 l)
      (pairs-found updates old.low old.high key value (live updates stands) within));
}

-- the last pair that was left is taken, if there was one
pub record IsBackTaken (old new : Left) (taken : Option (ℕ × ℕ)) : Type 0 where
  pub map : new.map ≡ old.map
  pub last : (updates : List Update) → StandsFor old.map updates → taken ≡ last_of (pairs_left old updates)
  pub left : (updates : List Update) → StandsFor old.map updates →
      pairs_left new updates ≡ take (length (pairs_left old updates) - 1) (pairs_left old updates)

pub back-none : (old new : Left) → new.map ≡ old.map → new.high < new.low
    → ((updates : List Update) → StandsFor old.map updates → pairs_left old updates ≡ []) → IsBackTaken old new None
back-none old new map crossed none = record {
  map = map;
  last = λ updates stands. sym (ap last_of (none updates stands));
  left = λ updates stands. pairs-crossed updates new.low new.high crossed
      ∙ sym (ap (λ (l : List (ℕ × ℕ)). take (length l - 1) l) (none updates stands));
}

pub back-some : (old new : Left) (key value : ℕ) → new.map ≡ old.map → key ≤ 18446744073709551615
    → ((updates : List Update) → StandsFor old.map updates →
    pairs_left old updates ≡ pairs_left new updates ++ (key, value) ∷ []) → IsBackTaken old new (Some (key, value))
back-some old new key value map small is = record {
  map = map;
  last = λ updates stands.
      sym (ap last_of (is updates stands) ∙ last-behind (pairs_left new updates) (key, value) small);
  left = λ updates stands.
      sym (ap (λ (l : List (ℕ × ℕ)). take (length l - 1) l) (is updates stands)
      ∙ others-behind (pairs_left new updates) (key, value));
}
