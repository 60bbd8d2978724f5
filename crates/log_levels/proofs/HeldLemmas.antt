-- What a map holds, by how it is kept.
use Rattle.std.proofs.Common.{◌≡◌, ℕ, ◌+◌, ◌*◌, ◌%◌, ◌^◌, ◌<◌, ◌≤◌, List, [], ◌∷◌, ◌++◌, length, slice_index_or}
use Rattle.std.proofs.Common.{Option, None, Equal, Greater, nat_cmp, inl, inr, refl, sym, ap, subst, ◌∙◌, arith}
use Rattle.std.proofs.Math.Nat.{pow-le-pow_right}
use Rattle.std.proofs.lemmas.Nat.{shl_whole, pow_pos}
use Rattle.std.proofs.lemmas.List.{length-map, map_push, get_or_append_left, get_or_push, ext_get_or}
use Rattle.std.proofs.lemmas.Nat.Bits.{bit_at-zero}
use Rattle.std.proofs.lemmas.Bool.{cases_lt, cases_eq}
use Rattle.std.proofs.lemmas.Bool.Decides.{nat_tests}
use Rattle.std.specs.Option.{option_map}
use Rattle.std.specs.declared.sync.Arc.{Arc}
use Rattle.std.specs.Arc.{arc_value}
use Rattle.tombstones.specs.declared.entry.Entry.{Entry}
use Rattle.log_levels.specs.Shapes.{Held, IsCutOf, IsLevelFor, level_of, capacity_of}
use Rattle.log_levels.specs.Kept.{levels_of, shared_of}

pub length-levels_of : {Z : Type 0} (stored : List (Option (Arc (List Entry) Z))) →
    length (levels_of stored) ≡ length stored
length-levels_of {Z} stored = length-map stored (option_map (λ (level : Arc (List Entry) Z). arc_value level))

-- the capacity of so many levels
pub capacity_is : (levels count : ℕ) → levels ≡ count →
    levels ≤ 26 → ((64 * 2 ^ count) % 2 ^ 64 ≡ 64 * 2 ^ levels) × (1 ≤ 64 * 2 ^ levels) × (64 * 2 ^ levels ≤ 2 ^ 32)
capacity_is levels count same few =
    let whole : (64 * 2 ^ levels) % 2 ^ 64 ≡ 64 * 2 ^ levels = shl_whole 64 7 levels 64 (omega arith) (omega arith) in
    let most : 2 ^ levels ≤ 2 ^ 26 = pow-le-pow_right (omega arith) few in
    (ap (λ k. (64 * 2 ^ k) % 2 ^ 64) (sym same) ∙ whole, omega (arith, pow_pos levels), omega arith)

-- one level more
pub levels_of-push : {Z : Type 0} (stored : List (Option (Arc (List Entry) Z))) (level : Option (Arc (List Entry) Z)) →
    levels_of (stored ++ level ∷ []) ≡ levels_of stored ++ shared_of level ∷ []
levels_of-push {Z} stored level = map_push (option_map (λ (level : Arc (List Entry) Z). arc_value level)) stored level

pub levels_of-before : {Z : Type 0} (stored next : List (Option (Arc (List Entry) Z)))
    (level : Option (Arc (List Entry) Z)) (i : ℕ) → next ≡ stored ++ level ∷ [] → i < length stored
    → slice_index_or (levels_of next) i None ≡ slice_index_or (levels_of stored) i None
levels_of-before stored next level i is inside =
    ap (λ list. slice_index_or (levels_of list) i None) is
    ∙ ap (λ list. slice_index_or list i None) (levels_of-push stored level)
    ∙ get_or_append_left (levels_of stored) (shared_of level ∷ []) None i (omega (arith, length-levels_of stored))

pub levels_of-last : {Z : Type 0} (stored next : List (Option (Arc (List Entry) Z)))
    (level : Option (Arc (List Entry) Z)) (i : ℕ) → next ≡ stored ++ level ∷ [] → length stored ≡ i
    → slice_index_or (levels_of next) i None ≡ shared_of level
levels_of-last stored next level i is count =
    ap (λ list. slice_index_or (levels_of list) i None) is
    ∙ ap (λ list. slice_index_or list i None) (levels_of-push stored level)
    ∙ get_or_push (levels_of stored) (shared_of level) None i (length-levels_of stored ∙ count)

-- `cmp` of two numbers
pub above-greater : (a b : ℕ) → Greater ≡ nat_cmp a b → b < a
above-greater a b greater = elim (cases_lt b a) [
  | inl less ↦ less
  | inr at_least ↦ absurd (grind (arith, nat_tests))
]

pub same-equal : (a b : ℕ) → Equal ≡ nat_cmp a b → a ≡ b
same-equal a b equal = elim (cases_eq a b) [
  | inl same ↦ same
  | inr other ↦ absurd (grind (arith, nat_tests))
]

-- a map without entries
pub empty-cut : (held : Held) →
    held.accepted ≡ 0 → held.buffer ≡ [] → ((i : ℕ) → i < length held.levels → level_of held i ≡ None) → IsCutOf held []
empty-cut held accepted buffer none = record {
  accepted = accepted;
  fits = omega (arith, pow_pos (length held.levels));
  buffer = buffer;
  levels = λ i inside. subst (IsLevelFor [] 0 i) (sym (none i inside)) (bit_at-zero i);
}

-- two maps that hold the same
pub held-same : (held : Held) (accepted : ℕ) (buffer : List Entry) (levels : List (Option (List Entry))) →
    accepted ≡ held.accepted → buffer ≡ held.buffer → length levels ≡ length held.levels
    → ((i : ℕ) → i < length levels → slice_index_or levels i None ≡ level_of held i) →
    (let copy : Held = record { accepted = accepted; buffer = buffer; levels = levels } in copy) ≡ held
held-same held accepted buffer levels same_accepted same_buffer count same =
    let all : levels ≡ held.levels = ext_get_or None levels held.levels count same in
    rw (same_accepted, same_buffer, all) refl

-- the room of a map, by how it is kept
pub room_is : (inside held : Held) (more : ℕ) → inside ≡ held → length inside.levels ≤ 26 →
    held.accepted + more ≤ capacity_of held → held.accepted + more < 64 * 2 ^ length held.levels
room_is inside held more same few room =
    let count = ap (λ (h : Held). length h.levels) same in
    omega (arith, (capacity_is (length held.levels) _ refl (omega arith)).1)
