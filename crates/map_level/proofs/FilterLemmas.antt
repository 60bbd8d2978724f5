-- What a filter keeps when further bits are set, and that it denies no key of its entries.
use Rattle.std.proofs.Common.{◌≡◌, ℕ, ◌<◌, List, length, slice_index, slice_set, get_or, set, bit_and}
use Rattle.std.proofs.Common.{bit_or, Option, Some, None, refl, sym, ap, ◌∙◌, subst, inl, inr, arith}
use Rattle.std.proofs.lemmas.List.{get_or-set_same, get_or-set_other, length-set}
use Rattle.std.proofs.lemmas.Nat.{and_assoc, and_or_self, or_comm}
use Rattle.std.proofs.lemmas.Bool.{cases_eq}
use Rattle.tombstones.specs.declared.entry.Entry.{Entry}
use Rattle.tombstones.specs.Entries.{entry_at}
use Rattle.tombstones.proofs.CallerLemmas.{key-entry_at, Contains-entry_at}
use Rattle.map_level.specs.Levels.{level_keys}
use Rattle.map_level.proofs.LevelLemmas.{key-at, length-level_keys}
use Rattle.map_level.specs.Filters.{hash_of, slot_of, bits_of, Passes, ArePassed}

-- bits that are set stay set when others are
pub and-more : (word more bits : ℕ) → bit_and word bits ≡ bits → bit_and (bit_or word more) bits ≡ bits
and-more word more bits are_set =
    ap (bit_and (bit_or word more)) (sym are_set)
    ∙ sym (and_assoc bits (bit_or word more) word)
    ∙ ap (λ w. bit_and (bit_and w word) bits) (or_comm word more)
    ∙ ap (λ w. bit_and w bits) (and_or_self word more)
    ∙ are_set

-- so what passes still does when a word gets more bits
pub passes-more : (words : List ℕ) (slot word more other : ℕ) →
    slot < length words → word ≡ slice_index words slot → Passes words other
    → Passes (slice_set words slot (bit_or word more)) other
passes-more words slot word more other inside is passes =
    let count : length (slice_set words slot (bit_or word more))
    ≡ length words = length-set words slot (bit_or word more) in
    subst (λ n. bit_and (slice_index (slice_set words slot (bit_or word more)) (slot_of other n)) (bits_of other)
    ≡ bits_of other) (sym count)
    (elim (cases_eq (slot_of other (length words)) slot) [
      | inl same ↦
          let read = ap (λ k. get_or (set words slot (bit_or word more)) k 0) same
          ∙ get_or-set_same words slot (bit_or word more) 0 inside in
          ap (λ w. bit_and w (bits_of other)) read ∙ and-more word more (bits_of other)
          (ap (λ w. bit_and w (bits_of other)) is
          ∙ ap (λ k. bit_and (get_or words k 0) (bits_of other)) (sym same) ∙ passes)
      | inr apart ↦ ap (λ w. bit_and w (bits_of other))
          (get_or-set_other words slot (slot_of other (length words)) (bit_or word more) 0 apart) ∙ passes
    ])

-- a key that is denied has no entry
pub denied-missing : (words : List ℕ) (entries : List Entry) (key : ℕ) →
    ArePassed words (level_keys entries) → (Passes words (hash_of key) → ⊥) → None ≡ entry_at entries key
denied-missing words entries key passed denied = go (entry_at entries key) refl
  where
    go : (found : Option Entry) → entry_at entries key ≡ found → None ≡ entry_at entries key
    go None absent = sym absent
    go (Some entry) found =
        let (k, inside, at) = Contains-entry_at entries key entry found in
        let key_is = key-at entries k 0 entry inside
        ∙ ap (λ (e : Entry). e.key) at ∙ key-entry_at entries key entry found in
        absurd (denied
        (subst (Passes words) (ap hash_of key_is) (passed k 0 (omega (arith, inside, length-level_keys entries)))))
