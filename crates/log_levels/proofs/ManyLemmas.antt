-- How far the search for one of many keys has come.
use Rattle.std.proofs.Common.{◌≡◌, ℕ, ◌+◌, ◌-◌, ◌/◌, ◌≤◌, List, [], ◌∷◌, ◌++◌, length, map, take, drop}
use Rattle.std.proofs.Common.{Option, Some, None, sym, ap, ◌∙◌, refl, arith, length-drop}
use Rattle.std.proofs.lemmas.List.{length-map, length-take, map-append}
use Rattle.std.proofs.lemmas.Slice.{take-put_mid}
use Rattle.std.proofs.Math.Seq.{take-add}
use borrow.Rule.Slice.PartMut.{put_mid}
use Rattle.std.specs.Int.{bit_at}
use Rattle.tombstones.specs.declared.entry.Entry.{Entry}
use Rattle.map_level.specs.Levels.{last_at}
use Rattle.log_levels.specs.declared.many.Search.{Search}
use Rattle.log_levels.specs.declared.many.Search.TheVariants.{Done, Open, Near}
use Rattle.log_levels.specs.declared.update.Update.{Update}
use Rattle.log_levels.specs.Accepted.{entries_of}
use Rattle.log_levels.specs.Maps.{map_after, value_at}
use Rattle.log_levels.specs.Shapes.{Held, IsCutOf, level_of, from_bit}
use Rattle.log_levels.specs.Kept.{value_of, entry_in, searched, found_by}
use Rattle.log_levels.proofs.OccupiedLemmas.{IsReached, reached-start, reached-found, reached-missed}
use Rattle.log_levels.proofs.SearchLemmas.{search-buffer}
use Rattle.log_levels.proofs.ValueLemmas.{value-after}

-- its value was found, or it is in the blocks of these bits, if any has one
abbrev pub IsSearchedTo : List Entry → ℕ → ℕ → Search → Type 0
IsSearchedTo entries key rest (Done value) = value ≡ value_of (last_at entries key)
IsSearchedTo entries key rest Open = IsReached entries key rest
IsSearchedTo entries key rest (Near start) = IsReached entries key rest

pub searched-start : (held : Held) (entries : List Entry) (key : ℕ) →
    IsCutOf held entries → IsSearchedTo entries key (held.accepted / 64) (searched (last_at held.buffer key) Open)
searched-start held entries key cut = go (last_at held.buffer key) refl
  where
    go : (found : Option Entry) →
        last_at held.buffer key ≡ found → IsSearchedTo entries key (held.accepted / 64) (searched found Open)
    go None is = reached-start held entries key cut is
    go (Some entry) is = sym (ap value_of (search-buffer entries held.buffer key entry cut.buffer is))

pub searched-next : (held : Held) (entries : List Entry) (key rest i : ℕ) (search : Search) →
    IsCutOf held entries → IsSearchedTo entries key rest search → bit_at rest i ≡ 1 → from_bit i rest ≡ rest
    → IsSearchedTo entries key (from_bit (i + 1) rest) (searched (entry_in (level_of held i) key) search)
searched-next held entries key rest i search cut was set lowest = go search was (entry_in (level_of held i) key) refl
  where
    reached : (found : Option Entry) → entry_in (level_of held i) key ≡ found → IsReached entries key rest →
        IsSearchedTo entries key (from_bit (i + 1) rest) (searched found Open)
    reached None is was = reached-missed held entries key rest i cut was set lowest (sym is)
    reached (Some entry) is was = reached-found held entries key rest i entry cut was set lowest (sym is)

    near : (found : Option Entry) (start : ℕ) → searched found (Near start) ≡ searched found Open
    near None start = refl
    near (Some entry) start = refl

    go : (search : Search) → IsSearchedTo entries key rest search →
        (found : Option Entry) → entry_in (level_of held i) key ≡ found
        → IsSearchedTo entries key (from_bit (i + 1) rest) (searched found search)
    go (Done value) was None is = was
    go (Done value) was (Some entry) is = was
    go Open was found is = reached found is was
    go (Near start) was None is = reached None is was
    go (Near start) was (Some entry) is = reached (Some entry) is was

pub searched-end : (entries : List Entry) (key : ℕ) (search : Search) →
    IsSearchedTo entries key 0 search → found_by search ≡ value_of (last_at entries key)
searched-end entries key (Done value) was = was
searched-end entries key Open was = sym was.value
searched-end entries key (Near start) was = sym was.value

-- the values of keys are those of their last entries
pub values-after : (updates : List Update) (keys : List ℕ) →
    map (λ key. value_of (last_at (entries_of updates) key)) keys ≡ map (value_at (map_after updates)) keys
values-after updates [] = refl
values-after updates (key ∷ keys) =
    ap (λ value. value ∷ map (λ key. value_of (last_at (entries_of updates) key)) keys) (sym (value-after updates key))
    ∙ ap (λ values. value_at (map_after updates) key ∷ values) (values-after updates keys)

-- one more block is written
pub values-more : (value : ℕ → Option ℕ) (keys : List ℕ) (values block : List (Option ℕ)) (from end : ℕ) →
    from ≤ end → end ≤ length keys → length values ≡ length keys →
    take from values ≡ map value (take from keys) → block ≡ map value (take (end - from) (drop from keys))
    → take end (put_mid from (end - from) values block) ≡ map value (take end keys)
values-more value keys values block from end up inside same before is =
    let part = take (end - from) (drop from keys) in
    let long : length block ≡ end - from = omega (
      arith,
      ap (λ (l : List (Option ℕ)). length l) is,
      length-map part value,
      length-take (end - from) (drop from keys),
      length-drop from keys,
    ) in
    let size : from + (end - from) ≡ end = omega arith in
    take-put_mid from (end - from) values block end (omega arith) (omega arith)
    ∙ ap (λ l. l ++ block) before
    ∙ ap (λ l. map value (take from keys) ++ l) is
    ∙ sym (map-append value (take from keys) part)
    ∙ ap (map value) (sym (take-add from (end - from) keys))
    ∙ ap (λ n. map value (take n keys)) size
