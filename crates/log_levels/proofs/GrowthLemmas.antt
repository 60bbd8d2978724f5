-- What the levels become when entries are added.
use Rattle.std.proofs.Common.{◌≡◌, ℕ, ◌+◌, ◌-◌, ◌*◌, ◌/◌, ◌%◌, ◌^◌, ◌<◌, ◌≤◌, eqb, false, List}
use Rattle.std.proofs.Common.{◌++◌, length, take, drop, map, slice_index_or, Option, Some, None}
use Rattle.std.proofs.Common.{sym, ap, ◌∙◌, subst, arith, length-append, length-drop, length-take}
use Rattle.std.specs.Int.{bit_at}
use Rattle.std.specs.Option.{option_or}
use Rattle.std.proofs.lemmas.List.{append_assoc, drop-append-le}
use Rattle.std.proofs.lemmas.Nat.{div-add-mod', mod_below}
use Rattle.tombstones.specs.declared.entry.Entry.{Entry}
use Rattle.tombstones.specs.Entries.{IsAscending, entry_at, winner_at, kept}
use Rattle.map_level.specs.Levels.{IsLastOfEach, last_at}
use Rattle.log_levels.specs.Shapes.{Held, capacity_of, IsCutOf, IsLevelFor, level_of, from_bit, block_of}
use Rattle.log_levels.specs.Kept.{IsMergedTo, IsHighestChange}
use Rattle.log_levels.proofs.BitLemmas.{from_bit-zero, from_bit-le, from_bit-gt, from_bit-antitone, from_bit-clear}
use Rattle.log_levels.proofs.BitLemmas.{from_bit-set, none-left, some-left, some-left-below, same-above}
use Rattle.log_levels.proofs.CutLemmas.{behind, behind-more, drop-append-ge, block-clear}
use Rattle.log_levels.proofs.CutLemmas.{block-behind, block-before, block-across}
use Rattle.log_levels.proofs.HeldLemmas.{room_is}
use Rattle.map_level.proofs.LastLemmas.{last_at-append}
use Rattle.log_levels.proofs.KeptLemmas.{kept-winner}
use Rattle.log_levels.proofs.LengthLemmas.{length-latest}

-- at the start there are the last entries of the buffer and the new entries behind it, kept
pub merged-none : (entries : List Entry) (b f : ℕ) (new buffer latest merged : List Entry) →
    b ≡ f → buffer ≡ drop (64 * f) entries → IsLastOfEach false (buffer ++ new) latest
    → IsAscending merged →
    ((key : ℕ) → entry_at merged key ≡ kept (eqb b 0) (entry_at latest key)) → IsMergedTo entries f 0 new merged
merged-none entries b f new buffer latest merged same_b is last ascending keeps =
    let same : drop (64 * from_bit 0 f) entries ≡ buffer = ap (λ k. drop (64 * k) entries) (from_bit-zero f) ∙ sym is in
    let whole : b ≡ f / 2 ^ 0 = omega (arith, same_b) in
    record {
      ascending = ascending;
      lasts = λ key. keeps key ∙ ap (λ k. kept (eqb k 0) (entry_at latest key)) whole
          ∙ ap (kept (eqb (f / 2 ^ 0) 0)) (last.lasts key ∙ ap (λ list. last_at (list ++ new) key) (sym same));
    }

-- where a level isn't occupied
pub merged-clear : (entries : List Entry) (f i : ℕ) (new merged : List Entry) →
    bit_at f i ≡ 0 → IsMergedTo entries f i new merged → IsMergedTo entries f (i + 1) new merged
merged-clear entries f i new merged clear so_far =
    let same : behind entries f (i + 1) ≡ behind entries f i = behind-more entries f i
    ∙ ap (λ block. block ++ behind entries f i) (block-clear entries f i clear) in
    let flag : eqb (f / 2 ^ i) 0 ≡ eqb (f / 2 ^ (i + 1)) 0 = none-left i f clear in
    record {
      ascending = so_far.ascending;
      lasts = λ key. so_far.lasts key
          ∙ ap (λ deepest. kept deepest (last_at (behind entries f i ++ new) key)) flag
          ∙ ap (λ list. kept (eqb (f / 2 ^ (i + 1)) 0) (last_at (list ++ new) key)) (sym same);
    }

-- where it is, it is merged
pub merged-set : (entries : List Entry) (f i : ℕ) (new merged level next : List Entry) →
    IsLevelFor entries f i (Some level) → IsMergedTo entries f i new merged
    → IsAscending next → ((key : ℕ) → entry_at next key ≡ kept (eqb (f / 2 ^ (i + 1)) 0) (winner_at merged level key)) →
    IsMergedTo entries f (i + 1) new next
merged-set entries f i new merged level next (set, last) so_far ascending winners =
    let deepest = eqb (f / 2 ^ (i + 1)) 0 in
    let flag : eqb (f / 2 ^ i) 0 ≡ false = some-left i f set in
    let exact : (key : ℕ) → entry_at merged key ≡ last_at (behind entries f i ++ new) key =
    λ key. so_far.lasts key ∙ ap (λ d. kept d (last_at (behind entries f i ++ new) key)) flag in
    record {
      ascending = ascending;
      lasts = λ key. winners key ∙ ap (λ entry. kept deepest (option_or entry (entry_at level key))) (exact key)
          ∙ kept-winner deepest (last_at (behind entries f i ++ new) key)
          (last_at (block_of entries f i) key) (entry_at level key) (last.lasts key)
          ∙ ap (kept deepest) (sym (last_at-append (block_of entries f i) (behind entries f i ++ new) key)
          ∙ ap (λ list. last_at list key)
          (sym (append_assoc (block_of entries f i) (behind entries f i) new)
          ∙ ap (λ list. list ++ new) (sym (behind-more entries f i))));
    }

-- a change of the number of blocks, as numbers: the new entries end the block of the highest bit that changes
pub seam : (n m top : ℕ) → IsHighestChange n m top
    → (64 * from_bit (top + 1) ((n + m) / 64) ≤ n)
    × (n ≤ 64 * from_bit top ((n + m) / 64)) × (64 * from_bit top ((n + m) / 64) ≤ n + m)
seam n m top change =
    let f = n / 64 in
    let g = (n + m) / 64 in
    let upper : from_bit (top + 1) g ≡ from_bit (top + 1) f = ap (λ q. q * 2 ^ (top + 1)) (sym change.above) in
    let old = from_bit-clear top f change.was_clear in
    let new = from_bit-set top g change.is_set in
    let rest = div-add-mod' n 64 in
    let below = mod_below n 64 (omega arith) in
    let all = div-add-mod' (n + m) 64 in
    (omega (arith, from_bit-le (top + 1) f), omega (arith, from_bit-gt top f), omega (arith, from_bit-le top g))

module _ (entries new : List Entry) (top : ℕ) (change : IsHighestChange (length entries) (length new) top) where
  abbrev f : ℕ
  f = length entries / 64

  abbrev g : ℕ
  g = (length entries + length new) / 64

  -- a level below the highest bit that changes has a block of new entries alone
  pub fresh-level : (i : ℕ) (level : List Entry) → i < top → bit_at g i ≡ 1
      → IsLastOfEach false (take (64 * 2 ^ i) (drop (64 * from_bit (i + 1) g - length entries) new)) level →
      IsLevelFor (entries ++ new) g i (Some level)
  fresh-level i level below set last =
      let at = seam (length entries) (length new) top change in
      let place : i + 1 + (top - (i + 1)) ≡ top = omega arith in
      let order : from_bit top g ≤ from_bit (i + 1) g =
      omega (arith, from_bit-antitone (i + 1) (top - (i + 1)) g, ap (λ j. from_bit j g) place) in
      let block = block-behind entries new g i (omega (arith, at.1)) set in
      let flag : eqb (g / 2 ^ (i + 1)) 0 ≡ false = some-left-below (i + 1) top g (omega arith) change.is_set in (
        set,
        subst (λ deepest. IsLastOfEach deepest (block_of (entries ++ new) g i) level)
            (sym flag) (subst (λ list. IsLastOfEach false list level) (sym block) last),
      )

  -- the level of that bit has what was below it, and new entries up to the end of its block
  pub merged-level : (merged : List Entry) →
      IsMergedTo entries f top (take (64 * from_bit top g - length entries) new) merged →
      IsLevelFor (entries ++ new) g top (Some merged)
  merged-level merged so_far =
      let at = seam (length entries) (length new) top change in
      let first = take (64 * from_bit top g - length entries) new in
      let deepest = eqb (g / 2 ^ (top + 1)) 0 in
      let flag : eqb (f / 2 ^ top) 0 ≡ deepest = none-left top f change.was_clear ∙ ap (λ q. eqb q 0) change.above in
      let start : from_bit (top + 1) g ≡ from_bit top f = ap (λ q. q * 2 ^ (top + 1)) (sym change.above)
      ∙ sym (from_bit-clear top f change.was_clear) in
      let block : block_of (entries ++ new) g top ≡ behind entries f top ++ first =
      block-across entries new g top at.0 at.1 change.is_set ∙ ap (λ k. drop (64 * k) entries ++ first) start in (
        change.is_set,
        record {
          ascending = so_far.ascending;
          lasts = λ key. so_far.lasts key ∙ ap (λ d. kept d (last_at (behind entries f top ++ first) key)) flag
              ∙ ap (λ list. kept deepest (last_at list key)) (sym block);
        },
      )

  -- a level above it stays
  pub shared-level : (i : ℕ) (level : Option (List Entry)) →
      top < i → IsLevelFor entries f i level → IsLevelFor (entries ++ new) g i level
  shared-level i None above clear =
      ap (λ q. q % 2) (sym (same-above (top + 1) f g i change.above (omega arith))) ∙ clear
  shared-level i (Some level) above (set, last) =
      let here : f / 2 ^ i ≡ g / 2 ^ i = same-above (top + 1) f g i change.above (omega arith) in
      let next : f / 2 ^ (i + 1) ≡ g / 2 ^ (i + 1) = same-above (top + 1) f g (i + 1) change.above (omega arith) in
      let bit : bit_at f i ≡ bit_at g i = ap (λ q. q % 2) here in
      let start : from_bit (i + 1) f ≡ from_bit (i + 1) g = ap (λ q. q * 2 ^ (i + 1)) next in
      let end : from_bit i f ≡ from_bit i g = ap (λ q. q * 2 ^ i) here in
      let rest = div-add-mod' (length entries) 64 in
      let block : block_of (entries ++ new) g i ≡ block_of entries f i =
      block-before entries new g i (omega (arith, from_bit-le i f))
      ∙ ap (λ k. take (64 * (k * 2 ^ i)) (drop (64 * from_bit (i + 1) g) entries)) (sym bit)
      ∙ ap (λ k. take (64 * (bit_at f i * 2 ^ i)) (drop (64 * k) entries)) (sym start) in (
        sym bit ∙ set,
        subst (λ list. IsLastOfEach (eqb (g / 2 ^ (i + 1)) 0) list level)
            (sym block) (subst (λ q. IsLastOfEach (eqb q 0) (block_of entries f i) level) next last),
      )

-- one level more: it is merged, where it is occupied
pub merged-some : (entries : List Entry) (b f i : ℕ) (new merged newer older level next : List Entry)
    (stored : Option (List Entry)) → b ≡ f → Some level ≡ stored → IsLevelFor entries f i stored
    → newer ≡ merged → older ≡ level → IsMergedTo entries f i new merged
    → IsAscending next → ((key : ℕ) → entry_at next key ≡ kept (eqb (b / 2 ^ (i + 1)) 0) (winner_at newer older key)) →
    IsMergedTo entries f (i + 1) new next
merged-some
    entries b f i new merged newer older level next stored same is has same_newer same_older so_far ascending winners =
    merged-set entries f i new merged level next (subst (IsLevelFor entries f i) (sym is) has) so_far ascending
    (λ key. winners key ∙ ap (λ k. kept (eqb (k / 2 ^ (i + 1)) 0) (winner_at newer older key)) same
    ∙ ap (kept (eqb (f / 2 ^ (i + 1)) 0))
    (ap (λ list. option_or (entry_at list key) (entry_at older key)) same_newer
    ∙ ap (λ list. option_or (entry_at merged key) (entry_at list key)) same_older))

pub merged-skip : (entries : List Entry) (f i : ℕ) (new merged : List Entry) (stored : Option (List Entry)) →
    None ≡ stored → IsLevelFor entries f i stored
    → IsMergedTo entries f i new merged → IsMergedTo entries f (i + 1) new merged
merged-skip entries f i new merged stored is has so_far =
    merged-clear entries f i new merged (subst (IsLevelFor entries f i) (sym is) has) so_far

-- where a block of new entries alone begins and ends
pub fresh-from : (n m top i : ℕ) → IsHighestChange n m top → i < top → n ≤ 64 * from_bit (i + 1) ((n + m) / 64)
fresh-from n m top i change below =
    let g = (n + m) / 64 in
    let at = seam n m top change in
    let place : i + 1 + (top - (i + 1)) ≡ top = omega arith in
    omega (arith, at.1, from_bit-antitone (i + 1) (top - (i + 1)) g, ap (λ j. from_bit j g) place)

pub fresh-to : (n m i : ℕ) →
    (64 * from_bit (i + 1) ((n + m) / 64) ≤ 64 * from_bit i ((n + m) / 64)) × (64 * from_bit i ((n + m) / 64) ≤ n + m)
fresh-to n m i =
    let g = (n + m) / 64 in
    (omega (arith, from_bit-antitone i 1 g), omega (arith, from_bit-le i g, div-add-mod' (n + m) 64))

-- the same by what the map holds
module _ (held : Held) (new : List Entry) (top : ℕ)
    (change : IsHighestChange held.accepted (length new) top) (entries : List Entry) (cut : IsCutOf held entries) where
  abbrev blocks : ℕ → ℕ
  blocks n = (n + length new) / 64

  at_entries : IsHighestChange (length entries) (length new) top
  at_entries = subst (λ n. IsHighestChange n (length new) top) cut.accepted change

  pub fresh-of : (i : ℕ) (level : List Entry) → i < top → bit_at (blocks held.accepted) i ≡ 1
      → IsLastOfEach false
      (take (64 * from_bit i
      (blocks held.accepted) - held.accepted - (64 * from_bit (i + 1) (blocks held.accepted) - held.accepted))
      (drop (64 * from_bit (i + 1) (blocks held.accepted) - held.accepted) new)) level
      → IsLevelFor (entries ++ new) (blocks held.accepted) i (Some level)
  fresh-of i level below set last =
      let n = held.accepted in
      let from = fresh-from n (length new) top i change below in
      let size : 64 * from_bit i (blocks n) - n - (64 * from_bit (i + 1) (blocks n) - n)
      ≡ 64 * 2 ^ i = omega (arith, from_bit-set i (blocks n) set) in
      let last' =
      subst (λ k. IsLastOfEach false (take k (drop (64 * from_bit (i + 1) (blocks n) - n) new)) level) size last in
      let whole : (n : ℕ) → length entries ≡ n → bit_at (blocks n) i
      ≡ 1 → IsLastOfEach false (take (64 * 2 ^ i) (drop (64 * from_bit (i + 1) (blocks n) - n) new))
      level → IsLevelFor (entries ++ new) (blocks n) i (Some level) =
      λ n same. subst (λ n. bit_at (blocks n) i ≡ 1 →
      IsLastOfEach false (take (64 * 2 ^ i) (drop (64 * from_bit (i + 1) (blocks n) - n) new)) level →
      IsLevelFor (entries ++ new) (blocks n) i (Some level))
      same (fresh-level entries new top at_entries i level below) in
      whole n (sym cut.accepted) set last'

  pub merged-of : (merged : List Entry) → IsMergedTo entries
      (length entries / 64) top (take (64 * from_bit top (blocks held.accepted) - held.accepted) new) merged
      → IsLevelFor (entries ++ new) (blocks held.accepted) top (Some merged)
  merged-of merged =
      let Holds : ℕ → Type 0 =
      λ n. IsMergedTo entries (length entries / 64) top (take (64 * from_bit top (blocks n) - n) new) merged →
      IsLevelFor (entries ++ new) (blocks n) top (Some merged) in
      subst Holds (sym cut.accepted) (merged-level entries new top at_entries merged)

  pub shared-of : (i : ℕ) →
      top < i → i < length held.levels → IsLevelFor (entries ++ new) (blocks held.accepted) i (level_of held i)
  shared-of i above inside =
      subst (λ n. IsLevelFor (entries ++ new) (blocks n) i (level_of held i))
      (sym cut.accepted) (shared-level entries new top at_entries i (level_of held i) above (cut.levels i inside))

  -- a level is no longer than all entries are
  pub few-of : (f i : ℕ) (level : List Entry) →
      IsLevelFor (entries ++ new) f i (Some level) → length level ≤ held.accepted + length new
  few-of f i level (set, last) =
      let size = 64 * (bit_at f i * 2 ^ i) in
      let start = 64 * from_bit (i + 1) f in
      omega (
        arith,
        length-latest _ _ level last,
        length-take size (drop start (entries ++ new)),
        length-drop start (entries ++ new),
        length-append entries new,
        cut.accepted,
      )

  -- by what the code computes: the number of blocks, and the ends of a block
  pub merged-here : (b end acc : ℕ) (merged : List Entry) →
      b ≡ blocks held.accepted → end ≡ 64 * from_bit top b → acc ≡ held.accepted
      → IsMergedTo entries (length entries / 64) top (take (end - acc) new) merged →
      IsLevelFor (entries ++ new) (blocks held.accepted) top (Some merged)
  merged-here b end acc merged same_b same_end same_acc so_far =
      let same : end - acc
      ≡ 64 * from_bit top (blocks held.accepted) - held.accepted = omega (arith, ap (λ k. from_bit top k) same_b) in
      merged-of merged (subst (λ k. IsMergedTo entries (length entries / 64) top (take k new) merged) same so_far)

  pub fresh-here : (b i start end acc : ℕ) (level : List Entry) →
      i < top → b ≡ blocks held.accepted → bit_at b i ≡ 1 → start ≡ 64 * from_bit (i + 1) b → end ≡ 64 * from_bit i b
      → acc ≡ held.accepted → IsLastOfEach false (take (end - acc - (start - acc)) (drop (start - acc) new)) level →
      IsLevelFor (entries ++ new) (blocks held.accepted) i (Some level)
  fresh-here b i start end acc level below same_b set same_start same_end same_acc last =
      let at_start : start - acc ≡ 64 * from_bit (i + 1) (blocks held.accepted) - held.accepted =
      omega (arith, ap (λ k. from_bit (i + 1) k) same_b) in
      let at_end : end - acc - (start - acc) ≡ 64 * from_bit i
      (blocks held.accepted) - held.accepted - (64 * from_bit (i + 1) (blocks held.accepted) - held.accepted) =
      omega (arith, ap (λ k. from_bit i k) same_b) in
      fresh-of i level below (sym (ap (λ k. bit_at k i) same_b) ∙ set)
      (subst (λ k. IsLastOfEach false
      (take k (drop (64 * from_bit (i + 1) (blocks held.accepted) - held.accepted) new)) level) at_end
      (subst (λ k. IsLastOfEach false (take (end - acc - (start - acc)) (drop k new)) level) at_start last))

  pub clear-here : (b i : ℕ) →
      b ≡ blocks held.accepted → bit_at b i ≡ 0 → IsLevelFor (entries ++ new) (blocks held.accepted) i None
  clear-here b i same_b clear = sym (ap (λ k. bit_at k i) same_b) ∙ clear

-- a map with new entries that fill a block or more
pub grown : (held map : Held) (entries new : List Entry) (b : ℕ) →
    IsCutOf held entries → held.accepted / 64 < (held.accepted + length new) / 64
    → held.accepted + length new < 64 * 2 ^ length held.levels →
    b ≡ (held.accepted + length new) / 64 → map.accepted ≡ held.accepted + length new
    → map.buffer ≡ drop (b * 64 - held.accepted) new → length map.levels ≡ length held.levels
    → ((i : ℕ) →
    i < length held.levels → IsLevelFor (entries ++ new) ((held.accepted + length new) / 64) i (level_of map i)) →
    IsCutOf map (entries ++ new)
grown held map entries new b cut flush room same_b accepted buffer count levels =
    let n = length entries in
    let all : length (entries ++ new)
    ≡ held.accepted + length new = omega (arith, length-append entries new, cut.accepted) in
    let g : length (entries ++ new) / 64 ≡ (held.accepted + length new) / 64 = ap (λ k. k / 64) all in
    let rest = div-add-mod' held.accepted 64 in
    let below = mod_below held.accepted 64 (omega arith) in
    let behind : length entries ≤ 64 * (length (entries ++ new) / 64) = omega (arith, cut.accepted) in
    let place : 64 * (length (entries ++ new) / 64) - length entries
    ≡ b * 64 - held.accepted = omega (arith, cut.accepted) in
    record {
      accepted = accepted ∙ sym all;
      fits = omega (arith, ap (λ k. 64 * 2 ^ k) count);
      buffer = buffer
          ∙ sym (drop-append-ge (64 * (length (entries ++ new) / 64)) entries new behind ∙ ap (λ k. drop k new) place);
      levels =
          λ i inside. subst (λ k. IsLevelFor (entries ++ new) k i (level_of map i)) (sym g) (levels i (omega arith));
    }

-- a map with new entries that fill no block
pub buffered : (held map : Held) (entries new : List Entry) →
    IsCutOf held entries → (held.accepted + length new) / 64 ≤ held.accepted / 64
    → held.accepted + length new < 64 * 2 ^ length held.levels → map.accepted ≡ held.accepted + length new →
    map.buffer ≡ held.buffer ++ new → map.levels ≡ held.levels → IsCutOf map (entries ++ new)
buffered held map entries new cut none room accepted buffer levels =
    let n = length entries in
    let all : length (entries ++ new)
    ≡ held.accepted + length new = omega (arith, length-append entries new, cut.accepted) in
    let rest = div-add-mod' held.accepted 64 in
    let below = mod_below held.accepted 64 (omega arith) in
    let rest' = div-add-mod' (held.accepted + length new) 64 in
    let below' = mod_below (held.accepted + length new) 64 (omega arith) in
    let f : length (entries ++ new) / 64 ≡ n / 64 = ap (λ k. k / 64) all
    ∙ omega arith ∙ ap (λ k. k / 64) cut.accepted in
    let inside : 64 * (n / 64) ≤ n = omega (arith, div-add-mod' n 64) in
    let count = ap (λ (l : List (Option (List Entry))). length l) levels in
    record {
      accepted = accepted ∙ sym all;
      fits = omega (arith, ap (λ k. 64 * 2 ^ k) count);
      buffer = buffer ∙ ap (λ list. list ++ new) cut.buffer
          ∙ sym (ap (λ k. drop (64 * k) (entries ++ new)) f ∙ drop-append-le (64 * (n / 64)) entries new inside);
      levels = λ i at. subst (λ k. IsLevelFor (entries ++ new) k i (level_of map i)) (sym f)
          (subst (IsLevelFor (entries ++ new) (n / 64) i) (sym (ap (λ l. slice_index_or l i None) levels))
          (stays i (level_of held i) (cut.levels i (omega arith)) inside));
    }
  where
    stays : (i : ℕ) (level : Option (List Entry)) → IsLevelFor entries (length entries / 64) i level →
        64 * (length entries / 64) ≤ length entries → IsLevelFor (entries ++ new) (length entries / 64) i level
    stays i None clear inside = clear
    stays i (Some level) (set, last) inside =
        let f = length entries / 64 in (
          set,
          subst (λ list. IsLastOfEach (eqb (f / 2 ^ (i + 1)) 0) list level)
              (sym (block-before entries new f i (omega (arith, from_bit-le i f)))) last,
        )

-- the same by how the maps are kept
pub buffered-kept : (inside held : Held) (new buffer : List Entry) (entries : List Entry) →
    inside ≡ held → length inside.levels ≤ 26 → held.accepted + length new ≤ capacity_of held
    → (inside.accepted + length new) / 64 ≤ inside.accepted / 64 → buffer ≡ inside.buffer ++ new → IsCutOf held entries
    → IsCutOf
    (record { accepted = inside.accepted + length new; buffer = buffer; levels = inside.levels }) (entries ++ new)
buffered-kept inside held new buffer entries same few room none added cut =
    let accepted = ap (λ (h : Held). h.accepted) same in
    let flush = ap (λ k. k / 64) accepted in
    let flush' = ap (λ k. (k + length new) / 64) accepted in
    buffered held (record { accepted = inside.accepted + length new; buffer = buffer; levels = inside.levels })
    entries new cut (omega arith) (room_is inside held (length new) same few room)
    (omega arith) (added ∙ ap (λ (h : Held). h.buffer ++ new) same) (ap (λ (h : Held). h.levels) same)
