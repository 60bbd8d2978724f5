-- A script is too short to fill the greatest map.
--
-- Main results: updates have at most two entries each (`few_entries`),
-- since a sweep has one for each key that it takes away,
-- and each of those was put before; and a script has no more lines than its text has bytes (`few_lines`).
use Rattle.std.proofs.Common.{◌≡◌, ℕ, ◌+◌, ◌*◌, ◌-◌, ◌≤◌, ◌==◌, Bool, true, false, not, cond}
use Rattle.std.proofs.Common.{List, [], ◌∷◌, length, map, Option, Some, None, Ok, refl, sym}
use Rattle.std.proofs.Common.{ap, subst, arith, nat_cmp, Less, Equal, Greater, length-append}
use Rattle.std.proofs.lemmas.List.{length-map}
use Rattle.std.proofs.lemmas.List.Filters.{length-filter_both}
use Rattle.std.specs.List.{cons_option, filter_map, fold}
use Rattle.std.specs.Ordering.{match_ordering}
use Rattle.std.specs.declared.cmp.Ordering.{Ordering}
use Rattle.std.specs.Map.{remove_entry}
use Rattle.std.specs.BTreeMap.{insert_entry, is_at}
use Rattle.log_levels.specs.declared.update.Update.{Update}
use Rattle.log_levels.specs.declared.update.Update.TheVariants.{Put, Del, Sweep}
use Rattle.log_levels.specs.Maps.{is_between, pairs_between, updated}
use Rattle.log_levels.specs.Accepted.{del_entry, entries_for, entries_from, entries_of, keys_between}
use Rattle.log_levels.specs.Shapes.{Held, capacity_of, capacity_with}
use Rattle.options.specs.declared.map.TheConstants.{MAX_LEVELS}
use Rattle.pgm_script.specs.declared.script.ScriptKind.{ScriptKind}
use Rattle.pgm_script.specs.declared.script.ScriptLine.{ScriptLine}
use Rattle.pgm_script.specs.Words.{lines_of, put_first}
use Rattle.pgm_script.specs.Scripts.{ReadsAs, line_reading, script_line}
use Rattle.program.specs.declared.inputs.TheConstants.{SCRIPT_LIMIT}
use Rattle.program.specs.Inputs.{update_in, updates_in}

-- ---- entries of updates

-- a put makes a map longer by one pair at most
insert_more : (pairs : List (ℕ × ℕ)) (key value : ℕ) → length (insert_entry nat_cmp pairs key value) ≤ length pairs + 1
insert_more [] key value = omega arith
insert_more (pair ∷ pairs) key value = by (nat_cmp key pair.0) (insert_more pairs key value)
  where
    by : (order : Ordering) → length (insert_entry nat_cmp pairs key value) ≤ length pairs + 1 →
        length (match_ordering order
        ((key, value) ∷ pair ∷ pairs) ((pair.0, value) ∷ pairs) (pair ∷ insert_entry nat_cmp pairs key value))
        ≤ length (pair ∷ pairs) + 1
    by Less few = omega arith
    by Equal few = omega arith
    by Greater few = omega arith

-- and a deletion makes it no longer
remove_less : (test : ℕ → Bool) (pairs : List (ℕ × ℕ)) → length (remove_entry test pairs) ≤ length pairs
remove_less test [] = omega arith
remove_less test (pair ∷ pairs) = by (test pair.0) (remove_less test pairs)
  where
    by : (b : Bool) → length (remove_entry test pairs) ≤ length pairs →
        length (cond b pairs (pair ∷ remove_entry test pairs)) ≤ length (pair ∷ pairs)
    by true few = omega arith
    by false few = omega arith

-- an entry of a sweep is a pair less
swept_away : (pairs : List (ℕ × ℕ)) (low high : ℕ) →
    length (map del_entry (keys_between pairs low high)) + length (updated pairs (Sweep low high)) ≡ length pairs
swept_away pairs low high =
    let both = length-filter_both (λ (pair : ℕ × ℕ). is_between low high pair.0)
    (λ (pair : ℕ × ℕ). not (is_between low high pair.0)) (λ pair. refl) pairs in
    let keys = length-map (pairs_between pairs low high) (λ (pair : ℕ × ℕ). pair.0) in
    let entries = length-map (keys_between pairs low high) del_entry in
    omega (arith, both, keys, entries)

one_update : (pairs : List (ℕ × ℕ)) (update : Update) →
    length (entries_for pairs update) + length (updated pairs update) ≤ length pairs + 2
one_update pairs (Put key value) = omega (arith, insert_more pairs key value)
one_update pairs (Del key) = omega (arith, remove_less (is_at (nat_cmp key)) pairs)
one_update pairs (Sweep low high) = omega (arith, swept_away pairs low high)

-- each update adds two at most to the entries so far and the pairs that are there
entries_and_pairs : (pairs : List (ℕ × ℕ)) (updates : List Update) →
    length (entries_from pairs updates) + length (fold updated pairs updates) ≤ length pairs + 2 * length updates
unfolding entries_from
entries_and_pairs pairs [] = omega arith
entries_and_pairs pairs (update ∷ updates) =
    let one = one_update pairs update in
    let later = entries_and_pairs (updated pairs update) updates in
    let parts = length-append (entries_for pairs update) (entries_from (updated pairs update) updates) in
    omega (arith, one, later, parts)

pub few_entries : (updates : List Update) → length (entries_of updates) ≤ 2 * length updates
few_entries updates = omega (arith, entries_and_pairs [] updates)

-- updates no more than a script's bytes have room in a map of as many levels as there can be
pub room_for_all : (held : Held) (updates : List Update) →
    length held.levels ≡ MAX_LEVELS → length updates ≤ SCRIPT_LIMIT →
    length (entries_of updates) ≤ capacity_of held
room_for_all held updates levels few =
    subst (λ (n : ℕ). length (entries_of updates) ≤ capacity_with n) (sym levels) (omega (arith, few_entries updates))

-- ---- lines of a script

filtered_less : {X Y : Type 0} (h : X → Option Y) (xs : List X) → length (filter_map h xs) ≤ length xs
filtered_less h [] = omega arith
filtered_less {X} {Y} h (x ∷ xs) = by (h x) (filtered_less h xs)
  where
    by : (o : Option Y) →
        length (filter_map h xs) ≤ length xs → length (cons_option o (filter_map h xs)) ≤ length (x ∷ xs)
    by None few = omega arith
    by (Some y) few = omega arith

-- a line has one update at most
pub few_updates : (lines : List ScriptLine) → length (updates_in lines) ≤ length lines
few_updates lines = filtered_less update_in lines

put_first_more : (byte : ℕ) (parts : List (List ℕ)) → length (put_first byte parts) ≤ length parts + 1
put_first_more byte [] = omega arith
put_first_more byte (part ∷ parts) = omega arith

-- each line has a byte of the text: the one that ends it, or its first
cut_less : (text : List ℕ) → length (lines_of text) ≤ length text
cut_less [] = omega arith
cut_less (byte ∷ bytes) = by (byte == 10) (cut_less bytes)
  where
    by : (b : Bool) → length (lines_of bytes) ≤ length bytes →
        length (cond b ([] ∷ lines_of bytes) (put_first byte (lines_of bytes))) ≤ length (byte ∷ bytes)
    by true few = omega arith
    by false few = omega (arith, put_first_more byte (lines_of bytes))

pub few_lines : (kind : ScriptKind) (text : List ℕ) (lines : List ScriptLine) →
    ReadsAs kind text (Ok lines) → length lines ≤ length text
few_lines kind text lines reads =
    let made = ap (λ (l : List ScriptLine). length l) reads.1 in
    let less = filtered_less (λ line. script_line (line_reading kind line)) (lines_of text) in
    omega (arith, made, less, cut_less text)
