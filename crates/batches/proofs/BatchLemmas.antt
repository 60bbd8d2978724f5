-- Updates cut into batches.
use Rattle.std.proofs.Common.{◌≡◌, ◌≤◌, ◌<◌, ◌+◌, ◌-◌, ◌++◌, ◌∷◌, [], ℕ, List, length, take, drop}
use Rattle.std.proofs.Common.{min, zero, suc, ap, sym, ◌∙◌, arith, append_assoc, length-append}
use Rattle.std.proofs.lemmas.List.{take-append-drop, take_min, length-drop}
use mathlib.Core.List.{IsPrefix}
use Rattle.log_levels.specs.declared.update.Update.{Update}
use Rattle.log_levels.specs.Accepted.{entries_of, entries_from}
use Rattle.log_levels.specs.Maps.{map_after}
use Rattle.log_levels.proofs.UpdateLemmas.{entries_of-append}
use Rattle.batches.specs.Batches.{AreBatches, AreFull}

pub full_more : (size : ℕ) (batches : List (List Update)) (batch : List Update) →
    AreFull size batches → length batch ≡ size → AreFull size (batches ++ batch ∷ [])
full_more size [] batch full same = (same, tt)
full_more size (b ∷ batches) batch full same = (full.0, full_more size batches batch full.1 same)

-- behind full batches one more may be shorter
pub batches_more : (size : ℕ) (batches : List (List Update)) (batch : List Update) →
    AreFull size batches → 0 < length batch → length batch ≤ size →
    AreBatches size (batches ++ batch ∷ [])
batches_more size [] batch full some few = (some, few)
batches_more size (b ∷ []) batch full some few = (full.0, (some, few))
batches_more size (b ∷ c ∷ batches) batch full some few =
    (full.0, batches_more size (c ∷ batches) batch full.1 some few)

-- entries of fewer updates are fewer
pub fewer_entries : (xs ys : List Update) → length (entries_of xs) ≤ length (entries_of (xs ++ ys))
fewer_entries xs ys =
    omega (
      arith,
      ap (λ l. length l) (entries_of-append xs ys),
      length-append (entries_of xs) (entries_from (map_after xs) ys),
    )

-- the first updates of a list are how it begins
pub first_begin : (n : ℕ) (xs ys : List Update) → ys ≡ take n xs → IsPrefix ys xs
first_begin n xs ys first = (drop n xs, ap (λ (l : List Update). l ++ drop n xs) first ∙ take-append-drop n xs)

-- a batch, between the updates before it and those behind it
pub around : (n m : ℕ) (xs : List Update) → (take n xs ++ take m (drop n xs)) ++ drop m (drop n xs) ≡ xs
around n m xs =
    append_assoc (take n xs) (take m (drop n xs)) (drop m (drop n xs))
    ∙ (ap (λ (l : List Update). take n xs ++ l) (take-append-drop m (drop n xs)) ∙ take-append-drop n xs)

take-add : (n m : ℕ) (xs : List Update) → take (n + m) xs ≡ take n xs ++ take m (drop n xs)
take-add zero m xs = let none : 0 + m ≡ m = omega arith in ap (λ (k : ℕ). take k xs) none
take-add (suc n) zero [] = let same : suc n + 0 ≡ suc n = omega arith in ap (λ (k : ℕ). take k []) same
take-add (suc n) (suc m) [] = let same : suc n + suc m ≡ suc (n + suc m) = omega arith in ap (λ (k : ℕ). take k []) same
take-add (suc n) m (x ∷ xs) =
    let more : suc n + m ≡ suc (n + m) = omega arith in
    ap (λ (k : ℕ). take k (x ∷ xs)) more ∙ ap (λ (l : List Update). x ∷ l) (take-add n m xs)

-- the first updates with one batch more, which the end may cut off
pub batch_more : (from size to : ℕ) (xs : List Update) → from ≤ length xs → to ≡ min (length xs) (from + size) →
    take (from + size) xs ≡ take from xs ++ take (to - from) (drop from xs)
batch_more from size to xs within to_is =
    take-add from size xs ∙ ap (λ (l : List Update). take from xs ++ l)
    (sym (take_min size (drop from xs))
    ∙ ap (λ (n : ℕ). take n (drop from xs)) (omega (arith, length-drop from xs, within, to_is)))
