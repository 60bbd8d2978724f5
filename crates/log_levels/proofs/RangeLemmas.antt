-- Pairs of a range that are written one behind the other.
use Rattle.std.proofs.Common.{◌≡◌, ℕ, ◌+◌, ◌<◌, ◌≤◌, min, List, [], ◌∷◌, ◌++◌, length, take}
use Rattle.std.proofs.Common.{drop, get_or, slice_set, refl, sym, ap, ◌∙◌, arith, length-drop}
use Rattle.std.proofs.lemmas.List.{take_more, take_more_set, drop-set-lt, drop_more, length-set}

-- the first pairs are written, so many; what is behind them is as it was, and these are left
pub record IsWritten (pairs left now old : List (ℕ × ℕ)) (count : ℕ) : Type 0 where
  pub same_room : length now ≡ length old
  pub counted : count ≤ length pairs
  pub fits : count ≤ length old
  pub written : take count now ≡ take count pairs
  pub behind : drop count now ≡ drop count old
  pub left_is : drop count pairs ≡ left

-- at the start none is
pub written-none : (pairs now : List (ℕ × ℕ)) → IsWritten pairs pairs now now 0
written-none pairs now = record {
  same_room = refl;
  counted = omega arith;
  fits = omega arith;
  written = refl;
  behind = refl;
  left_is = refl;
}

drop-one : (pairs : List (ℕ × ℕ)) (n : ℕ) (pair : ℕ × ℕ) (left : List (ℕ × ℕ)) →
    n < length pairs → drop n pairs ≡ pair ∷ left → (get_or pairs n pair ≡ pair) × (drop (n + 1) pairs ≡ left)
drop-one pairs n pair left inside is =
    let both : get_or pairs n pair ∷ drop (n + 1) pairs ≡ pair ∷ left = sym (drop_more pairs n pair inside) ∙ is in
    (ap (λ (l : List (ℕ × ℕ)). get_or l 0 pair) both, ap (λ (l : List (ℕ × ℕ)). drop 1 l) both)

pub written-more : (pairs left later now old : List (ℕ × ℕ)) (count : ℕ) (pair : ℕ × ℕ) →
    IsWritten pairs left now old count → count < length now → left ≡ pair ∷ later
    → IsWritten pairs later (slice_set now count pair) old (count + 1)
written-more pairs left later now old count pair before room next =
    let inside : count < length pairs =
    omega (arith, length-drop count pairs, ap (λ (l : List (ℕ × ℕ)). length l) (before.left_is ∙ next)) in
    let (first, rest) = drop-one pairs count pair later inside (before.left_is ∙ next) in
    record {
      same_room = length-set now count pair ∙ before.same_room;
      counted = omega arith;
      fits = omega (arith, before.same_room);
      written = take_more_set now count pair room ∙ ap (λ (l : List (ℕ × ℕ)). l ++ pair ∷ []) before.written
          ∙ ap (λ (p : ℕ × ℕ). take count pairs ++ p ∷ []) (sym first) ∙ sym (take_more pairs count pair inside);
      behind = drop-set-lt (count + 1) now count pair (omega arith)
          ∙ (drop-one now count (get_or old count pair) (drop (count + 1) old) room
          (before.behind ∙ drop_more old count pair (omega (arith, before.same_room)))).1;
      left_is = rest;
    }

-- at the end either the room is full, or no pair is left
pub written-full : (pairs left now old : List (ℕ × ℕ)) (count : ℕ) →
    IsWritten pairs left now old count → length now ≤ count → count ≡ min (length old) (length pairs)
written-full pairs left now old count done full = omega (arith, done.same_room, done.counted, done.fits)

pub written-out : (pairs left now old : List (ℕ × ℕ)) (count : ℕ) →
    IsWritten pairs left now old count → left ≡ [] → count ≡ min (length old) (length pairs)
written-out pairs left now old count done none =
    omega (
      arith,
      done.counted,
      done.fits,
      length-drop count pairs,
      ap (λ (l : List (ℕ × ℕ)). length l) (done.left_is ∙ none),
    )
