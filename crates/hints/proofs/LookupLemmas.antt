-- A search from where hints lead reads by how far that is from
-- the answer; and places that are written one after the other.
use Rattle.std.proofs.Common.{◌≡◌, ◌≢◌, ◌⊎◌, ℕ, ◌+◌, ◌-◌, ◌*◌, ◌^◌, ◌<◌, ◌≤◌, List, length, min}
use Rattle.std.proofs.Common.{slice_index, slice_set, inl, inr, ap, sym, subst, ◌∙◌, arith}
use Rattle.std.specs.Int.{abs_diff}
use Rattle.std.proofs.Math.Nat.{pow-le-pow_left, pow-suc, pow-zero, mul-le-mul_left, mul-le-mul_right}
use Rattle.std.proofs.lemmas.Nat.{pow-add, mul-le}
use Rattle.std.proofs.lemmas.Bool.{cases_lt}
use Rattle.std.proofs.lemmas.List.{get_or-set_same, get_or-set_other}
use Rattle.window_search.specs.Brackets.{IsBracket, ReadsNear, ReadsWithin}
use Rattle.window_search.specs.Searches.{lb, HalvesPlaces}
use Rattle.hints.specs.Lookups.{ArePositions, IsPosition, IsSameOutside, LeadsWithin, TakesEach}
use Rattle.hints.specs.Told.{IsTold}

pub reads_within : (from place far before after : ℕ) →
    ReadsNear from place before after → abs_diff from place ≤ far → ReadsWithin 8 far before after
reads_within from place far before after (t, taken, cost) near =
    let more : abs_diff from place + 1 ≤ far + 1 = omega arith in
    (t, taken, omega (arith, cost, pow-le-pow_left more 2))

-- whatever is told
pub worst_reads : (keys : List ℕ) (q from place before after : ℕ) →
    ReadsNear (min from (length keys)) place before after → IsBracket keys q place →
    ReadsWithin 8 (length keys) before after
worst_reads keys q from place before after cost bracket =
    reads_within (min from (length keys)) place (length keys) before after cost (omega (arith, bracket.within))

-- where the hints lead to within off
pub near_reads : (keys hints : List ℕ) (q n from place before after off : ℕ) →
    n ≡ length keys → IsTold hints n q from → from ≤ n → q < 2 ^ 64 →
    ReadsNear (min from (length keys)) place before after →
    place ≡ lb keys q → LeadsWithin hints keys off → ReadsWithin 8 off before after
near_reads keys hints q n from place before after off len told within fits cost found leads =
    let near = leads q from fits (subst (λ (m : ℕ). IsTold hints m q from) len told) in
    reads_within (min from (length keys)) place off before after cost (omega arith)

-- ---- a place is written

pub same_outside_set : (first lane x : ℕ) (before now : List ℕ) →
    first ≤ lane → IsSameOutside first lane before now → IsSameOutside first (lane + 1) before (slice_set now lane x)
same_outside_set first lane x before now from same =
    λ k outside. get_or-set_other now lane k x 0 (apart k outside) ∙ same k (outer k outside)
  where
    apart : (k : ℕ) → (k < first) ⊎ (lane + 1 ≤ k) → k ≢ lane
    apart k (inl low) = omega arith
    apart k (inr high) = omega arith

    outer : (k : ℕ) → (k < first) ⊎ (lane + 1 ≤ k) → (k < first) ⊎ (lane ≤ k)
    outer k (inl low) = inl low
    outer k (inr high) = inr (omega arith)

-- what holds of the places before, and of the one that is written
pub each_set : (P : ℕ → ℕ → Type 0) (places : List ℕ) (first lane place : ℕ) →
    lane < length places → ((k : ℕ) → first ≤ k → k < lane → P k (slice_index places k)) → P lane place →
    (k : ℕ) → first ≤ k → k < lane + 1 → P k (slice_index (slice_set places lane place) k)
each_set P places first lane place inside earlier here k from to = elim (cases_lt k lane) [
  | inl under ↦ subst (P k) (sym (get_or-set_other places lane k place 0 (omega arith))) (earlier k from under)
  | inr rest ↦
      let same : lane ≡ k = omega arith in
      subst (λ (j : ℕ). P j (slice_index (slice_set places lane place) j)) same
      (subst (P lane) (sym (get_or-set_same places lane place 0 inside)) here)
]

-- sixteen more are searched, in room that two loops write
pub positions_on : (keys questions room told found : List ℕ) (first end : ℕ) →
    ArePositions keys questions room first → IsSameOutside first end room told →
    IsSameOutside first end told found →
    ((k : ℕ) → first ≤ k → k < end → IsPosition keys (slice_index questions k) (slice_index found k)) →
    ArePositions keys questions found end
positions_on keys questions room told found first end earlier tells finds here k inside = elim (cases_lt k first) [
  | inl under ↦ subst (λ (p : ℕ). IsPosition keys (slice_index questions k) p)
      (sym (finds k (inl under) ∙ tells k (inl under))) (earlier k under)
  | inr rest ↦ here k rest inside
]

pub same_on : (begun room told found : List ℕ) (first end : ℕ) →
    first ≤ end → IsSameOutside 0 first begun room → IsSameOutside first end room told →
    IsSameOutside first end told found → IsSameOutside 0 end begun found
same_on begun room told found first end order same tells finds k (inl none) = absurd (omega arith)
same_on begun room told found first end order same tells finds k (inr past) =
    finds k (inr past) ∙ tells k (inr past) ∙ same k (inr (omega arith))

pub same_twice : (begun told nearer : List ℕ) (first end : ℕ) →
    IsSameOutside first end begun told → IsSameOutside first end told nearer → IsSameOutside first end begun nearer
same_twice begun told nearer first end one other k outside = other k outside ∙ one k outside

pub same_past : (begun room : List ℕ) (first end : ℕ) →
    first ≤ end → IsSameOutside 0 first begun room → IsSameOutside 0 end begun room
same_past begun room first end order same k (inl none) = absurd (omega arith)
same_past begun room first end order same k (inr past) = same k (inr (omega arith))

-- ---- steps

pub pow-two : (n : ℕ) → n ^ 2 ≡ n * n
pow-two n = pow-suc n 1 ∙ ap (λ m. m * n) (pow-suc n 0 ∙ ap (λ m. m * n) (pow-zero n) ∙ omega arith)

pub TakesEach-more : (most a b before between after : ℕ) →
    TakesEach most a before between → TakesEach most b between after → TakesEach most (a + b) before after
TakesEach-more most a b before between after (t, taken, bound) (u, later, other) = elim (cases_lt t u) [
  | inl less ↦
      let more : t ≤ u = omega arith in
      let scaled = mul-le-mul_left a more in
      (u, omega (arith, taken, later, scaled), other)
  | inr rest ↦
      let more : u ≤ t = omega arith in
      let scaled = mul-le-mul_left b more in
      (t, omega (arith, taken, later, scaled), bound)
]

-- those of more questions
pub TakesEach-on : (most first end before between after : ℕ) → first ≤ end →
    TakesEach most first before between → TakesEach most (end - first) between after → TakesEach most end before after
TakesEach-on most first end before between after order one other =
    let whole : first + (end - first) ≡ end = omega arith in
    subst (λ (n : ℕ). TakesEach most n before after) whole
    (TakesEach-more most first (end - first) before between after one other)

-- the same questions twice
pub TakesEach-both : (one two most count before between after : ℕ) → TakesEach one count before between →
    TakesEach two count between after → one * two ≤ most → TakesEach most count before after
TakesEach-both one two most count before between after (t, taken, bound) (u, later, other) enough =
    let product = mul-le _ _ _ _ bound other in
    let power = pow-add 2 t u in
    (t + u, omega (arith, taken, later), omega (arith, product, power, enough))

pub TakesEach-least : (most count before : ℕ) → 1 ≤ most → TakesEach most count before before
TakesEach-least most count before some = (0, omega arith, omega (arith, pow-zero 2))

-- of more questions that are asked
pub TakesEach-raise : (most count more before after : ℕ) →
    count ≤ more → TakesEach most count before after → TakesEach most more before after
TakesEach-raise most count more before after less (t, taken, bound) =
    let scaled = mul-le-mul_right t less in
    (t, omega (arith, taken, scaled), bound)

pub square_some : (far : ℕ) → 1 ≤ 16 * (far + 1) ^ 2
square_some far =
    let more : 1 ≤ far + 1 = omega arith in
    let square = mul-le _ _ _ _ more more in
    omega (arith, square, pow-two (far + 1))

-- two keys are read at most
pub TakesEach-two : (most before after : ℕ) → after ≤ before + 2 → 4 ≤ most → TakesEach most 1 before after
TakesEach-two most before after taken enough = (2, omega arith, omega (arith, enough))

pub TakesEach-halved : (places before between after : ℕ) →
    between ≤ before + 2 → HalvesPlaces between after places → TakesEach (8 * places) 1 before after
TakesEach-halved places before between after two (t, taken, bound) =
    let power = pow-add 2 2 t in
    (2 + t, omega (arith, taken), omega (arith, power, bound))

-- no key is read
pub reads_none : (far before : ℕ) → ReadsWithin 8 far before before
reads_none far before =
    let more : 1 ≤ far + 1 = omega arith in
    let square = mul-le _ _ _ _ more more in
    (0, omega arith, omega (arith, square, pow-two (far + 1), pow-zero 2))
