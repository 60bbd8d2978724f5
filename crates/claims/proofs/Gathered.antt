-- One seat that has taken in others: what it drew is what they drew.
use Rattle.std.proofs.Common.{◌≡◌, ◌==◌, if◌then◌else◌, Bool, All, Some, ℕ, ◌+◌, ◌<◌, ◌≤◌, List, [], ◌∷◌, ◌++◌}
use Rattle.std.proofs.Common.{length, slice_index, min, sum_by, ap, refl, ◌∙◌, subst, arith, length-append}
use mathlib.Core.Option.{some}
use lib.ListN.{get_elem?}
use Rattle.std.proofs.lemmas.List.{get_or_default}
use Rattle.std.proofs.lemmas.List.Elements.{All-pop}
use Rattle.std.proofs.lemmas.List.Sums.{sum_by-append, sum_by_push}
use Rattle.atomic_table.specs.Table.{Final, Seen}
use Rattle.claims.specs.declared.views.View.{View}
use Rattle.claims.specs.declared.views.Plan.{Plan}
use Rattle.claims.specs.Claims.{Drawn, Origin, times, once_below, ended_count}
use Rattle.claims.specs.Views.{AreClaimed, joined}
use Rattle.claims.proofs.Steps.{closes-once, closes-drawn, closes-word}
use Rattle.claims.proofs.Totals.{place_of}

-- the view of a seat, as callers see the seat
pub record IsViewOf (v : View) (seat : Drawn) : Type 0 where
  pub one : v.workers ≡ 1
  pub drawn : v.drawn ≡ seat.drawn
  pub mark : v.ended ≡ (if seat.ended then 1 else 0)

-- of all seats those that aren't left have given what they drew to one view
pub record HasGathered (all left : List Drawn) (v : View) : Type 0 where
  pub some : 1 ≤ v.workers
  pub workers : v.workers + length left ≡ length all
  pub once : (x : ℕ) →
      times x v.drawn + sum_by (λ seat. times x seat.drawn) left ≡ sum_by (λ seat. times x seat.drawn) all
  pub drawn : length v.drawn + sum_by (λ seat. length seat.drawn) left ≡ sum_by (λ seat. length seat.drawn) all
  pub marks : v.ended + ended_count left ≡ ended_count all

-- a list whose last element is taken
taken : (f : Drawn → ℕ) (all left : List Drawn) (last : Drawn) →
    all ≡ left ++ last ∷ [] → sum_by f all ≡ sum_by f left + f last
taken f all left last is = ap (sum_by f) is ∙ sum_by_push f left last

shorter : (all left : List Drawn) (last : Drawn) → all ≡ left ++ last ∷ [] → length all ≡ length left + 1
shorter all left last is = ap (λ (l : List Drawn). length l) is ∙ length-append left (last ∷ [])

pub gathers_first : (all left : List Drawn) (last : Drawn) (v : View) →
    all ≡ left ++ last ∷ [] → IsViewOf v last → HasGathered all left v
gathers_first all left last v is view = record {
  some = omega (arith, view.one);
  workers = omega (arith, view.one, shorter all left last is);
  once = λ x. omega (arith, taken (λ seat. times x seat.drawn) all left last is, ap (times x) view.drawn);
  drawn = omega (arith, taken (λ seat. length seat.drawn) all left last is, ap (λ (l : List ℕ). length l) view.drawn);
  marks = omega (arith, taken (λ seat. if seat.ended then 1 else 0) all left last is, view.mark);
}

pub gathers_more : (all left rest : List Drawn) (other : Drawn) (v w : View) →
    HasGathered all left v → left ≡ rest ++ other ∷ [] → IsViewOf w other →
    HasGathered all rest (joined v w)
gathers_more all left rest other v w so_far is view = record {
  some = omega (arith, so_far.some);
  workers = omega (arith, view.one, so_far.workers, shorter left rest other is);
  once = λ x. omega (
    arith,
    so_far.once x,
    taken (λ seat. times x seat.drawn) left rest other is,
    ap (times x) view.drawn,
    sum_by-append (λ n. if n == x then 1 else 0) v.drawn w.drawn,
  );
  drawn =
      omega (
        arith,
        so_far.drawn,
        taken (λ seat. length seat.drawn) left rest other is,
        ap (λ (l : List ℕ). length l) view.drawn,
        length-append v.drawn w.drawn,
      );
  marks = omega (arith, so_far.marks, taken (λ seat. if seat.ended then 1 else 0) left rest other is, view.mark);
}

-- with no seat left, it has all
nothing_left : (f : Drawn → ℕ) (left : List Drawn) → length left ≡ 0 → sum_by f left ≡ 0
nothing_left f [] none = refl
nothing_left f (x ∷ xs) none = absurd (omega arith)

pub gathered-once : (all left : List Drawn) (v : View) →
    HasGathered all left v → length left ≡ 0 → (x : ℕ) → sum_by (λ seat. times x seat.drawn) all ≡ times x v.drawn
gathered-once all left v gathered none x =
    omega (arith, gathered.once x, nothing_left (λ seat. times x seat.drawn) left none)

pub gathered-drawn : (all left : List Drawn) (v : View) →
    HasGathered all left v → length left ≡ 0 → sum_by (λ seat. length seat.drawn) all ≡ length v.drawn
gathered-drawn all left v gathered none =
    omega (arith, gathered.drawn, nothing_left (λ seat. length seat.drawn) left none)

pub gathered-marks : (all left : List Drawn) (v : View) →
    HasGathered all left v → length left ≡ 0 → ended_count all ≡ v.ended
gathered-marks all left v gathered none =
    omega (arith, gathered.marks, nothing_left (λ seat. if seat.ended then 1 else 0) left none)

-- a word that was read of a list of words
pub word_of : (words : List ℕ) (word : ℕ) → get_elem? words 0 ≡ some word → slice_index words 0 ≡ word
word_of words word read = let (inside, is) = place_of words 0 word read in get_or_default words 0 0 word inside ∙ is

-- the seat that is taken, and those left, are of the claims that all are of
pub own_taken : (origin : Origin) (all left : List Drawn) (last : Drawn) →
    all ≡ left ++ last ∷ [] → All (λ seat. seat.origin ≡ origin) all →
    All (λ seat. seat.origin ≡ origin) left × (last.origin ≡ origin)
own_taken origin all left last is own = All-pop (λ seat. seat.origin ≡ origin) all left (Some last) is own

-- the view of the seat that is taken, from how callers see it
pub IsViewOf-from_inside : (origin : Origin) (v : View) (ended : Bool) (seat : Drawn) →
    record { origin = origin; drawn = v.drawn; ended = ended } ≡ seat → v.workers ≡ 1 →
    v.ended ≡ (if ended then 1 else 0) → IsViewOf v seat
IsViewOf-from_inside origin v ended seat seen one mark = record {
  one = one;
  drawn = ap (λ (d : Drawn). d.drawn) seen;
  mark = mark ∙ ap (λ (d : Drawn). if d.ended then 1 else 0) seen;
}

-- what is known once the claim word is closed with the view of all workers
pub record IsClosed (pieces word : ℕ) (v : View) : Type 0 where
  pub once : (x : ℕ) → times x v.drawn ≡ once_below x (min word pieces)
  pub drawn : length v.drawn ≡ min word pieces
  pub marks : word ≡ min word pieces + v.ended

pub IsClosed-from_final : (plan : Plan) (id : ℕ) (v : View) (words : List ℕ) (slots : List (Unit {0})) (word : ℕ) →
    Final (Seen (AreClaimed plan) id v) words slots →
    get_elem? words 0 ≡ some word → v.workers ≡ plan.workers → IsClosed plan.pieces word v
IsClosed-from_final plan id v words slots word final read all =
    let s = final.0 in
    let same : slice_index s.words 0 ≡ word = ap (λ (ws : List ℕ). slice_index ws 0) final.2
    ∙ word_of words word read in
    subst (λ n. IsClosed plan.pieces n v) same (record {
      once = closes-once plan s id v final.1.0 final.1.1 all;
      drawn = closes-drawn plan s id v final.1.0 final.1.1 all;
      marks = closes-word plan s id v final.1.0 final.1.1 all;
    })

-- once some seat has ended, no number is left
pub all_drawn-from_ended : (word pieces ended : ℕ) →
    word ≡ min word pieces + ended → 0 < ended → min word pieces ≡ pieces
all_drawn-from_ended word pieces ended is some_ended = omega arith
