-- The pieces that were put at the places of their numbers.
use Rattle.std.proofs.Common.{Bool, true, Ok, Some, min, ◌≡◌, ◌⊎◌, ◌==◌, ℕ, ◌+◌, ◌<◌, List, [], ◌∷◌, ◌++◌, length, set}
use Rattle.std.proofs.Common.{All, Vec, Global, if◌then◌else◌, sum_by, inl, inr, refl, sym, ap, subst, arith, ◌∙◌}
use Rattle.std.specs.Prelude.{slice_index_or, IfOk}
use Rattle.std.proofs.lemmas.Bool.{cases_eq, cases_lt, ne_eqb}
use Rattle.std.proofs.lemmas.List.{get_or-set_same, get_or-set_other, map-append}
use Rattle.std.proofs.lemmas.List.Elements.{All-pop}
use Rattle.std.proofs.lemmas.List.Sums.{sum_by_push}
use Rattle.exact_cross.specs.declared.segment.Segment.{Segment}
use Rattle.piece_join.specs.declared.work.Work.{Work}
use Rattle.claims.specs.Claims.{Origin, Drawn, times, once_below, ended_count}
use Rattle.claims.proofs.CallerLemmas.{once-yes, all_drawn-from_ended}
use Rattle.piece_join.specs.declared.worker.Worked.{Worked}
use Rattle.piece_join.specs.Pieces.{Pieced, IsPart}
use Rattle.piece_join.specs.Worked.{IsWorked, IsPlaced, ArePlaced, numbers_of}

-- what is put at its place stands there, and the others stand where they did
pub IsPlaced-here : (work : Work) (parts : List (Vec Segment Global)) (n i : ℕ) (part : Vec Segment Global) →
    n < length parts → i ≡ n → IsPart work n part.items →
    IsPlaced work (set parts n part) i
IsPlaced-here work parts n i part inside same is = λ d.
    subst (λ (v : Vec Segment Global). IsPart work i v.items)
    (sym (ap (λ k. slice_index_or (set parts n part) k d) same ∙ get_or-set_same parts n part d inside))
    (subst (λ (k : ℕ). IsPart work k part.items) (sym same) is)

pub IsPlaced-kept : (work : Work) (parts : List (Vec Segment Global)) (n i : ℕ) (part : Vec Segment Global) →
    n < length parts → IsPart work n part.items →
    IsPlaced work parts i → IsPlaced work (set parts n part) i
IsPlaced-kept work parts n i part inside is before = elim (cases_eq i n) [
  | inl same ↦ IsPlaced-here work parts n i part inside same is
  | inr other ↦ λ d. subst
      (λ (v : Vec Segment Global). IsPart work i v.items) (sym (get_or-set_other parts n i part d other)) (before d)
]

-- the piece that is taken, and those left, are of the work that all are of
pub of_taken : (work : Work) (left rest : List Pieced) (piece : Pieced) →
    left ≡ rest ++ piece ∷ [] → All (λ p. p.of ≡ work) left → All (λ p. p.of ≡ work) rest × (piece.of ≡ work)
of_taken work left rest piece is all = All-pop (λ (p : Pieced). p.of ≡ work) left rest (Some piece) is all

pub fits_taken : (count : ℕ) (left rest : List Pieced) (piece : Pieced) →
    left ≡ rest ++ piece ∷ [] → All (λ p. length p.of.cuts.now < count) left →
    All (λ p. length p.of.cuts.now < count) rest × (length piece.of.cuts.now < count)
fits_taken count left rest piece is all =
    All-pop (λ (p : Pieced). length p.of.cuts.now < count) left rest (Some piece) is all

-- once or never
abbrev one_time : ℕ → ℕ → ℕ
one_time i n = if n == i then 1 else 0

-- how often a number stands among those of pieces, one of which is taken
times-taken : (i : ℕ) (left rest : List Pieced) (piece : Pieced) →
    left ≡ rest ++ piece ∷ [] → times i (numbers_of left) ≡ times i (numbers_of rest) + one_time i piece.number
times-taken i left rest piece is =
    ap (λ (l : List Pieced). times i (numbers_of l)) is
    ∙ ap (times i) (map-append (λ (p : Pieced). p.number) rest (piece ∷ [])) ∙
    sum_by_push (one_time i) (numbers_of rest) piece.number

pub times-none : (i : ℕ) (pieces : List Pieced) → length pieces ≡ 0 → times i (numbers_of pieces) ≡ 0
times-none i [] none = refl
times-none i (piece ∷ pieces) none = absurd (omega arith)

no_time : (i n : ℕ) → (n ≡ i → ⊥) → one_time i n ≡ 0
no_time i n other = let zero_or_one : Bool → ℕ = λ b. if b then 1 else 0 in ap zero_or_one (ne_eqb n i other)

-- of pieces that are left or placed one is placed more
pub one_placed : (work : Work) (parts : List (Vec Segment Global))
    (left rest : List Pieced) (piece : Pieced) (part : Vec Segment Global) (n i : ℕ) →
    left ≡ rest ++ piece ∷ [] → n ≡ piece.number → n < length parts → IsPart work n part.items →
    (0 < times i (numbers_of left))
    ⊎ IsPlaced work parts i → (0 < times i (numbers_of rest)) ⊎ IsPlaced work (set parts n part) i
one_placed work parts left rest piece part n i taken number inside is so_far = elim so_far [
  | inr before ↦ inr (IsPlaced-kept work parts n i part inside is before)
  | inl waits ↦ elim (cases_eq piece.number i) [
    | inl same ↦ inr (IsPlaced-here work parts n i part inside (sym (number ∙ same)) is)
    | inr other ↦ inl (omega (arith, waits, times-taken i left rest piece taken, no_time i piece.number other))
  ]
]

-- a worker that did all that it drew: its seat and the pieces
pub record IsDone (work : Work) (origin : Origin) (seat : Drawn) (pieces : List Pieced) : Type 0 where
  pub own : seat.origin ≡ origin
  pub ended : seat.ended ≡ true
  pub drawn : numbers_of pieces ≡ seat.drawn
  pub same : All (λ piece. piece.of ≡ work) pieces

pub IsDone-from_worked : (work : Work) (origin : Origin) (worked : Worked) (pieces : Vec Pieced Global) →
    worked.pieces ≡ Ok pieces → IsWorked work origin worked →
    IsDone work origin worked.seat pieces.items
IsDone-from_worked work origin worked pieces is left = record {
  own = left.own;
  ended = subst (λ r. IfOk r (λ pieces. worked.seat.ended ≡ true)) is left.ended;
  drawn = subst (λ r. IfOk r (λ pieces. numbers_of pieces.items ≡ worked.seat.drawn)) is left.drawn;
  same = subst (λ r. IfOk r (λ pieces. All (λ piece. piece.of ≡ work) pieces.items)) is left.same;
}

-- with one seat more, the pieces of all numbers drawn are placed
pub one_done : (work : Work) (origin : Origin) (before after : List (Vec Segment Global))
    (seats : List Drawn) (seat : Drawn) (pieces : List Pieced) → IsDone work origin seat pieces →
    ((i : ℕ) → IsPlaced work before i → IsPlaced work after i) →
    ((i : ℕ) → 0 < times i (numbers_of pieces) → IsPlaced work after i) →
    ((i : ℕ) → 0 < sum_by (λ s. times i s.drawn) seats → IsPlaced work before i) →
    (i : ℕ) → 0 < sum_by (λ s. times i s.drawn) (seats ++ seat ∷ []) → IsPlaced work after i
one_done work origin before after seats seat pieces done kept placed put i some =
    let count = sum_by_push (λ (s : Drawn). times i s.drawn) seats seat in
    let own = ap (times i) done.drawn in
    elim (cases_lt 0 (times i seat.drawn)) [
      | inl drawn ↦ placed i (omega (arith, own, drawn))
      | inr left_out ↦ kept i (put i (omega (arith, count, some, left_out)))
    ]

-- a seat more that has ended
pub ended_count-push : (seats : List Drawn) (seat : Drawn) →
    seat.ended ≡ true → ended_count (seats ++ seat ∷ []) ≡ ended_count seats + 1
ended_count-push seats seat ended =
    let zero_or_one : Bool → ℕ = λ b. if b then 1 else 0 in
    omega (arith, sum_by_push (λ (s : Drawn). zero_or_one s.ended) seats seat, ap zero_or_one ended)

-- once all seats have ended, each number was drawn, and so each piece is placed
pub all_placed : (work : Work) (parts : List (Vec Segment Global)) (seats : List Drawn) (word pieces : ℕ) →
    0 < length seats → pieces ≡ length work.cuts.now + 1 →
    length parts ≡ length work.cuts.now + 1 → ended_count seats ≡ length seats →
    ((x : ℕ) → sum_by (λ seat. times x seat.drawn) seats ≡ once_below x (min word pieces)) →
    word ≡ min word pieces + ended_count seats →
    ((i : ℕ) → 0 < sum_by (λ seat. times i seat.drawn) seats → IsPlaced work parts i) → ArePlaced work parts
all_placed work parts seats word pieces some all count ended once closed put = record {
  count = count;
  each = λ i inside.
      let bound = all_drawn-from_ended word pieces (ended_count seats) closed (omega arith) in
      put i (omega (arith, once i, once-yes i (min word pieces) (omega arith)));
}
