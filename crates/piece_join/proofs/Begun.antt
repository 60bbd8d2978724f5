-- A segmentation that is begun: one run more, and the last segments of a piece that it has met.
--
-- Main results: `IsBegun-push`, `IsBegun-append`, `IsBegun-front`. A run
-- that ends before its piece does is as long as a line can be in all
-- of the points too, so of a piece's segments only the last one may be another where the points go on.
use Rattle.std.proofs.Common.{◌≡◌, ℕ, zero, suc, ◌+◌, ◌*◌, ◌<◌, ◌≤◌, List, [], ◌∷◌, ◌++◌, length, take}
use Rattle.std.proofs.Common.{drop, slice_index_or, Result, Ok, Err, IfOk, refl, sym, ap, subst, arith, ◌∙◌}
use Rattle.std.proofs.lemmas.List.{map-append, take_more, take_all}
use Rattle.exact_cross.specs.declared.segment.Segment.{Segment}
use Rattle.exact_cross.specs.Points.{Points}
use Rattle.exact_cross.specs.Covers.{run_end, CutsInto, IsLongest}
use Rattle.exact_cross.specs.Segments.{starts_of, EachRun, IsSteepSegment}
use Rattle.exact_cross.specs.Cuts.{HasItsCut}
use Rattle.exact_cross.proofs.CallerLemmas.{CutsInto-rises, CutsInto-push, EachRun-push, run_end-push, starts_of-push}
use Rattle.exact_cross.specs.Segmentation.{IsSegmentation}
use Rattle.piece_join.specs.Joined.{IsBegun}

-- one run more
pub IsBegun-push : (p : Points) (eps from to at e : ℕ) (segments : List Segment) (last : Segment) →
    IsBegun p eps from to at segments → last.start ≡ at → at < e →
    IsLongest p eps to at e →
    IsSteepSegment p eps last e → HasItsCut p eps to last e → IsBegun p eps from to e (segments ++ last ∷ [])
IsBegun-push p eps from to at e segments last begun here some longest steep cut = record {
  greedy = rw (starts_of-push segments last, here)
      (CutsInto-push (IsLongest p eps to) (starts_of segments) from at e begun.greedy some longest);
  steep = EachRun-push (IsSteepSegment p eps) segments last e
      (subst (λ (n : ℕ). EachRun (IsSteepSegment p eps) n segments) (sym here) begun.steep) steep;
  cuts = EachRun-push (HasItsCut p eps to) segments last e
      (subst (λ (n : ℕ). EachRun (HasItsCut p eps to) n segments) (sym here) begun.cuts) cut;
}

-- runs behind others
run_end-append : (R : ℕ → ℕ → Type 0) (later others : List ℕ) (at to : ℕ) →
    CutsInto R at to others → run_end (later ++ others) to ≡ run_end later at
run_end-append R [] [] at to cuts = sym cuts
run_end-append R [] (other ∷ rest) at to cuts = cuts.0
run_end-append R (next ∷ later) others at to cuts = refl

pub CutsInto-append : (R : ℕ → ℕ → Type 0) (starts others : List ℕ) (from at to : ℕ) →
    CutsInto R from at starts → CutsInto R at to others → CutsInto R from to (starts ++ others)
CutsInto-append R [] others from at to one two = subst (λ (n : ℕ). CutsInto R n to others) (sym one) two
CutsInto-append R (start ∷ later) others from at to one two =
    rw (run_end-append R later others at to two)
    (one.0, one.1, one.2, CutsInto-append R later others (run_end later at) at to one.3 two)

pub starts_of-append : (segments others : List Segment) →
    starts_of (segments ++ others) ≡ starts_of segments ++ starts_of others
starts_of-append segments others = map-append (λ (segment : Segment). segment.start) segments others

pub EachRun-append : (Q : Segment → ℕ → Type 0) (R : ℕ → ℕ → Type 0) (segments others : List Segment) (at to : ℕ) →
    CutsInto R at to (starts_of others) →
    EachRun Q at segments → EachRun Q to others → EachRun Q to (segments ++ others)
EachRun-append Q R [] others at to cuts one two = two
EachRun-append Q R (segment ∷ later) others at to cuts one two = (
  rw (starts_of-append later others, run_end-append R (starts_of later) (starts_of others) at to cuts) one.0,
  EachRun-append Q R later others at to cuts one.1 two,
)

pub IsBegun-append : (p : Points) (eps from to at e : ℕ) (segments others : List Segment) →
    IsBegun p eps from to at segments → IsBegun p eps at to e others →
    IsBegun p eps from to e (segments ++ others)
IsBegun-append p eps from to at e segments others one two = record {
  greedy = rw (starts_of-append segments others)
      (CutsInto-append (IsLongest p eps to) (starts_of segments) (starts_of others) from at e one.greedy two.greedy);
  steep =
      EachRun-append (IsSteepSegment p eps) (IsLongest p eps to) segments others at e two.greedy one.steep two.steep;
  cuts = EachRun-append (HasItsCut p eps to) (IsLongest p eps to) segments others at e two.greedy one.cuts two.cuts;
}

-- all but the last run
push_rises : (R : ℕ → ℕ → Type 0) (later : List ℕ) (last from to : ℕ) →
    CutsInto R from to (later ++ last ∷ []) → from < to
push_rises R [] last from to cuts = cuts.1
push_rises R (next ∷ later) last from to cuts =
    omega (arith, cuts.1, CutsInto-rises R (later ++ last ∷ []) (run_end (later ++ last ∷ []) to) to cuts.3)

CutsInto-front : (R S : ℕ → ℕ → Type 0) (starts : List ℕ) (last from end : ℕ) →
    ((s e : ℕ) → e < end → R s e → S s e) → CutsInto R from end (starts ++ last ∷ []) →
    CutsInto S from last starts
CutsInto-front R S [] last from end implies cuts = sym cuts.0
CutsInto-front R S (start ∷ later) last from end implies cuts =
    let same : run_end (later ++ last ∷ []) end ≡ run_end later last = run_end-push later last end in
    let below : run_end (later ++ last ∷ []) end < end =
    push_rises R later last (run_end (later ++ last ∷ []) end) end cuts.3 in
    let rest = CutsInto-front R S later last (run_end (later ++ last ∷ []) end) end implies cuts.3 in (
      cuts.0,
      subst (λ (n : ℕ). from < n) same cuts.1,
      subst (λ (n : ℕ). S from n) same (implies from (run_end (later ++ last ∷ []) end) below cuts.2),
      subst (λ (n : ℕ). CutsInto S n last later) same rest,
    )

EachRun-front :
    (Q T : Segment → ℕ → Type 0) (R : ℕ → ℕ → Type 0) (front : List Segment) (last : Segment) (from end : ℕ) →
    ((segment : Segment) (e : ℕ) → e < end → Q segment e → T segment e) →
    CutsInto R from end (starts_of front ++ last.start ∷ []) → EachRun Q end (front ++ last ∷ []) →
    EachRun T last.start front
EachRun-front Q T R [] last from end implies cuts runs = tt
EachRun-front Q T R (segment ∷ later) last from end implies cuts runs =
    let e = run_end (starts_of later ++ last.start ∷ []) end in
    let starts : run_end (starts_of (later ++ last ∷ [])) end
    ≡ e = ap (λ (l : List ℕ). run_end l end) (starts_of-push later last) in
    let same : e ≡ run_end (starts_of later) last.start = run_end-push (starts_of later) last.start end in
    let below : e < end = push_rises R (starts_of later) last.start e end cuts.3 in
    let own : T segment e = implies segment e below (subst (λ (n : ℕ). Q segment n) starts runs.0) in
    (subst (λ (n : ℕ). T segment n) same own, EachRun-front Q T R later last e end implies cuts.3 runs.1)

IsLongest-more : (p : Points) (eps end to s e : ℕ) → e < end → IsLongest p eps end s e → IsLongest p eps to s e
IsLongest-more p eps end to s e below longest =
    record { fits = longest.fits; no_longer = λ more. longest.no_longer below }

HasItsCut-more : (p : Points) (eps end to e : ℕ) (segment : Segment) →
    end ≤ to → e < end → HasItsCut p eps end segment e → HasItsCut p eps to segment e
HasItsCut-more p eps end to e segment within below cut =
    record { last = λ at_end. absurd (omega (arith, at_end)); other = λ more. cut.other below }

-- of a piece's segments all but the last one are those of all points
pub IsBegun-front : (p : Points) (eps from end to : ℕ) (front : List Segment) (last : Segment) →
    end ≤ to → IsSegmentation p eps from end (front ++ last ∷ []) →
    IsBegun p eps from to last.start front
IsBegun-front p eps from end to front last within piece =
    let cuts : CutsInto (IsLongest p eps end) from end (starts_of front ++ last.start ∷ []) =
    subst (λ (l : List ℕ). CutsInto (IsLongest p eps end) from end l) (starts_of-push front last) piece.greedy in
    record {
      greedy = CutsInto-front (IsLongest p eps end) (IsLongest p eps to) (starts_of front) last.start from end
          (λ s e below longest. IsLongest-more p eps end to s e below longest) cuts;
      steep = EachRun-front (IsSteepSegment p eps) (IsSteepSegment p eps)
          (IsLongest p eps end) front last from end (λ segment e below steep. steep) cuts piece.steep;
      cuts = EachRun-front (HasItsCut p eps end) (HasItsCut p eps to) (IsLongest p eps end) front last from end
          (λ segment e below cut. HasItsCut-more p eps end to e segment within below cut) cuts piece.cuts;
    }

-- and at the end of all points, all
pub IsBegun-whole : (p : Points) (eps from to : ℕ) (segments : List Segment) →
    IsSegmentation p eps from to segments → IsBegun p eps from to to segments
IsBegun-whole p eps from to segments whole = record { greedy = whole.greedy; steep = whole.steep; cuts = whole.cuts }

-- the segments from number i on are those from its start on
IsSegmentation-drop : (p : Points) (eps end from i : ℕ) (segments : List Segment) (d : Segment) →
    i < length segments → IsSegmentation p eps from end segments →
    IsSegmentation p eps (slice_index_or segments i d).start end (drop i segments)
IsSegmentation-drop p eps end from i [] d inside piece = absurd (omega arith)
IsSegmentation-drop p eps end from zero (segment ∷ later) d inside piece =
    subst (λ (n : ℕ). IsSegmentation p eps n end (segment ∷ later)) (sym piece.greedy.0) piece
IsSegmentation-drop p eps end from (suc i) (segment ∷ later) d inside piece =
    IsSegmentation-drop p eps end (run_end (starts_of later) end) i later d (omega arith)
    (record { greedy = piece.greedy.3; steep = piece.steep.1; cuts = piece.cuts.1 })

-- where one starts at a place, it and those after it are the segments from there on
pub IsSegmentation-met : (p : Points) (eps end from i at : ℕ) (segments : List Segment) (d : Segment) →
    i < length segments → (slice_index_or segments i d).start ≡ at →
    IsSegmentation p eps from end segments → IsSegmentation p eps at end (drop i segments)
IsSegmentation-met p eps end from i at segments d inside here piece =
    subst (λ (n : ℕ). IsSegmentation p eps n end (drop i segments)) here
    (IsSegmentation-drop p eps end from i segments d inside piece)

-- a segment starts before its piece ends
pub start_below : (p : Points) (eps from end : ℕ) (front : List Segment) (last : Segment) →
    IsSegmentation p eps from end (front ++ last ∷ []) → last.start < end
start_below p eps from end [] last piece = omega (arith, piece.greedy.0, piece.greedy.1)
start_below p eps from end (segment ∷ later) last piece =
    start_below p eps (run_end (starts_of (later ++ last ∷ [])) end) end later last
    (record { greedy = piece.greedy.3; steep = piece.steep.1; cuts = piece.cuts.1 })

-- segments are all but the last one, and the last one
last_apart : (segments : List Segment) (n : ℕ) (d : Segment) →
    n + 1 ≡ length segments → segments ≡ take n segments ++ slice_index_or segments n d ∷ []
last_apart segments n d count = sym (take_all (n + 1) segments (omega arith)) ∙ take_more segments n d (omega arith)

-- a piece's last run starts before the end of all, and all before it are those of all points
pub rest_below : (p : Points) (eps at end to n : ℕ) (rest : List Segment) (d : Segment) →
    end ≤ to → n + 1 ≡ length rest → IsSegmentation p eps at end rest →
    (slice_index_or rest n d).start < to
rest_below p eps at end to n rest d within count piece =
    let below = start_below p eps at end (take n rest)
    (slice_index_or rest n d) (subst (IsSegmentation p eps at end) (last_apart rest n d count) piece) in omega arith

pub rest_begun : (p : Points) (eps at end to n : ℕ) (begun rest : List Segment) (d : Segment) →
    end ≤ to → n + 1 ≡ length rest → IsBegun p eps 0 to at begun →
    IsSegmentation p eps at end rest → IsBegun p eps 0 to (slice_index_or rest n d).start (begun ++ take n rest)
rest_begun p eps at end to n begun rest d within count so_far piece =
    IsBegun-append p eps 0 to at (slice_index_or rest n d).start begun (take n rest) so_far
    (IsBegun-front p eps at end to (take n rest)
    (slice_index_or rest n d) within (subst (IsSegmentation p eps at end) (last_apart rest n d count) piece))

-- and not before the piece's other segments
pub rest_rises : (p : Points) (eps at end to n : ℕ) (rest : List Segment) (d : Segment) →
    end ≤ to → n + 1 ≡ length rest → IsSegmentation p eps at end rest →
    at ≤ (slice_index_or rest n d).start
rest_rises p eps at end to n rest d within count piece =
    let last = slice_index_or rest n d in
    let front = IsBegun-front p eps at end to
    (take n rest) last within (subst (IsSegmentation p eps at end) (last_apart rest n d count) piece) in
    CutsInto-rises (IsLongest p eps to) (starts_of (take n rest)) at last.start front.greedy

-- ten steps a place from a start on, seen from a place before it, and from one to which they were taken so far
pub from_before : {E : Type 0} (T : ℕ → Type 0) (result : Result ℕ E) (after before start : ℕ) →
    IfOk result (λ place. after + 10 * start ≤ before + 10 * place) →
    ((at : ℕ) → T at → at ≤ start) → IfOk result (λ place. (at : ℕ) → T at → after + 10 * at ≤ before + 10 * place)
from_before {E} T (Ok place) after before start cost below = λ at is. omega (arith, cost, below at is)
from_before {E} T (Err fault) after before start cost below = tt

pub so_far : {E : Type 0} (T : ℕ → Type 0) (result : Result ℕ E) (after before at first start : ℕ) →
    IfOk result (λ place. (at : ℕ) → T at → after + 10 * at ≤ before + 10 * place) →
    T at → before + 10 * start ≤ first + 10 * at → IfOk result (λ place. after + 10 * start ≤ first + 10 * place)
so_far {E} T (Ok place) after before at first start cost is taken = omega (arith, cost at is, taken)
so_far {E} T (Err fault) after before at first start cost is taken = tt
