-- Pieces side by side show that they are a cover, and the last run of each piece alone has no cut.
--
-- Main results: `IsLaid-from_cuts`, `AreShown-from_laid`, `AreShown-from_relaxed`,
-- `uncut-from_relaxed`, `IsRelaxed-unique`, `IsRelaxed-next`.
use Rattle.std.proofs.Common.{◌≡◌, ℕ, zero, suc, ◌+◌, ◌^◌, ◌<◌, ◌≤◌, List, [], ◌∷◌, ◌++◌, length, take, slice_index}
use Rattle.std.proofs.Common.{All, Some, is_none, cond, inl, inr, refl, sym, ap, ◌∙◌, subst, arith, add-one}
use Rattle.std.proofs.lemmas.Bool.{cases_lt}
use Rattle.std.proofs.lemmas.List.{append_assoc, take_more, get_or_append_left}
use Rattle.std.proofs.lemmas.List.Elements.{All-tail}
use Rattle.std.specs.List.Sorted.{IsStrictlyIncreasing}
use Rattle.exact_cross.specs.declared.segment.Witness.{Witness}
use Rattle.exact_cross.specs.declared.segment.Segment.{Segment}
use Rattle.exact_cross.specs.Points.{Points, IsAscending}
use Rattle.exact_cross.specs.PointLists.{points_in}
use Rattle.exact_cross.specs.Lines.{SomeLineFits}
use Rattle.exact_cross.specs.Covers.{run_end, IsCover, IsGreedy, IsLongest}
use Rattle.exact_cross.specs.Segments.{starts_of, EachRun, IsSteepSegment, IsFitted}
use Rattle.exact_cross.specs.Witnesses.{IsWitness}
use Rattle.exact_cross.specs.Cuts.{HasItsCut}
use Rattle.exact_cross.specs.Checked.{IsInRange, StartsRise, IsCutIfAny, AreShown, uncut}
use Rattle.exact_cross.proofs.CallerLemmas.{slice_index-rises, CutsInto-rises, StartsRise-from_cuts, IsWitness-from_cut}
use Rattle.exact_cross.proofs.CallerLemmas.{IsInRange-from_steep, IsFitted-from_steep, IsCover-from_greedy}
use Rattle.exact_cross.specs.Segmentation.{IsSegmentation}
use Rattle.exact_cross.proofs.Unique.{IsSegmentation-unique}
use Rattle.piece_join.specs.declared.work.Work.{Work}
use Rattle.piece_join.specs.Cuttings.{AreCuts}
use Rattle.piece_join.specs.Pieces.{edge_of, IsPart}
use Rattle.piece_join.specs.Laid.{IsLaid}
use Rattle.piece_join.specs.Relaxed.{IsRelaxed}
use Rattle.piece_join.proofs.Begun.{CutsInto-append, EachRun-append, starts_of-append}

-- cuts rise between the ends
rise-from_increasing : (to low : ℕ) (cuts : List ℕ) →
    IsStrictlyIncreasing cuts → ((k : ℕ) → k < length cuts → low ≤ slice_index cuts k) →
    All (λ cut. (0 < cut) × (cut < to)) cuts → StartsRise low to cuts
rise-from_increasing to low [] rise above inside = tt
rise-from_increasing to low (cut ∷ later) rise above inside = (
  above 0 (omega arith),
  (inside 0 cut (omega arith)).1,
  rise-from_increasing to (cut + 1) later
      (λ k before. slice_index-rises (cut ∷ later) (suc k) (suc (k + 1)) rise (omega arith) (omega (arith, before)))
      (λ k before. omega (arith, slice_index-rises (cut ∷ later) 0 (suc k) rise (omega arith) (omega (arith, before))))
      (All-tail (λ cut. (0 < cut) × (cut < to)) cut later inside),
)

rise-from_cuts : (m : ℕ) (cuts : List ℕ) → AreCuts m cuts → StartsRise 1 m cuts
rise-from_cuts m cuts are =
    rise-from_increasing m 1 cuts are.rise (λ k before. omega (arith, (are.inside k 0 before).0)) are.inside

IsCutIfAny-from_own : (p : Points) (eps end : ℕ) (segment : Segment) (e : ℕ) →
    e ≤ end → end ≤ p.count → HasItsCut p eps end segment e → IsCutIfAny p eps p.count segment e
IsCutIfAny-from_own p eps end segment e below within own =
    record { last = λ at_end. own.last (omega (arith, at_end)); shown = shown }
  where
    shown : (w : Witness) → segment.cut ≡ Some w → IsWitness p eps w × (segment.start ≤ w.p) × (w.r ≡ e)
    shown w is = elim (cases_lt e end) [
      | inl before ↦
          let (v, has, cut) = own.other before in
          let same : v ≡ w = cc (has, is) in
          let (witness, inside) = IsWitness-from_cut p eps segment.start e v (omega arith) cut in
          subst
          (λ (v : Witness). IsWitness p eps v × (segment.start ≤ v.p) × (v.r ≡ e)) same (witness, inside, cut.place)
      | inr at_end ↦
          let none = own.last (omega arith) in
          absurd (cc (none, is))
    ]

cuts_if_any : (p : Points) (eps end from : ℕ) (segments : List Segment) →
    end ≤ p.count → IsGreedy p eps from end (starts_of segments) → EachRun (HasItsCut p eps end) end segments →
    EachRun (IsCutIfAny p eps p.count) end segments
cuts_if_any p eps end from [] within greedy cuts = tt
cuts_if_any p eps end from (segment ∷ later) within greedy cuts =
    let e = run_end (starts_of later) end in (
      IsCutIfAny-from_own p eps end segment e
          (CutsInto-rises (IsLongest p eps end) (starts_of later) e end greedy.3) within cuts.0,
      cuts_if_any p eps end e later within greedy.3 cuts.1,
    )

pub IsLaid-from_piece : (p : Points) (eps from end : ℕ) (segments : List Segment) →
    end ≤ p.count → IsSegmentation p eps from end segments → IsLaid p eps from end segments
IsLaid-from_piece p eps from end segments within piece = record {
  cover = IsCover-from_greedy p eps end (starts_of segments) from piece.greedy;
  steep = piece.steep;
  cut = cuts_if_any p eps end from segments within piece.greedy piece.cuts;
}

IsLaid-append : (p : Points) (eps from at to : ℕ) (segments others : List Segment) →
    IsLaid p eps from at segments → IsLaid p eps at to others → IsLaid p eps from to (segments ++ others)
IsLaid-append p eps from at to segments others one two = record {
  cover = rw (starts_of-append segments others)
      (CutsInto-append (SomeLineFits p eps) (starts_of segments) (starts_of others) from at to one.cover two.cover);
  steep =
      EachRun-append (IsSteepSegment p eps) (SomeLineFits p eps) segments others at to two.cover one.steep two.steep;
  cut = EachRun-append (IsCutIfAny p eps p.count) (SomeLineFits p eps) segments others at to two.cover one.cut two.cut;
}

IsLaid-from_relaxed : (p : Points) (eps from to : ℕ) (cuts : List ℕ) (segments : List Segment) →
    to ≤ p.count → StartsRise (from + 1) to cuts → IsRelaxed p eps from to cuts segments →
    IsLaid p eps from to segments
IsLaid-from_relaxed p eps from to [] segments within rise whole = IsLaid-from_piece p eps from to segments within whole
IsLaid-from_relaxed p eps from to (cut ∷ later) segments within rise (piece, rest, is, own, others) =
    rw is (IsLaid-append p eps from cut to piece rest
    (IsLaid-from_piece p eps from cut piece (omega (arith, rise.1, within)) own)
    (IsLaid-from_relaxed p eps cut to later rest within rise.2 others))

pub IsLaid-from_cuts : (p : Points) (eps : ℕ) (cuts : List ℕ) (segments : List Segment) →
    AreCuts p.count cuts → IsRelaxed p eps 0 p.count cuts segments → IsLaid p eps 0 p.count segments
IsLaid-from_cuts p eps cuts segments are relaxed =
    IsLaid-from_relaxed p eps 0 p.count cuts segments (omega arith) (rise-from_cuts p.count cuts are) relaxed

-- the first start is where the runs begin
first_of : (p : Points) (eps to : ℕ) (segments : List Segment) → IsCover p eps 0 to (starts_of segments) → 0 < to →
    (segment : Segment) × (later : List Segment) × (segments ≡ segment ∷ later) × (segment.start ≡ 0)
first_of p eps to [] cover some = absurd (omega (arith, cover))
first_of p eps to (segment ∷ later) cover some = (segment, later, refl, cover.0)

-- each line is in range and fits its run
record IsRun (p : Points) (eps : ℕ) (segment : Segment) (e : ℕ) : Type 0 where
  in_range : IsInRange segment.line
  fitted : IsFitted p eps segment e

pub runs-from_laid : (p : Points) (eps from to : ℕ) (segments : List Segment) →
    IsAscending p → ((j : ℕ) → j < p.count → p.y j < 2 ^ 32) → eps ≤ 1048576 → to ≤ p.count →
    IsCover p eps from to (starts_of segments) → EachRun (IsSteepSegment p eps) to segments →
    EachRun (λ segment e. IsInRange segment.line) to segments × EachRun (IsFitted p eps) to segments
runs-from_laid p eps from to [] ascends small bounded within cover steep = (tt, tt)
runs-from_laid p eps from to (segment ∷ later) ascends small bounded within cover steep =
    let e = run_end (starts_of later) to in
    let end : e ≤ p.count = omega (arith, within, CutsInto-rises (SomeLineFits p eps) (starts_of later) e to cover.3) in
    let some : segment.start < e = omega (arith, cover.0, cover.1) in
    let fits : SomeLineFits p eps segment.start e = subst (λ n. SomeLineFits p eps n e) (sym cover.0) cover.2 in
    let more = runs-from_laid p eps e to later ascends small bounded within cover.3 steep.1 in (
      (IsInRange-from_steep p eps e segment ascends small bounded some end steep.0, more.0),
      (IsFitted-from_steep p eps e segment ascends some end steep.0 fits, more.1),
    )

pub AreShown-from_laid : (p : Points) (eps : ℕ) (segments : List Segment) →
    IsAscending p → ((j : ℕ) → j < p.count → p.y j < 2 ^ 32) → eps ≤ 1048576 →
    IsLaid p eps 0 p.count segments → AreShown p eps segments
AreShown-from_laid p eps segments ascends small bounded laid =
    let runs = runs-from_laid p eps 0 p.count segments ascends small bounded (omega arith) laid.cover laid.steep in
    record {
      first = first_of p eps p.count segments laid.cover;
      rise = StartsRise-from_cuts (SomeLineFits p eps) (starts_of segments) 0 0 p.count (omega arith) laid.cover;
      in_range = runs.0;
      fitted = runs.1;
      cut = laid.cut;
    }

pub AreShown-from_relaxed : (p : Points) (eps : ℕ) (cuts : List ℕ) (segments : List Segment) →
    IsAscending p → ((j : ℕ) → j < p.count → p.y j < 2 ^ 32) → eps ≤ 1048576 →
    AreCuts p.count cuts → IsRelaxed p eps 0 p.count cuts segments → AreShown p eps segments
AreShown-from_relaxed p eps cuts segments ascends small bounded are relaxed =
    AreShown-from_laid p eps segments ascends small bounded (IsLaid-from_cuts p eps cuts segments are relaxed)

-- each piece has one run without a cut, its last
uncut-append : (segments others : List Segment) → uncut (segments ++ others) ≡ uncut segments + uncut others
uncut-append [] others = omega arith
uncut-append (segment ∷ later) others = omega (arith, uncut-append later others)

uncut-one : (p : Points) (eps from end : ℕ) (segments : List Segment) → from < end →
    IsGreedy p eps from end (starts_of segments) → EachRun (HasItsCut p eps end) end segments → uncut segments ≡ 1
uncut-one p eps from end [] some greedy cuts = absurd (omega (arith, greedy, some))
uncut-one p eps from end (segment ∷ []) some greedy cuts =
    let none : cond {A = ℕ} (is_none segment.cut) 1 0 ≡ 1 = rw (cuts.0.last refl) refl in
    omega (arith, none)
uncut-one p eps from end (segment ∷ next ∷ later) some greedy cuts =
    let after : next.start < end = omega (
      arith,
      greedy.3.1,
      CutsInto-rises (IsLongest p eps end) (starts_of later) (run_end (starts_of later) end) end greedy.3.3,
    ) in
    let own = cuts.0.other after in
    let has : cond {A = ℕ} (is_none segment.cut) 1 0 ≡ 0 = rw (own.1) refl in
    omega (arith, has, uncut-one p eps next.start end (next ∷ later) after greedy.3 cuts.1)

uncut-from_pieces : (p : Points) (eps from to : ℕ) (cuts : List ℕ) (segments : List Segment) →
    from < to → StartsRise (from + 1) to cuts → IsRelaxed p eps from to cuts segments →
    uncut segments ≡ length cuts + 1
uncut-from_pieces p eps from to [] segments some rise whole =
    omega (arith, uncut-one p eps from to segments some whole.greedy whole.cuts)
uncut-from_pieces p eps from to (cut ∷ later) segments some rise (piece, rest, is, own, others) =
    let one = uncut-one p eps from cut piece (omega (arith, rise.0)) own.greedy own.cuts in
    let more = uncut-from_pieces p eps cut to later rest rise.1 rise.2 others in
    omega (arith, ap uncut is, uncut-append piece rest, one, more)

pub uncut-from_relaxed : (p : Points) (eps : ℕ) (cuts : List ℕ) (segments : List Segment) →
    0 < p.count → AreCuts p.count cuts → IsRelaxed p eps 0 p.count cuts segments →
    uncut segments ≡ length cuts + 1
uncut-from_relaxed p eps cuts segments some are relaxed =
    uncut-from_pieces p eps 0 p.count cuts segments some (rise-from_cuts p.count cuts are) relaxed

-- there is one such list
pub IsRelaxed-unique : (p : Points) (eps from to : ℕ) (cuts : List ℕ) (one two : List Segment) →
    IsRelaxed p eps from to cuts one → IsRelaxed p eps from to cuts two → one ≡ two
IsRelaxed-unique p eps from to [] one two first second = IsSegmentation-unique p eps from to one two first second
IsRelaxed-unique p eps from to
    (cut ∷ later) one two (piece, rest, is, own, others) (piece', rest', is', own', others') =
    let same = IsSegmentation-unique p eps from cut piece piece' own own' in
    let more = IsRelaxed-unique p eps cut to later rest rest' others others' in
    is ∙ ap (λ (l : List Segment). l ++ rest) same ∙ ap (λ (l : List Segment). piece' ++ l) more ∙ sym is'

-- one piece more
IsRelaxed-push : (p : Points) (eps from at to : ℕ) (cuts : List ℕ) (segments piece : List Segment) →
    IsRelaxed p eps from at cuts segments → IsSegmentation p eps at to piece →
    IsRelaxed p eps from to (cuts ++ at ∷ []) (segments ++ piece)
IsRelaxed-push p eps from at to [] segments piece so_far own = (segments, piece, refl, so_far, own)
IsRelaxed-push p eps from at to (cut ∷ later) segments piece (first, rest, is, one, others) own = (
  first,
  rest ++ piece,
  ap (λ (l : List Segment). l ++ piece) is
      ∙ append_assoc first rest piece,
  one,
  IsRelaxed-push p eps cut at to later rest piece others own,
)

-- the pieces up to one of a number, by those before it
pub IsRelaxed-next : (work : Work) (number : ℕ) (segments piece : List Segment) →
    number < length work.cuts.now + 1 → (number ≡ 0 → segments ≡ []) →
    ((k : ℕ) → number ≡ suc k → IsRelaxed (points_in work.points) work.eps 0
    (edge_of (length work.points.xs.now) work.cuts.now number) (take k work.cuts.now) segments) →
    IsPart work number piece → IsRelaxed (points_in work.points) work.eps 0
    (edge_of (length work.points.xs.now) work.cuts.now (number + 1)) (take number work.cuts.now) (segments ++ piece)
IsRelaxed-next work zero segments piece inside none so_far own = rw (none refl) own
IsRelaxed-next work (suc k) segments piece inside none so_far own =
    let m = length work.points.xs.now in
    let cuts = work.cuts.now in
    let p = points_in work.points in
    let at : edge_of m cuts (suc k) ≡ slice_index cuts k = get_or_append_left cuts (m ∷ []) 0 k (omega arith) in
    let all : take (suc k) cuts ≡ take k cuts ++ edge_of m cuts (suc k) ∷ [] =
    ap (λ n. take n cuts) (sym (add-one k))
    ∙ take_more cuts k 0 (omega arith) ∙ ap (λ c. take k cuts ++ c ∷ []) (sym at) in
    subst (λ (l : List ℕ). IsRelaxed p work.eps 0 (edge_of m cuts (suc k + 1)) l (segments ++ piece)) (sym all)
    (IsRelaxed-push p work.eps 0
    (edge_of m cuts (suc k)) (edge_of m cuts (suc k + 1)) (take k cuts) segments piece (so_far k refl) own)
