-- What the searches on a hull's vertices say of the points that the vertices stand for.
use Rattle.std.specs.Bool.{OnTrue, OnFalse}
use Rattle.std.proofs.Common.{◌≡◌, Bool, true, false, ℕ, ◌+◌, ◌*◌, ◌-◌, ◌<◌, ◌≤◌, ◌∙◌, List, [], ◌∷◌}
use Rattle.std.proofs.Common.{◌++◌, length, take, get_or, inl, inr, refl, ap, subst, sym, arith}
use Rattle.std.proofs.lemmas.Bool.{cases_lt}
use Rattle.std.proofs.lemmas.List.{get_or_read, get_or-take, get_or_append_left}
use Rattle.std.proofs.lemmas.List.{get_or_push, length-take-le, length-append}
use Rattle.exact_cross.specs.declared.slope.Slope.{Slope}
use Rattle.exact_cross.specs.Points.{Points}
use Rattle.exact_cross.specs.Slopes.{IsAtMost, steep_slope}
use Rattle.exact_cross.proofs.CallerLemmas.{products_le-out, products_le-in}
use Rattle.hulls.specs.declared.vertex.Vertex.{Vertex}
use Rattle.hulls.specs.declared.hull.Hull.{Hull}
use Rattle.hulls.specs.Vertices.{vertex_at, lifted_slope, AreLeftOf, IsNoTurn}
use Rattle.hulls.specs.Hull.{IsUnderChord, IsUpperHull, IsUnderLine, IsVertexOf, IsPairOf, IsHullOn, IsHullUpTo}
use Rattle.hulls.specs.Hull.{IsHullOf, IsFittable, IsShadowed, IsNextVertex, IsPassed, AreSpanned, lower_of}
use Rattle.hulls.proofs.RaisedSlopes.{at_least-out, at_least-in, under-out, under-in}
use Rattle.hulls.proofs.Tangents.{IsTangent, place_before, not_right, chord_gaps, chord_from_gaps}
use Rattle.hulls.proofs.PairSteps.{slope_positive, IsPairOf-keeps, IsPairOf-takes}
use Rattle.hulls.proofs.Growth.{IsKept, IsUpperHull-later, IsUpperHull-skips, IsUpperHull-grows}

-- the vertex that was read, and the slope from it
pub read_vertex : (vertices : List Vertex) (t : ℕ) (low : Vertex) →
    t < length vertices → low ≡ get_or vertices t low → low ≡ vertex_at vertices t
read_vertex vertices t low inside is = get_or_read vertices t low inside is _

pub read_slope : (vertices : List Vertex) (t lift : ℕ) (low next : Vertex) (slope : Slope) →
    t < length vertices → low ≡ get_or vertices t low → slope ≡ lifted_slope low next lift →
    slope ≡ lifted_slope (vertex_at vertices t) next lift
read_slope vertices t lift low next slope inside is own =
    own ∙ ap (λ (v : Vertex). lifted_slope v next lift) (read_vertex vertices t low inside is)

-- its run is positive
pub read_left : (vertices : List Vertex) (t : ℕ) (low next : Vertex) →
    t < length vertices → low ≡ get_or vertices t low → AreLeftOf vertices t next → low.x < next.x
read_left vertices t low next inside is left =
    omega (arith, left.left t (omega arith) inside, ap (λ (v : Vertex). v.x) (read_vertex vertices t low inside is))

pub run_positive : (low next : Vertex) (lift : ℕ) (slope : Slope) →
    low.x < next.x → slope ≡ lifted_slope low next lift → 1 ≤ slope.run
run_positive low next lift slope right own = rw own (omega arith)

-- the slope between two vertices is that of their points
lifted_is_steep : (q : Points) (eps lift : ℕ) (low high : Vertex) →
    IsVertexOf q low → IsVertexOf q high → lift ≡ 2 * eps →
    lifted_slope low high lift ≡ steep_slope q eps low.place high.place
lifted_is_steep q eps lift low high is_low is_high same =
    rw (is_low.x, is_low.height, is_high.x, is_high.height, same) refl

-- the vertices from the tangent's on rise to the new point
place_of_next : (q : Points) (eps s e paired k : ℕ) (hull : Hull) →
    IsHullUpTo q eps s e paired hull → hull.tangent ≤ k → k < length hull.vertices.items →
    (vertex_at hull.vertices.items k).place < e
place_of_next q eps s e paired k hull is low inside =
    place_before q eps s (λ n. (vertex_at hull.vertices.items n).place) hull.tangent
    (length hull.vertices.items - 1) e k is.upper_hull low (omega arith)

pub left_of_next : (q : Points) (eps s e m paired : ℕ) (hull : Hull) (next : Vertex) →
    e ≤ m → IsHullUpTo q eps s e paired hull → IsNextVertex q m next →
    AreLeftOf hull.vertices.items hull.tangent next
left_of_next q eps s e m paired hull next further is new = record {
  left = λ k low inside.
      let place = place_of_next q eps s e paired k hull is low inside in
      omega (
        arith,
        (is.are_points k low inside).x,
        new.point.x,
        new.right.rises
            (vertex_at hull.vertices.items k).place next.place (omega (arith, place, new.place)) new.point.inside,
      );
  rise = λ k low inside.
      let rises = is.upper_hull.rise k low (omega arith) in
      omega (
        arith,
        (is.are_points k low (omega arith)).x,
        (is.are_points (k + 1) (omega arith) inside).x,
        new.right.rises (vertex_at hull.vertices.items k).place
            (vertex_at hull.vertices.items (k + 1)).place rises (is.are_points (k + 1) (omega arith) inside).inside,
      );
}

-- the pair's slope has a run
pub pair_positive : (q : Points) (eps s e m : ℕ) (hull : Hull) (next : Vertex) →
    e ≤ m → IsHullOf q eps s e hull → IsNextVertex q m next → 1 ≤ hull.slope.slope.run
pair_positive q eps s e m hull next further is new =
    slope_positive q eps s e
    (lower_of hull) hull.upper hull.slope.slope new.right (omega (arith, new.place, new.point.inside)) is.pair

-- the new point lies under the pair's line exactly where the slope to it is at most the pair's
pub under_line-from_slope : (q : Points) (eps s e m : ℕ) (hull : Hull) (next : Vertex) →
    e ≤ m → IsHullOf q eps s e hull → IsNextVertex q m next →
    IsAtMost (lifted_slope (vertex_at hull.vertices.items hull.tangent) next 0) hull.slope.slope →
    IsUnderLine q (lower_of hull) hull.slope.slope m
under_line-from_slope q eps s e m hull next further is new most =
    let low = vertex_at hull.vertices.items hull.tangent in
    let slope = hull.slope.slope in
    let place = place_of_next q eps s e e hull.tangent hull is (omega arith) is.inside in
    let at_place : IsAtMost (steep_slope q 0 low.place next.place) slope = rw
    (lifted_is_steep q 0 0 low next (is.are_points hull.tangent (omega arith) is.inside) new.point refl) at most in
    let at_m : IsAtMost (steep_slope q 0 low.place m) slope = rw new.place at at_place in
    let inside : m < q.count = omega (arith, new.place, new.point.inside) in
    under-in q low.place slope m
    (omega (arith, at_least-out q 0 low.place m slope (not_right q low.place m new.right (omega arith) inside) at_m))

pub slope-from_under_line : (q : Points) (eps s e m : ℕ) (hull : Hull) (next : Vertex) →
    e ≤ m → IsHullOf q eps s e hull → IsNextVertex q m next →
    IsUnderLine q (lower_of hull) hull.slope.slope m →
    IsAtMost (lifted_slope (vertex_at hull.vertices.items hull.tangent) next 0) hull.slope.slope
slope-from_under_line q eps s e m hull next further is new under =
    let low = vertex_at hull.vertices.items hull.tangent in
    let slope = hull.slope.slope in
    let place = place_of_next q eps s e e hull.tangent hull is (omega arith) is.inside in
    let inside : m < q.count = omega (arith, new.place, new.point.inside) in
    let at_m : IsAtMost (steep_slope q 0 low.place m) slope = at_least-in q 0 low.place m slope
    (not_right q low.place m new.right (omega arith) inside) (omega (arith, under-out q low.place slope m under)) in
    rw (lifted_is_steep q 0 0 low next (is.are_points hull.tangent (omega arith) is.inside) new.point refl, new.place)
    at_m

-- the pair stays
pub IsHullUpTo-keeps : (q : Points) (eps s e m lift : ℕ) (hull : Hull) (next : Vertex) →
    IsHullOf q eps s e hull → IsPassed q eps s e m → IsNextVertex q m next → lift ≡ 2 * eps → eps ≤ 1048576 →
    IsUnderLine q (lower_of hull) hull.slope.slope m →
    IsAtMost hull.slope.slope (lifted_slope (vertex_at hull.vertices.items hull.tangent) next lift) →
    IsHullUpTo q eps s e (m + 1) hull
IsHullUpTo-keeps q eps s e m lift hull next is passed new twice bounded under most =
    let low = vertex_at hull.vertices.items hull.tangent in
    let slope = hull.slope.slope in
    let at_place : IsAtMost slope (steep_slope q eps low.place next.place) =
    rw (lifted_is_steep q eps lift low next (is.are_points hull.tangent (omega arith) is.inside) new.point twice)
    at most in
    let at_m : IsAtMost slope (steep_slope q eps low.place m) = rw new.place at at_place in
    record {
      inside = is.inside;
      few = is.few;
      are_points = is.are_points;
      upper_hull = is.upper_hull;
      pair =
          IsPairOf-keeps q eps s e m low.place hull.upper slope new.right (omega (arith, new.place, new.point.inside))
          (omega (arith, new.low, new.point.height, ap q.y new.place)) bounded passed is.pair under at_m;
    }

-- what the walk says of the places
IsTangent-from_walk : (q : Points) (eps s e m lift at : ℕ) (hull : Hull) (next : Vertex) →
    IsHullOf q eps s e hull → IsNextVertex q m next → lift ≡ 2 * eps →
    hull.tangent ≤ at → at < length hull.vertices.items →
    ((k : ℕ) → hull.tangent ≤ k → k < at → IsAtMost (lifted_slope (vertex_at hull.vertices.items k) next lift)
    (lifted_slope (vertex_at hull.vertices.items (k + 1)) next lift) → ⊥) →
    (at + 1 < length hull.vertices.items → IsAtMost (lifted_slope (vertex_at hull.vertices.items at) next lift)
    (lifted_slope (vertex_at hull.vertices.items (at + 1)) next lift)) →
    IsTangent q eps (λ k. (vertex_at hull.vertices.items k).place) hull.tangent (length hull.vertices.items - 1) m at
IsTangent-from_walk q eps s e m lift at hull next is new twice onward inside falls stops =
    let slope : (k : ℕ) → hull.tangent ≤ k → k < length hull.vertices.items →
    lifted_slope (vertex_at hull.vertices.items k) next lift
    ≡ steep_slope q eps (vertex_at hull.vertices.items k).place m = λ k low within.
    lifted_is_steep q eps lift (vertex_at hull.vertices.items k) next (is.are_points k low within) new.point twice
    ∙ ap (steep_slope q eps (vertex_at hull.vertices.items k).place) new.place in
    record {
      onward = onward;
      inside = omega arith;
      falls =
          λ k low high. rw (slope k low (omega arith), slope (k + 1) (omega arith) (omega arith)) at (falls k low high);
      stops = λ more. rw (slope at onward inside, slope (at + 1) (omega arith) (omega arith)) at (stops (omega arith));
    }

-- the vertex that the walk found and the new point are the pair
pub IsHullUpTo-takes : (q : Points) (eps s e m lift at : ℕ) (hull : Hull) (next : Vertex) (slope : Slope) →
    IsHullOf q eps s e hull → IsPassed q eps s e m → IsNextVertex q m next → lift ≡ 2 * eps → IsFittable q eps s e m →
    (IsAtMost hull.slope.slope (lifted_slope (vertex_at hull.vertices.items hull.tangent) next lift) → ⊥) →
    hull.tangent ≤ at → at < length hull.vertices.items →
    ((k : ℕ) → hull.tangent ≤ k → k < at → IsAtMost (lifted_slope (vertex_at hull.vertices.items k) next lift)
    (lifted_slope (vertex_at hull.vertices.items (k + 1)) next lift) → ⊥) →
    (at + 1 < length hull.vertices.items → IsAtMost (lifted_slope (vertex_at hull.vertices.items at) next lift)
    (lifted_slope (vertex_at hull.vertices.items (at + 1)) next lift)) →
    slope ≡ lifted_slope (vertex_at hull.vertices.items at) next lift →
    IsHullOn q eps s e (m + 1) hull.vertices.items at next.place slope
IsHullUpTo-takes q eps s e m lift at hull next slope is passed new twice servable below onward inside falls stops own =
    let vertices = hull.vertices.items in
    let low = vertex_at vertices hull.tangent in
    let low_slope : lifted_slope low next lift ≡ steep_slope q eps low.place m =
    lifted_is_steep q eps lift low next (is.are_points hull.tangent (omega arith) is.inside) new.point twice
    ∙ ap (steep_slope q eps low.place) new.place in
    let new_slope : lifted_slope (vertex_at vertices at) next lift ≡ steep_slope q eps (vertex_at vertices at).place m =
    lifted_is_steep q eps lift (vertex_at vertices at) next (is.are_points at onward inside) new.point twice
    ∙ ap (steep_slope q eps (vertex_at vertices at).place) new.place in
    let in_points : m < q.count = omega (arith, new.place, new.point.inside) in
    let pair = IsPairOf-takes q eps s e m hull.upper hull.slope.slope (λ k. (vertex_at vertices k).place) hull.tangent
    (length vertices - 1) at new.right in_points passed servable is.pair is.upper_hull
    (IsTangent-from_walk q eps s e m lift at hull next is new twice onward inside falls stops)
    (rw low_slope at below) in
    record {
      inside = inside;
      few = is.few;
      are_points = λ k from to. is.are_points k (omega arith) to;
      upper_hull = IsUpperHull-later q eps s (λ k. (vertex_at vertices k).place) hull.tangent
          (length vertices - 1) e at is.upper_hull onward (omega arith);
      pair = rw (own, new_slope, new.place) pair;
    }

-- from one vertex by way of the next to a third it doesn't turn down, exactly where the middle one lies under the chord
no_turn-under : (q : Points) (first second third : Vertex) →
    IsVertexOf q first → IsVertexOf q second → IsVertexOf q third →
    q.x first.place ≤ q.x second.place → q.x second.place ≤ q.x third.place →
    IsNoTurn first second third → IsUnderChord q first.place second.place third.place
no_turn-under q first second third is_first is_second is_third left right no_turn =
    let order : IsAtMost (steep_slope q 0 first.place second.place) (steep_slope q 0 second.place third.place) =
    rw (
      lifted_is_steep q 0 0 first second is_first is_second refl,
      lifted_is_steep q 0 0 second third is_second is_third refl,
    ) at no_turn in
    let sums = products_le-out (q.y second.place + 0) (q.y first.place) (q.x third.place - q.x second.place)
    (q.y third.place + 0) (q.y second.place) (q.x second.place - q.x first.place) order.at_most in
    chord_from_gaps q first.place second.place third.place left right (omega (arith, sums))

no_turn-from_under : (q : Points) (first second third : Vertex) →
    IsVertexOf q first → IsVertexOf q second → IsVertexOf q third →
    q.x first.place ≤ q.x second.place → q.x second.place ≤ q.x third.place →
    IsUnderChord q first.place second.place third.place → IsNoTurn first second third
no_turn-from_under q first second third is_first is_second is_third left right under =
    let gaps = chord_gaps q first.place second.place third.place left right under in
    let order : IsAtMost (steep_slope q 0 first.place second.place) (steep_slope q 0 second.place third.place) =
    record {
      at_most = products_le-in (q.y second.place + 0) (q.y first.place) (q.x third.place - q.x second.place)
          (q.y third.place + 0) (q.y second.place) (q.x second.place - q.x first.place) (omega (arith, gaps));
    } in
    rw (
      lifted_is_steep q 0 0 first second is_first is_second refl,
      lifted_is_steep q 0 0 second third is_second is_third refl,
    ) order

-- the vertices that stay, and the new one
kept_vertex : (vertices : List Vertex) (next : Vertex) (kept k : ℕ) →
    kept ≤ length vertices → k < kept → vertex_at (take kept vertices ++ next ∷ []) k ≡ vertex_at vertices k
kept_vertex vertices next kept k within low =
    let there : k < length (take kept vertices) = omega (arith, length-take-le kept vertices within) in
    get_or_append_left (take kept vertices) (next ∷ []) _ k there ∙ get_or-take kept vertices k _ low

new_vertex : (vertices : List Vertex) (next : Vertex) (kept k : ℕ) →
    kept ≤ length vertices → k ≡ kept → vertex_at (take kept vertices ++ next ∷ []) k ≡ next
new_vertex vertices next kept k within here =
    get_or_push (take kept vertices) next _ k (length-take-le kept vertices within ∙ sym here)

pub grown_length : (vertices : List Vertex) (next : Vertex) (kept : ℕ) →
    kept ≤ length vertices → length (take kept vertices ++ next ∷ []) ≡ kept + 1
grown_length vertices next kept within =
    length-append (take kept vertices) (next ∷ []) ∙ ap (λ (n : ℕ). n + 1) (length-take-le kept vertices within)

-- the hull with the new point, and without the vertices that it covers
pub IsHullOf-covers : (q : Points) (eps s e m kept : ℕ) (hull : Hull) (next : Vertex) (grown : List Vertex) →
    e ≤ m → IsHullUpTo q eps s e (m + 1) hull → IsNextVertex q m next → AreSpanned q hull e m →
    hull.tangent < kept → kept ≤ length hull.vertices.items →
    ((k : ℕ) → kept ≤ k + 1 → k + 1 < length hull.vertices.items →
    IsNoTurn (vertex_at hull.vertices.items k) (vertex_at hull.vertices.items (k + 1)) next) →
    ((k : ℕ) → hull.tangent ≤ k →
    k + 2 ≡ kept → IsNoTurn (vertex_at hull.vertices.items k) (vertex_at hull.vertices.items (k + 1)) next → ⊥) →
    grown ≡ take kept hull.vertices.items ++ next ∷ [] →
    IsHullOn q eps s (m + 1) (m + 1) grown hull.tangent hull.upper hull.slope.slope
IsHullOf-covers q eps s e m kept hull next grown further is new spanned some within dropped turns same =
    let old = hull.vertices.items in
    let items = take kept old ++ next ∷ [] in
    let long : length items ≡ kept + 1 = grown_length old next kept within in
    let place : (k : ℕ) → k ≤ kept - 1 → (vertex_at items k).place ≡ (vertex_at old k).place =
    λ k low. ap (λ (v : Vertex). v.place) (kept_vertex old next kept k within (omega arith)) in
    let newest : (vertex_at items (kept - 1 + 1)).place
    ≡ m = ap (λ (v : Vertex). v.place) (new_vertex old next kept (kept - 1 + 1) within (omega arith)) ∙ new.place in
    let in_points : m < q.count = omega (arith, new.place, new.point.inside) in
    let right_of :
    (k : ℕ) → hull.tangent ≤ k → k < length old → q.x (vertex_at old k).place ≤ q.x next.place = λ k low high.
    omega (
      arith,
      new.right.rises (vertex_at old k).place next.place
          (omega (arith, new.place, place_of_next q eps s e (m + 1) k hull is low high)) new.point.inside,
    ) in
    let rises : (k : ℕ) → hull.tangent
    ≤ k → k + 1 < length old → q.x (vertex_at old k).place ≤ q.x (vertex_at old (k + 1)).place = λ k low high.
    omega (
      arith,
      new.right.rises (vertex_at old k).place (vertex_at old (k + 1)).place
          (is.upper_hull.rise k low (omega arith)) (is.are_points (k + 1) (omega arith) high).inside,
    ) in
    let kept_to : IsKept q (λ k. (vertex_at old k).place) hull.tangent (length old - 1) m (kept - 1) = record {
      from_tangent = omega arith;
      inside = omega arith;
      dropped = λ k low high.
          subst (λ (n : ℕ). IsUnderChord q (vertex_at old k).place (vertex_at old (k + 1)).place n) new.place
          (no_turn-under q (vertex_at old k) (vertex_at old (k + 1)) next (is.are_points k (omega arith) (omega arith))
          (is.are_points (k + 1) (omega arith) (omega arith)) new.point
          (rises k (omega arith) (omega arith))
          (right_of (k + 1) (omega arith) (omega arith)) (dropped k (omega arith) (omega arith)));
      turns = λ k low here under. turns k low (omega arith)
          (no_turn-from_under q (vertex_at old k) (vertex_at old (k + 1)) next
          (is.are_points k low (omega arith)) (is.are_points (k + 1) (omega arith) (omega arith)) new.point
          (rises k low (omega arith)) (right_of (k + 1) (omega arith) (omega arith))
          (subst (λ (n : ℕ). IsUnderChord q (vertex_at old k).place (vertex_at old (k + 1)).place n)
          (sym new.place) under));
    } in
    let last : kept - 1 + 1 ≡ length items - 1 = omega (arith, long) in
    let upper_hull = subst (λ (n : ℕ). IsUpperHull q eps s (λ k. (vertex_at items k).place) hull.tangent n (m + 1)) last
    (IsUpperHull-grows q eps s (λ k. (vertex_at old k).place) (λ k. (vertex_at items k).place) hull.tangent
    (length old - 1) e m hull.tangent (kept - 1) new.right further in_points is.upper_hull
    (omega arith) (omega arith) kept_to spanned place newest) in
    subst
    (λ (vertices : List Vertex). IsHullOn q eps s (m + 1) (m + 1) vertices hull.tangent hull.upper hull.slope.slope)
    (sym same) (record {
      inside = omega (arith, long);
      few = omega (arith, long, is.few);
      are_points = λ k from to. elim (cases_lt k kept) [
        | inl early ↦ subst (λ (v : Vertex). IsVertexOf q v)
            (sym (kept_vertex old next kept k within early)) (is.are_points k from (omega arith))
        | inr here ↦ subst
            (λ (v : Vertex). IsVertexOf q v) (sym (new_vertex old next kept k within (omega (arith, long)))) new.point
      ];
      upper_hull = upper_hull;
      pair = subst (λ (v : Vertex). IsPairOf q eps s (m + 1) v.place hull.upper hull.slope.slope)
          (sym (kept_vertex old next kept hull.tangent within some)) is.pair;
    })

-- what the test says of every run that the hull is of
pub over-from_test : (b : Bool) (hull : Hull) (next low : Vertex) (slope : Slope) →
    hull.tangent < length hull.vertices.items →
    low ≡ get_or hull.vertices.items hull.tangent low → slope ≡ lifted_slope low next 0 →
    OnTrue b (IsAtMost slope hull.slope.slope → ⊥) →
    OnTrue b ((q : Points) (eps s e m : ℕ) →
    e ≤ m → IsHullOf q eps s e hull → IsNextVertex q m next → IsUnderLine q (lower_of hull) hull.slope.slope m → ⊥)
over-from_test true hull next low slope inside is own above = λ q eps s e m further hull_of new under.
    above (rw (read_slope hull.vertices.items hull.tangent 0 low next slope inside is own)
    (slope-from_under_line q eps s e m hull next further hull_of new under))
over-from_test false hull next low slope inside is own above = tt

pub not_over-from_test : (b : Bool) (hull : Hull) (next low : Vertex) (slope : Slope) →
    hull.tangent < length hull.vertices.items →
    low ≡ get_or hull.vertices.items hull.tangent low → slope ≡ lifted_slope low next 0 →
    OnFalse b (IsAtMost slope hull.slope.slope) →
    OnFalse b ((q : Points) (eps s e m : ℕ) →
    e ≤ m → IsHullOf q eps s e hull → IsNextVertex q m next → IsUnderLine q (lower_of hull) hull.slope.slope m)
not_over-from_test true hull next low slope inside is own most = tt
not_over-from_test false hull next low slope inside is own most = λ q eps s e m further hull_of new.
    under_line-from_slope q eps s e m hull next further hull_of new
    (rw (read_slope hull.vertices.items hull.tangent 0 low next slope inside is own) at most)

-- shadowed points stay off the hull
pub IsHullOf-skips : (q : Points) (eps s e m : ℕ) (hull : Hull) → e ≤ m →
    IsHullUpTo q eps s e (m + 1) hull → ((j : ℕ) → e ≤ j → j ≤ m → IsShadowed q eps s j) → IsHullOf q eps s (m + 1) hull
IsHullOf-skips q eps s e m hull further is shadows = record {
  inside = is.inside;
  few = omega (arith, is.few);
  are_points = is.are_points;
  upper_hull = IsUpperHull-skips q eps s (λ k. (vertex_at hull.vertices.items k).place) hull.tangent
      (length hull.vertices.items - 1) e m further is.upper_hull shadows;
  pair = is.pair;
}

-- the last vertex of the grown hull is the new point's
pub last_of-covers : (vertices grown : List Vertex) (next : Vertex) (kept : ℕ) →
    kept ≤ length vertices → grown ≡ take kept vertices ++ next ∷ [] →
    (vertex_at grown (length grown - 1)).place ≡ next.place
last_of-covers vertices grown next kept within same =
    let long : length (take kept vertices ++ next ∷ []) ≡ kept + 1 = grown_length vertices next kept within in
    rw same (ap (λ (v : Vertex). v.place)
    (new_vertex vertices next kept (length (take kept vertices ++ next ∷ []) - 1) within (omega (arith, long))))
