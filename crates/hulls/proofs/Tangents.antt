-- The tangent from the hull to a new point: where the slopes fell up to a vertex and fall no further
-- there, none of the points under the hull has a lesser slope, and none before that vertex an equal one.
use Rattle.std.proofs.Common.{◌≡◌, ℕ, zero, suc, ◌+◌, ◌*◌, ◌-◌, ◌<◌, ◌≤◌, inl, inr, refl, ap, subst, arith}
use Rattle.std.proofs.lemmas.Bool.{cases_lt}
use borrow.Author.Differences.{up, down}
use Rattle.exact_cross.specs.declared.slope.Slope.{Slope}
use Rattle.exact_cross.specs.Points.{Points}
use Rattle.exact_cross.specs.Slopes.{IsAtMost, steep_slope}
use Rattle.exact_cross.proofs.CallerLemmas.{IsAtMost-refl, IsAtMost-trans, IsAtMost-total}
use Rattle.exact_cross.proofs.CallerLemmas.{products_le-out, products_le-in}
use Rattle.hulls.specs.Hull.{IsUnderChord, IsUnderHull, IsShadowed, IsUpperHull, IsFittable, RiseRight}
use Rattle.hulls.proofs.Chords.{chord_under, chord_strictly_under, later_slope, slope_behind}
use Rattle.hulls.proofs.RaisedSlopes.{at_most-out, at_most-in, at_least-out, at_least-in}

-- vertices before the place m that rise and turn down
pub record IsBent (q : Points) (v : ℕ → ℕ) (t last m : ℕ) : Type 0 where
  pub some : t ≤ last
  pub rise : (k : ℕ) → t ≤ k → k < last → v k < v (k + 1)
  pub end : v last < m
  pub turns : (k : ℕ) → t ≤ k → k + 2 ≤ last → IsUnderChord q (v k) (v (k + 1)) (v (k + 2)) → ⊥

pub IsBent-from_hull : (q : Points) (eps s : ℕ) (v : ℕ → ℕ) (t last e m : ℕ) →
    e ≤ m → IsUpperHull q eps s v t last e → IsBent q v t last m
IsBent-from_hull q eps s v t last e m further hull =
    record { some = hull.some; rise = hull.rise; end = omega (arith, hull.end); turns = hull.turns }

-- the places of a hull rise from each to each later one
places_rise : (q : Points) (v : ℕ → ℕ) (t last m : ℕ) →
    IsBent q v t last m → (i gap j : ℕ) → t ≤ i → j ≡ i + gap → j ≤ last → v i ≤ v j
places_rise q v t last m bent i zero j low far inside = let same : i ≡ j = omega arith in omega (arith, ap v same)
places_rise q v t last m bent i (suc gap) j low far inside =
    let next : i + gap + 1 ≡ j = omega arith in
    omega (
      arith,
      places_rise q v t last m bent i gap (i + gap) low refl (omega arith),
      bent.rise (i + gap) (omega arith) (omega arith),
      ap v next,
    )

pub bent_rises : (q : Points) (v : ℕ → ℕ) (t last m i j : ℕ) →
    IsBent q v t last m → t ≤ i → i ≤ j → j ≤ last → v i ≤ v j
bent_rises q v t last m i j bent low order inside = places_rise q v t last m bent i (j - i) j low (omega arith) inside

pub bent_before : (q : Points) (v : ℕ → ℕ) (t last m k : ℕ) → IsBent q v t last m → t ≤ k → k ≤ last → v k < m
bent_before q v t last m k bent low inside =
    omega (arith, bent_rises q v t last m k last bent low inside (omega arith), bent.end)

pub place_rises : (q : Points) (eps s : ℕ) (v : ℕ → ℕ) (t last e i j : ℕ) →
    IsUpperHull q eps s v t last e → t ≤ i → i ≤ j → j ≤ last → v i ≤ v j
place_rises q eps s v t last e i j hull low order inside =
    bent_rises q v t last e i j (IsBent-from_hull q eps s v t last e e (omega arith) hull) low order inside

pub place_before : (q : Points) (eps s : ℕ) (v : ℕ → ℕ) (t last e k : ℕ) →
    IsUpperHull q eps s v t last e → t ≤ k → k ≤ last → v k < e
place_before q eps s v t last e k hull low inside =
    bent_before q v t last e k (IsBent-from_hull q eps s v t last e e (omega arith) hull) low inside

-- a chord's fact, by the two gaps
pub chord_gaps : (q : Points) (i j k : ℕ) → q.x i ≤ q.x j → q.x j ≤ q.x k → IsUnderChord q i j k →
    q.y j * ((q.x j - q.x i) + (q.x k - q.x j)) ≤ q.y i * (q.x k - q.x j) + q.y k * (q.x j - q.x i)
chord_gaps q i j k ij jk chord = let whole : (q.x j - q.x i) + (q.x k - q.x j) ≡ q.x k - q.x i = omega arith in
    omega (arith, chord.under, ap (λ (t : ℕ). q.y j * t) whole)

pub chord_from_gaps : (q : Points) (i j k : ℕ) → q.x i ≤ q.x j →
    q.x j ≤ q.x k → q.y j * ((q.x j - q.x i) + (q.x k - q.x j)) ≤ q.y i * (q.x k - q.x j) + q.y k * (q.x j - q.x i) →
    IsUnderChord q i j k
chord_from_gaps q i j k ij jk chord = let whole : (q.x j - q.x i) + (q.x k - q.x j) ≡ q.x k - q.x i = omega arith in
    record { under = omega (arith, chord, ap (λ (t : ℕ). q.y j * t) whole) }

pub not_right : (q : Points) (i j : ℕ) → RiseRight q → i ≤ j → j < q.count → q.x i ≤ q.x j
not_right q i j right low inside = elim (cases_lt i j) [
  | inl less ↦ omega (arith, right.rises i j less inside)
  | inr more ↦ let same : i ≡ j = omega arith in
      omega (arith, ap q.x same)
]

-- a slope that is at most those from both ends of a chord is at most that from each point under it
pub at_most-chord : (q : Points) (eps i j k e : ℕ) (m : Slope) →
    RiseRight q → i ≤ j → j < k → k < e → e < q.count → IsUnderChord q i j k →
    IsAtMost m (steep_slope q eps i e) → IsAtMost m (steep_slope q eps k e) → IsAtMost m (steep_slope q eps j e)
at_most-chord q eps i j k e m right low high before inside chord left_end right_end =
    let ij = not_right q i j right low (omega arith) in
    let jk = right.rises j k high (omega arith) in
    let ke = right.rises k e before inside in
    at_most-in q eps j e m (omega arith)
    (chord_under (up m.rise) (down m.rise) m.run
    (q.x e) (q.y e + 2 * eps) (q.x i) (q.y i) (q.x j) (q.y j) (q.x k) (q.y k) (q.x j - q.x i) (q.x k - q.x j)
    (omega arith) (omega arith)
    (omega arith) (at_most-out q eps i e m (omega arith) left_end) (at_most-out q eps k e m (omega arith) right_end)
    (chord_gaps q i j k ij (omega arith) chord))

-- and strictly less but at the right end, where it is strictly less than that from the left end
pub less-chord : (q : Points) (eps i j k e : ℕ) (m : Slope) →
    RiseRight q → i ≤ j → j < k → k < e → e < q.count → IsUnderChord q i j k →
    (IsAtMost (steep_slope q eps i e) m → ⊥) →
    IsAtMost m (steep_slope q eps k e) → IsAtMost (steep_slope q eps j e) m → ⊥
less-chord q eps i j k e m right low high before inside chord left_end right_end most =
    let ij = not_right q i j right low (omega arith) in
    let jk = right.rises j k high (omega arith) in
    let ke = right.rises k e before inside in
    elim (cases_lt (up m.rise * q.x e + q.y i * m.run + down m.rise * q.x i)
    ((q.y e + 2 * eps) * m.run + down m.rise * q.x e + up m.rise * q.x i)) [
      | inl strictly ↦
          let shown = chord_strictly_under (up m.rise) (down m.rise) m.run
          (q.x e) (q.y e + 2 * eps) (q.x i) (q.y i) (q.x j) (q.y j) (q.x k) (q.y k) (q.x j - q.x i) (q.x k - q.x j)
          (omega arith) (omega arith) (omega arith) strictly (at_most-out q eps k e m (omega arith) right_end)
          (chord_gaps q i j k ij (omega arith) chord) in
          omega (arith, shown, at_least-out q eps j e m (omega arith) most)
      | inr reaches ↦ left_end (at_least-in q eps i e m (omega arith) reaches)
    ]

-- where the slope to the new point doesn't fall from a vertex to the next, it doesn't fall further on
still_rises : (q : Points) (eps a b c e : ℕ) →
    RiseRight q → a < b → b < c → c < e → e < q.count → (IsUnderChord q a b c → ⊥) →
    IsAtMost (steep_slope q eps a e) (steep_slope q eps b e) → IsAtMost (steep_slope q eps b e) (steep_slope q eps c e)
still_rises q eps a b c e right ab bc ce inside turn most =
    let x_ab = right.rises a b ab (omega arith) in
    let x_bc = right.rises b c bc (omega arith) in
    let x_ce = right.rises c e ce inside in
    let u = q.x b - q.x a in
    let v = q.x c - q.x b in
    let w = q.x e - q.x c in
    let high = q.y e + 2 * eps in
    let wide : q.x e - q.x a ≡ u + v + w = omega arith in
    let middle : q.x e - q.x b ≡ v + w = omega arith in
    let first = products_le-out high (q.y a) (q.x e - q.x b) high (q.y b) (q.x e - q.x a) most.at_most in
    let gaps :
    high * (v + w) + q.y b * (u + v + w) ≤ high * (u + v + w) + q.y a * (v + w) = rw (wide, middle) at first in
    let turned : q.y c * u + q.y a * v ≤ q.y b * (u + v) = elim (cases_lt (q.y b * (u + v)) (q.y c * u + q.y a * v)) [
      | inl less ↦ absurd (turn (chord_from_gaps q a b c (omega arith) (omega arith) (omega (arith, less))))
      | inr more ↦ more
    ] in
    record {
      at_most = products_le-in high (q.y b) (q.x e - q.x c) high (q.y c) (q.x e - q.x b)
          (rw middle (omega (arith, later_slope high (q.y a) (q.y b) (q.y c) u v w (omega arith) gaps turned)));
    }

-- a vertex from which the slope is least, by the walk up to it and the rise from it on
pub record IsTangent (q : Points) (eps : ℕ) (v : ℕ → ℕ) (t last e at : ℕ) : Type 0 where
  pub onward : t ≤ at
  pub inside : at ≤ last
  pub falls : (k : ℕ) → t ≤ k → k < at → IsAtMost (steep_slope q eps (v k) e) (steep_slope q eps (v (k + 1)) e) → ⊥
  pub stops : at + 1 ≤ last → IsAtMost (steep_slope q eps (v at) e) (steep_slope q eps (v (at + 1)) e)

run_to : (q : Points) (eps i e : ℕ) → RiseRight q → i < e → e < q.count → 0 < (steep_slope q eps i e).run
run_to q eps i e right before inside = let less : q.x i < q.x e = right.rises i e before inside in omega arith

-- on from the tangent's vertex each slope is at most the next, and so the tangent's is the least of them
rises_on : (q : Points) (eps : ℕ) (v : ℕ → ℕ) (t last e at : ℕ) →
    RiseRight q → e < q.count → IsBent q v t last e → IsTangent q eps v t last e at →
    (gap k : ℕ) → k ≡ at + gap → k + 1 ≤ last → IsAtMost (steep_slope q eps (v k) e) (steep_slope q eps (v (k + 1)) e)
rises_on q eps v t last e at right inside hull tangent zero k here more =
    let same : at ≡ k = omega arith in
    subst (λ (n : ℕ). IsAtMost (steep_slope q eps (v n) e) (steep_slope q eps (v (n + 1)) e)) same
    (tangent.stops (omega arith))
rises_on q eps v t last e at right inside hull tangent (suc gap) k here more =
    let low = at + gap in
    let next : low + 1 ≡ k = omega arith in
    let from : t ≤ low = omega (arith, tangent.onward) in
    let after : low + 2 ≡ k + 1 = omega arith in
    let moved = subst (λ (n : ℕ). IsAtMost (steep_slope q eps (v (low + 1)) e) (steep_slope q eps (v n) e)) after
    (still_rises q eps (v low) (v (low + 1)) (v (low + 2)) e right (hull.rise low from (omega arith))
    (subst (λ (n : ℕ). v (low + 1) < v n) (omega arith) (hull.rise (low + 1) (omega arith) (omega arith)))
    (bent_before q v t last e (low + 2) hull (omega arith) (omega arith)) inside (hull.turns low from (omega arith))
    (rises_on q eps v t last e at right inside hull tangent gap low refl (omega arith))) in
    subst (λ (n : ℕ). IsAtMost (steep_slope q eps (v n) e) (steep_slope q eps (v (k + 1)) e)) next moved

least_on : (q : Points) (eps : ℕ) (v : ℕ → ℕ) (t last e at : ℕ) →
    RiseRight q → e < q.count → IsBent q v t last e → IsTangent q eps v t last e at →
    (gap k : ℕ) → k ≡ at + gap → k ≤ last → IsAtMost (steep_slope q eps (v at) e) (steep_slope q eps (v k) e)
least_on q eps v t last e at right inside hull tangent zero k here within =
    let same : at ≡ k = omega arith in
    subst (λ (n : ℕ). IsAtMost (steep_slope q eps (v at) e) (steep_slope q eps (v n) e)) same
    (IsAtMost-refl (steep_slope q eps (v at) e))
least_on q eps v t last e at right inside hull tangent (suc gap) k here within =
    let low = at + gap in
    let next : low + 1 ≡ k = omega arith in
    subst (λ (n : ℕ). IsAtMost (steep_slope q eps (v at) e) (steep_slope q eps (v n) e)) next
    (IsAtMost-trans (steep_slope q eps (v at) e) (steep_slope q eps (v low) e) (steep_slope q eps (v (low + 1)) e)
    (run_to q eps
    (v low) e right (bent_before q v t last e low hull (omega (arith, tangent.onward)) (omega arith)) inside)
    (least_on q eps v t last e at right inside hull tangent gap low refl (omega arith))
    (rises_on q eps v t last e at right inside hull tangent gap low refl (omega arith)))

-- before it each slope is greater
less_before : (q : Points) (eps : ℕ) (v : ℕ → ℕ) (t last e at : ℕ) →
    RiseRight q → e < q.count → IsBent q v t last e → IsTangent q eps v t last e at →
    (gap k : ℕ) → k + gap ≡ at → t ≤ k → IsAtMost (steep_slope q eps (v at) e) (steep_slope q eps (v k) e)
less_before q eps v t last e at right inside hull tangent zero k here from =
    let same : at ≡ k = omega arith in
    subst (λ (n : ℕ). IsAtMost (steep_slope q eps (v at) e) (steep_slope q eps (v n) e)) same
    (IsAtMost-refl (steep_slope q eps (v at) e))
less_before q eps v t last e at right inside hull tangent (suc gap) k here from =
    let below : IsAtMost (steep_slope q eps (v (k + 1)) e) (steep_slope q eps (v k) e) =
    elim (IsAtMost-total (steep_slope q eps (v (k + 1)) e) (steep_slope q eps (v k) e))
    [ inl less ↦ less | inr more ↦ absurd (tangent.falls k from (omega arith) more) ] in
    IsAtMost-trans (steep_slope q eps (v at) e) (steep_slope q eps (v (k + 1)) e) (steep_slope q eps (v k) e)
    (run_to q eps (v (k + 1)) e right
    (bent_before q v t last e (k + 1) hull (omega arith) (omega (arith, tangent.inside))) inside)
    (less_before q eps v t last e at right inside hull tangent gap (k + 1) (omega arith) (omega arith)) below

least_vertex : (q : Points) (eps : ℕ) (v : ℕ → ℕ) (t last e at k : ℕ) →
    RiseRight q → e < q.count → IsBent q v t last e → IsTangent q eps v t last e at →
    t ≤ k → k ≤ last → IsAtMost (steep_slope q eps (v at) e) (steep_slope q eps (v k) e)
least_vertex q eps v t last e at k right inside hull tangent from within = elim (cases_lt k at) [
  | inl before ↦ less_before q eps v t last e at right inside hull tangent (at - k) k (omega arith) from
  | inr on ↦ least_on q eps v t last e at right inside hull tangent (k - at) k (omega arith) within
]

strictly_before : (q : Points) (eps : ℕ) (v : ℕ → ℕ) (t last e at k : ℕ) →
    RiseRight q → e < q.count → IsBent q v t last e → IsTangent q eps v t last e at →
    t ≤ k → k < at → IsAtMost (steep_slope q eps (v k) e) (steep_slope q eps (v at) e) → ⊥
strictly_before q eps v t last e at k right inside hull tangent from before most =
    tangent.falls k from before
    (IsAtMost-trans (steep_slope q eps (v k) e) (steep_slope q eps (v at) e) (steep_slope q eps (v (k + 1)) e)
    (run_to q eps (v at) e right (bent_before q v t last e at hull tangent.onward tangent.inside) inside) most
    (less_before q eps v t last e at right inside hull tangent (at - (k + 1)) (k + 1) (omega arith) (omega arith)))

-- the first vertex lies under the hull
pub first_under : (q : Points) (v : ℕ → ℕ) (t last e : ℕ) → IsBent q v t last e → IsUnderHull q v t last (v t)
first_under q v t last e hull = elim (cases_lt t last) [
  | inl more ↦ inr (t, omega arith, more, omega arith, hull.rise t (omega arith) more, record { under = omega arith })
  | inr only ↦ let same : t ≡ last = omega (arith, hull.some) in inl (ap v same)
]

-- the tangent's slope is at most that of each point under the hull
pub least_under_hull : (q : Points) (eps : ℕ) (v : ℕ → ℕ) (t last e at c : ℕ) →
    RiseRight q → e < q.count → IsBent q v t last e → IsTangent q eps v t last e at →
    IsUnderHull q v t last c → IsAtMost (steep_slope q eps (v at) e) (steep_slope q eps c e)
least_under_hull q eps v t last e at c right inside hull tangent under = elim under [
  | inl end ↦ rw end (least_vertex q eps v t last e at last right inside hull tangent hull.some (omega arith))
  | inr edge ↦
      let k = edge.0 in
      at_most-chord q eps (v k) c (v (k + 1)) e (steep_slope q eps (v at) e) right edge.3 edge.4
      (bent_before q v t last e (k + 1) hull (omega (arith, edge.1)) (omega (arith, edge.2))) inside edge.5
      (least_vertex q eps v t last e at k right inside hull tangent edge.1 (omega (arith, edge.2)))
      (least_vertex q eps v t last e at
      (k + 1) right inside hull tangent (omega (arith, edge.1)) (omega (arith, edge.2)))
]

-- and less than that of each point under it before the tangent's place
pub less_under_hull : (q : Points) (eps : ℕ) (v : ℕ → ℕ) (t last e at c : ℕ) →
    RiseRight q → e < q.count → IsBent q v t last e → IsTangent q eps v t last e at →
    IsUnderHull q v t last c → c < v at → IsAtMost (steep_slope q eps c e) (steep_slope q eps (v at) e) → ⊥
less_under_hull q eps v t last e at c right inside hull tangent under before most = elim under [
  | inl end ↦ omega (arith, bent_rises q v t last e at last hull tangent.onward tangent.inside (omega arith))
  | inr edge ↦
      let k = edge.0 in
      elim (cases_lt k at) [
        | inl early ↦ less-chord q eps (v k) c (v (k + 1)) e (steep_slope q eps (v at) e) right edge.3 edge.4
            (bent_before q v t last e (k + 1) hull (omega (arith, edge.1)) (omega (arith, edge.2))) inside edge.5
            (strictly_before q eps v t last e at k right inside hull tangent edge.1 early)
            (least_vertex q eps v t last e at
            (k + 1) right inside hull tangent (omega (arith, edge.1)) (omega (arith, edge.2))) most
        | inr late ↦
            omega (arith, edge.3, bent_rises q v t last e at k hull tangent.onward late (omega (arith, edge.2)))
      ]
]

-- a shadowed point has a place before it from which the slope to the new point is no greater
pub shadow-from : (q : Points) (eps s j e m : ℕ) →
    RiseRight q → j < e → e ≤ m → m < q.count → IsFittable q eps s e m → IsShadowed q eps s j →
    (d : ℕ) × (s ≤ d) × (d < j) × IsAtMost (steep_slope q eps d m) (steep_slope q eps j m)
shadow-from q eps s j e m right before further inside servable shadow =
    let c = shadow.0 in
    let d = shadow.1 in
    let pair = shadow.2 in
    let cd = right.rises c d pair.rises (omega (arith, pair.to_end)) in
    let dj = right.rises d j pair.to_end (omega arith) in
    let je = right.rises j m (omega arith) inside in
    let g = q.x d - q.x c in
    let u = q.x j - q.x d in
    let w = q.x m - q.x j in
    let cj : q.x j - q.x c ≡ g + u = omega arith in
    let de : q.x m - q.x d ≡ u + w = omega arith in
    let falls = products_le-out
    (q.y j) (q.y c + 2 * eps) (q.x d - q.x c) (q.y d) (q.y c + 2 * eps) (q.x j - q.x c) shadow.3.at_most in
    let onward = products_le-out (q.y d) (q.y c + 2 * eps) (q.x m - q.x d) (q.y m + 2 * eps) (q.y d) (q.x d - q.x c)
    (servable.not_under c d
    (record { from_start = pair.from_start; rises = pair.rises; to_end = omega (arith, pair.to_end) })).at_most in
    let first : q.y j * g + (q.y c + 2 * eps) * u ≤ q.y d * g + q.y d * u = omega (arith, rw cj at falls) in
    let second : q.y d * (u + w) + q.y d * g ≤ (q.y m + 2 * eps) * g + (q.y c + 2 * eps) * (u + w) =
    omega (arith, rw de at onward) in
    let behind = slope_behind (q.y c + 2 * eps) (q.y d) (q.y j) (q.y m + 2 * eps) g u w (omega arith) first second in (
      d,
      omega (arith, pair.from_start, pair.rises),
      pair.to_end,
      record {
        at_most = products_le-in (q.y m + 2 * eps)
            (q.y d) (q.x m - q.x j) (q.y m + 2 * eps) (q.y j) (q.x m - q.x d) (rw de (omega (arith, behind)));
      },
    )
