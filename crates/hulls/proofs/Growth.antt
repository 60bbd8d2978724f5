-- The hull with one more point: the vertices that stay, and the new one.
use Rattle.std.proofs.Common.{◌≡◌, ◌⊎◌, ℕ, zero, suc, ◌+◌, ◌-◌, ◌<◌, ◌≤◌, inl, inr, ap, subst, sym, arith}
use Rattle.std.proofs.lemmas.Bool.{cases_lt}
use Rattle.exact_cross.specs.Points.{Points}
use Rattle.hulls.specs.Hull.{IsUnderChord, IsShadowed, IsUpperHull, RiseRight}
use Rattle.hulls.proofs.Chords.{chord_right, chord_left}
use Rattle.hulls.proofs.Tangents.{place_rises, place_before, not_right}

-- h <= i <= j < r: j under the chord from i to r, and i under that from h to r
under_right : (q : Points) (h i j r : ℕ) → RiseRight q →
    h ≤ i → i ≤ j → j < r → r < q.count → IsUnderChord q i j r → IsUnderChord q h i r → IsUnderChord q h j r
under_right q h i j r right hi ij jr inside inner outer =
    let x_hi = not_right q h i right hi (omega arith) in
    let x_ij = not_right q i j right ij (omega arith) in
    let x_jr = right.rises j r jr inside in
    let a = q.x i - q.x h in
    let b = q.x j - q.x i in
    let c = q.x r - q.x j in
    let bc : q.x r - q.x i ≡ b + c = omega arith in
    let ab : q.x j - q.x h ≡ a + b = omega arith in
    let abc : q.x r - q.x h ≡ a + b + c = omega arith in
    record {
      under = rw (abc, ab)
          (chord_right
          (q.y h) (q.y i) (q.y j) (q.y r) a b c (omega arith) (rw bc at inner.under) (rw (abc, bc) at outer.under));
    }

-- h <= j < i < r: j under the chord from h to i, and i under that from h to r
under_left : (q : Points) (h j i r : ℕ) → RiseRight q →
    h ≤ j → j < i → i < r → r < q.count → IsUnderChord q h j i → IsUnderChord q h i r → IsUnderChord q h j r
under_left q h j i r right hj ji ir inside inner outer =
    let x_hj = not_right q h j right hj (omega arith) in
    let x_ji = right.rises j i ji (omega arith) in
    let x_ir = right.rises i r ir inside in
    let a = q.x j - q.x h in
    let b = q.x i - q.x j in
    let c = q.x r - q.x i in
    let ab : q.x i - q.x h ≡ a + b = omega arith in
    let bc : q.x r - q.x j ≡ b + c = omega arith in
    let abc : q.x r - q.x h ≡ a + b + c = omega arith in
    record {
      under = rw (abc, bc)
          (chord_left
          (q.y h) (q.y i) (q.y j) (q.y r) a b c (omega arith) (rw ab at inner.under) (rw (abc, ab) at outer.under));
    }

-- the vertices up to `kept` stay, and each one after it was under the chord from the one before it to the new point
pub record IsKept (q : Points) (v : ℕ → ℕ) (t last m kept : ℕ) : Type 0 where
  pub from_tangent : t ≤ kept
  pub inside : kept ≤ last
  pub dropped : (k : ℕ) → kept ≤ k → k < last → IsUnderChord q (v k) (v (k + 1)) m
  pub turns : (k : ℕ) → t ≤ k → k + 1 ≡ kept → IsUnderChord q (v k) (v (k + 1)) m → ⊥

-- each point from a dropped vertex on lies under the chord from it to the new point
under_new_edge : (q : Points) (eps s : ℕ) (v : ℕ → ℕ) (t last e m kept : ℕ) →
    RiseRight q → e ≤ m → m < q.count → IsUpperHull q eps s v t last e → IsKept q v t last m kept →
    ((j : ℕ) → e ≤ j → j < m → IsUnderChord q (v last) j m) →
    (gap k : ℕ) →
    k + gap ≡ last → kept ≤ k → (j : ℕ) → v k ≤ j → j < m → IsUnderChord q (v k) j m ⊎ IsShadowed q eps s j
under_new_edge q eps s v t last e m kept right further inside hull kept_to spanned zero k here from j low high =
    let same : k ≡ last = omega arith in
    elim (cases_lt j e) [
      | inr late ↦ inl (subst (λ (n : ℕ). IsUnderChord q (v n) j m) (sym same) (spanned j late high))
      | inl before ↦
          elim (hull.under j
          (omega (
            arith,
            low,
            place_rises q eps s v t last e t k hull
                (omega arith) (omega (arith, kept_to.from_tangent)) (omega arith),
          )) before) [
            | inr shadow ↦ inr shadow
            | inl (inl end) ↦ let only : j ≡ v k = omega (arith, end, ap v same) in
                inl (rw only (record { under = omega arith }))
            | inl (inr edge) ↦ absurd
                (omega (
                  arith,
                  edge.4,
                  low,
                  ap v same,
                  place_rises q eps s v t last e
                      (edge.0 + 1) last hull (omega (arith, edge.1)) (omega (arith, edge.2)) (omega arith),
                ))
          ]
    ]
under_new_edge q eps s v t last e m kept right further inside hull kept_to spanned (suc gap) k here from j low high =
    let from_t : t ≤ k = omega (arith, kept_to.from_tangent) in
    let rises = hull.rise k from_t (omega arith) in
    let next_before = place_before q eps s v t last e (k + 1) hull (omega arith) (omega arith) in
    let chord = kept_to.dropped k from (omega arith) in
    elim (cases_lt j (v (k + 1))) [
      | inr on ↦
          elim (under_new_edge q eps s v t last e m kept right further inside hull kept_to spanned gap
          (k + 1) (omega arith) (omega arith) j on high) [
            | inl under ↦ inl (under_right q (v k) (v (k + 1)) j m right (omega arith) on high inside under chord)
            | inr shadow ↦ inr shadow
          ]
      | inl early ↦
          elim (hull.under j
          (omega (arith, low, place_rises q eps s v t last e t k hull (omega arith) from_t (omega arith)))
          (omega arith)) [
            | inr shadow ↦ inr shadow
            | inl (inl end) ↦ absurd
                (omega (
                  arith,
                  end,
                  early,
                  place_rises q eps s v t last e (k + 1) last hull (omega arith) (omega arith) (omega arith),
                ))
            | inl (inr edge) ↦
                let here_edge : edge.0 ≡ k = elim (cases_lt edge.0 k) [
                  | inl less ↦ absurd
                      (omega (
                        arith,
                        edge.4,
                        low,
                        place_rises q eps s v t last e
                            (edge.0 + 1) k hull (omega (arith, edge.1)) (omega arith) (omega arith),
                      ))
                  | inr not_less ↦ elim (cases_lt k edge.0) [
                    | inl more ↦ absurd
                        (omega (
                          arith,
                          edge.3,
                          early,
                          place_rises q eps s v t last e
                              (k + 1) edge.0 hull (omega arith) (omega arith) (omega (arith, edge.2)),
                        ))
                    | inr not_more ↦ omega arith
                  ]
                ] in
                inl (under_left q (v k) j (v (k + 1)) m right low early (omega arith) inside
                (subst (λ (n : ℕ). IsUnderChord q (v n) j (v (n + 1))) here_edge edge.5) chord)
          ]
    ]

-- a hull from one of its vertices on
pub IsUpperHull-later : (q : Points) (eps s : ℕ) (v : ℕ → ℕ) (t last e at : ℕ) →
    IsUpperHull q eps s v t last e → t ≤ at → at ≤ last → IsUpperHull q eps s v at last e
IsUpperHull-later q eps s v t last e at hull onward within = record {
  some = within;
  rise = λ k low high. hull.rise k (omega arith) high;
  end = hull.end;
  turns = λ k low high. hull.turns k (omega arith) high;
  under = λ j low high.
      elim (hull.under j
      (omega (arith, low, place_rises q eps s v t last e t at hull (omega arith) onward within)) high) [
        | inr shadow ↦ inr shadow
        | inl (inl end) ↦ inl (inl end)
        | inl (inr edge) ↦
            let low_k : at ≤ edge.0 = elim (cases_lt edge.0 at) [
              | inl less ↦ absurd
                  (omega (
                    arith,
                    edge.4,
                    low,
                    place_rises q eps s v t last e (edge.0 + 1) at hull (omega (arith, edge.1)) (omega arith) within,
                  ))
              | inr not_less ↦ not_less
            ] in
            inl (inr (edge.0, low_k, edge.2, edge.3, edge.4, edge.5))
      ];
}

-- a hull with more points that are shadowed
pub IsUpperHull-skips : (q : Points) (eps s : ℕ) (v : ℕ → ℕ) (t last e m : ℕ) →
    e ≤ m → IsUpperHull q eps s v t last e → ((j : ℕ) → e ≤ j → j ≤ m → IsShadowed q eps s j) →
    IsUpperHull q eps s v t last (m + 1)
IsUpperHull-skips q eps s v t last e m further hull shadows = record {
  some = hull.some;
  rise = hull.rise;
  end = omega (arith, hull.end);
  turns = hull.turns;
  under = λ j low high. elim (cases_lt j e) [
    | inl before ↦ hull.under j low before
    | inr late ↦ inr (shadows j late (omega arith))
  ];
}

-- the hull of the places v' at, .., v' kept, m
pub IsUpperHull-grows : (q : Points) (eps s : ℕ) (v v' : ℕ → ℕ) (t last e m at kept : ℕ) →
    RiseRight q → e ≤ m → m < q.count → IsUpperHull q eps s v t last e → t ≤ at → at ≤ last →
    IsKept q v at last m kept → ((j : ℕ) → e ≤ j → j < m → IsUnderChord q (v last) j m) →
    ((k : ℕ) → k ≤ kept → v' k ≡ v k) → v' (kept + 1) ≡ m →
    IsUpperHull q eps s v' at (kept + 1) (m + 1)
IsUpperHull-grows q eps s v v' t last e m at kept right further inside whole onward within kept_to spanned same new =
    let hull : IsUpperHull q eps s v at last e = IsUpperHull-later q eps s v t last e at whole onward within in
    record {
      some = omega (arith, kept_to.from_tangent);
      rise = λ k low high. elim (cases_lt k kept) [
        | inl old ↦ omega
            (arith, same k (omega arith), same (k + 1) (omega arith), hull.rise k low (omega (arith, kept_to.inside)))
        | inr edge ↦ let here : k ≡ kept = omega arith in
            omega (
              arith,
              same k (omega arith),
              ap (λ (n : ℕ). v' (n + 1)) here,
              new,
              place_before q eps s v at last e k hull low (omega (arith, kept_to.inside)),
            )
      ];
      end = omega (arith, new);
      turns = λ k low high. elim (cases_lt (k + 1) kept) [
        | inl old ↦ rw (same k (omega arith), same (k + 1) (omega arith), same (k + 2) (omega arith))
            (hull.turns k low (omega (arith, kept_to.inside)))
        | inr edge ↦
            let here : k + 1 ≡ kept = omega arith in
            let third : v' (k + 2) ≡ m = omega (arith, new, ap (λ (n : ℕ). v' (n + 1)) here, ap v' (two k)) in
            rw (same k (omega arith), same (k + 1) (omega arith), third) (kept_to.turns k low here)
      ];
      under = λ j low high. elim (cases_lt j m) [
        | inr here ↦ inl (inl (omega (arith, new)))
        | inl before ↦
            let low_old : v at ≤ j = omega (arith, low, same at (omega (arith, kept_to.from_tangent))) in
            elim (cases_lt j (v kept)) [
              | inr late ↦
                  elim (under_new_edge q eps s v at last e m kept right further inside hull kept_to spanned
                  (last - kept) kept (omega (arith, kept_to.inside)) (omega arith) j late before) [
                    | inl under ↦
                        inl (inr (
                          kept,
                          kept_to.from_tangent,
                          omega arith,
                          omega (arith, same kept (omega arith)),
                          omega (arith, new),
                          rw (same kept (omega arith), new) under,
                        ))
                    | inr shadow ↦ inr shadow
                  ]
              | inl early ↦
                  elim (hull.under j low_old
                  (omega (arith, place_before q eps s v at last e kept hull kept_to.from_tangent kept_to.inside))) [
                    | inr shadow ↦ inr shadow
                    | inl (inl end) ↦ absurd
                        (omega (
                          arith,
                          end,
                          early,
                          place_rises
                              q eps s v at last e kept last hull kept_to.from_tangent kept_to.inside (omega arith),
                        ))
                    | inl (inr edge) ↦
                        let k = edge.0 in
                        let high_k : k < kept = elim (cases_lt k kept) [
                          | inl less ↦ less
                          | inr not_less ↦ absurd
                              (omega (
                                arith,
                                edge.3,
                                early,
                                place_rises q
                                    eps s v at last e kept k hull kept_to.from_tangent not_less (omega (arith, edge.2)),
                              ))
                        ] in
                        inl (inr (
                          k,
                          edge.1,
                          omega arith,
                          omega (arith, same k (omega arith), edge.3),
                          omega (arith, same (k + 1) (omega arith), edge.4),
                          rw (same k (omega arith), same (k + 1) (omega arith)) edge.5,
                        ))
                  ]
            ]
      ];
    }
  where
    two : (k : ℕ) → k + 2 ≡ k + 1 + 1
    two k = omega arith
