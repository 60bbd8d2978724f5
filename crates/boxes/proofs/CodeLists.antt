-- The list of the points' codes, one more at a time, and their sort.
use Rattle.std.proofs.Common.{◌≡◌, ℕ, ◌+◌, ◌-◌, ◌*◌, ◌/◌, ◌^◌, ◌<◌, List, [], ◌∷◌}
use Rattle.std.proofs.Common.{◌++◌, length, take, drop, map, sym, ap, ◌∙◌, arith}
use Rattle.std.specs.Fork.{slice_chunk}
use Rattle.std.specs.List.{range_with_len}
use Rattle.std.proofs.Math.Nat.{mul-div_cancel_left}
use Rattle.std.proofs.lemmas.List.{take_at}
use Rattle.std.proofs.lemmas.List.FromFn.{map-range_with_len_more}
use Rattle.zorder.specs.Codes.{IsDimension, code}
use Rattle.zorder.specs.Points.{ArePoints}

-- the codes of the first n points
abbrev pub first_codes : ℕ → List ℕ → ℕ → List ℕ
first_codes d coords n = map (λ i. code d (slice_chunk coords d i)) (range_with_len 0 n)

pub first_codes-more : (d : ℕ) (coords : List ℕ) (i start end : ℕ) → start ≡ i * d → end ≡ start + d →
    first_codes d coords (i + 1) ≡ first_codes d coords i ++ code d (take (end - start) (drop start coords)) ∷ []
first_codes-more d coords i start end place long =
    let size : d ≡ end - start = omega arith in
    map-range_with_len_more (λ i. code d (slice_chunk coords d i)) 0 i i (omega arith)
    ∙ ap (λ (n : ℕ). first_codes d coords i ++ code d (take d (drop n coords)) ∷ []) (sym place)
    ∙ ap (λ (n : ℕ). first_codes d coords i ++ code d (take n (drop start coords)) ∷ []) size

-- there are as many as points
pub points_few : (d : ℕ) (coords : List ℕ) → IsDimension d → ArePoints d coords → length coords / d < 2 ^ 32
points_few d coords is points =
    let some : 0 < d = omega (arith, is.0) in
    let count : length coords / d ≡ points.count = ap (λ (n : ℕ). n / d) points.whole
    ∙ mul-div_cancel_left points.count some in
    omega (arith, count, points.few)

-- what is written over the whole of a list is the list
pub written_over : (codes sorted : List ℕ) (n : ℕ) →
    length sorted ≡ n → take n (sorted ++ drop (length sorted) codes) ≡ sorted
written_over codes sorted n long = take_at sorted (drop (length sorted) codes) n long
