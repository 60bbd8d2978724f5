-- A run's line is at most eps below 0 at the run's first x, which
-- is left of the line's own point: so the line has a model there.
use Rattle.std.proofs.Common.{◌≡◌, inl, inr, ℕ, ◌+◌, ◌-◌, ◌*◌, ◌^◌, ◌<◌, ◌≤◌, List, [], ◌∷◌, ◌++◌, length}
use Rattle.std.proofs.Common.{slice_index, slice_index_or, subst, ℤ, pos, ◌+ℤ◌, ◌*ℤ◌, ap, ◌∙◌, sym, arith}
use Rattle.std.proofs.lemmas.Int.{ints}
use Rattle.std.proofs.lemmas.Bool.{cases_lt}
use Rattle.std.proofs.lemmas.List.{get_or_default, get_or_append_left}
use Rattle.std.proofs.Math.Seq.{get_or-append_seam}
use Rattle.std.proofs.Math.Nat.{le_of_mul-le-mul_right}
use borrow.Author.Differences.{up, down}
use Rattle.exact_cross.specs.declared.line.Line.{Line}
use Rattle.exact_cross.specs.declared.segment.Segment.{Segment}
use Rattle.exact_cross.specs.Points.{Points, IsAscending}
use Rattle.exact_cross.specs.Lines.{IsWithin, rational, SomeLineFits}
use Rattle.exact_cross.specs.Segments.{start_at, IsSteepSegment, IsFitted}
use Rattle.exact_cross.specs.Checked.{IsInRange}
use Rattle.exact_cross.proofs.CallerLemmas.{start_at-is, start_at-behind, IsWithin-below}
use Rattle.exact_cross.proofs.CallerLemmas.{line_of_pair-level, line_of_pair-rising}
use Rattle.piece_join.specs.Laid.{IsLaid}
use Rattle.piece_join.proofs.RelaxedLemmas.{runs-from_laid}
use Rattle.levels.specs.declared.model.RunModel.{RunModel}
use Rattle.levels.specs.Models.{IsEndOf, IsModelOf}
use Rattle.levels.proofs.SegmentLemmas.{run_at, end_at}

-- a product of a whole number with a natural, as sums of naturals
times : (z : ℤ) (n : ℕ) → up (z *ℤ pos n) + down z * n ≡ down (z *ℤ pos n) + up z * n
times z n = omega (arith, ints)

-- a line within eps of a point left of its own one, raised by eps, isn't below 0 there
line_not_below : (p : Points) (eps : ℕ) (line : Line) (positive : 0 < line.run) (s : ℕ) →
    IsWithin p eps (rational line positive) s → p.x s ≤ line.x0 →
    (raised : ℕ) × (pos raised ≡ line.y0 +ℤ pos eps) × (line.rise * (line.x0 - p.x s) ≤ raised * line.run)
line_not_below p eps line positive s within left =
    (up line.y0 + eps - down line.y0, omega (arith, ints, enough), omega (arith, scaled, all, reach))
  where
    right : line.x0 ≡ p.x s + (line.x0 - p.x s)
    right = omega (arith, left)

    reach : line.rise * line.x0 ≡ line.rise * p.x s + line.rise * (line.x0 - p.x s)
    reach = ap (λ (x : ℕ). line.rise * x) right ∙ omega arith

    all : line.run * p.y s + down line.y0 * line.run + line.rise * line.x0
        ≤ line.rise * p.x s + up line.y0 * line.run + line.run * eps
    all =
        let base = times line.y0 line.run in
        let below = IsWithin-below p eps (rational line positive) s within in
        omega (arith, ints)

    enough : down line.y0 ≤ up line.y0 + eps
    enough = le_of_mul-le-mul_right {k = line.run} (omega (arith, all, reach)) positive

    scaled : (up line.y0 + eps - down line.y0) * line.run + down line.y0 * line.run ≡ (up line.y0 + eps) * line.run
    scaled =
        let whole : up line.y0 + eps - down line.y0 + down line.y0 ≡ up line.y0 + eps = omega (arith, enough) in
        omega (arith, ap (λ (n : ℕ). n * line.run) whole)

-- the line of a steep pair is told by a point of the run
x0-from_start : (p : Points) (eps e : ℕ) (segment : Segment) → IsAscending p →
    segment.start < e → e ≤ p.count → IsSteepSegment p eps segment e → p.x segment.start ≤ segment.line.x0
x0-from_start p eps e segment ascends some within steep = elim (cases_lt (segment.start + 1) e) [
  | inl more ↦
      let pair = (steep.pair.steep more).pair in
      let rising = ap (λ (l : Line). l.x0) (steep.line ∙ line_of_pair-rising p eps segment.a segment.b pair.rises) in
      elim (cases_lt segment.start segment.a) [
        | inl after ↦ omega
            (arith, rising, ascends.x_rises segment.start segment.a after (omega (arith, pair.rises, pair.to_end)))
        | inr first ↦ let here : segment.a ≡ segment.start = omega (arith, pair.from_start) in
            omega (arith, rising, ap p.x here)
      ]
  | inr one ↦
      let alone = steep.pair.alone (omega arith) in
      let level =
      ap (λ (l : Line). l.x0) (steep.line ∙ line_of_pair-level p eps segment.a segment.b (alone.0 ∙ sym alone.1)) in
      omega (arith, level, ap p.x alone.0)
]

-- what a run's model is made of
pub record HasModel (p : Points) (eps : ℕ) (segment : Segment) (e : ℕ) : Type 0 where
  pub in_range : IsInRange segment.line
  pub some : segment.start < e
  pub within : e ≤ p.count
  pub left : p.x segment.start ≤ segment.line.x0
  pub not_below : (raised : ℕ) × (pos raised ≡ segment.line.y0 +ℤ pos eps)
      × (segment.line.rise * (segment.line.x0 - p.x segment.start) ≤ raised * segment.line.run)

pub model_run : (p : Points) (eps : ℕ) (segments : List Segment) (k : ℕ) (d : Segment) (e : ℕ) →
    IsAscending p → ((j : ℕ) → j < p.count → p.y j < 2 ^ 32) → eps ≤ 1048576 → IsLaid p eps 0 p.count segments →
    k < length segments → IsEndOf segments p.count k e → HasModel p eps (slice_index_or segments k d) e
model_run p eps segments k d e ascends small bounded laid inside ends =
    let fitted = runs-from_laid p eps 0 p.count segments ascends small bounded (omega arith) laid.cover laid.steep in
    let ranged = run_at
    (λ segment e. IsInRange segment.line) (SomeLineFits p eps) 0 p.count segments k d inside laid.cover fitted.0 in
    let fits = run_at (IsFitted p eps) (SomeLineFits p eps) 0 p.count segments k d inside laid.cover fitted.1 in
    let steep =
    run_at (IsSteepSegment p eps) (SomeLineFits p eps) 0 p.count segments k d inside laid.cover laid.steep in
    let end : end_at segments k p.count ≡ e = elim (cases_lt (k + 1) (length segments)) [
      | inl more ↦ fits.next d more ∙ sym (ends.next d more)
      | inr final ↦ let count : length segments ≡ k + 1 = omega arith in fits.last count ∙ sym (ends.last count)
    ] in
    let segment = slice_index_or segments k d in
    let left = x0-from_start p eps (end_at segments k p.count) segment ascends steep.some steep.within steep.holds in
    let holds = fits.holds in
    record {
      in_range = ranged.holds;
      some = omega (arith, fits.some, end);
      within = omega (arith, fits.within, end);
      left = left;
      not_below = line_not_below p eps segment.line holds.positive segment.start
          (holds.fits segment.start (omega arith) fits.some) left;
    }

-- a run ends where the next one starts
pub IsEndOf-start : (segments : List Segment) (to k e : ℕ) → e ≡ start_at to segments (k + 1) → IsEndOf segments to k e
IsEndOf-start segments to k e is = record {
  next = λ d more. is ∙ start_at-is to segments (k + 1) d more;
  last = λ count. is ∙ start_at-behind to segments (k + 1) (omega (arith, count));
}

-- a run has one end
pub IsEndOf-unique : (segments : List Segment) (to k e f : ℕ) (d : Segment) →
    k < length segments → IsEndOf segments to k e → IsEndOf segments to k f → e ≡ f
IsEndOf-unique segments to k e f d inside first second = elim (cases_lt (k + 1) (length segments)) [
  | inl more ↦ first.next d more ∙ sym (second.next d more)
  | inr final ↦ let count : length segments ≡ k + 1 = omega arith in first.last count ∙ sym (second.last count)
]

-- a model of the run, however its segment and its end are read
pub IsModelOf-read : (xs ys : List ℕ) (segments : List Segment) (eps k end e : ℕ) (d d' : Segment) (model : RunModel) →
    k < length segments → IsEndOf segments (length xs) k end →
    IsEndOf segments (length xs) k e → IsModelOf (slice_index_or segments k d').line
    (slice_index xs (slice_index_or segments k d').start) (slice_index ys (end - 1)) eps model →
    IsModelOf (slice_index_or segments k d).line
    (slice_index xs (slice_index_or segments k d).start) (slice_index ys (e - 1)) eps model
IsModelOf-read xs ys segments eps k end e d d' model inside ends other is =
    subst (λ (e : ℕ). IsModelOf (slice_index_or segments k d).line
    (slice_index xs (slice_index_or segments k d).start) (slice_index ys (e - 1)) eps model)
    (IsEndOf-unique segments (length xs) k end e d inside ends other)
    (subst (λ (s : Segment). IsModelOf s.line (slice_index xs s.start) (slice_index ys (end - 1)) eps model)
    (get_or_default segments k d' d inside) is)

-- one model more
pub models_more : (xs ys : List ℕ) (segments : List Segment) (eps k : ℕ) (models : List RunModel) (model : RunModel) →
    length models ≡ k →
    ((j e : ℕ) (d : Segment) (m : RunModel) → j < k → IsEndOf segments (length xs) j e →
    IsModelOf (slice_index_or segments j d).line
    (slice_index xs (slice_index_or segments j d).start) (slice_index ys (e - 1)) eps (slice_index_or models j m)) →
    ((e : ℕ) (d : Segment) → IsEndOf segments (length xs) k e →
    IsModelOf (slice_index_or segments k d).line
    (slice_index xs (slice_index_or segments k d).start) (slice_index ys (e - 1)) eps model) →
    (j e : ℕ) (d : Segment) (m : RunModel) → j < k + 1 → IsEndOf segments (length xs) j e →
    IsModelOf (slice_index_or segments j d).line (slice_index xs (slice_index_or segments j d).start)
    (slice_index ys (e - 1)) eps (slice_index_or (models ++ model ∷ []) j m)
models_more xs ys segments eps k models model count each own j e d m less ends = elim (cases_lt j k) [
  | inl before ↦
      rw (get_or_append_left models (model ∷ []) m j (omega (arith, count, before))) (each j e d m before ends)
  | inr from ↦
      let here : j ≡ length models = omega (arith, count) in
      let last : k ≡ j = omega arith in
      let is : slice_index_or (models ++ model ∷ []) j m ≡ model =
      ap (λ (n : ℕ). slice_index_or (models ++ model ∷ []) n m) here ∙ get_or-append_seam models model [] m in
      rw is (subst (λ (n : ℕ). IsEndOf segments (length xs) n e →
      IsModelOf (slice_index_or segments n d).line
      (slice_index xs (slice_index_or segments n d).start) (slice_index ys (e - 1)) eps model)
      last (own e d) ends)
]
