-- The text lines of runs, from a place on: the first of them, and those that follow.
use Rattle.std.proofs.Common.{◌≡◌, ℕ, ◌+◌, ◌<◌, ◌≤◌, List, [], ◌∷◌, ◌++◌, length}
use Rattle.std.proofs.Common.{get_or, drop, sym, ap, ◌∙◌, add-one, drop-cons, pos, None}
use Rattle.std.proofs.lemmas.List.{drop_all}
use Rattle.exact_cross.specs.declared.segment.Segment.{Segment}
use Rattle.exact_cross.specs.Segments.{start_at}
use Rattle.exact_cross.proofs.CallerLemmas.{run_end-start}
use Rattle.commands.specs.Texts.Explain.{run_line, run_lines}

-- what a read past the end would give
abbrev pub no_segment : Segment
no_segment = record { start = 0; a = 0; b = 0; line = record { x0 = 0; y0 = pos 0; rise = 0; run = 0 }; cut = None }

-- what is left begins with the segment there
pub rest_from : (segments : List Segment) (i : ℕ) →
    i < length segments → drop i segments ≡ get_or segments i no_segment ∷ drop (i + 1) segments
rest_from segments i there = drop-cons segments i no_segment there
    ∙ ap (λ (n : ℕ). get_or segments i no_segment ∷ drop n segments) (sym (add-one i))

pub run_lines-from : (segments : List Segment) (to i end : ℕ) →
    i < length segments → end ≡ start_at to segments (i + 1) →
    run_lines (drop i segments) to ≡ run_line (get_or segments i no_segment) end ∷ run_lines (drop (i + 1) segments) to
run_lines-from segments to i end there is =
    ap (λ (s : List Segment). run_lines s to) (rest_from segments i there)
    ∙ ap (λ (e : ℕ). run_line (get_or segments i no_segment) e ∷ run_lines (drop (i + 1) segments) to)
    (run_end-start to segments (i + 1) ∙ sym is)

pub run_lines-end : (segments : List Segment) (to i : ℕ) → length segments ≤ i → run_lines (drop i segments) to ≡ []
run_lines-end segments to i behind = ap (λ (s : List Segment). run_lines s to) (drop_all i segments behind)

-- the same where the first text line is at hand
pub run_lines-begin : (segments : List Segment) (to i end : ℕ) (piece : List ℕ) →
    i < length segments → end ≡ start_at to segments (i + 1) →
    piece ≡ run_line (get_or segments i no_segment) end →
    run_lines (drop i segments) to ≡ (piece ∷ []) ++ run_lines (drop (i + 1) segments) to
run_lines-begin segments to i end piece there is same =
    run_lines-from segments to i end there is ∙ ap (λ (p : List ℕ). p ∷ run_lines (drop (i + 1) segments) to) (sym same)
