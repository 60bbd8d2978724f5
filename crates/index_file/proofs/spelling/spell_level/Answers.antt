-- The number of runs, and then each run.
use Rattle.std.proofs.Common.{ℕ, List, ◌++◌, length, map, ap, sym, ◌∙◌}
use Rattle.std.proofs.lemmas.List.{append-nil, take_all, length-map}
use Rattle.std.specs.List.{flat_map}
use Rattle.exact_cross.specs.declared.segment.Segment.{Segment}
use Rattle.index_file.specs.Spelling.{number, run_bytes}
use Rattle.index_file.specs.Spelled.{saved_run}
use Rattle.index_file.proofs.Levels.{level-of}
use Rattle.index_file.proofs.spelling.spell_level.Goals as goal

pub loop-segment-init : goal.loop-segment-init
loop-segment-init c =
    c.in_ok-push_number.ensures
    ∙ ap (λ (w : List ℕ). w ++ number (length c.args.segments.now)) c.new-bytes.ensures.items
    ∙ sym (append-nil (number (length c.args.segments.now)))

pub returns : goal.returns
returns c =
    let segments = c.args.segments.now in
    let all = take_all c.loop-segment.segment-index segments c.loop-segment-test.false in
    c.loop-segment.invariant
    ∙ ap (λ (xs : List Segment). number (length segments) ++ flat_map run_bytes (map saved_run xs)) all
    ∙ level-of (length segments) (map saved_run segments) (length-map segments saved_run)
