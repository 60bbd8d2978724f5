use Rattle.std.proofs.Common.{◌≡◌, ◌+◌, ◌<◌, [], ◌∷◌, ◌++◌, ◌∙◌, ap, drop, length, arith, sym, ℕ, List, Option}
use Rattle.std.specs.List.{flat_map}
use Rattle.exact_cross.specs.Points.{places}
use Rattle.exact_cross.specs.declared.segment.Segment.{Segment}
use Rattle.written.proofs.LoopLemmas.{written_none, written_more, written_all, broken_there}
use Rattle.commands.specs.Tasks.{Bounds, bounds_of}
use Rattle.commands.specs.Texts.Indexing.{level_line_of}
use Rattle.commands.specs.Texts.Build.{built_level}
use Rattle.commands.proofs.LevelTexts.{told_from, told_end}
use Rattle.written.proofs.WritingLemmas.{broken}
use Rattle.commands.proofs.build.write_levels.Goals as goal

-- what is left begins with the piece of this level
begins : (keys : List ℕ) (bounds : Bounds) (slack : Option ℕ) (levels : List (List Segment)) (i : ℕ) (piece : List ℕ) →
    i < length levels → piece ≡ level_line_of keys bounds slack levels i →
    flat_map (built_level keys bounds slack levels) (drop i (places (length levels)))
    ≡ (piece ∷ []) ++ flat_map (built_level keys bounds slack levels) (drop (i + 1) (places (length levels)))
begins keys bounds slack levels i piece there is =
    told_from (built_level keys bounds slack levels) (length levels) i there
    ∙ ap (λ (line : List ℕ). (line ∷ [])
    ++ flat_map (built_level keys bounds slack levels) (drop (i + 1) (places (length levels)))) (sym is)

pub loop-i-init : goal.loop-i-init
loop-i-init g c = written_none

pub loop-i-preserved : goal.loop-i-preserved
loop-i-preserved g c =
    let piece = c.as_bytes.result.now in
    written_more c.loop-i.invariant c.in_ok-hand_over.ensures
    (begins c.args.index.now.keys (bounds_of c.args.bounds) c.args.slack c.args.index.now.levels c.loop-i.i piece
    (omega (arith, c.level_count-i-end.ensures.count))
    (c.as_bytes.ensures ∙ c.fill_level_line.ensures))

pub returns-in_err-hand_over : goal.returns-in_err-hand_over
returns-in_err-hand_over g c =
    let piece = c.as_bytes.result.now in
    broken _ c.from_residual.result c.from_residual.ensures.1
    (broken_there _ c.loop-i.invariant c.in_err-hand_over.ensures
    (begins c.args.index.now.keys (bounds_of c.args.bounds) c.args.slack c.args.index.now.levels c.loop-i.i piece
    (omega (arith, c.level_count-i-end.ensures.count))
    (c.as_bytes.ensures ∙ c.fill_level_line.ensures)))

pub returns : goal.returns
returns g c =
    written_all c.loop-i.invariant
    (told_end (built_level c.args.index.now.keys (bounds_of c.args.bounds) c.args.slack c.args.index.now.levels)
    (length c.args.index.now.levels) c.loop-i.i
    (omega (arith, c.level_count-i-end.ensures.count)))
