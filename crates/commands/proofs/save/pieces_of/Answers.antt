-- One level more.
use Rattle.std.proofs.Common.{◌∙◌, ◌++◌, ◌∷◌, [], ℕ, List, length, map, take, ap, arith, sym}
use Rattle.std.proofs.lemmas.List.{take_all}
use Rattle.index_file.specs.Spelling.{head_bytes, level_bytes}
use Rattle.index_file.specs.Spelled.{saved_run}
use Rattle.commands.specs.Texts.Save.{level_pieces}
use Rattle.commands.proofs.SavedTexts.{level_few, pieces-more}
use Rattle.commands.proofs.save.pieces_of.Goals as goal

pub push_level-requires : goal.push_level-requires
push_level-requires c =
    let index = c.args.index.now in
    omega (
      arith,
      ap length c.segments.ensures.segments,
      level_few index.keys c.args.bounds.eps c.args.bounds.eps_rec index.levels c.loop-i.i
          c.requires.never_falls c.requires.few c.requires.index (omega (arith, c.level_count-levels.ensures.count)),
    )

pub loop-i-preserved : goal.loop-i-preserved
loop-i-preserved c =
    let levels = c.args.index.now.levels in
    let head = head_bytes c.args.bounds.eps c.args.bounds.eps_rec (length levels) in
    let i : ℕ = c.loop-i.i in
    c.in_ok-push_level.ensures
    ∙ ap (λ (p : List (List ℕ)). p ++ level_bytes (map saved_run c.segments.result.now) ∷ []) c.loop-i.invariant
    ∙ ap (λ s. (head ∷ level_pieces (take i levels)) ++ level_bytes (map saved_run s) ∷ []) c.segments.ensures.segments
    ∙ ap (λ (p : List (List ℕ)). head ∷ p)
    (sym (pieces-more levels i (omega (arith, c.level_count-levels.ensures.count))))

pub returns-clause-pieces : goal.returns-clause-pieces
returns-clause-pieces c =
    let levels = c.args.index.now.levels in
    c.loop-i.invariant ∙ ap (λ l. head_bytes c.args.bounds.eps c.args.bounds.eps_rec (length levels) ∷ level_pieces l)
    (take_all c.loop-i.i levels (omega (arith, c.level_count-levels.ensures.count)))
