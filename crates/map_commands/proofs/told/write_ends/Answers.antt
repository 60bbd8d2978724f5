use Rattle.std.proofs.Common.{◌≡◌, ◌∙◌, [], ◌∷◌, ℕ, List, ap}
use Rattle.std.specs.Prelude.{codes, decimal}
use Rattle.written.specs.TextLines.{text_line}
use Rattle.log_levels.specs.Maps.{map_after}
use Rattle.map_commands.specs.Replay.{live_line}
use Rattle.written.proofs.AppendLemmas.{BreaksOff-more}
use Rattle.written.proofs.WritingLemmas.{behind_as, broken}
use Rattle.map_commands.proofs.told.write_ends.Goals as goal

pub returns-in_err-write_answers : goal.returns-in_err-write_answers
returns-in_err-write_answers g c =
    broken _ c.from_residual.result c.from_residual.ensures.1 (BreaksOff-more _ c.in_err-write_answers.ensures)

pub returns : goal.returns
returns g c =
    let pairs = map_after c.args.updates.now in
    let last_is : c.as_bytes.result.now ≡ live_line pairs =
    c.as_bytes.ensures
    ∙ (c.fill_count.ensures
    ∙ ap (λ (n : ℕ). text_line (codes "live" ∷ decimal n ∷ [])) (c.live_in.ensures pairs c.requires)) in
    behind_as c.hand_over.new.out c.hand_over.result c.in_ok-write_answers.ensures
    (ap (λ (p : List ℕ). p ∷ []) last_is) c.hand_over.ensures
