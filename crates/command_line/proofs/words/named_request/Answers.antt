use Rattle.std.proofs.Common.{sym, ap, ◌∙◌}
use Rattle.std.specs.Prelude.{option_and_then}
use Rattle.command_line.specs.Commands.{request_for}
use Rattle.command_line.proofs.TakenWords.{met_rows}
use Rattle.command_line.proofs.words.named_request.Goals as goal

pub request_in-requires : goal.request_in-requires
request_in-requires c = (
  c.requires.0,
  c.requires.1,
  sym c.requires.2 ∙ met_rows c.args.matches.now _ _ c.in_ok-name.ensures.name c.in_ok-name.ensures.rows,
)

pub returns : goal.returns
returns c =
    c.request_in.ensures
    ∙ ap (option_and_then (λ p. request_for p.0 p.1))
    (sym (met_rows c.args.matches.now _ _ c.in_ok-name.ensures.name c.in_ok-name.ensures.rows))
