use Rattle.std.proofs.Common.{subst, sym, ◌≤◌, ℕ, ◌∙◌}
use Rattle.std.specs.Str.Parse.{ParsesUnsigned, ExplainsUnsignedError, HasUnsignedDigitsIfOk}
use Rattle.clap.specs.Words.{found_of}
use Rattle.command_line.proofs.Getters.{number_read}
use Rattle.command_line.proofs.words.number_in.Goals as goal

pub returns-clause-value : goal.returns-clause-value
returns-clause-value c =
    c.unwrap_or.ensures
    ∙ (number_read
    (λ bs r. ParsesUnsigned 32 10 bs r × ExplainsUnsignedError 10 bs r × HasUnsignedDigitsIfOk bs r) (λ t r g. g.0)
    (found_of c.args.found.now) c.args.id.now c.args.default c.get_one.result
    c.requires.0 c.requires.1 c.requires.2 c.requires.3 c.get_one.ensures.none c.get_one.ensures.value).0

pub returns-clause-range : goal.returns-clause-range
returns-clause-range c least most small low high number =
    subst (λ (n : ℕ). (least ≤ n) × (n ≤ most)) (sym c.unwrap_or.ensures)
    ((number_read
    (λ bs r. ParsesUnsigned 32 10 bs r × ExplainsUnsignedError 10 bs r × HasUnsignedDigitsIfOk bs r) (λ t r g. g.0)
    (found_of c.args.found.now) c.args.id.now c.args.default
    c.get_one.result least most small number c.get_one.ensures.none c.get_one.ensures.value).1 low high)
