use Rattle.std.proofs.Common.{refl, ap, ◌∙◌}
use Rattle.clap.specs.Words.{found_of}
use Rattle.command_line.proofs.Getters.{name_read}
use Rattle.command_line.proofs.words.name_in.Goals as goal

pub returns : goal.returns
returns c = ap (λ s. s.now) c.unwrap_or.ensures
    ∙ name_read (found_of c.args.found.now) c.args.id.now c.get_str.result _ c.get_str.ensures refl
