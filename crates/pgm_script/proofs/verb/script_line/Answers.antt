use Rattle.std.proofs.Common.{ℕ, ◌+◌, length, take, sym, ap, ◌∙◌, subst}
use Rattle.std.proofs.lemmas.List.{length-replicate}
use Rattle.pgm_script.specs.declared.script.ScriptLine.{ScriptLine}
use Rattle.pgm_script.specs.declared.verb.Verb.{Verb}
use Rattle.pgm_script.specs.Commands.{box_command, greatest}
use Rattle.pgm_script.specs.Verbs.{command_of, AreWithin, IsVerb}
use Rattle.pgm_script.proofs.VerbLemmas.{region-is, in-range}
use Rattle.pgm_script.proofs.verb.script_line.Goals as goal

pub region-requires-clause-range : goal.region-requires-clause-range
region-requires-clause-range c = λ k below.
    let P : Verb → Type 0 = λ verb. AreWithin (command_of verb).most c.args.numbers.now in
    in-range c.in-Box.d c.args.numbers.now k
    (subst IsVerb c.in-Box.is c.requires.verb) (subst P c.in-Box.is c.requires.range) below

pub returns-in-Box : goal.returns-in-Box
returns-in-Box c =
    let line :
    Verb → ScriptLine = λ verb. (command_of verb).line (take (length (command_of verb).most) c.args.numbers.now) in
    ap ScriptLine.Region
    (region-is
    c.region.result c.in-Box.d c.args.numbers.now c.region.ensures.d c.region.ensures.low c.region.ensures.high)
    ∙ ap (λ (n : ℕ). (box_command c.in-Box.d).line (take n c.args.numbers.now))
    (sym (length-replicate (c.in-Box.d + c.in-Box.d) (greatest c.in-Box.d)))
    ∙ ap line (sym c.in-Box.is)
