use Rattle.std.proofs.Common.{◌≡◌, ◌∙◌, ◌+◌, ◌<◌, ◌++◌, ◌∷◌, [], ap, sym, subst, take, get_or, length, List, ℕ, arith}
use Rattle.std.specs.Prelude.{All}
use Rattle.std.proofs.lemmas.List.{take_all, take_more}
use Rattle.std.proofs.lemmas.List.Elements.{All-nil, All-cons, All-head, All-tail, filter_map-append}
use Rattle.zorder.specs.Codes.{IsInRange}
use Rattle.pgm_script.specs.declared.script.ScriptKind.{ScriptKind}
use Rattle.pgm_script.specs.declared.script.ScriptLine.{ScriptLine}
use Rattle.pgm_script.specs.declared.script.ScriptLine.TheVariants.{Find, Near as near_line}
use Rattle.pgm_script.specs.Scripts.{IsLineOf}
use Rattle.commands.specs.declared.task.Centre.{Centre}
use Rattle.program.specs.Inputs.{centre_in, centres_in}
use Rattle.program.proofs.inputs.centres_in.Goals as goal

-- the centres up to a place, and that of the line there
one_more : (lines : List ScriptLine) (i : ℕ) (d : ScriptLine) → i < length lines →
    centres_in (take i lines) ++ centres_in (get_or lines i d ∷ []) ≡ centres_in (take (i + 1) lines)
one_more lines i d there =
    sym (filter_map-append centre_in (take i lines) (get_or lines i d ∷ []))
    ∙ ap centres_in (sym (take_more lines i d there))

-- the lines of a script of centres hold such centres
each_is : (d : ℕ) (lines : List ScriptLine) →
    All (IsLineOf (ScriptKind.Near d)) lines → All (λ centre. IsInRange d centre.place) (centres_in lines)
each_is d [] each = All-nil _
each_is d (near_line place count ∷ lines) each =
    All-cons
    (λ (centre : Centre). IsInRange d centre.place) (record { place = place; count = count }) (centres_in lines)
    (All-head (IsLineOf (ScriptKind.Near d)) (near_line place count) lines each)
    (each_is d lines (All-tail (IsLineOf (ScriptKind.Near d)) (near_line place count) lines each))
each_is d (line ∷ lines) each = absurd (All-head (IsLineOf (ScriptKind.Near d)) line lines each)

pub loop-i-preserved : goal.loop-i-preserved
loop-i-preserved c =
    let line = get_or c.args.lines.now c.loop-i.i (Find 0) in
    c.in_ok-push_centre.ensures ∙ ap (λ (r : List Centre). r ++ centres_in (line ∷ [])) c.loop-i.invariant
    ∙ one_more c.args.lines.now c.loop-i.i (Find 0) (omega arith)

pub returns-clause-centres : goal.returns-clause-centres
returns-clause-centres c = c.loop-i.invariant ∙ ap centres_in (take_all c.loop-i.i c.args.lines.now (omega arith))

pub returns-clause-each : goal.returns-clause-each
returns-clause-each c =
    subst (All (λ (centre : Centre). IsInRange c.args.d centre.place))
    (sym (c.loop-i.invariant ∙ ap centres_in (take_all c.loop-i.i c.args.lines.now (omega arith))))
    (each_is c.args.d c.args.lines.now c.requires)
