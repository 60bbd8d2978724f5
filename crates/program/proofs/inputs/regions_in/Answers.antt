use Rattle.std.proofs.Common.{◌≡◌, ◌∙◌, ◌+◌, ◌<◌, ◌++◌, ◌∷◌, [], ap, sym, subst, take, get_or, length, List, ℕ, arith}
use Rattle.std.specs.Prelude.{All}
use Rattle.std.proofs.lemmas.List.{take_all, take_more}
use Rattle.std.proofs.lemmas.List.Elements.{All-nil, All-cons, All-head, All-tail, filter_map-append}
use Rattle.zorder.specs.declared.regions.Region.{Region}
use Rattle.pgm_script.specs.declared.script.ScriptKind.{ScriptKind}
use Rattle.pgm_script.specs.declared.script.ScriptLine.{ScriptLine}
use Rattle.pgm_script.specs.declared.script.ScriptLine.TheVariants.{Find, Region as region_line}
use Rattle.pgm_script.specs.Scripts.{IsLineOf}
use Rattle.zorder.specs.Regions.{IsRegionOf}
use Rattle.program.specs.Inputs.{region_in, regions_in}
use Rattle.program.proofs.inputs.regions_in.Goals as goal

-- the regions up to a place, and that of the line there
one_more : (lines : List ScriptLine) (i : ℕ) (d : ScriptLine) → i < length lines →
    regions_in (take i lines) ++ regions_in (get_or lines i d ∷ []) ≡ regions_in (take (i + 1) lines)
one_more lines i d there =
    sym (filter_map-append region_in (take i lines) (get_or lines i d ∷ []))
    ∙ ap regions_in (sym (take_more lines i d there))

-- the lines of a script of regions hold such regions
each_is : (d : ℕ) (lines : List ScriptLine) →
    All (IsLineOf (ScriptKind.Region d)) lines → All (IsRegionOf d) (regions_in lines)
each_is d [] each = All-nil _
each_is d (region_line region ∷ lines) each =
    All-cons (IsRegionOf d) region
    (regions_in lines) (All-head (IsLineOf (ScriptKind.Region d)) (region_line region) lines each)
    (each_is d lines (All-tail (IsLineOf (ScriptKind.Region d)) (region_line region) lines each))
each_is d (line ∷ lines) each = absurd (All-head (IsLineOf (ScriptKind.Region d)) line lines each)

pub loop-i-preserved : goal.loop-i-preserved
loop-i-preserved c =
    let line = get_or c.args.lines.now c.loop-i.i (Find 0) in
    c.in_ok-push_region.ensures ∙ ap (λ (r : List Region). r ++ regions_in (line ∷ [])) c.loop-i.invariant
    ∙ one_more c.args.lines.now c.loop-i.i (Find 0) (omega arith)

pub returns-clause-regions : goal.returns-clause-regions
returns-clause-regions c = c.loop-i.invariant ∙ ap regions_in (take_all c.loop-i.i c.args.lines.now (omega arith))

pub returns-clause-each : goal.returns-clause-each
returns-clause-each c =
    subst (All (IsRegionOf c.args.d))
    (sym (c.loop-i.invariant ∙ ap regions_in (take_all c.loop-i.i c.args.lines.now (omega arith))))
    (each_is c.args.d c.args.lines.now c.requires)
