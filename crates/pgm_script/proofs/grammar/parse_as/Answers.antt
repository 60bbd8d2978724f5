use Rattle.std.proofs.Common.{List, All, sym, subst, refl, inr, Ok, arith}
use Rattle.std.proofs.lemmas.Bool.Decides.{nat_tests}
use Rattle.pgm_script.specs.declared.script.ScriptLine.{ScriptLine}
use Rattle.pgm_script.specs.Scripts.{IsLineOf}
use Rattle.pgm_script.proofs.ScriptLemmas.{IsUnderWay, under-way-skip, under-way-push}
use Rattle.pgm_script.proofs.ScriptLemmas.{under-way-fault, under-way-end, one-reading}
use Rattle.pgm_script.proofs.KindLemmas.{line-of-kind, script-of-kind}
use Rattle.pgm_script.proofs.grammar.parse_as.Goals as goal

pub returns-in-Err-clause-wherever : goal.returns-in-Err-clause-wherever
returns-in-Err-clause-wherever g c = λ reading reads.
    inr (one-reading c.args.kind c.args.text.now reading _ reads
    (under-way-fault c.args.kind c.args.text.now _ c.cut_line.result.1.now _ _ c.loop-rest.number
    _ c.in-Err.why c.loop-rest.invariant.under_way c.cut_line.ensures.lines (sym c.in-Err.ensures) refl))

pub loop-rest-preserved-in_ok-put-in-Ok-Some : goal.loop-rest-preserved-in_ok-put-in-Ok-Some
loop-rest-preserved-in_ok-put-in-Ok-Some g c =
    let reading = rw c.in-Ok-Some.field-0-is at c.in-Ok-Some.ensures in
    record {
      under_way = under-way-push c.args.kind c.args.text.now _ _ _ _ _ c.loop-rest.number c.in-Ok-Some.line
          c.loop-rest.invariant.under_way c.cut_line.ensures.lines (sym reading) c.in_ok-put-in-Ok-Some.ensures;
      room = omega (arith, c.loop-rest.invariant.room, c.cut_line.ensures.shorter);
    }

pub loop-rest-preserved : goal.loop-rest-preserved
loop-rest-preserved g c =
    let reading = rw c.in-Ok-None.field-0-is at c.in-Ok-None.ensures in
    record {
      under_way = under-way-skip c.args.kind c.args.text.now
          _ _ _ _ c.loop-rest.number c.loop-rest.invariant.under_way c.cut_line.ensures.lines (sym reading);
      room = omega (arith, c.loop-rest.invariant.room, c.cut_line.ensures.shorter);
    }

pub returns-clause-wherever : goal.returns-clause-wherever
returns-clause-wherever g c = λ reading reads.
    one-reading c.args.kind c.args.text.now reading (Ok (g.L.LineList.lines c.loop-rest.list)) reads
    (under-way-end c.args.kind c.args.text.now c.loop-rest.rest.now _ _ c.loop-rest.invariant.under_way
    (grind (arith, nat_tests)))

pub returns-clause-kind : goal.returns-clause-kind
returns-clause-kind g c =
    let so_far : IsUnderWay c.args.kind c.args.text.now c.loop-rest.rest.now
    (g.L.LineList.lines c.loop-rest.list) c.loop-rest.number = c.loop-rest.invariant.under_way in
    subst (λ (w : List ScriptLine). All (IsLineOf c.args.kind) w)
    (sym so_far.made) (script-of-kind c.args.kind so_far.before c.requires.kind)

pub loop-rest-smaller-in-Some : goal.loop-rest-smaller-in-Some
loop-rest-smaller-in-Some g c = c.in-Some.ensures.shorter

pub loop-rest-preserved-in-Some : goal.loop-rest-preserved-in-Some
loop-rest-preserved-in-Some g c =
    let plain = c.in-Some.ensures in
    record {
      under_way = under-way-push c.args.kind c.args.text.now _ _ _
          _ _ c.loop-rest.number c.in-Some.line c.loop-rest.invariant.under_way plain.cut plain.is c.in_ok-put.ensures;
      room = omega (arith, c.loop-rest.invariant.room, plain.shorter);
    }

-- a line that was read is one of the kind
pub put-requires : goal.put-requires
put-requires g c =
    let plain = c.in-Some.ensures in
    (c.args.kind, c.requires.takes, line-of-kind c.args.kind plain.line c.in-Some.line c.requires.kind plain.is)

pub put-requires-in-Ok-Some : goal.put-requires-in-Ok-Some
put-requires-in-Ok-Some g c =
    let reading = rw c.in-Ok-Some.field-0-is at c.in-Ok-Some.ensures in (
      c.args.kind,
      c.requires.takes,
      line-of-kind c.args.kind c.cut_line.result.0.now c.in-Ok-Some.line c.requires.kind (sym reading),
    )
