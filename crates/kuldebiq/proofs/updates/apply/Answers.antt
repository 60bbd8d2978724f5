-- Updates that are such are refused as the map refuses them.
use Rattle.std.proofs.Common.{◌∙◌, ◌<◌, inr, List, length, All, take_all, ap, subst, Err, arith}
use Rattle.std.proofs.lemmas.List.Elements.{All-get_or}
use Rattle.kuldebiq.specs.declared.updates.UpdateParts.{UpdateParts}
use Rattle.kuldebiq.specs.Updates.{IsUpdate}
use Rattle.kuldebiq.proofs.Applied.{refused_by}
use Rattle.kuldebiq.proofs.updates.apply.Goals as goal

pub returns-then-known-parts-clause-full : goal.returns-then-known-parts-clause-full
returns-then-known-parts-clause-full c = λ before all stands many.
    let d : UpdateParts = record { kind = 0; key = 0; value = 0 } in
    let inside : c.known_len-known.result < length c.args.parts.now =
    omega (arith, c.known_len-known.ensures.within, c.if-known-parts.true) in
    absurd (c.known_len-known.ensures.other d inside
    (All-get_or IsUpdate c.args.parts.now c.known_len-known.result d inside all))

pub returns-in-Ok-clause-judged : goal.returns-in-Ok-clause-judged
returns-in-Ok-clause-judged c = λ done.
    subst (λ (parts : List UpdateParts). All IsUpdate parts)
    (take_all c.known_len-known.result c.args.parts.now (omega (arith, c.if-known-parts.false)))
    c.known_len-known.ensures.known

pub returns-in-Ok-clause-refused : goal.returns-in-Ok-clause-refused
returns-in-Ok-clause-refused c = λ not_done.
    inr (
      subst (λ (parts : List UpdateParts). All IsUpdate parts)
          (take_all c.known_len-known.result c.args.parts.now (omega (arith, c.if-known-parts.false)))
          c.known_len-known.ensures.known,
      refused_by c.args.held.now c.args.parts.now c.deref.result.now c.in-Err-apply_here.fault c.fault_as.result
          (c.deref.ensures.value ∙ c.in-Ok.ensures) c.fault_as.ensures
          (λ accepted is. c.apply_here.ensures.refused.full_only accepted (c.in-Err-apply_here.is ∙ ap Err is)),
    )

pub returns-clause-refused : goal.returns-clause-refused
returns-clause-refused c = λ not_done.
    inr (
      subst (λ (parts : List UpdateParts). All IsUpdate parts)
          (take_all c.known_len-known.result c.args.parts.now (omega (arith, c.if-known-parts.false)))
          c.known_len-known.ensures.known,
      inr c.refused-in-Err.ensures,
    )
