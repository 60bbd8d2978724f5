use Rattle.std.proofs.Common.{◌≡◌, ◌++◌, ℕ, List, Result, sym, subst, ap, ◌∙◌, arith}
use Rattle.std.proofs.lemmas.List.{append_assoc}
use Rattle.log_levels.specs.declared.update.Update.{Update}
use Rattle.log_levels.specs.Shapes.{Held, StandsFor, capacity_of}
use Rattle.log_levels.specs.Refusals.{Refuses}
use Rattle.log_levels.proofs.RefusalLemmas.{refuses-ok}
use Rattle.published.specs.Histories.{Front, updates_of}
use Rattle.published.specs.Writers.{Written, count_in, updates_in}
use Rattle.published.proofs.RefusalLemmas.{refuses-same, refuses-writer}
use Rattle.published.proofs.writer.Writer.stage.Goals as goal

pub returns-in_err-next-clause-refused : goal.returns-in_err-next-clause-refused
returns-in_err-next-clause-refused g c =
    let front = c.self.inside.front in
    let batch = c.self.inside.batch.items in
    refuses-same {X = Held}
    c.args.self.now c.args.updates.now c.in_err-next.field-0.0 c.from_residual.result c.from_residual.ensures.1
    (refuses-writer c.deref.result.now c.args.self.now front batch c.args.updates.now _
    (subst (λ held. StandsFor held (updates_of front.batches ++ batch)) (sym c.deref.ensures) c.self.invariant.3)
    (sym (ap (λ (f : Front). f.batches) c.self.invariant.1) ∙ ap (λ (w : Written). w.history) c.self.view_is)
    (ap (λ (w : Written). w.batch) c.self.view_is)
    (ap capacity_of c.deref.ensures ∙ ap (λ (w : Written). w.capacity) c.self.view_is)
    (subst (Refuses c.deref.result.now c.args.updates.now) c.in_err-next.was c.applied.ensures.refused))

pub invariant_of-self-2 : goal.invariant_of-self-2
invariant_of-self-2 g c =
    let front = c.self.inside.front in
    let batch = c.self.inside.batch.items in
    let before = updates_of front.batches ++ batch in
    let stands = c.in_ok-next.ensures.applied before
    (subst (λ held. StandsFor held before) (sym c.deref.ensures) c.self.invariant.3) in (
      c.self.invariant.0,
      c.self.invariant.1,
      c.self.invariant.2,
      subst (λ (t : Held × List Update). StandsFor t.0 t.1)
          (λ i. (
            sym c.in-Ok.ensures.ok i,
            (append_assoc (updates_of front.batches) batch c.args.updates.now ∙ ap
                (λ (l : List Update). updates_of front.batches ++ l) (sym c.in_ok-extend_from_slice.ensures.items)) i,
          )) stands,
      omega (
        arith,
        c.self.invariant.4,
        c.len.ensures,
        c.len-2.ensures,
        c.in_ok-extend_from_slice.ensures.len,
        c.self.inside.batch.ok.0,
        c.if-staged-updates.false,
      ),
    )

pub returns-clause-refused : goal.returns-clause-refused
returns-clause-refused g c =
    let front = c.self.inside.front in
    let batch = c.self.inside.batch.items in
    refuses-ok (λ before. before ≡ updates_in c.args.self.now)
    (count_in c.args.self.now) c.args.self.now.capacity c.args.updates.now c.in_ok-next.next tt
    (refuses-writer c.deref.result.now c.args.self.now front batch c.args.updates.now _
    (subst (λ held. StandsFor held (updates_of front.batches ++ batch)) (sym c.deref.ensures) c.self.invariant.3)
    (sym (ap (λ (f : Front). f.batches) c.self.invariant.1) ∙ ap (λ (w : Written). w.history) c.self.view_is)
    (ap (λ (w : Written). w.batch) c.self.view_is)
    (ap capacity_of c.deref.ensures ∙ ap (λ (w : Written). w.capacity) c.self.view_is)
    (subst (Refuses c.deref.result.now c.args.updates.now) c.in_ok-next.was c.applied.ensures.refused))
