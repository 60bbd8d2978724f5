-- What is taken stands behind what was taken before.
use Rattle.std.proofs.Common.{◌≡◌, ◌<◌, ◌+◌, ◌-◌, ◌∙◌, take, length, ap, sym, subst, arith}
use Rattle.std.proofs.lemmas.Bool.{false≢true, leb-false}
use Rattle.map_replay.specs.declared.intake.Intake.{Intake}
use Rattle.map_replay.specs.SenderStates.{IsIntake}
use Rattle.map_replay.proofs.MixLemmas.{intake_more, kept_before, one_more}
use Rattle.map_replay.proofs.intake.take_batch.Goals.{else-took-via-then-took+else-count-assignment}
use Rattle.map_replay.proofs.intake.take_batch.Goals.{then-count-from, else-count-from, else-took-via-else-took}
use Rattle.map_replay.proofs.intake.take_batch.Goals as goal

pub returns-then-count-assignment-clause-started : goal.returns-then-count-assignment-clause-started
returns-then-count-assignment-clause-started g c =
    c.serve_all.ensures.started c.args.intake.now.inbox.origin c.loop-turn.invariant.started

pub returns-then-count-from-2-clause-started : goal.returns-then-count-from-2-clause-started
returns-then-count-from-2-clause-started g c =
    c.serve_all.ensures.started c.args.intake.now.inbox.origin c.loop-turn.invariant.started

pub loop-turn-preserved-then-not-took-2 : goal.loop-turn-preserved-then-not-took-2
loop-turn-preserved-then-not-took-2 g c =
    let inv = c.loop-turn.invariant in
    let total = length c.args.assignment.updates.now in
    let same : c.take_next-took.new.intake ≡ c.loop-turn.intake = c.take_next-took.ensures.none c.if-not-took-2.true in
    let long = ap (λ (i : Intake). length i.arrivals.updates.items) same in
    record {
      own = ap (λ (i : Intake). i.inbox.origin) same ∙ inv.own;
      intake = subst (λ (i : Intake). IsIntake total i) (sym same) inv.intake;
      left = omega (arith, long, inv.left);
      kept = omega (arith, long, inv.kept);
      few = omega (arith, long, inv.few);
      begins = ap (λ (i : Intake). take c.len-from.result i.arrivals.updates.items) same ∙ inv.begins;
      started = c.serve_all.ensures.started c.args.intake.now.inbox.origin inv.started;
      count = c.serve_all.ensures.count ∙ inv.count;
    }

pub loop-turn-preserved : goal.loop-turn-preserved
loop-turn-preserved g c =
    let inv = c.loop-turn.invariant in
    let total = length c.args.assignment.updates.now in
    let before = c.loop-turn.intake in
    let after = c.take_next-took.new.intake in
    let took = c.take_next-took.ensures.took c.if-not-took-2.false in
    let both : (length after.arrivals.updates.items < total)
    × (length after.arrivals.updates.items < c.len-from.result + c.args.size) = elim c.else-took.branch [
      | else-took-via-then-took+else-count-assignment w ↦ elim w.if-count-from.branch [
        | then-count-from v ↦ absurd
            (omega (
              arith,
              leb-false c.args.size (c.len-count.result - c.len-from.result)
                  (sym v.value-is ∙ w.if-count-assignment.false),
              v.if-count-from.true,
            ))
        | else-count-from v ↦ (
          omega (
            arith,
            leb-false total c.len-count.result (sym v.value-is ∙ w.if-count-assignment.false),
            after.arrivals.updates.ok.0,
          ),
          omega (arith, v.if-count-from.false, after.arrivals.updates.ok.0),
        )
      ]
      | else-took-via-else-took w ↦ absurd (false≢true (sym w.if-took.false ∙ c.if-not-took-2.false))
    ] in
    record {
      own = took.own ∙ inv.own;
      intake = intake_more total before after took inv.left inv.intake;
      left = both.0;
      few = both.1;
      kept = omega (arith, inv.kept, one_more total before after took);
      begins = kept_before total before after took c.len-from.result inv.kept ∙ inv.begins;
      started = c.serve_all.ensures.started c.args.intake.now.inbox.origin inv.started;
      count = c.serve_all.ensures.count ∙ inv.count;
    }
