-- The sender that is popped is of the inbox that all are of.
use Rattle.std.proofs.Common.{◌≡◌, All, sym, subst, arith}
use Rattle.std.proofs.lemmas.List.Elements.{All-push}
use Rattle.map_tests.specs.declared.senders_rows.Job.{Job}
use Rattle.senders.proofs.Gathered.{own_popped}
use Rattle.map_tests.proofs.senders_rows.jobs_of.Goals as goal

pub loop-sender-preserved : goal.loop-sender-preserved
loop-sender-preserved c = record {
  own = λ origin all.
      let inv = c.loop-sender.invariant.own origin all in
      let popped = own_popped
      origin c.loop-sender.senders.items c.pop.new.self.items c.in-Some.sender c.in-Some.ensures.items inv.0 in (
        popped.0,
        subst (All (λ (job : Job). job.sender.origin ≡ origin)) (sym c.in_ok-push.ensures.items)
            (All-push (λ (job : Job). job.sender.origin ≡ origin) c.loop-sender.jobs.items _ inv.1 popped.1),
      );
  count = omega (arith, c.loop-sender.invariant.count, c.in_ok-push.ensures.len, c.in-Some.ensures.len);
}
