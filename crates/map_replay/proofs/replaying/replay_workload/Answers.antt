-- Without readers nobody saw anything, and what is left answers all the same.
use Rattle.std.proofs.Common.{◌≡◌, ℕ, [], ap, length, sym, subst, arith}
use Rattle.std.proofs.lemmas.List.Elements.{All-nil, All-same}
use Rattle.map_replay.specs.declared.workload.Workload.{Workload}
use Rattle.map_replay.specs.Readings.{Outcome}
use Rattle.map_replay.specs.ReaderStates.{HasSeen, IsOutcome}
use Rattle.map_replay.proofs.replaying.replay_workload.Goals as goal

seen_as : {workload : Workload} {readers : ℕ} {left seen : Outcome} →
    seen ≡ left → IsOutcome workload readers left → IsOutcome workload readers seen
seen_as {workload} {readers} {left} {seen} same is =
    subst (λ (outcome : Outcome). IsOutcome workload readers outcome) (sym same) is

pub returns : goal.returns
returns g c =
    let is = seen_as c.left.view_is c.in_ok-left.ensures in
    record {
      history = is.history;
      shown = is.shown;
      same = is.same;
      whole = is.whole;
      published = is.published;
      count = omega (arith, ap (λ r. length r) c.clear.ensures.items, c.if-plan-gt0.false);
      each = All-same (HasSeen is.history c.args.workload.questions.now) c.clear.new.self.items [] c.clear.ensures.items
          (All-nil _);
    }
