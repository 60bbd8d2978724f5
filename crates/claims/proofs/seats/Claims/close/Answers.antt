-- Joining keeps the rule, and at the end one seat stands for all workers.
use Rattle.std.proofs.Common.{◌≡◌, length, sym, ap, ◌∙◌, subst, arith}
use Rattle.claims.specs.Claims.{Claimed, Drawn, Origin}
use Rattle.claims.specs.Views.{Sat}
use Rattle.claims.proofs.Steps.{joins}
use Rattle.claims.proofs.Gathered.{gathers_first, gathers_more, gathered-once, gathered-drawn, gathered-marks}
use Rattle.claims.proofs.Gathered.{own_taken, IsViewOf-from_inside, HasGathered, IsClosed, IsClosed-from_final}
use Rattle.claims.proofs.seats.Claims.close.Goals as goal

pub loop-other-init : goal.loop-other-init
loop-other-init c =
    let seat = c.last.inside.seat in
    let own = own_taken c.args.self.origin
    c.args.seats.items c.pop.new.self.items c.in-Some.last c.in-Some.ensures.items c.requires.own in
    let same : seat.table_id ≡ c.self.inside.table.shared.table_id =
    ap (λ (o : Origin). o.table)
    (ap (λ (d : Drawn). d.origin) c.last.view_is ∙ own.1 ∙ sym (ap (λ (d : Claimed). d.origin) c.self.view_is)) in
    record {
      table = same;
      empty = c.last.invariant.empty;
      gathered = gathers_first c.args.seats.items c.pop.new.self.items c.in-Some.last seat.me.0 c.in-Some.ensures.items
          (IsViewOf-from_inside
          _ seat.me.0 c.last.inside.ended c.in-Some.last c.last.view_is c.last.invariant.one c.last.invariant.mark);
      own = own.0;
    }

-- the seat that is joined is of these claims
pub join_seat-requires : goal.join_seat-requires
join_seat-requires c =
    let inv = c.loop-other.invariant in
    let own = own_taken c.args.self.origin c.loop-other.seats.items
    c.pop-in-loop-other.new.self.items c.in-Some-pop.other c.in-Some-pop.ensures.items inv.own in (
      inv.table,
      ap (λ (o : Origin). o.table)
          (ap (λ (d : Drawn). d.origin) c.other.view_is ∙ own.1 ∙ sym (ap (λ (d : Claimed). d.origin) c.self.view_is)),
      c.other.invariant.empty,
      omega (arith, c.self.invariant.0),
      joins c.self.inside.table.shared.key
          c.loop-other.all.id c.other.inside.seat.id c.loop-other.all.me.0 c.other.inside.seat.me.0 inv.gathered.some,
    )

pub loop-other-preserved : goal.loop-other-preserved
loop-other-preserved c =
    let inv = c.loop-other.invariant in
    let seat = c.other.inside.seat in
    let own = own_taken c.args.self.origin c.loop-other.seats.items
    c.pop-in-loop-other.new.self.items c.in-Some-pop.other c.in-Some-pop.ensures.items inv.own in
    let more = gathers_more c.args.seats.items c.loop-other.seats.items
    c.pop-in-loop-other.new.self.items c.in-Some-pop.other c.loop-other.all.me.0 seat.me.0 inv.gathered
    c.in-Some-pop.ensures.items
    (IsViewOf-from_inside _ seat.me.0
    c.other.inside.ended c.in-Some-pop.other c.other.view_is c.other.invariant.one c.other.invariant.mark) in
    record {
      table = c.join_seat.ensures.0 ∙ inv.table;
      empty = ap (λ (m : Sat). m.1) c.join_seat.ensures.2 ∙ inv.empty;
      gathered = subst (HasGathered c.args.seats.items c.pop-in-loop-other.new.self.items)
          (sym (ap (λ (m : Sat). m.0) c.join_seat.ensures.2)) more;
      own = own.0;
    }

-- no seat is left
none_left : (c : goal.After-drop-seats) → length c.loop-other.seats.items ≡ 0
none_left c = omega (arith, c.in_default-pop.ensures.cases, c.loop-other.seats.ok.0)

closed : (c : goal.After-drop-seats) → IsClosed c.args.self.origin.pieces c.word-word.result c.loop-other.all.me.0
closed c =
    let all = c.loop-other.all in
    let plan = c.self.inside.table.shared.key in
    let seen = c.self.view_is in
    let workers : all.me.0.workers ≡ plan.workers =
    omega (
      arith,
      c.loop-other.invariant.gathered.workers,
      none_left c,
      c.requires.all,
      ap (λ (d : Claimed). d.workers) seen,
    ) in
    let pieces : plan.pieces ≡ c.args.self.origin.pieces = c.self.invariant.2
    ∙ ap (λ (d : Claimed). d.origin.pieces) seen in
    subst (λ n. IsClosed n c.word-word.result all.me.0) pieces
    (IsClosed-from_final
    plan all.id all.me.0 _ _ c.word-word.result c.close_with-closed.ensures.values.2 c.word-word.ensures workers)

pub returns-clause-once : goal.returns-clause-once
returns-clause-once c = λ x.
    gathered-once c.args.seats.items c.loop-other.seats.items c.loop-other.all.me.0 c.loop-other.invariant.gathered
    (none_left c) x ∙ (closed c).once x

pub returns-clause-drawn : goal.returns-clause-drawn
returns-clause-drawn c =
    gathered-drawn c.args.seats.items c.loop-other.seats.items c.loop-other.all.me.0 c.loop-other.invariant.gathered
    (none_left c) ∙ (closed c).drawn

pub returns-clause-word : goal.returns-clause-word
returns-clause-word c =
    let marks = gathered-marks c.args.seats.items
    c.loop-other.seats.items c.loop-other.all.me.0 c.loop-other.invariant.gathered (none_left c) in
    omega (arith, (closed c).marks, marks)
