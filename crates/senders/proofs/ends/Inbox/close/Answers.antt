-- Joining keeps the rule, and at the end one pass knows of all senders.
use Rattle.std.proofs.Common.{◌≡◌, ℕ, ◌+◌, ◌≤◌, ◌++◌, [], ◌∷◌, List, All, length}
use Rattle.std.proofs.Common.{map, sum_by, ap, sym, ◌∙◌, arith, length-append}
use Rattle.std.proofs.lemmas.List.{length-map}
use Rattle.log_levels.specs.declared.update.Update.{Update}
use Rattle.crossbeam_queue.specs.Passes.{view}
use Rattle.senders.specs.declared.views.Hand.{Hand}
use Rattle.senders.specs.declared.views.View.{View}
use Rattle.senders.specs.Senders.{Origin, Sending, Taking, of_sender, IsDelivered}
use Rattle.senders.specs.Views.{Settles, hand_of, sending}
use Rattle.senders.proofs.Steps.{join_keeps, settles}
use Rattle.senders.proofs.Gathered.{hand_of_sender, one_more, joined_hands, joined_known, sum_popped}
use Rattle.senders.proofs.Gathered.{own_popped, all_hands, sum_left, settled, all_begin, all_whole}
use Rattle.senders.proofs.ends.Inbox.close.Goals as goal
use Rattle.options.specs.declared.map.TheConstants.{MAX_ROOM}

pub absorb-requires-clause-queue : goal.absorb-requires-clause-queue
absorb-requires-clause-queue c =
    let inv = c.loop-sender.invariant in
    let own = own_popped c.args.self.origin
    c.loop-sender.senders.items c.pop.new.self.items c.in-Some.sender c.in-Some.ensures.items inv.left in
    let same = ap (λ (o : Origin). o.table)
    (ap (λ (s : Sending). s.origin) c.sender.view_is ∙ own.1 ∙ sym (ap (λ (t : Taking). t.origin) c.self.view_is)) in
    let line = ap (λ q. q.table.shared.table_id) (sym c.deref.ensures) in
    ((inv.own.0 ∙ line, inv.own.1), (c.sender.invariant.0.0 ∙ same ∙ line, c.sender.invariant.0.1))

pub absorb-requires-clause-rule : goal.absorb-requires-clause-rule
absorb-requires-clause-rule c =
    join_keeps _ _ _ _ _ (ap (λ (v : View). v.takes) c.loop-sender.invariant.known) c.sender.invariant.1

pub loop-sender-preserved : goal.loop-sender-preserved
loop-sender-preserved c =
    let inv = c.loop-sender.invariant in
    let popped = c.in-Some.ensures.items in
    let left = c.loop-sender.senders.items in
    let rest = c.pop.new.self.items in
    let sender = c.in-Some.sender in
    let theirs = c.sender.inside.right in
    let v = view c.loop-sender.right in
    let u = view c.absorb.new.pass in
    let own = own_popped c.args.self.origin left rest sender popped inv.left in
    let seen = c.sender.view_is in
    record {
      own = (c.absorb.ensures.queue.0 ∙ inv.own.0, c.absorb.ensures.queue.2 ∙ inv.own.1);
      known =
          joined_known v (view theirs) u c.args.self.origin.senders c.args.self.taken inv.known c.absorb.ensures.rule;
      hands = one_more c.args.senders.items left rest sender v.hands u.hands popped inv.hands
          (joined_hands v (view theirs) u c.sender.inside.number sender c.absorb.ensures.rule c.sender.invariant.1
          (ap hand_of_sender seen));
      sent = omega (arith, inv.sent, sum_popped left rest sender popped, c.from-sent.ensures);
      small =
          omega (
            arith,
            inv.small,
            c.from-sent.ensures,
            ap (λ (l : List Sending). length l) popped,
            length-append rest (sender ∷ []),
            c.pop.new.self.ok.0,
            c.loop-sender.senders.ok.0,
          );
      left = own.0;
    }

pub learn_as-requires-clause-rule : goal.learn_as-requires-clause-rule
learn_as-requires-clause-rule c =
    let known = c.loop-sender.invariant.known in
    let hands = all_hands c.args.senders.items c.loop-sender.senders.items (view c.loop-sender.right).hands
    (omega (arith, c.in_default.ensures.cases, c.loop-sender.senders.ok.0)) c.loop-sender.invariant.hands in
    let senders = ap (λ (v : View). v.senders) known in
    settles _ _ (ap (λ (v : View). v.takes) known) (ap (λ (v : View). v.made) known ∙ sym senders)
    (ap (λ (hs : List Hand). length hs) hands
    ∙ (length-map c.args.senders.items hand_of_sender ∙ (c.requires.all ∙ sym senders)))

-- what all know, said of the senders
all_known : (c : goal.After-drop-senders) → (items : List (ℕ × Update))
    × (length items ≤ MAX_ROOM) × All (IsDelivered c.args.self.taken items) c.args.senders.items
    × (length items + length c.args.self.taken ≡ sum_by (λ (sender : Sending). length sender.sent) c.args.senders.items)
all_known c =
    let learned = c.learn_as.ensures.rule in
    let hands = all_hands c.args.senders.items c.loop-sender.senders.items (view c.loop-sender.right).hands
    (omega (arith, c.in_default.ensures.cases, c.loop-sender.senders.ok.0)) c.loop-sender.invariant.hands in
    let all = settled c.args.self.taken learned.0 c.args.senders.items
    (view c.loop-sender.right) (ap (λ (v : View). v.taken) c.loop-sender.invariant.known) hands learned.1 in
    (learned.0, all.0, all.1, all.2)

-- the two counts
counts : (c : goal.After-drop-senders) →
    (c.loop-sender.sent ≡ sum_by (λ (sender : Sending). length sender.sent) c.args.senders.items)
    × (c.from.result ≡ length c.args.self.taken)
counts c =
    let none = sum_left c.loop-sender.senders.items
    (omega (arith, c.in_default.ensures.cases, c.loop-sender.senders.ok.0)) in (
      omega (arith, c.loop-sender.invariant.sent, none),
      c.from.ensures ∙ (c.self.invariant.2 ∙ ap (λ (t : Taking). length t.taken) c.self.view_is),
    )

pub returns-clause-delivered : goal.returns-clause-delivered
returns-clause-delivered c =
    let all = all_known c in
    (all.0, omega (arith, all.3, (counts c).0, (counts c).1), all.2)

pub returns-clause-left : goal.returns-clause-left
returns-clause-left c =
    let all = all_known c in
    omega (arith, all.3, (counts c).0, (counts c).1)

pub returns-clause-begins : goal.returns-clause-begins
returns-clause-begins c =
    let all = all_known c in
    all_begin c.args.self.taken all.0 c.args.senders.items all.2

pub returns-clause-whole : goal.returns-clause-whole
returns-clause-whole c = λ none.
    let all = all_known c in
    all_whole c.args.self.taken all.0 c.args.senders.items
    (omega (arith, none, all.3, (counts c).0, (counts c).1)) all.2
