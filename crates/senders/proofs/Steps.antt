-- Each kind of step keeps the rule of the queue.
use Rattle.std.proofs.Common.{◌≡◌, ◌≢◌, ◌==◌, if◌then◌else◌, ℕ, zero, suc, ◌+◌, ◌-◌, ◌<◌, ◌≤◌, true, false}
use Rattle.std.proofs.Common.{true≢false, List, [], ◌∷◌, ◌++◌, ◌⊎◌, All, length, set, sum_by, sym, ap, refl, ◌∙◌}
use Rattle.std.proofs.Common.{subst, inl, inr, ⊎_elim, arith, length-append, length-set, append_assoc, eq-eqb}
use Rattle.std.proofs.lemmas.Bool.{ne_eqb, cond-true, cond-false}
use Rattle.std.proofs.lemmas.List.Elements.{All-nil, All-cons, All-head, All-tail, All-push}
use Rattle.std.proofs.lemmas.List.{append-nil}
use Rattle.std.proofs.lemmas.List.Sums.{sum_by-cons, sum_by_push}
use mathlib.Core.Option.{some, some-injective, some-ne-none}
use mathlib.Core.List.{IsPrefix}
use lib.ListN.{get_elem?}
use Rattle.crossbeam_queue.specs.Fifo.{Pushes, Pops, Forks, Merges, Learns}
use Rattle.crossbeam_queue.proofs.Lists.{at_set, set_else}
use Rattle.claims.proofs.Totals.{total-set, total-split, total-join, total-zero}
use Rattle.log_levels.specs.declared.update.Update.{Update}
use Rattle.senders.specs.declared.views.Hand.{Hand}
use Rattle.senders.specs.declared.views.View.{View}
use Rattle.senders.specs.Senders.{of_sender, MayWait}
use Rattle.senders.specs.Views.{Core, IsHand, IsInbox, Fits, IsInOrder, Delivers, sent_count}
use Rattle.senders.specs.Views.{hand_of, sending, taking, spent, one_fewer, one_made, one_apart}
use Rattle.senders.specs.Views.{joined, sent_by, sends, Took, Knows, Awaits, Settles}
use Rattle.senders.proofs.Orders.{more-own, more-other, none_sent, moved, of_sender-append}
use Rattle.options.specs.declared.map.TheConstants.{MAX_ROOM, MAX_SENDERS}

-- ---- lists of views

at_end : {A : Type 0} (l : List A) (a b : A) (j : ℕ) →
    get_elem? (l ++ a ∷ []) j ≡ some b → (get_elem? l j ≡ some b) ⊎ ((j ≡ length l) × (a ≡ b))
at_end [] a b zero e = inr (refl, some-injective a b e)
at_end [] a b (suc j) e = absurd (some-ne-none b (sym e))
at_end (x ∷ xs) a b zero e = inl e
at_end (x ∷ xs) a b (suc j) e = ⊎_elim (λ t. inl t) (λ t. inr (ap suc t.0, t.1)) (at_end xs a b j e)

abbrev Each : (ℕ → View → Type 0) → List View → Type 0
Each F views = (pass : ℕ) (v : View) → get_elem? views pass ≡ some v → F pass v

-- a view replaced, and one added
each_set : (F : ℕ → View → Type 0) (views : List View) (pass : ℕ) (w : View) →
    F pass w → ((j : ℕ) (u : View) → j ≢ pass → get_elem? views j ≡ some u → F j u) → Each F (set views pass w)
each_set F views pass w mine others j u e =
    ⊎_elim (λ (x : (j ≡ pass) × (w ≡ u)). subst (λ (y : ℕ × View). F y.0 y.1) (λ i. (sym x.0 i, x.1 i)) mine)
    (λ (x : (j ≢ pass) × (get_elem? views j ≡ some u)). others j u x.0 x.1) (at_set views pass j w u e)

each_snoc : (F : ℕ → View → Type 0) (views : List View) (w : View) →
    F (length views) w → Each F views → Each F (views ++ w ∷ [])
each_snoc F views w mine others j u e = ⊎_elim (λ (x : get_elem? views j ≡ some u). others j u x)
    (λ (x : (j ≡ length views) × (w ≡ u)). subst (λ (y : ℕ × View). F y.0 y.1) (λ i. (sym x.0 i, x.1 i)) mine)
    (at_end views w u j e)

-- no sender stands at a pass
no_hands : (core : Core) (items : List (ℕ × Update)) (pass : ℕ) → All (IsHand core items pass) []
no_hands core items pass = All-nil (IsHand core items pass)

one_hand : (core : Core) (items : List (ℕ × Update)) (pass : ℕ) (hand : Hand) →
    IsHand core items pass hand → All (IsHand core items pass) (hand ∷ [])
one_hand core items pass hand is = All-cons (IsHand core items pass) hand [] is (no_hands core items pass)

spent_fits : (core : Core) (items : List (ℕ × Update)) (pass : ℕ) →
    core.count ≤ MAX_SENDERS → Fits core items pass spent
spent_fits core items pass few =
    record { count = few; hands = no_hands core items pass; inbox = λ h. absurd (true≢false (sym h)) }

-- the end of a list, of which all holds
rest : (P : ℕ × Update → Type 0) (xs ys : List (ℕ × Update)) → All P (xs ++ ys) → All P ys
rest P [] ys all = all
rest P (x ∷ xs) ys all = rest P xs ys (All-tail P x (xs ++ ys) all)

-- ---- make

abbrev opening : Core
opening = record { made = 0; count = MAX_SENDERS; seat = λ p. 0; reader = 0; taken = [] }

pub begins : Delivers [] (taking MAX_SENDERS 0 [] [] [] ∷ [])
begins = (
  opening,
  record {
    seated = omega arith;
    few = omega arith;
    small = omega arith;
    numbers = All-nil (λ (item : ℕ × Update). item.0 < 0);
    hands = refl;
    total = refl;
    each = each;
  },
)
  where
    first : Fits opening [] 0 (taking MAX_SENDERS 0 [] [] [])
    first = record {
      count = omega arith;
      hands = no_hands opening [] 0;
      inbox = λ h. record { reader = refl; made = refl; count = refl; taken = refl; waiting = ([], refl) };
    }

    each : (pass : ℕ) (v : View) → get_elem? (taking MAX_SENDERS 0 [] [] [] ∷ []) pass ≡ some v → Fits opening [] pass v
    each zero v e = subst (Fits opening [] 0) (some-injective (taking MAX_SENDERS 0 [] [] []) v e) first
    each (suc pass) v e = absurd (cc e)

-- ---- give up

pub gives_up : (pass : ℕ) (v : View) → v.takes ≡ true → v.made < v.senders → Forks Delivers pass v (one_fewer v) spent
gives_up pass v takes more items views (core, rule) at =
    let left = one_fewer v in
    let fit = rule.each pass v at in
    let inbox = fit.inbox takes in
    let after : Core = record core { count = core.count - 1 } in (
      after,
      record {
        seated = omega (arith, inbox.made, inbox.count);
        few = omega (arith, rule.few);
        small = rule.small;
        numbers = rule.numbers;
        hands = total-split (λ (v : View). length v.hands) views pass v left spent at (omega arith) ∙ rule.hands;
        total = total-split sent_count views pass v left spent at (omega arith) ∙ rule.total;
        each = each_snoc (Fits after items) (set views pass left) spent
            (spent_fits after items (length (set views pass left)) (omega (arith, rule.few)))
            (each_set (Fits after items) views pass left
            (record {
              count = omega (arith, inbox.count);
              hands = λ k d inside. let hand = fit.hands k d inside in
                  record { made = hand.made; seat = hand.seat; sent = hand.sent };
              inbox =
                  λ h. record {
                    reader = inbox.reader;
                    made = inbox.made;
                    count = omega (arith, inbox.count);
                    taken = inbox.taken;
                    waiting = inbox.waiting;
                  };
            })
            (λ j u other e.
            let there = rule.each j u e in
            record {
              count = omega (arith, there.count);
              hands = λ k d inside. let hand = there.hands k d inside in
                  record { made = hand.made; seat = hand.seat; sent = hand.sent };
              inbox = λ h. absurd (other (sym (there.inbox h).reader ∙ inbox.reader));
            }));
      },
    )

-- ---- split

-- a sender more, at a pass of this number
abbrev with_one : Core → ℕ → Core
with_one core pass = record core { made = core.made + 1; seat = λ p. if p == core.made then pass else core.seat p }

stays_made : (core : Core) (items : List (ℕ × Update)) (new pass : ℕ) (hand : Hand) →
    IsHand core items pass hand → IsHand (with_one core new) items pass hand
stays_made core items new pass hand is = record {
  made = omega (arith, is.made);
  seat = let apart : hand.number ≢ core.made = λ e. omega (arith, is.made) in
      cond-false (hand.number == core.made) new (core.seat hand.number) (ne_eqb hand.number core.made apart) ∙ is.seat;
  sent = is.sent;
}

pub makes_one : (pass : ℕ) (v : View) →
    v.takes ≡ true → v.made < v.senders → Forks Delivers pass v (one_made v) (one_apart v)
makes_one pass v takes more items views (core, rule) at =
    let left = one_made v in
    let right = one_apart v in
    let fit = rule.each pass v at in
    let inbox = fit.inbox takes in
    let new = length (set views pass left) in
    let after = with_one core new in
    let below : All (λ (item : ℕ × Update). item.0 < v.made) (core.taken ++ items) =
    λ k d inside. omega (arith, rule.numbers k d inside, inbox.made) in (
      after,
      record {
        seated = omega (arith, inbox.made, inbox.count);
        few = rule.few;
        small = rule.small;
        numbers = λ k d inside. omega (arith, rule.numbers k d inside);
        hands =
            omega (
              arith,
              rule.hands,
              sum_by_push (λ (v : View). length v.hands) (set views pass left) right,
              total-set (λ (v : View). length v.hands) views pass v left at,
            );
        total = total-split sent_count views pass v left right at (omega arith) ∙ rule.total;
        each = each_snoc (Fits after items) (set views pass left) right
            (record {
              count = omega (arith, inbox.count);
              hands = one_hand after items new (hand_of v.made []) (record {
                made = omega (arith, inbox.made);
                seat = cond-true (v.made == core.made) new (core.seat v.made) (eq-eqb v.made core.made inbox.made);
                sent = none_sent v.made (core.taken ++ items) below;
              });
              inbox = λ h. absurd (true≢false (sym h));
            })
            (each_set (Fits after items) views pass left
            (record {
              count = fit.count;
              hands = λ k d inside. stays_made core items new pass _ (fit.hands k d inside);
              inbox =
                  λ h. record {
                    reader = inbox.reader;
                    made = omega (arith, inbox.made);
                    count = inbox.count;
                    taken = inbox.taken;
                    waiting = inbox.waiting;
                  };
            })
            (λ j u other e.
            let there = rule.each j u e in
            record {
              count = there.count;
              hands = λ k d inside. stays_made core items new j _ (there.hands k d inside);
              inbox = λ h. absurd (other (sym (there.inbox h).reader ∙ inbox.reader));
            }));
      },
    )

-- ---- send

pub sends_in_order : (n pass senders number : ℕ) (sent : List Update) (update : Update) → n ≤ MAX_ROOM
    → Pushes Delivers n pass
    (sending senders number sent) (number, update) (sends (sending senders number sent) (number, update))
sends_in_order n pass senders number sent update small items views room (core, rule) at =
    let v = sending senders number sent in
    let w = sending senders number (sent ++ update ∷ []) in
    let fit = rule.each pass v at in
    let mine = All-head (IsHand core items pass) (hand_of number sent) [] fit.hands in
    let more = items ++ (number, update) ∷ [] in (
      w,
      (
        core,
        record {
          seated = rule.seated;
          few = rule.few;
          small = omega (arith, length-append items ((number, update) ∷ []));
          numbers = subst
              (All (λ (item : ℕ × Update). item.0 < core.made)) (append_assoc core.taken items ((number, update) ∷ []))
              (All-push (λ (item : ℕ × Update). item.0 < core.made)
              (core.taken ++ items) (number, update) rule.numbers mine.made);
          hands = omega (arith, rule.hands, total-set (λ (v : View). length v.hands) views pass v w at);
          total =
              omega (
                arith,
                rule.total,
                total-set sent_count views pass v w at,
                length-append sent (update ∷ []),
                length-append items ((number, update) ∷ []),
              );
          each = each_set (Fits core more) views pass w
              (record {
                count = fit.count;
                hands = one_hand core more pass (hand_of number (sent ++ update ∷ [])) (record {
                  made = mine.made;
                  seat = mine.seat;
                  sent =
                      more-own number update core.taken items ∙ ap (λ (us : List Update). us ++ update ∷ []) mine.sent;
                });
                inbox = λ h. absurd (true≢false (sym h));
              })
              (λ j u other e.
              let there = rule.each j u e in
              record {
                count = there.count;
                hands = λ k d inside.
                    let hand = there.hands k d inside in
                    record {
                      made = hand.made;
                      seat = hand.seat;
                      sent = more-other _ number update core.taken items
                          (λ same. other (sym hand.seat ∙ (ap core.seat (sym same) ∙ mine.seat))) ∙ hand.sent;
                    };
                inbox = λ h.
                    let inbox = there.inbox h in
                    record {
                      reader = inbox.reader;
                      made = inbox.made;
                      count = inbox.count;
                      taken = inbox.taken;
                      waiting = (
                        inbox.waiting.0 ++ (number, update) ∷ [],
                        sym (append_assoc u.waiting inbox.waiting.0 ((number, update) ∷ []))
                            ∙ ap (λ (l : List (ℕ × Update)). l ++ (number, update) ∷ []) inbox.waiting.1,
                      );
                    };
              });
        },
      ),
      refl,
    )

-- ---- take

pub takes_in_order : (pass : ℕ) (v : View) → v.takes ≡ true → Pops Delivers pass v (Took v)
takes_in_order pass v takes item items views (core, rule) at =
    let w = taking v.senders v.made v.hands (v.taken ++ item ∷ []) items in
    let fit = rule.each pass v at in
    let inbox = fit.inbox takes in
    let after : Core = record core { taken = core.taken ++ item ∷ [] } in
    let same : (core.taken ++ item ∷ []) ++ items ≡ core.taken ++ item ∷ items = moved core.taken items item in
    let hand_stays : (j : ℕ) (hand : Hand) → IsHand core (item ∷ items) j hand → IsHand after items j hand =
    λ j hand is. record { made = is.made; seat = is.seat; sent = ap (of_sender hand.number) same ∙ is.sent } in
    let first : item.0 < core.made = All-head (λ (item : ℕ × Update). item.0 < core.made) item items
    (rest (λ (item : ℕ × Update). item.0 < core.made) core.taken (item ∷ items) rule.numbers) in (
      w,
      (
        after,
        record {
          seated = rule.seated;
          few = rule.few;
          small = omega (arith, rule.small);
          numbers = subst (All (λ (item : ℕ × Update). item.0 < core.made)) (sym same) rule.numbers;
          hands = omega (arith, rule.hands, total-set (λ (v : View). length v.hands) views pass v w at);
          total =
              omega (arith, rule.total, total-set sent_count views pass v w at, length-append core.taken (item ∷ []));
          each = each_set (Fits after items) views pass w
              (record {
                count = fit.count;
                hands = λ k d inside. hand_stays pass _ (fit.hands k d inside);
                inbox = λ h. record {
                  reader = inbox.reader;
                  made = inbox.made;
                  count = inbox.count;
                  taken = ap (λ (l : List (ℕ × Update)). l ++ item ∷ []) inbox.taken;
                  waiting = ([], append-nil items);
                };
              })
              (λ j u other e.
              let there = rule.each j u e in
              record {
                count = there.count;
                hands = λ k d inside. hand_stays j _ (there.hands k d inside);
                inbox = λ h. absurd (other (sym (there.inbox h).reader ∙ inbox.reader));
              });
        },
      ),
      record { after = refl; order = inbox.waiting; number = omega (arith, first, rule.seated, inbox.count) },
    )

-- ---- join

-- the sender stands at the inbox's pass now
abbrev moved_to : Core → ℕ → ℕ → Core
moved_to core number pass = record core { seat = λ p. if p == number then pass else core.seat p }

stays_seated : (core : Core) (items : List (ℕ × Update)) (number other new pass : ℕ) (hand : Hand) →
    core.seat number ≡ other → pass ≢ other → IsHand core items pass hand
    → IsHand (moved_to core number new) items pass hand
stays_seated core items number other new pass hand theirs away is = record {
  made = is.made;
  seat = let apart : hand.number ≢ number = λ e. away (sym is.seat ∙ (ap core.seat e ∙ theirs)) in
      cond-false (hand.number == number) new (core.seat hand.number) (ne_eqb hand.number number apart) ∙ is.seat;
  sent = is.sent;
}

pub joins : (pass : ℕ) (v : View) (other senders number : ℕ) (sent : List Update) → v.takes ≡ true
    → Merges Delivers pass v other (sending senders number sent) (joined v (sending senders number sent)) spent
joins pass v other senders number sent takes items views (core, rule) at apart there =
    let w = sending senders number sent in
    let both = joined v w in
    let second : get_elem? views other ≡ some w = sym (set_else views pass other both apart) ∙ there in
    let mine = rule.each pass v at in
    let theirs = rule.each other w second in
    let inbox = mine.inbox takes in
    let hand = All-head (IsHand core items other) (hand_of number sent) [] theirs.hands in
    let after = moved_to core number pass in
    let away : pass ≢ other = λ e. apart (sym e) in
    let parts : sum_by (λ (hand : Hand). length hand.sent) (hand_of number sent ∷ v.hands) + 0
    ≡ sum_by (λ (hand : Hand). length hand.sent) v.hands
    + sum_by (λ (hand : Hand). length hand.sent) (hand_of number sent ∷ []) =
    omega (arith, sum_by-cons (λ (hand : Hand). length hand.sent) (hand_of number sent) v.hands) in
    let Now : ℕ → View → Type 0 = λ j u. j ≢ other → Fits after items j u in
    let now : Each Now (set views pass both) = each_set Now views pass both
    (λ _. record {
      count = mine.count;
      hands = All-cons (IsHand after items pass) (hand_of number sent) v.hands
          (record {
            made = hand.made;
            seat =
                cond-true (number == number) pass (core.seat number) (eq-eqb number number refl);
            sent = hand.sent;
          })
          (λ k d inside. stays_seated core items number other pass pass _ hand.seat away (mine.hands k d inside));
      inbox =
          λ h. record {
            reader = inbox.reader;
            made = inbox.made;
            count = inbox.count;
            taken = inbox.taken;
            waiting = inbox.waiting;
          };
    })
    (λ j u elsewhere e far.
    let there = rule.each j u e in
    record {
      count = there.count;
      hands = λ k d inside. stays_seated core items number other pass j _ hand.seat far (there.hands k d inside);
      inbox = λ h. absurd (elsewhere (sym (there.inbox h).reader ∙ inbox.reader));
    }) in (
      after,
      record {
        seated = rule.seated;
        few = rule.few;
        small = rule.small;
        numbers = rule.numbers;
        hands = total-join (λ (v : View). length v.hands) views pass other v both w spent at there (omega arith)
            ∙ rule.hands;
        total = total-join sent_count views pass other v both w spent at there parts ∙ rule.total;
        each = each_set (Fits after items)
            (set views pass both) other spent (spent_fits after items other rule.few) (λ j u far e. now j u e far);
      },
    )

-- ---- what is learned of the queue

pub knows : (pass senders number : ℕ) (sent : List Update) →
    Learns Delivers pass (sending senders number sent) (Knows (sending senders number sent))
knows pass senders number sent items views (core, rule) at =
    let fit = rule.each pass (sending senders number sent) at in
    let hand = All-head (IsHand core items pass) (hand_of number sent) [] fit.hands in
    let queued = rest (λ (item : ℕ × Update). item.0 < core.made) core.taken items rule.numbers in
    record {
      numbers = λ k d inside. omega (arith, queued k d inside, rule.seated, fit.count);
      own = (of_sender number core.taken, sym (of_sender-append number core.taken items) ∙ hand.sent);
    }

pub awaits : (pass : ℕ) (v : View) → v.takes ≡ true → Learns Delivers pass v (Awaits v)
awaits pass v takes items views (core, rule) at = ((rule.each pass v at).inbox takes).waiting

-- where one pass has all of a number, the total is its own
alone : (f g : View → ℕ) (views : List View) (pass : ℕ) (v : View) →
    get_elem? views pass ≡ some v → f spent ≡ 0 → g spent ≡ 0 → ((w : View) → g w ≡ 0 → f w ≡ 0) → sum_by g views ≡ g v
    → sum_by f views ≡ f v
alone f g views pass v at f_none g_none idle all =
    let none : sum_by g (set views pass spent) ≡ 0 = omega (arith, total-set g views pass v spent at) in
    let nothing = total-zero f g (set views pass spent) (λ j w e h. idle w h) none in
    omega (arith, total-set f views pass v spent at)

nothing_sent : (hands : List Hand) → length hands ≡ 0 → sum_by (λ hand. length hand.sent) hands ≡ 0
nothing_sent [] none = refl
nothing_sent (hand ∷ hands) none = absurd (omega arith)

settled_hand : (core : Core) (items taken : List (ℕ × Update)) (pass : ℕ) (hand : Hand) →
    taken ≡ core.taken → IsHand core items pass hand → of_sender hand.number (taken ++ items) ≡ hand.sent
settled_hand core items taken pass hand same is =
    ap (λ (l : List (ℕ × Update)). of_sender hand.number (l ++ items)) same ∙ is.sent

pub settles : (pass : ℕ) (v : View) →
    v.takes ≡ true → v.made ≡ v.senders → length v.hands ≡ v.senders → Learns Delivers pass v (Settles v)
settles pass v takes made all items views (core, rule) at =
    let fit = rule.each pass v at in
    let inbox = fit.inbox takes in
    let total = alone sent_count (λ (v : View). length v.hands) views pass v at refl refl
    (λ w h. nothing_sent w.hands h) (omega (arith, rule.hands, inbox.made)) in
    record {
      small = rule.small;
      total = omega (arith, total, rule.total, ap (λ (l : List (ℕ × Update)). length l) inbox.taken);
      hands = λ k d inside. settled_hand core items v.taken pass _ inbox.taken (fit.hands k d inside);
    }

-- ---- of any view that is a sender's

pub send_keeps : (n pass : ℕ) (v : View) (number : ℕ) (update : Update) →
    n ≤ MAX_ROOM → v ≡ sending v.senders number (sent_by v.hands)
    → Pushes Delivers n pass v (number, update) (sends v (number, update)) × Learns Delivers pass v (Knows v)
send_keeps n pass v number update small is =
    subst (λ (u : View). Pushes Delivers n pass u (number, update) (sends u (number, update))
    × Learns Delivers pass u (Knows u)) (sym is) (
      sends_in_order n pass v.senders number (sent_by v.hands) update small,
      knows pass v.senders number (sent_by v.hands),
    )

pub join_keeps : (pass : ℕ) (v : View) (other : ℕ) (w : View) (number : ℕ) →
    v.takes ≡ true → w ≡ sending w.senders number (sent_by w.hands) → Merges Delivers pass v other w (joined v w) spent
join_keeps pass v other w number takes is =
    subst (λ (u : View). Merges Delivers pass v other u (joined v u) spent)
    (sym is) (joins pass v other w.senders number (sent_by w.hands) takes)
