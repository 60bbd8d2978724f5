-- Senders on their way, what the writer takes of them, and the order that comes of it.
use Rattle.std.proofs.Common.{◌≡◌, ◌≤◌, ◌<◌, ◌+◌, ◌%◌, ◌++◌, ◌∷◌, [], ℕ, List, length, length-append}
use Rattle.std.proofs.Common.{get_or, take, drop, map, sym, ap, subst, ◌∙◌, arith, ⊎_elim, append_assoc}
use Rattle.std.specs.Prelude.{All}
use Rattle.std.proofs.lemmas.Bool.{cases_lt}
use Rattle.std.proofs.lemmas.List.{append-nil, map-append, length-map, take-append-le}
use Rattle.std.proofs.lemmas.List.Elements.{All-push, All-same}
use Rattle.log_levels.specs.declared.update.Update.{Update}
use Rattle.log_levels.specs.Accepted.{IsPlain, entries_of}
use Rattle.log_levels.proofs.UpdateLemmas.{length-plain, entries_of-none}
use Rattle.senders.specs.Senders.{Origin, Sending, of_sender, fresh_sender}
use Rattle.map_replay.specs.declared.sender_states.SenderProgress.{SenderProgress}
use Rattle.map_replay.specs.declared.intake.Intake.{Intake}
use Rattle.map_replay.specs.declared.workload.Assignment.{Assignment}
use Rattle.map_replay.specs.Mixes.{dealt, dealt_from, IsMixed}
use Rattle.map_replay.specs.SenderStates.{AreDone, IsIntake, IsOnItsWay, TookOne}
use Rattle.map_replay.proofs.DealLemmas.{turn_more, turn_none, turn_first, dealt_none, numbers_up, next_turn, mod_small}

module _ (origin : Origin) (senders : ℕ) (updates : List Update) where
  -- a sender that sent nothing stands at its number
  pub first_on_its_way : (number : ℕ) (progress : SenderProgress) → number < senders → progress.sender
      ≡ fresh_sender origin number → progress.place ≡ number → IsOnItsWay origin senders updates number progress
  first_on_its_way number progress below fresh place_is =
      record {
        own = ap (λ (s : Sending). s.origin) fresh;
        numbered = ap (λ (s : Sending). s.number) fresh;
        place = ap (λ (p : ℕ). p % senders) place_is ∙ mod_small senders number below;
        share =
            ap (λ (s : Sending). s.sent
            ++ of_sender number (dealt_from senders progress.place (drop progress.place updates))) fresh
            ∙ (ap (λ (p : ℕ). of_sender number (dealt_from senders p (drop p updates))) place_is
            ∙ turn_first senders number updates below);
      }

  -- a sender that sent the update at its place
  pub sent_on_its_way : (number : ℕ) (progress after : SenderProgress) (update : Update) →
      0 < senders → progress.place < length updates → update ≡ get_or updates progress.place update →
      after.sender.sent ≡ progress.sender.sent ++ update ∷ [] →
      after.sender.number ≡ progress.sender.number → after.sender.origin ≡ progress.sender.origin →
      after.place ≡ progress.place + senders →
      IsOnItsWay origin senders updates number progress → IsOnItsWay origin senders updates number after
  sent_on_its_way number progress after update some within is sent number_is own place_is here =
      let share_of : ℕ → ℕ → List Update = λ n p. of_sender n (dealt_from senders p (drop p updates)) in
      let turn : share_of number progress.place ≡ update ∷ share_of number (progress.place + senders) =
      subst (λ (n : ℕ). share_of n progress.place ≡ update ∷ share_of n (progress.place + senders)) here.place
      (turn_more senders progress.place updates update some within is) in
      record {
        own = own ∙ here.own;
        numbered = number_is ∙ here.numbered;
        place = ap (λ (p : ℕ). p % senders) place_is ∙ (next_turn senders progress.place some ∙ here.place);
        share = ap (λ (us : List Update). us ++ share_of number after.place) sent
            ∙ (ap (λ (p : ℕ). (progress.sender.sent ++ update ∷ []) ++ share_of number p) place_is
            ∙ (append_assoc progress.sender.sent (update ∷ []) (share_of number (progress.place + senders))
            ∙ (ap (λ (us : List Update). progress.sender.sent ++ us) (sym turn) ∙ here.share)));
      }

  -- a sender past the end sent all
  pub past_the_end : (number : ℕ) (progress : SenderProgress) →
      length updates ≤ progress.place → IsOnItsWay origin senders updates number progress →
      progress.sender.sent ≡ of_sender number (dealt senders updates)
  past_the_end number progress past here =
      sym (append-nil progress.sender.sent)
      ∙ (ap (λ (us : List Update). progress.sender.sent ++ us)
      (sym (turn_none senders number progress.place updates past)) ∙ here.share)

-- where all senders are done and what was taken of each is what it sent, it is an order in which the updates may come
pub is_mixed : (origin : Origin) (assignment : Assignment) (done : List Sending) (taken : List (ℕ × Update)) →
    0 < assignment.dealing.senders.count →
    length done ≡ assignment.dealing.senders.count →
    AreDone origin assignment done → All (λ (item : ℕ × Update). item.0 < assignment.dealing.senders.count) taken →
    All (λ (sender : Sending). of_sender sender.number taken ≡ sender.sent) done →
    IsMixed assignment.dealing.senders.count assignment.updates.now taken
is_mixed origin assignment done taken some count all known whole number =
    let senders = assignment.dealing.senders.count in
    let other = fresh_sender origin 0 in
    ⊎_elim
    (λ below.
    let there : number < length done = omega (arith, below, count) in
    let is = all number other there in
    ap (λ (n : ℕ). of_sender n taken) (sym is.numbered) ∙ (whole number other there ∙ is.whole))
    (λ over. numbers_up senders number taken over known
    ∙ sym (dealt_none senders number assignment.updates.now some over))
    (cases_lt number senders)

-- updates of which none is a sweep have an entry each
pub plain_entries : (updates : List Update) → All IsPlain updates → length (entries_of updates) ≡ length updates
plain_entries updates plain = length-plain [] updates plain ∙ omega (arith, ap (λ l. length l) entries_of-none)

-- the writer took an update
module _ (total : ℕ) (before after : Intake) (took : TookOne before after) where
  behind : IsIntake total before → length before.inbox.taken ≡ length before.arrivals.updates.items
  behind here = sym (ap (λ (l : List Update). length l) here.updates ∙ length-map before.inbox.taken (λ item. item.1))

  pub intake_more : length before.arrivals.updates.items < total → IsIntake total before → IsIntake total after
  intake_more left here =
      let one : List (ℕ × Update) = took.item ∷ [] in
      let first : ℕ × Update → ℕ = λ item. item.0 in
      let second : ℕ × Update → Update = λ item. item.1 in
      record {
        numbers = took.numbers
            ∙ (ap (λ (l : List ℕ). l ++ took.item.0 ∷ []) here.numbers ∙ sym
            (ap (λ (l : List (ℕ × Update)). map first l) took.inbox ∙ map-append first before.inbox.taken one));
        updates = took.updates
            ∙ (ap (λ (l : List Update). l ++ took.item.1 ∷ []) here.updates ∙ sym
            (ap (λ (l : List (ℕ × Update)). map second l) took.inbox ∙ map-append second before.inbox.taken one));
        numbers_room = omega (arith, here.numbers_room, took.numbers_room);
        updates_room = omega (arith, here.updates_room, took.updates_room);
        within =
            omega (
              arith,
              left,
              behind here,
              ap (λ (l : List (ℕ × Update)). length l) took.inbox,
              length-append before.inbox.taken one,
            );
        known = subst (λ (o : Origin). All (λ (item : ℕ × Update). item.0 < o.senders) after.inbox.taken) (sym took.own)
            (All-same (λ (item : ℕ × Update). item.0 < before.inbox.origin.senders) after.inbox.taken
            (before.inbox.taken ++ one) took.inbox
            (All-push (λ (item : ℕ × Update). item.0 < before.inbox.origin.senders)
            before.inbox.taken took.item here.known took.known));
        plain = All-same IsPlain after.arrivals.updates.items (before.arrivals.updates.items ++ took.item.1 ∷ [])
            took.updates (All-push IsPlain before.arrivals.updates.items took.item.1 here.plain took.plain);
      }

  -- what was taken before a place stands there still
  pub kept_before : (from : ℕ) → from ≤ length before.arrivals.updates.items →
      take from after.arrivals.updates.items ≡ take from before.arrivals.updates.items
  kept_before from within =
      ap (λ (l : List Update). take from l) took.updates
      ∙ take-append-le from before.arrivals.updates.items (took.item.1 ∷ []) within

  pub one_more : length after.arrivals.updates.items ≡ length before.arrivals.updates.items + 1
  one_more =
      ap (λ (l : List Update). length l) took.updates ∙ length-append before.arrivals.updates.items (took.item.1 ∷ [])
