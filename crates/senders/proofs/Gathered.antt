-- What the inbox's pass knows of all senders.
use Rattle.std.proofs.Common.{◌≡◌, ℕ, ◌∷◌, [], ◌++◌, List, All, map, length, get_or, sum_by}
use Rattle.std.proofs.Common.{Some, sym, ap, refl, ◌∙◌, subst, ◌+◌, ◌≤◌, arith, append_assoc}
use Rattle.std.proofs.lemmas.List.{append-nil, map-append}
use Rattle.std.proofs.lemmas.List.Elements.{All-nil, All-cons, All-head, All-tail, All-pop}
use Rattle.std.proofs.lemmas.List.Sums.{sum_by-cons, sum_by_push}
use mathlib.Core.List.{IsPrefix}
use Rattle.log_levels.specs.declared.update.Update.{Update}
use Rattle.senders.specs.declared.views.Hand.{Hand}
use Rattle.senders.specs.declared.views.View.{View}
use Rattle.senders.specs.Senders.{Origin, Sending, of_sender, IsDelivered}
use Rattle.senders.specs.Views.{hand_of, sending, sent_by, taking, joined, Settles}
use Rattle.senders.proofs.Orders.{of_sender-append}
use Rattle.options.specs.declared.map.TheConstants.{MAX_ROOM}

-- a sender as the rule knows it
abbrev pub hand_of_sender : Sending → Hand
hand_of_sender sender = hand_of sender.number sender.sent

abbrev IsSent : List (ℕ × Update) → Hand → Type 0
IsSent items hand = of_sender hand.number items ≡ hand.sent

pub delivered : (taken queued : List (ℕ × Update)) (senders : List Sending) →
    All (λ hand. of_sender hand.number (taken ++ queued) ≡ hand.sent) (map hand_of_sender senders)
    → All (IsDelivered taken queued) senders
delivered taken queued [] all = All-nil (IsDelivered taken queued)
delivered taken queued (sender ∷ senders) all =
    let hand = All-head (IsSent (taken ++ queued)) (hand_of_sender sender) (map hand_of_sender senders) all in
    All-cons (IsDelivered taken queued) sender senders (sym (of_sender-append sender.number taken queued) ∙ hand)
    (delivered taken queued senders
    (All-tail (IsSent (taken ++ queued)) (hand_of_sender sender) (map hand_of_sender senders) all))

-- what was taken of a sender is a beginning of what it sent, and all of it where nothing is queued
begins : (taken queued : List (ℕ × Update)) (sender : Sending) →
    IsDelivered taken queued sender → IsPrefix (of_sender sender.number taken) sender.sent
begins taken queued sender is = (of_sender sender.number queued, is)

pub all_begin : (taken queued : List (ℕ × Update)) (senders : List Sending) → All (IsDelivered taken queued) senders →
    All (λ sender. IsPrefix (of_sender sender.number taken) sender.sent) senders
all_begin taken queued senders all k d inside = begins taken queued (get_or senders k d) (all k d inside)

whole : (taken queued : List (ℕ × Update)) (sender : Sending) →
    length queued ≡ 0 → IsDelivered taken queued sender → of_sender sender.number taken ≡ sender.sent
whole taken [] sender none is = sym (append-nil (of_sender sender.number taken)) ∙ is
whole taken (item ∷ items) sender none is = absurd (omega arith)

pub all_whole : (taken queued : List (ℕ × Update)) (senders : List Sending) → length queued ≡ 0 →
    All (IsDelivered taken queued) senders → All (λ sender. of_sender sender.number taken ≡ sender.sent) senders
all_whole taken queued senders none all k d inside = whole taken queued (get_or senders k d) none (all k d inside)

-- ---- one sender after the other, from the end of the list

pub one_more : (all left rest : List Sending) (sender : Sending) (hands new : List Hand) →
    left ≡ rest ++ sender ∷ [] → map hand_of_sender left ++ hands ≡ map hand_of_sender all
    → new ≡ hand_of_sender sender ∷ hands → map hand_of_sender rest ++ new ≡ map hand_of_sender all
one_more all left rest sender hands new is so_far more =
    ap (λ (hs : List Hand). map hand_of_sender rest ++ hs) more
    ∙ (sym (append_assoc (map hand_of_sender rest) (hand_of_sender sender ∷ []) hands)
    ∙ (ap (λ (hs : List Hand). hs ++ hands) (sym (map-append hand_of_sender rest (sender ∷ [])))
    ∙ (ap (λ (senders : List Sending). map hand_of_sender senders ++ hands) (sym is) ∙ so_far)))

pub joined_hands : (v w u : View) (number : ℕ) (sender : Sending) → u ≡ joined v w →
    w ≡ sending w.senders number (sent_by w.hands) → hand_of number (sent_by w.hands) ≡ hand_of_sender sender
    → u.hands ≡ hand_of_sender sender ∷ v.hands
joined_hands v w u number sender is theirs seen =
    ap (λ (t : View). t.hands) is
    ∙ ap (λ (hs : List Hand). hs ++ v.hands) (ap (λ (t : View). t.hands) theirs ∙ ap (λ (hand : Hand). hand ∷ []) seen)

pub joined_known : (v w u : View) (senders : ℕ) (taken : List (ℕ × Update)) →
    v ≡ taking senders senders v.hands taken v.waiting →
    u ≡ joined v w → u ≡ taking senders senders u.hands taken u.waiting
joined_known v w u senders taken known is =
    subst (λ (t : View). t ≡ taking senders senders t.hands taken t.waiting)
    (sym is) (ap (λ (t : View). record t { hands = w.hands ++ v.hands }) known)

-- the sender that is popped, and those left
pub sum_popped : (all rest : List Sending) (sender : Sending) → all ≡ rest ++ sender ∷ [] →
    sum_by (λ sender. length sender.sent) all ≡ sum_by (λ sender. length sender.sent) rest + length sender.sent
sum_popped all rest sender is = ap (sum_by (λ (sender : Sending). length sender.sent)) is
    ∙ sum_by_push (λ (sender : Sending). length sender.sent) rest sender

pub own_popped : (origin : Origin) (all rest : List Sending) (sender : Sending) →
    all ≡ rest ++ sender ∷ [] → All (λ sender. sender.origin ≡ origin) all →
    All (λ sender. sender.origin ≡ origin) rest × (sender.origin ≡ origin)
own_popped origin all rest sender is own = All-pop (λ sender. sender.origin ≡ origin) all rest (Some sender) is own

-- ---- with none left

pub all_hands : (all left : List Sending) (hands : List Hand) →
    length left ≡ 0 → map hand_of_sender left ++ hands ≡ map hand_of_sender all → hands ≡ map hand_of_sender all
all_hands all [] hands none is = is
all_hands all (sender ∷ senders) hands none is = absurd (omega arith)

nothing_left : (f : Sending → ℕ) (left : List Sending) → length left ≡ 0 → sum_by f left ≡ 0
nothing_left f [] none = refl
nothing_left f (sender ∷ senders) none = absurd (omega arith)

pub sum_left : (left : List Sending) → length left ≡ 0 → sum_by (λ sender. length sender.sent) left ≡ 0
sum_left left none = nothing_left (λ sender. length sender.sent) left none

pub sum_hands : (senders : List Sending) →
    sum_by (λ hand. length hand.sent) (map hand_of_sender senders) ≡ sum_by (λ sender. length sender.sent) senders
sum_hands [] = refl
sum_hands (sender ∷ senders) = omega (
  arith,
  sum_hands senders,
  sum_by-cons (λ (hand : Hand). length hand.sent) (hand_of_sender sender) (map hand_of_sender senders),
  sum_by-cons (λ (sender : Sending). length sender.sent) sender senders,
)

-- what the pass of all knows of the queue, said of the senders
pub settled : (taken items : List (ℕ × Update)) (senders : List Sending) (v : View) →
    v.taken ≡ taken → v.hands ≡ map hand_of_sender senders → Settles v items
    → (length items ≤ MAX_ROOM) × All (IsDelivered taken items) senders
    × (length items + length taken ≡ sum_by (λ sender. length sender.sent) senders)
settled taken items senders v same hands knows =
    let sent : All (IsSent (taken ++ items)) v.hands =
    subst (λ (l : List (ℕ × Update)). All (IsSent (l ++ items)) v.hands) same knows.hands in (
      knows.small,
      delivered taken items senders (subst (All (IsSent (taken ++ items))) hands sent),
      omega (
        arith,
        knows.total,
        sum_hands senders,
        ap (sum_by (λ (hand : Hand). length hand.sent)) hands,
        ap (λ (l : List (ℕ × Update)). length l) same,
      ),
    )
