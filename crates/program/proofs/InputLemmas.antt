-- Inputs read one after the other.
--
-- Main results: a call that reads two inputs answers what the
-- files define for both (`then_stops`, `then_goes_on`); and where
-- at most one reading of the first is defined, and of what goes on with it, so it is for both (`then_one`).
use Rattle.std.proofs.Common.{◌≡◌, inl, inr, ℕ, ◌<◌, ◌≤◌, Result, Ok, Err, ap, sym, subst, ◌∙◌}
use Rattle.std.specs.Result.{IsErrAnd}
use Rattle.program.specs.declared.refusal.Refusal.{Refusal}
use Rattle.program.specs.declared.refusal.Refusal.TheVariants.{ReadFault}
use Rattle.program.specs.declared.refusal.Stopped.{Stopped}
use Rattle.program.specs.declared.refusal.Stopped.TheVariants.{NoMemory, Refused}
use Rattle.program.specs.Inputs.{Reading, then, gives}
use Rattle.program.specs.Stops.{IsStopped, Answers}

module _ {A B X Y : Type 0}
    (first : Reading A) (next : A → Reading B) (value_of : X → A) (made_of : Y → B) (before after : ℕ) where
  -- what stops the first stops both
  stops_both : (stopped : Stopped) →
      IsStopped first before after stopped → IsStopped (then first next) before after stopped
  stops_both NoMemory is = tt
  stops_both (Refused ReadFault) is = is
  stops_both (Refused refusal) is = inl is

  pub then_stops : (stopped : Stopped) → Answers {B = X} first value_of before after (Err stopped) →
      Answers {B = Y} (then first next) made_of before after (Err stopped)
  then_stops stopped one = record {
    ok = tt;
    unfaulted = tt;
    stopped = stops_both stopped one.stopped;
    faulted = λ rose. let same = one.faulted rose in cc;
    never_falls = one.never_falls;
  }

  -- what stops the second stops both
  stops_second : (x : A) → first (Ok x) → (stopped : Stopped) → IsStopped (next x) before after stopped →
      IsStopped (then first next) before after stopped
  stops_second x read NoMemory is = tt
  stops_second x read (Refused ReadFault) is = is
  stops_second x read (Refused refusal) is = inr (x, read, is)

  -- the count had not risen when the first was read
  pub then_goes_on : (middle : ℕ) (value : X) (r : Result Y Stopped) →
      Answers {B = X} first value_of before middle (Ok value) →
      Answers (next (value_of value)) made_of middle after r → Answers (then first next) made_of before after r
  then_goes_on middle value (Ok made) one two = record {
    ok = (value_of value, one.ok, two.ok);
    unfaulted = two.unfaulted ∙ one.unfaulted;
    stopped = tt;
    faulted = λ rose. two.faulted (subst (λ (n : ℕ). n < after) (sym one.unfaulted) rose);
    never_falls = subst (λ (n : ℕ). n ≤ after) one.unfaulted two.never_falls;
  }
  then_goes_on middle value (Err stopped) one two = record {
    ok = tt;
    unfaulted = tt;
    stopped = stops_second (value_of value) one.ok stopped
        (subst (λ (n : ℕ). IsStopped (next (value_of value)) n after stopped) one.unfaulted two.stopped);
    faulted = λ rose. two.faulted (subst (λ (n : ℕ). n < after) (sym one.unfaulted) rose);
    never_falls = subst (λ (n : ℕ). n ≤ after) one.unfaulted two.never_falls;
  }

-- what stops the second of three stops all
pub second_stops : {A B C X Y Z : Type 0} (first : Reading A)
    (second : A → Reading B) (last : A → B → Reading C) (value_of : X → A) (other_of : Y → B) (made_of : Z → C)
    (before middle after : ℕ) (value : X) (stopped : Stopped) →
    Answers {B = X} first value_of before middle (Ok value) →
    Answers {B = Y} (second (value_of value)) other_of middle after (Err stopped) →
    Answers {B = Z} (then first (λ a. then (second a) (last a))) made_of before after (Err stopped)
second_stops first second last value_of other_of made_of before middle after value stopped one two =
    then_goes_on first (λ a. then (second a) (last a)) value_of made_of before after middle value (Err stopped) one
    (then_stops (second (value_of value)) (last (value_of value)) other_of made_of middle after stopped two)

-- a call that stopped gave nothing, whatever it would have given
pub stopped_alike :
    {A X Y : Type 0} (reading : Reading A) (value_of : X → A) (made_of : Y → A) (before after : ℕ) (stopped : Stopped) →
    Answers {B = X} reading value_of before after (Err stopped) →
    Answers {B = Y} reading made_of before after (Err stopped)
stopped_alike reading value_of made_of before after stopped one =
    record {
      ok = tt;
      unfaulted = tt;
      stopped = one.stopped;
      faulted = λ rose. let same = one.faulted rose in
          cc;
      never_falls = one.never_falls;
    }

-- a call that hands an error on
pub handed_on : {X : Type 0} (r : Result X Stopped) (stopped : Stopped) →
    IsErrAnd r (λ other. other ≡ stopped) → r ≡ Err stopped
handed_on (Ok value) stopped is = absurd is
handed_on (Err other) stopped is = ap Err is

-- at most one thing is defined
abbrev pub IsFunctional : {A : Type 0} → Reading A → Type 0
IsFunctional reading = (one two : Result _ Refusal) → reading one → reading two → one ≡ two

pub then_one : {A B : Type 0} (first : Reading A) (next : A → Reading B) →
    IsFunctional first → ((x : A) → IsFunctional (next x)) →
    IsFunctional (then first next)
then_one first next one_first one_next (Ok y) (Ok z) (x, read, is) (x', read', is') =
    let same : x ≡ x' = cc (one_first (Ok x) (Ok x') read read') in
    one_next x' (Ok y) (Ok z) (subst (λ a. next a (Ok y)) same is) is'
then_one first next one_first one_next (Ok y) (Err r) (x, read, is) (inl read') =
    cc (one_first (Ok x) (Err r) read read')
then_one first next one_first one_next (Ok y) (Err r) (x, read, is) (inr (x', read', is')) =
    let same : x ≡ x' = cc (one_first (Ok x) (Ok x') read read') in
    one_next x' (Ok y) (Err r) (subst (λ a. next a (Ok y)) same is) is'
then_one first next one_first one_next (Err r) (Ok z) (inl read) (x', read', is') =
    cc (one_first (Err r) (Ok x') read read')
then_one first next one_first one_next (Err r) (Ok z) (inr (x, read, is)) (x', read', is') =
    let same : x ≡ x' = cc (one_first (Ok x) (Ok x') read read') in
    one_next x' (Err r) (Ok z) (subst (λ a. next a (Err r)) same is) is'
then_one first next one_first one_next (Err r) (Err q) (inl read) (inl read') =
    cc (one_first (Err r) (Err q) read read')
then_one first next one_first one_next (Err r) (Err q) (inl read) (inr (x', read', is')) =
    cc (one_first (Err r) (Ok x') read read')
then_one first next one_first one_next (Err r) (Err q) (inr (x, read, is)) (inl read') =
    cc (one_first (Ok x) (Err q) read read')
then_one first next one_first one_next (Err r) (Err q) (inr (x, read, is)) (inr (x', read', is')) =
    let same : x ≡ x' = cc (one_first (Ok x) (Ok x') read read') in
    one_next x' (Err r) (Err q) (subst (λ a. next a (Err r)) same is) is'

pub gives_one : {A : Type 0} (x : A) → IsFunctional (gives x)
gives_one x one two is same = is ∙ sym same
