-- Updates that are dealt out in turn, sender by sender.
use Rattle.std.proofs.Common.{◌≡◌, ◌≢◌, ◌≤◌, ◌<◌, ◌+◌, ◌-◌, ◌*◌, ◌/◌, ◌%◌, ◌∷◌, [], ℕ, zero, suc}
use Rattle.std.proofs.Common.{List, length, get_or, drop, refl, sym, ap, ◌∙◌, arith, ⊎_elim, eq-eqb}
use Rattle.std.specs.Prelude.{All}
use Rattle.std.proofs.lemmas.Bool.{cases_lt, ne_eqb}
use Rattle.std.proofs.lemmas.List.{drop_all, drop-drop, drop_more}
use Rattle.std.proofs.lemmas.List.Elements.{All-nil, All-cons}
use Rattle.std.proofs.lemmas.Nat.{div-add-mod', mod-mul-add, mod_below}
use Rattle.log_levels.specs.declared.update.Update.{Update}
use Rattle.senders.specs.Senders.{of_sender}
use Rattle.senders.proofs.Orders.{none_sent}
use Rattle.map_replay.specs.Mixes.{dealt, dealt_from}

-- an update of this sender, and one of another
own_first : (number : ℕ) (update : Update) (items : List (ℕ × Update)) (other : ℕ) →
    other ≡ number → of_sender number ((other, update) ∷ items) ≡ update ∷ of_sender number items
own_first number update items other same = rw (eq-eqb other number same) refl

other_first : (number : ℕ) (update : Update) (items : List (ℕ × Update)) (other : ℕ) →
    other ≢ number → of_sender number ((other, update) ∷ items) ≡ of_sender number items
other_first number update items other apart = rw (ne_eqb other number apart) refl

-- the places of one sender are a whole turn apart
module _ (senders place : ℕ) (some : 0 < senders) where
  whole : place / senders * senders + place % senders ≡ place
  whole = div-add-mod' place senders

  pub next_turn : (place + senders) % senders ≡ place % senders
  next_turn =
      let there : place + senders ≡ (place / senders + 1) * senders + place % senders = omega (arith, whole) in
      ap (λ (n : ℕ). n % senders) there
      ∙ mod-mul-add (place / senders + 1) senders (place % senders) (mod_below place senders some)

  between : (j : ℕ) → 0 < j → j < senders → (place + j) % senders ≢ place % senders
  between j some_j below same =
      let small = mod_below place senders some in
      ⊎_elim
      (λ less.
      let there : place + j ≡ place / senders * senders + (place % senders + j) = omega (arith, whole) in
      let is : (place + j) % senders ≡ place % senders + j = ap (λ (n : ℕ). n % senders) there
      ∙ mod-mul-add (place / senders) senders (place % senders + j) less in
      omega (arith, is, same, some_j))
      (λ more.
      let there : place + j
      ≡ (place / senders + 1) * senders + (place % senders + j - senders) = omega (arith, whole, more) in
      let is : (place + j) % senders ≡ place % senders + j - senders =
      ap (λ (n : ℕ). n % senders) there ∙ mod-mul-add
      (place / senders + 1) senders (place % senders + j - senders) (omega (arith, small, below, more)) in
      omega (arith, is, same, below, more, small))
      (cases_lt (place % senders + j) senders)

pub mod_small : (senders number : ℕ) → number < senders → number % senders ≡ number
mod_small senders number below =
    let there : number ≡ 0 * senders + number = omega arith in
    ap (λ (n : ℕ). n % senders) there ∙ mod-mul-add 0 senders number below

-- updates that are dealt to others
passed : (senders number place count : ℕ) (updates : List Update) →
    ((j : ℕ) → j < count → (place + j) % senders ≢ number) →
    of_sender number (dealt_from senders place updates)
    ≡ of_sender number (dealt_from senders (place + count) (drop count updates))
passed senders number place zero updates apart =
    let same : place ≡ place + 0 = omega arith in ap (λ (p : ℕ). of_sender number (dealt_from senders p updates)) same
passed senders number place (suc count) [] apart = refl
passed senders number place (suc count) (u ∷ updates) apart =
    let here : place + 0 ≡ place = omega arith in
    let first : place % senders ≢ number = λ same. apart 0 (omega arith) (ap (λ (p : ℕ). p % senders) here ∙ same) in
    let next : place + 1 + count ≡ place + suc count = omega arith in
    other_first number u (dealt_from senders (place + 1) updates) (place % senders) first
    ∙ passed senders number (place + 1) count updates (λ j below same.
    let there : place + suc j ≡ place + 1 + j = omega arith in
    apart (suc j) (omega (arith, below)) (ap (λ (p : ℕ). p % senders) there ∙ same))
    ∙ ap (λ (p : ℕ). of_sender number (dealt_from senders p (drop count updates))) next

-- what is dealt to a sender from its place on: the update there, and what is dealt to it a turn later
pub turn_more : (senders place : ℕ) (updates : List Update) (update : Update) →
    0 < senders → place < length updates → update ≡ get_or updates place update →
    of_sender (place % senders) (dealt_from senders place (drop place updates))
    ≡ update ∷ of_sender (place % senders) (dealt_from senders (place + senders) (drop (place + senders) updates))
turn_more senders place updates update some within is =
    let number = place % senders in
    let back = drop (place + 1) updates in
    let there : place + 1 + (senders - 1) ≡ place + senders = omega (arith, some) in
    ap (λ (us : List Update). of_sender number (dealt_from senders place us)) (drop_more updates place update within)
    ∙ (own_first number (get_or updates place update) (dealt_from senders (place + 1) back) number refl
    ∙ (ap (λ (u : Update). u ∷ of_sender number (dealt_from senders (place + 1) back)) (sym is)
    ∙ ap (λ (us : List Update). update ∷ us)
    (passed senders number (place + 1) (senders - 1) back (λ j below same.
    let later : place + (j + 1) ≡ place + 1 + j = omega arith in
    between senders place some
    (j + 1) (omega arith) (omega (arith, below, some)) (ap (λ (p : ℕ). p % senders) later ∙ same))
    ∙ ap (λ (us : List Update). of_sender number (dealt_from senders (place + 1 + (senders - 1)) us))
    (drop-drop (senders - 1) (place + 1) updates)
    ∙ ap (λ (p : ℕ). of_sender number (dealt_from senders p (drop p updates))) there)))

-- and past the end nothing
pub turn_none : (senders number place : ℕ) (updates : List Update) →
    length updates ≤ place → of_sender number (dealt_from senders place (drop place updates)) ≡ []
turn_none senders number place updates past =
    ap (λ (us : List Update). of_sender number (dealt_from senders place us)) (drop_all place updates past)

-- the first update that is dealt to a sender stands at its number
pub turn_first : (senders number : ℕ) (updates : List Update) → number < senders →
    of_sender number (dealt_from senders number (drop number updates)) ≡ of_sender number (dealt senders updates)
turn_first senders number updates below =
    sym (passed senders number 0 number updates (λ j less same.
    let is : (0 * senders + j) % senders ≡ j = mod-mul-add 0 senders j (omega (arith, below, less)) in
    let there : 0 + j ≡ 0 * senders + j = omega arith in
    omega (arith, ap (λ (p : ℕ). p % senders) there ∙ is, same, less))
    ∙ ap (λ (p : ℕ). of_sender number (dealt_from senders p (drop number updates)))
    (let e : 0 + number ≡ number = omega arith in e))

-- nothing is dealt to a number that no sender has
dealt_below : (senders place : ℕ) (updates : List Update) →
    0 < senders → All (λ (item : ℕ × Update). item.0 < senders) (dealt_from senders place updates)
dealt_below senders place [] some = All-nil _
dealt_below senders place (u ∷ updates) some =
    All-cons (λ (item : ℕ × Update). item.0 < senders)
    (place % senders, u) (dealt_from senders (place + 1) updates) (mod_below place senders some)
    (dealt_below senders (place + 1) updates some)

-- the numbers below a bound are below a greater one
pub numbers_up : (senders number : ℕ) (items : List (ℕ × Update)) →
    senders ≤ number → All (λ (item : ℕ × Update). item.0 < senders) items → of_sender number items ≡ []
numbers_up senders number items over all = none_sent number items (λ k d inside. omega (arith, over, all k d inside))

pub dealt_none : (senders number : ℕ) (updates : List Update) →
    0 < senders → senders ≤ number → of_sender number (dealt senders updates) ≡ []
dealt_none senders number updates some over =
    numbers_up senders number (dealt senders updates) over (dealt_below senders 0 updates some)
