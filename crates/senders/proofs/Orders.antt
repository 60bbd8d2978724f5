-- The updates of one sender among those of many.
use Rattle.std.proofs.Common.{◌≡◌, ◌≢◌, ◌==◌, ℕ, suc, ◌<◌, true, false, List, [], ◌∷◌, ◌++◌}
use Rattle.std.proofs.Common.{All, map, length, sym, ap, refl, ◌∙◌, arith, eq-eqb, append_assoc}
use Rattle.std.specs.List.{filter}
use Rattle.std.proofs.lemmas.Bool.{ne_eqb}
use Rattle.std.proofs.lemmas.List.{map-append, append-nil}
use Rattle.std.proofs.lemmas.List.Elements.{filter-append, All-head, All-tail}
use mathlib.Core.List.{IsPrefix}
use Rattle.log_levels.specs.declared.update.Update.{Update}
use Rattle.senders.specs.Senders.{of_sender}

pub of_sender-append : (number : ℕ) (xs ys : List (ℕ × Update)) →
    of_sender number (xs ++ ys) ≡ of_sender number xs ++ of_sender number ys
of_sender-append number xs ys =
    ap (λ (items : List (ℕ × Update)). map (λ item. item.1) items) (filter-append (λ item. item.0 == number) xs ys)
    ∙ map-append (λ item. item.1) (filter (λ item. item.0 == number) xs) (filter (λ item. item.0 == number) ys)

-- an update of this sender, and one of another
of_own : (number : ℕ) (update : Update) → of_sender number ((number, update) ∷ []) ≡ update ∷ []
of_own number update = rw (eq-eqb number number refl) refl

of_other : (number other : ℕ) (update : Update) → other ≢ number → of_sender number ((other, update) ∷ []) ≡ []
of_other number other update apart = rw (ne_eqb other number apart) refl

-- one update more is sent
more : (number : ℕ) (taken items : List (ℕ × Update)) (item : ℕ × Update) →
    of_sender number (taken ++ (items ++ item ∷ [])) ≡ of_sender number (taken ++ items) ++ of_sender number (item ∷ [])
more number taken items item = ap (of_sender number) (sym (append_assoc taken items (item ∷ [])))
    ∙ of_sender-append number (taken ++ items) (item ∷ [])

pub more-own : (number : ℕ) (update : Update) (taken items : List (ℕ × Update)) →
    of_sender number (taken ++ (items ++ (number, update) ∷ [])) ≡ of_sender number (taken ++ items) ++ update ∷ []
more-own number update taken items = more number taken items (number, update)
    ∙ ap (λ (us : List Update). of_sender number (taken ++ items) ++ us) (of_own number update)

pub more-other : (number other : ℕ) (update : Update) (taken items : List (ℕ × Update)) →
    other ≢ number → of_sender number (taken ++ (items ++ (other, update) ∷ [])) ≡ of_sender number (taken ++ items)
more-other number other update taken items apart =
    more number taken items (other, update)
    ∙ (ap (λ (us : List Update). of_sender number (taken ++ items) ++ us) (of_other number other update apart)
    ∙ append-nil (of_sender number (taken ++ items)))

-- a number above all that sent has sent nothing
pub none_sent : (number : ℕ) (items : List (ℕ × Update)) →
    All (λ item. item.0 < number) items → of_sender number items ≡ []
none_sent number [] below = refl
none_sent number (item ∷ items) below =
    let first : item.0 < number = All-head (λ (item : ℕ × Update). item.0 < number) item items below in
    let apart : item.0 ≢ number = λ e. omega arith in
    rw (ne_eqb item.0 number apart)
    (none_sent number items (All-tail (λ (item : ℕ × Update). item.0 < number) item items below))

-- an update taken from the front of what was queued
pub moved : (taken items : List (ℕ × Update)) (item : ℕ × Update) →
    (taken ++ item ∷ []) ++ items ≡ taken ++ item ∷ items
moved taken items item = append_assoc taken (item ∷ []) items
