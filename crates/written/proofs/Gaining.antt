-- What a sink gains by one part after another.
--
-- Main result: what was gained in two steps is gained in one
-- (`Gains-append`), and where the second step broke off, a front
-- part of both parts was gained (`GainsFront-append`). Where the sink tells nothing there is nothing to show.
use Rattle.std.proofs.Common.{◌≡◌, ℕ, List, [], ◌++◌, Option, None, Some, refl, sym, ◌∙◌, ap, subst, append_assoc}
use Rattle.std.proofs.lemmas.List.{append-nil}
use Rattle.std.specs.Prelude.{IfSome}
use Rattle.written.specs.Writing.{Gains, GainsFront}

-- a fact for the value, where there is one
pub if_some : {A : Type 0} (o : Option A) (P : A → Type 0) → ((x : A) → o ≡ Some x → P x) → IfSome o P
if_some None P h = tt
if_some (Some x) P h = h x refl

pub at_some : {A : Type 0} (o : Option A) (P : A → Type 0) (x : A) → o ≡ Some x → IfSome o P → P x
at_some o P x e h = let Q : Option _ → Type 0 = λ r. IfSome r P in subst Q e h

pub Gains-nil : (old : Option (List ℕ)) → Gains old old []
Gains-nil old = if_some old _ (λ before is. is ∙ ap Some (sym (append-nil before)))

pub Gains-append : (old now new : Option (List ℕ)) (first later : List ℕ) → Gains old now first → Gains now new later →
    Gains old new (first ++ later)
Gains-append old now new first later one two =
    if_some old _ (λ before is.
    let had = at_some old (λ b. now ≡ Some (b ++ first)) before is one in
    at_some now (λ b. new ≡ Some (b ++ later)) (before ++ first) had two ∙ ap Some (append_assoc before first later))

pub GainsFront-append : (old now new : Option (List ℕ)) (first later : List ℕ) →
    Gains old now first → GainsFront now new later →
    GainsFront old new (first ++ later)
GainsFront-append old now new first later one two =
    if_some old _ (λ before is.
    let had = at_some old (λ b. now ≡ Some (b ++ first)) before is one in
    let more = at_some now
    (λ b. (front r : List ℕ) × (later ≡ front ++ r) × (new ≡ Some (b ++ front))) (before ++ first) had two in (
      first ++ more.0,
      more.1,
      ap (λ (l : List ℕ). first ++ l) more.2 ∙ sym (append_assoc first more.0 more.1),
      more.3 ∙ ap Some (append_assoc before first more.0),
    ))

-- a front part of the first part is one of both
pub front_of_more : (now new : Option (List ℕ)) (first later : List ℕ) →
    GainsFront now new first → GainsFront now new (first ++ later)
front_of_more now new first later gains =
    if_some now _ (λ before is.
    let had =
    at_some now (λ b. (front r : List ℕ) × (first ≡ front ++ r) × (new ≡ Some (b ++ front))) before is gains in
    (had.0, had.1 ++ later, ap (λ (l : List ℕ). l ++ later) had.2 ∙ append_assoc had.0 had.1 later, had.3))

-- nothing is a front part of anything
pub front_of_none : (now new : Option (List ℕ)) (rest : List ℕ) → new ≡ now → GainsFront now new rest
front_of_none now new rest e = if_some now _ (λ before is. ([], rest, refl, e ∙ is ∙ ap Some (sym (append-nil before))))
