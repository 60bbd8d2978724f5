-- One read after another: what was read, and what is left.
use Rattle.std.proofs.Common.{ℕ, ◌+◌, ◌≤◌, List, ◌++◌, length, drop, refl, sym, ap, ◌∙◌}
use Rattle.std.proofs.Common.{Option, Some, None, append_assoc}
use Rattle.std.proofs.lemmas.List.{drop_at}
use Rattle.edge.specs.Shelf.{HasNothingLeft, TakesAtMost, IsEmptied}
use Rattle.edge.specs.Telling.{TellsAsBefore}
use Rattle.edge.specs.Reading.{HasRead}

-- the two pieces came next
pub HasRead-append : (a b c : Option (List ℕ)) (p q : List ℕ) → HasRead a p b → HasRead b q c → HasRead a (p ++ q) c
HasRead-append None b c p q _ _ = tt
HasRead-append (Some x) None c p q h _ = absurd h
HasRead-append (Some x) (Some y) None p q _ k = absurd k
HasRead-append (Some x) (Some y) (Some z) p q h k = h ∙ ap (λ (w : List ℕ). p ++ w) k ∙ sym (append_assoc p q z)

-- a failed call leaves nothing, and goes on telling it
pub emptied : (a b : Option (List ℕ)) → HasNothingLeft b → TellsAsBefore a b → IsEmptied a b
emptied None b _ _ = tt
emptied (Some x) None _ tells = cc
emptied (Some x) (Some y) none _ = ap Some none

pub emptied-after : (a b c : Option (List ℕ)) (p : List ℕ) → HasRead a p b → IsEmptied b c → IsEmptied a c
emptied-after None b c p _ _ = tt
emptied-after (Some x) None c p h _ = absurd h
emptied-after (Some x) (Some y) c p _ k = k

-- what was read is gone
pub takes-read : (a b : Option (List ℕ)) (p : List ℕ) (most : ℕ) →
    length p ≤ most → HasRead a p b → TakesAtMost most a b
takes-read None b p most _ _ = tt
takes-read (Some x) None p most _ h = absurd h
takes-read (Some x) (Some y) p most few h =
    (length p, few, ap Some (sym (ap (drop (length p)) h ∙ drop_at p y (length p) refl)))
