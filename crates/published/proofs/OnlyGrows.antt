-- Each kind of step at the copies keeps their rule.
use Rattle.std.proofs.Common.{◌≡◌, ◌≢◌, ℕ, List, [], ◌∷◌, ◌++◌, set, fold, refl}
use Rattle.std.proofs.Common.{sym, ap, ◌∙◌, subst, ⊎_elim, Option, Some, None}
use mathlib.Core.Option.{some}
use lib.ListN.{get_elem?}
use Rattle.left_right.specs.Register.{Admits, TurnsAt, Forks, Merges}
use Rattle.atomic_table.proofs.Lists.{at_set, at_snoc, set_again, set_else}
use Rattle.published.specs.Histories.{Front}
use Rattle.published.specs.Rules.{GoesOn, BeginsWithSeen, Sees, told, IsLastOf}
use Rattle.published.proofs.Prefixes.{prefix_self, prefix_trans}

-- a version goes on from itself
pub goes_on_self : (x : Front) → GoesOn x x
goes_on_self x = record { own = refl; begins = prefix_self x.batches }

goes_on_trans : (x y z : Front) → GoesOn x y → GoesOn y z → GoesOn x z
goes_on_trans x y z p q =
    record { own = p.own ∙ q.own; begins = prefix_trans x.batches y.batches z.batches p.begins q.begins }

some_same : (a b : Front) → Some a ≡ Some b → a ≡ b
some_same a b e = cc e

-- a new reader has seen nothing yet
pub admits : Admits BeginsWithSeen None
admits x views h seat seen at = ⊎_elim (λ (e : get_elem? views seat ≡ some (Some seen)). h seat seen e)
    (λ (e : None ≡ Some seen). absurd (cc e)) (at_snoc views None (Some seen) seat at)

-- look, where y is x, and publish
pub sees : (seat : ℕ) (v : Option Front) (x y : Front) → GoesOn x y → TurnsAt BeginsWithSeen seat v x y Sees
sees seat v x y more views h at = (
  Some y,
  (λ j seen e. ⊎_elim
      (λ (t : (j ≡ seat) × (Some y ≡ Some seen)).
      subst (λ (f : Front). GoesOn f y) (some_same y seen t.1) (goes_on_self y))
      (λ (t : (j ≢ seat) × (get_elem? views j ≡ some (Some seen))). goes_on_trans seen x y (h j seen t.1) more)
      (at_set views seat j (Some y) (Some seen) e)),
  (refl, λ seen is. goes_on_trans seen x y (h seat seen (at ∙ ap some is)) more),
)

-- what a view that stays says
set_same : (x : Front) (views : List (Option Front)) (seat : ℕ) (v : Option Front) →
    BeginsWithSeen x views → get_elem? views seat ≡ some v → BeginsWithSeen x (set views seat v)
set_same x views seat v h at = subst (BeginsWithSeen x) (sym (set_again views seat v at)) h

-- tell
pub forks : (seat : ℕ) (v : Option Front) → Forks BeginsWithSeen seat v v v
forks seat v x views h at j seen e =
    ⊎_elim (λ (t : get_elem? (set views seat v) j ≡ some (Some seen)). set_same x views seat v h at j seen t)
    (λ (same : v ≡ Some seen). h seat seen (at ∙ ap some same)) (at_snoc (set views seat v) v (Some seen) j e)

-- learn
pub merges : (seat : ℕ) (v : Option Front) (other : ℕ) (w : Option Front) →
    Merges BeginsWithSeen seat v other w (told v w) None
merges seat v other w x views h at apart there j seen e =
    let yonder : get_elem? views other ≡ some w = sym (set_else views seat other w apart) ∙ there in
    ⊎_elim (λ (t : (j ≡ other) × (None ≡ Some seen)). absurd (cc (t.1)))
    (λ (t : (j ≢ other) × (get_elem? (set views seat w) j ≡ some (Some seen))).
    ⊎_elim (λ (s : (j ≡ seat) × (w ≡ Some seen)). h other seen (yonder ∙ ap some s.1))
    (λ (s : (j ≢ seat) × (get_elem? views j ≡ some (Some seen))). h j seen s.1)
    (at_set views seat j w (Some seen) t.1))
    (at_set (set views seat w) other j None (Some seen) e)

-- of versions that replace each other the last one stays
last_of : (first : Front) (before : List Front) (last : Front) →
    fold (λ (_ : Front) (v : Front). v) first (before ++ last ∷ []) ≡ last
last_of first [] last = refl
last_of first (v ∷ before) last = last_of v before last

-- once all that wait are applied, the last one is left
pub is_last : (first : Front) (queue waiting : List Front) (last : Front) →
    queue ≡ waiting → IsLastOf waiting last → fold (λ (_ : Front) (v : Front). v) first queue ≡ last
is_last first queue waiting last same ends =
    ap (fold (λ (_ : Front) (v : Front). v) first) (same ∙ ends.1) ∙ last_of first ends.0 last

-- only one is the last
pub one_last : (first : Front) (queue : List Front) (a b : Front) → IsLastOf queue a → IsLastOf queue b → a ≡ b
one_last first queue a b one two = sym (is_last first queue queue a refl one) ∙ is_last first queue queue b refl two
