-- What a list without repeats gains by one key more, and how often a key stands.
--
-- Main results: a key like the one before it adds nothing
-- (`distinct_of-same`), another one adds itself (`distinct_of-new`); and
-- a key stands as often as the keys below the next number outnumber those below it (`times-lb`).
use Rattle.std.proofs.Common.{◌≡◌, ◌≢◌, ℕ, ◌+◌, List, [], ◌∷◌, ◌++◌, cond, eqb, ltb, refl, arith}
use Rattle.std.proofs.lemmas.Bool.Decides.{nat_tests}
use Rattle.std.proofs.lemmas.List.Sums.{sum_by-cons}
use Rattle.std.specs.List.{dedup_from}
use Rattle.window_search.specs.Searches.{lb}
use Rattle.key_points.specs.KeyPoints.{distinct_of, times}

from-same : (k : ℕ) (xs : List ℕ) (y : ℕ) →
    dedup_from eqb k ((xs ++ y ∷ []) ++ y ∷ []) ≡ dedup_from eqb k (xs ++ y ∷ [])
from-same k [] y = grind (arith, nat_tests)
from-same k (x ∷ xs) y = grind (arith, nat_tests, from-same k xs y, from-same x xs y)

from-new : (k : ℕ) (xs : List ℕ) (y z : ℕ) →
    y ≢ z → dedup_from eqb k ((xs ++ y ∷ []) ++ z ∷ []) ≡ dedup_from eqb k (xs ++ y ∷ []) ++ z ∷ []
from-new k [] y z differ = grind (arith, nat_tests)
from-new k (x ∷ xs) y z differ = grind (arith, nat_tests, from-new k xs y z differ, from-new x xs y z differ)

pub distinct_of-same : (xs : List ℕ) (y : ℕ) → distinct_of ((xs ++ y ∷ []) ++ y ∷ []) ≡ distinct_of (xs ++ y ∷ [])
distinct_of-same [] y = grind (arith, nat_tests)
distinct_of-same (x ∷ xs) y = from-same x xs y

pub distinct_of-new : (xs : List ℕ) (y z : ℕ) →
    y ≢ z → distinct_of ((xs ++ y ∷ []) ++ z ∷ []) ≡ distinct_of (xs ++ y ∷ []) ++ z ∷ []
distinct_of-new [] y z differ = grind (arith, nat_tests)
distinct_of-new (x ∷ xs) y z differ = from-new x xs y z differ

once : (k key : ℕ) → cond (eqb k key) 1 0 + cond (ltb k key) 1 0 ≡ cond (ltb k (key + 1)) 1 0
once k key = grind (arith, nat_tests)

pub times-lb : (keys : List ℕ) (key : ℕ) → times keys key + lb keys key ≡ lb keys (key + 1)
times-lb [] key = refl
times-lb (k ∷ keys) key = omega (
  arith,
  once k key,
  times-lb keys key,
  sum_by-cons (λ x. cond (eqb x key) 1 0) k keys,
  sum_by-cons (λ x. cond (ltb x key) 1 0) k keys,
  sum_by-cons (λ x. cond (ltb x (key + 1)) 1 0) k keys,
)
