-- Steps from a hint away that double, and what they read: with
-- `reach` from the hint to the next one, 2 to the steps is reach.
use Rattle.std.proofs.Common.{◌≡◌, ℕ, ◌+◌, ◌-◌, ◌*◌, ◌^◌, ◌<◌, ◌≤◌, List, ap, sym, ◌∙◌, add-one, arith}
use Rattle.std.specs.Int.{abs_diff}
use Rattle.std.specs.List.Sorted.{IsNonDecreasing}
use Rattle.std.proofs.Math.Nat.{pow-suc, pow-zero}
use Rattle.std.proofs.lemmas.Nat.{pow-add, mul-le}
use Rattle.window_search.specs.Brackets.{IsBracket, IsReached, ReadsNear}
use Rattle.window_search.specs.Searches.{lb, HalvesPlaces}
use Rattle.window_search.proofs.LowerBounds.{lb-is, IsLowerBound-lb}

-- from `before` to `now` the steps that led to this reach
pub record IsDoubled (reach before now : ℕ) : Type 0 where
  pub t : ℕ
  pub taken : now ≡ before + t
  pub cost : 2 ^ t ≤ reach

pub doubled_to : (reach before now : ℕ) → IsDoubled reach before now → IsDoubled (reach * 2) before (now + 1)
doubled_to reach before now doubled =
    let power : 2 ^ (doubled.t + 1) ≡ 2 * 2 ^ doubled.t = ap (λ n. 2 ^ n) (add-one doubled.t)
    ∙ omega (arith, pow-suc 2 doubled.t) in
    record { t = doubled.t + 1; taken = omega (arith, doubled.taken); cost = omega (arith, doubled.cost) }

-- no read, where the next one would be beyond an end
pub doubled_at_end : (reach before now : ℕ) → IsDoubled reach before now → IsDoubled (reach * 2) before now
doubled_at_end reach before now doubled =
    record { t = doubled.t; taken = doubled.taken; cost = omega (arith, doubled.cost) }

-- the places between the last two of these steps, or up to an end
pub reached : (reach hint low high before now : ℕ) → IsDoubled (reach * 2) before now →
    high < low + reach → ((place : ℕ) → low ≤ place → place ≤ high → reach ≤ abs_diff hint place + 1) →
    IsReached 2 hint low high before now
reached reach hint low high before now doubled few far = record {
  reach = reach;
  t = doubled.t;
  taken = doubled.taken;
  cost = omega (arith, doubled.cost);
  few = few;
  far = far;
}

-- one read before them
pub reached_after : (hint low high before now : ℕ) →
    IsReached 2 hint low high (before + 1) now → IsReached 4 hint low high before now
reached_after hint low high before now reached =
    let power : 2 ^ (reached.t + 1) ≡ 2 * 2 ^ reached.t = ap (λ n. 2 ^ n) (add-one reached.t)
    ∙ omega (arith, pow-suc 2 reached.t) in
    record {
      reach = reached.reach;
      t = reached.t + 1;
      taken = omega (arith, reached.taken);
      cost = omega (arith, reached.cost);
      few = reached.few;
      far = reached.far;
    }

pub reached_at_once : (hint low high before now : ℕ) →
    IsReached 2 hint low high before now → IsReached 4 hint low high before now
reached_at_once hint low high before now reached =
    record {
      reach = reached.reach;
      t = reached.t;
      taken = reached.taken;
      cost = omega (arith, reached.cost);
      few = reached.few;
      far = reached.far;
    }

pow-two : (n : ℕ) → n ^ 2 ≡ n * n
pow-two n = pow-suc n 1 ∙ ap (λ m. m * n) (pow-suc n 0 ∙ ap (λ m. m * n) (pow-zero n) ∙ omega arith)

-- then halving what is left open
pub reads_near : (hint low high place before between after : ℕ) → IsReached 4 hint low high before between →
    low ≤ place → place ≤ high → HalvesPlaces between after (high - low + 1) → ReadsNear hint place before after
reads_near hint low high place before between after reached from to (h, taken, halved) =
    let r = reached.reach in
    let d = abs_diff hint place + 1 in
    let far = reached.far place from to in
    let few : 2 ^ h ≤ 2 * r = omega (arith, reached.few) in
    let product = mul-le _ _ _ _ reached.cost few in
    let square = mul-le _ _ _ _ far far in
    let squares : 8 * (r * r) ≤ 8 * d ^ 2 = omega (arith, square, pow-two d) in
    let power = pow-add 2 reached.t h in
    (reached.t + h, omega (arith, reached.taken), omega (arith, product, squares, power))

-- where the keys never fall, the bracket is the lower bound
pub bracket-lb : (keys : List ℕ) (q place : ℕ) → IsBracket keys q place → IsNonDecreasing keys → place ≡ lb keys q
bracket-lb keys q place bracket order =
    sym (lb-is keys q place bracket.within
    (λ k less. omega
    (arith, order k (place - 1) 0 (omega arith) (omega (arith, bracket.within)), bracket.before (omega arith)))
    (λ k high inside. omega (arith, order place k 0 high inside, bracket.at (omega arith))))

-- and the lower bound is a bracket
pub lb-brackets : (keys : List ℕ) (q : ℕ) → IsNonDecreasing keys → IsBracket keys q (lb keys q)
lb-brackets keys q order =
    let bound = IsLowerBound-lb keys q order in
    record {
      within = bound.within;
      before = λ some. bound.before (lb keys q - 1) (omega arith);
      at = λ inside. bound.from (lb keys q) (omega arith) inside;
    }
