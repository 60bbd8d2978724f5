-- Entries of a table, by the order of the runs' first x.
use Rattle.std.proofs.Common.{◌≡◌, ℕ, ◌+◌, ◌-◌, ◌*◌, ◌/◌, ◌^◌, ◌<◌, ◌≤◌, List, map}
use Rattle.std.proofs.Common.{length, slice_index, sym, ap, ◌∙◌, subst, inl, inr, arith}
use Rattle.std.proofs.lemmas.Bool.{cases_lt}
use Rattle.std.proofs.lemmas.Nat.{pow-add, le-div}
use Rattle.std.proofs.Math.Nat.{mul-le-mul_left, mul-le-mul_right, div-mul-le_self}
use Rattle.std.specs.List.Sorted.{IsNonDecreasing}
use Rattle.window_search.specs.Searches.{lb}
use Rattle.levels.specs.Indexes.{PgmIndex, xs_at}
use Rattle.radix_table.specs.Tables.{IsBetween, IsFilledTo}
use Rattle.radix_table.proofs.CountLemmas.{Rises, IsEntry-at, IsFilled, IsFilled-more, filled_more, step-below}
use Rattle.radix_table.proofs.ScaleLemmas.{power_some}
use Rattle.bucketed.specs.Tables.{bucket_of}

-- a greater number has no lower bucket
pub Rises-bucket : (bits : ℕ) → Rises (bucket_of bits)
Rises-bucket bits =
    record {
      rises = λ x y less. le-div (x / 2 ^ (64 - bits)) y
          (2 ^ (64 - bits)) (power_some (64 - bits)) (omega (arith, div-mul-le_self x (2 ^ (64 - bits))));
    }

-- there are 2 ^ bits buckets
pub bucket-few : (bits x : ℕ) → bits ≤ 64 → x < 2 ^ 64 → bucket_of bits x < 2 ^ bits
bucket-few bits x fits short = elim (cases_lt (bucket_of bits x) (2 ^ bits)) [
  | inl below ↦ below
  | inr above ↦
      let size = 2 ^ (64 - bits) in
      let all : bits + (64 - bits) ≡ 64 = omega arith in
      let whole : 2 ^ 64 ≡ 2 ^ bits * 2 ^ (64 - bits) = ap (λ (n : ℕ). 2 ^ n) (sym all) ∙ pow-add 2 bits (64 - bits) in
      absurd
      (omega (arith, whole, short, div-mul-le_self x (2 ^ (64 - bits)), mul-le-mul_right (2 ^ (64 - bits)) above))
]

-- there are at most 2 ^ 20 buckets
pub buckets-few : (bits : ℕ) → bits ≤ 20 → 2 ^ bits ≤ 1048576
buckets-few bits fits =
    let all : 20 ≡ bits + (20 - bits) = omega arith in
    let whole : 2 ^ 20 ≡ 2 ^ bits * 2 ^ (20 - bits) = ap (λ (n : ℕ). 2 ^ n) all ∙ pow-add 2 bits (20 - bits) in
    let some : 1 ≤ 2 ^ (20 - bits) = power_some (20 - bits) in
    omega (arith, whole, mul-le-mul_left (2 ^ bits) some)

-- a bucket has an entry, and one behind it
pub bucket_fits : (bits own q : ℕ) →
    bits ≡ own → bits ≤ 20 → q < 2 ^ 64 → (q / 2 ^ (64 - bits) < 2 ^ own) × (2 ^ own ≤ 1048576)
bucket_fits bits own q same fits short = (
  omega (arith, bucket-few bits q (omega arith) short, ap (λ (b : ℕ). 2 ^ b) same),
  omega (arith, buckets-few bits fits, ap (λ (b : ℕ). 2 ^ b) same),
)

-- ---- the table, run by run

-- the entries so far, no more than there are buckets
pub record IsFilledUpTo (bits : ℕ) (xs : List ℕ) (done : ℕ) (table : List ℕ) : Type 0 where
  pub within : length table ≤ 2 ^ bits
  pub filled : IsFilled (bucket_of bits) xs done table

-- the next run's bucket and those before it are filled
pub IsFilledUpTo-more : (bits : ℕ) (xs : List ℕ) (done first : ℕ) (table more : List ℕ) → IsNonDecreasing xs →
    bits ≤ 20 → done < length xs → first ≡ slice_index xs done → first < 2 ^ 64 → IsFilledUpTo bits xs done table →
    IsFilledTo (bucket_of bits first + 1) done table more → IsFilledUpTo bits xs (done + 1) more
IsFilledUpTo-more bits xs done first table more order fits inside is short so_far longer = record {
  within = elim (cases_lt (length table) (bucket_of bits first + 1)) [
    | inl grows ↦ omega (arith, longer.grown (omega arith), bucket-few bits first (omega arith) short)
    | inr old ↦ omega (arith, longer.full old, so_far.within)
  ];
  filled = IsFilled-more (bucket_of bits) xs done
      (bucket_of bits first) table more (Rises-bucket bits) order inside (ap (bucket_of bits) is) so_far.filled longer;
}

-- at the end all entries are there
pub entries_all : (bits : ℕ) (xs : List ℕ) (table more : List ℕ) →
    IsFilledUpTo bits xs (length xs) table → IsFilledTo (2 ^ bits + 1) (length xs) table more →
    (length more ≡ 2 ^ bits + 1) × ((h : ℕ) → h ≤ 2 ^ bits → slice_index more h ≡ lb (map (bucket_of bits) xs) h)
entries_all bits xs table more so_far longer =
    let count = longer.grown (omega (arith, so_far.within)) in (
      count,
      λ h within. filled_more (bucket_of bits) xs (length xs) (2 ^ bits + 1) table more
          (omega arith) so_far.filled (λ k high inside. absurd (omega arith)) longer h (omega (arith, count)),
    )

-- what the two entries of a question's bucket say
pub IsBetween-bucket : (bits : ℕ) (xs : List ℕ) (q first last : ℕ) → IsNonDecreasing xs → first
    ≡ lb (map (bucket_of bits) xs) (bucket_of bits q) → last ≡ lb (map (bucket_of bits) xs) (bucket_of bits q + 1) →
    IsBetween xs q first last
IsBetween-bucket bits xs q first last order low high =
    let up = Rises-bucket bits in
    let lower = IsEntry-at (bucket_of bits) xs (bucket_of bits q) first up order low in
    let upper = IsEntry-at (bucket_of bits) xs (bucket_of bits q + 1) last up order high in
    record {
      begins = lower.within;
      within = upper.within;
      before = λ k less. let below = step-below (bucket_of bits) (slice_index xs k) q up (lower.before k less) in
          omega arith;
      from = λ k past inside.
          step-below (bucket_of bits) q (slice_index xs k) up (omega (arith, upper.from k past inside));
    }

-- the first x of an index's runs never fall, by either name of the index
pub order_of : (index value : PgmIndex) → value ≡ index →
    IsNonDecreasing (xs_at value.keys value.levels 1) → IsNonDecreasing (xs_at index.keys index.levels 1)
order_of index value same order = subst (λ (i : PgmIndex). IsNonDecreasing (xs_at i.keys i.levels 1)) same order
