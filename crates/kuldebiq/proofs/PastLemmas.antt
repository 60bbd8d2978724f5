-- Behind the greatest number is the end.
use Rattle.std.proofs.Common.{ℕ, ◌+◌, ◌-◌, ◌^◌, ◌<◌, List, length, slice_index, sym, ◌∙◌, inl, inr, arith}
use Rattle.std.proofs.lemmas.Bool.{cases_lt}
use Rattle.window_search.proofs.CallerLemmas.{lb-is}
use Rattle.hints.specs.Lookups.{IsPosition}
use Rattle.kuldebiq.specs.Positions.{IsPast}

pub past_position : (keys : List ℕ) (q place : ℕ) → ((k : ℕ) → slice_index keys k < 2 ^ 64) →
    IsPast keys q place → IsPosition keys (q + 1) place
past_position keys q place fit past = elim (cases_lt (q + 1) (2 ^ 64)) [
  | inl few ↦ past.next few
  | inr many ↦
      let end = past.end many in
      record {
        bracket = record {
          within = omega (arith, end);
          before = λ some. omega (arith, many, fit (place - 1));
          at = λ less. absurd (omega (arith, end, less));
        };
        found = λ sorted.
            end
            ∙ sym (lb-is keys
            (q + 1) (length keys) (omega arith) (λ k inside. omega (arith, many, fit k))
            (λ k past inside. absurd (omega (arith, past, inside))));
      }
]
