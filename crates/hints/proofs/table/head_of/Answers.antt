-- The table stands behind six hints.
use Rattle.std.proofs.Common.{◌≡◌, ℕ, List, length, slice_index, ap, ◌∙◌, arith}
use Rattle.hints.proofs.table.head_of.Goals as goal

pub returns : goal.returns
returns c =
    let adds = c.in_ok-add_table.ensures in
    let first = c.in_ok-head.ensures.items in
    let six : length c.in_ok-head.head.items ≡ 6 = ap length first in
    record {
      known = adds.same 0 (omega arith) ∙ ap (λ (l : List ℕ). slice_index l 0) first;
      bound = adds.same 1 (omega arith) ∙ ap (λ (l : List ℕ). slice_index l 1) first ∙ omega (arith, c.from.ensures);
      count = adds.same 2 (omega arith) ∙ ap (λ (l : List ℕ). slice_index l 2) first;
      long = omega (arith, adds.long, adds.same 3 (omega arith), ap (λ (l : List ℕ). slice_index l 3) first);
      table =
          omega (arith, adds.same 3 (omega arith), ap (λ (l : List ℕ). slice_index l 3) first, c.cuts_of-cuts.ensures);
    }
