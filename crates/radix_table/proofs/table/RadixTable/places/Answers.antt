-- The predecessor is one place before as many numbers as are at most the question.
use Rattle.std.proofs.Common.{◌-◌, ℕ, sym, subst}
use Rattle.radix_table.specs.Tables.{IsLedTo}
use Rattle.radix_table.proofs.CountLemmas.{IsLedTo-between}
use Rattle.radix_table.proofs.table.RadixTable.places.Goals as goal

pub returns : goal.returns
returns c = λ xs most order is.
    let low = c.in_ok-low.low in
    let high = c.in_ok-low.high in
    let led = IsLedTo-between xs c.args.q most low high
    (c.in_ok-low.ensures.between xs most order is) (c.in_ok-low.ensures.narrow xs most is) in
    subst (λ (n : ℕ). IsLedTo xs c.args.q most n c.saturating_sub-2.result)
    (sym c.saturating_sub.ensures) (subst (IsLedTo xs c.args.q most (low - 1)) (sym c.saturating_sub-2.ensures) led)
