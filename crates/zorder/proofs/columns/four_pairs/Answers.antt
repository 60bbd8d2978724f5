-- Each code by itself: its bytes, after three changes of sides, are those of its coordinates.
use Rattle.std.proofs.Common.{ℕ, ◌^◌, ◌<◌, get_or, ap, ◌∙◌, arith, lit<, w64}
use Rattle.std.specs.Int.{bit_at}
use Rattle.std.proofs.lemmas.Simd.{below_from_Fits, Each1-get_or}
use Rattle.zorder.proofs.SideLemmas.{AreSides}
use Rattle.zorder.proofs.ColumnLemmas.{column, piece, sides}
use Rattle.zorder.proofs.columns.four_pairs.Goals as goal

abbrev all_sides : (c : goal.After-numbers_of-2) → (l : ℕ) → l < 16 →
    AreSides 1 (piece c.args.codes l) (get_or c.change_sides-3.result.0 l 0) (get_or c.change_sides-3.result.1 l 0)
all_sides c = sides c.args.codes c.byte_halves.result.0 c.byte_halves.result.1
    c.change_sides.result.0 c.change_sides.result.1 c.change_sides-2.result.0 c.change_sides-2.result.1
    c.change_sides-3.result.0 c.change_sides-3.result.1
    c.byte_halves.ensures.even c.byte_halves.ensures.odd c.change_sides.ensures.lower c.change_sides.ensures.upper
    c.change_sides-2.ensures.lower
    c.change_sides-2.ensures.upper c.change_sides-3.ensures.lower c.change_sides-3.ensures.upper

abbrev code_fits : (c : goal.After-numbers_of-2) (i : ℕ) → i < 4 → get_or c.args.codes i 0 < 2 ^ 64
code_fits c i h = Each1-get_or
    (λ z. z < 2 ^ 64) c.args.codes i 0 (omega (arith, c.fits-codes.0)) (below_from_Fits w64 c.args.codes c.fits-codes.1)

pub returns-clause-first : goal.returns-clause-first
returns-clause-first c i h =
    column c.args.codes c.change_sides-3.result.0 0 i _ (lit< tt) h (code_fits c i h)
    (c.numbers_of.ensures.range i h) (λ m q low within. c.numbers_of.ensures.bits i m q h low within)
    (λ l q within near. ap (bit_at (get_or c.change_sides-3.result.0 l 0)) (omega arith)
    ∙ (all_sides c l within).lower q 0 (lit< tt) (omega arith) ∙ ap (piece c.args.codes l) (omega arith))

pub returns-clause-second : goal.returns-clause-second
returns-clause-second c i h =
    column c.args.codes c.change_sides-3.result.1 1 i _ (lit< tt) h (code_fits c i h)
    (c.numbers_of-2.ensures.range i h) (λ m q low within. c.numbers_of-2.ensures.bits i m q h low within)
    (λ l q within near. ap (bit_at (get_or c.change_sides-3.result.1 l 0)) (omega arith)
    ∙ (all_sides c l within).upper q 0 (lit< tt) (omega arith) ∙ ap (piece c.args.codes l) (omega arith))
