-- Code by code: three thirds in turn, from the byte where each coordinate begins.
use Rattle.std.proofs.Common.{◌≡◌, ℕ, ◌*◌, ◌/◌, ◌%◌, ◌^◌, ◌<◌, Fits, List}
use Rattle.std.proofs.Common.{length, get_or, replicate, refl, ◌∙◌, arith, w64}
use Rattle.std.proofs.lemmas.Simd.{below_from_Fits, Each1-get_or}
use lib.Lanes.{Each1}
use Rattle.zorder.proofs.LaneLemmas.{long, lane_with}
use Rattle.zorder.proofs.TripleLemmas.{first_column, second_column, third_column}
use Rattle.zorder.proofs.triples.four_triples.Goals as goal

abbrev down : ℕ → ℕ → ℕ
down a b = a / 2 ^ b

abbrev up : ℕ → ℕ → ℕ
up a b = a * 2 ^ b % 2 ^ 32

code_fits : (codes : List ℕ) → length codes ≡ 4 → Each1 (Fits w64) codes → (i : ℕ) → i < 4 → get_or codes i 0 < 2 ^ 64
code_fits codes four each i h =
    Each1-get_or (λ z. z < 2 ^ 64) codes i 0 (omega (arith, four)) (below_from_Fits w64 codes each)

pub returns-clause-long : goal.returns-clause-long
returns-clause-long c = (
  c.three_in_turn-first.ensures.long,
  long down c.three_in_turn.result (replicate 4 3) c.three_in_turn.ensures.long refl,
  long down c.three_in_turn-2.result (replicate 4 6) c.three_in_turn-2.ensures.long refl,
)

pub returns-clause-first : goal.returns-clause-first
returns-clause-first c i h =
    let from = c.byte_thirds.ensures in
    let turns = c.three_in_turn-first.ensures in
    first_column (get_or c.args.codes i 0)
    (get_or c.three_in_turn-first.result i 0) _ _ _ (code_fits c.args.codes c.fits-codes.0 c.fits-codes.1 i h)
    (turns.range i h) (from.from_0 i h) (from.from_1 i h) (from.from_2 i h)
    (record {
      first = λ j within below. turns.first i j h within below;
      second = λ j within low below.
          turns.second i j h within low below;
      third = λ j within low. turns.third i j h within low;
    })

pub returns-clause-second : goal.returns-clause-second
returns-clause-second c i h =
    let from = c.byte_thirds.ensures in
    let turns = c.three_in_turn.ensures in
    lane_with down c.three_in_turn.result 3 turns.long i h
    ∙ second_column (get_or c.args.codes i 0)
    (get_or c.three_in_turn.result i 0) _ _ _ (code_fits c.args.codes c.fits-codes.0 c.fits-codes.1 i h)
    (turns.range i h) (from.from_0 i h) (from.from_1 i h) (from.from_2 i h)
    _ (lane_with up c.byte_thirds.result.2 8 from.long.2 i h)
    (record {
      first = λ j within below. turns.first i j h within below;
      second = λ j within low below.
          turns.second i j h within low below;
      third = λ j within low. turns.third i j h within low;
    })

pub returns-clause-third : goal.returns-clause-third
returns-clause-third c i h =
    let from = c.byte_thirds.ensures in
    let turns = c.three_in_turn-2.ensures in
    lane_with down c.three_in_turn-2.result 6 turns.long i h
    ∙ third_column (get_or c.args.codes i 0)
    (get_or c.three_in_turn-2.result i 0) _ _ _ (code_fits c.args.codes c.fits-codes.0 c.fits-codes.1 i h)
    (turns.range i h) (from.from_0 i h) (from.from_1 i h) (from.from_2 i h)
    _ (lane_with up c.byte_thirds.result.2 8 from.long.2 i h) _ (lane_with up c.byte_thirds.result.1 8 from.long.1 i h)
    (record {
      first = λ j within below. turns.first i j h within below;
      second = λ j within low below.
          turns.second i j h within low below;
      third = λ j within low. turns.third i j h within low;
    })
