-- A coordinate takes its places and leaves those of the others; at the end each has its places.
use Rattle.std.proofs.Common.{◌≡◌, ◌+◌, ◌*◌, ◌%◌, ◌^◌, ◌<◌, ◌≤◌, slice_index, bit_or, sym, ◌∙◌, subst, inl, inr, arith}
use Rattle.std.specs.Int.{bit_at}
use Rattle.std.proofs.lemmas.Bool.{cases_lt}
use Rattle.zorder.specs.Codes.{code}
use Rattle.zorder.proofs.CodeLemmas.{code_from_bits, IsCode_from_bits, coordinate_from_bits, code_rises}
use Rattle.zorder.proofs.GatherLemmas.{place_same, place_other}
use Rattle.zorder.proofs.codes.encode.Goals as goal

pub loop-c-preserved : goal.loop-c-preserved
loop-c-preserved c =
    let among : c.loop-c.c < c.args.d = omega arith in
    let same = place_same c.args.d c.loop-c.c (slice_index c.args.coords.now c.loop-c.c)
    c.spread.result c.loop-c.code c.requires.dimension among c.spread.ensures in
    let other = place_other c.args.d c.loop-c.c (slice_index c.args.coords.now c.loop-c.c)
    c.spread.result c.loop-c.code c.requires.dimension among c.spread.ensures in
    record {
      placed = λ b k below. elim (cases_lt k c.loop-c.c) [
        | inl earlier ↦ other b k (omega arith) (omega arith) ∙ c.loop-c.invariant.placed b k earlier
        | inr from ↦
            let here : c.loop-c.c ≡ k = omega arith in
            subst (λ n. bit_at (bit_or c.loop-c.code (c.spread.result * 2 ^ c.loop-c.c % 2 ^ 64)) (b * c.args.d + n)
            ≡ bit_at (slice_index c.args.coords.now n) b) here
            (same b (c.requires.range c.loop-c.c among) (c.loop-c.invariant.clear b c.loop-c.c (omega arith) among))
      ];
      clear = λ b k from within. other b k within (omega arith) ∙ c.loop-c.invariant.clear b k (omega arith) within;
    }

pub returns-clause-code : goal.returns-clause-code
returns-clause-code c =
    sym (code_from_bits c.args.d c.requires.dimension c.args.coords.now c.loop-c.code
    (omega arith) (λ b k within. c.loop-c.invariant.placed b k (omega arith)))

pub returns-clause-range : goal.returns-clause-range
returns-clause-range c =
    IsCode_from_bits c.args.d c.requires.dimension c.args.coords.now c.loop-c.code c.requires.range
    (λ b k within. c.loop-c.invariant.placed b k (omega arith))

pub returns-clause-decodes : goal.returns-clause-decodes
returns-clause-decodes c k within =
    coordinate_from_bits c.args.d k c.loop-c.code
    (slice_index c.args.coords.now k) (omega arith) (omega arith) (λ b. c.loop-c.invariant.placed b k (omega arith))

pub returns-clause-rises : goal.returns-clause-rises
returns-clause-rises c lower below =
    subst (λ z. code c.args.d lower ≤ z) (sym (returns-clause-code c))
    (code_rises c.args.d c.requires.dimension lower c.args.coords.now c.requires.range below)
