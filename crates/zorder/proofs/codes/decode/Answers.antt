-- A coordinate is the first one of the code shifted down to it; with all of them the code is known.
use Rattle.std.proofs.Common.{◌≡◌, ◌≢◌, ◌^◌, ◌<◌, length, slice_index, slice_set, ◌∙◌, subst}
use Rattle.std.proofs.Common.{sym, inl, inr, arith, get_or-set_other, get_or-set_same}
use Rattle.std.proofs.lemmas.Bool.{cases_lt}
use Rattle.std.proofs.Math.ListN.{length-set}
use Rattle.zorder.specs.Codes.{coordinate, coordinate_bits}
use Rattle.zorder.proofs.CodeLemmas.{coordinate-shr, coordinate_below, IsCodeOf_from_coordinates, code_from_coordinates}
use Rattle.zorder.proofs.codes.decode.Goals as goal

pub loop-c-preserved : goal.loop-c-preserved
loop-c-preserved c =
    let here : c.gather.result ≡ coordinate c.args.d c.loop-c.c c.args.z = c.gather.ensures
    ∙ coordinate-shr c.args.d c.loop-c.c c.args.z (omega arith) (omega arith) in
    let among : c.loop-c.c < length c.loop-c.coords = omega arith in
    record {
      four = length-set c.loop-c.coords c.loop-c.c c.gather.result ∙ c.loop-c.invariant.four;
      read = λ k below. elim (cases_lt k c.loop-c.c) [
        | inl earlier ↦
            let apart : k ≢ c.loop-c.c = omega arith in
            get_or-set_other c.loop-c.coords c.loop-c.c k c.gather.result 0 apart ∙ c.loop-c.invariant.read k earlier
        | inr from ↦
            let last : c.loop-c.c ≡ k = omega arith in
            subst (λ n. slice_index (slice_set c.loop-c.coords c.loop-c.c c.gather.result) n
            ≡ coordinate c.args.d n c.args.z) last
            (get_or-set_same c.loop-c.coords c.loop-c.c c.gather.result 0 among ∙ here)
      ];
      clear = λ k from.
          let apart : k ≢ c.loop-c.c = omega arith in
          get_or-set_other c.loop-c.coords c.loop-c.c k c.gather.result 0 apart
          ∙ c.loop-c.invariant.clear k (omega arith);
    }

pub returns-clause-range : goal.returns-clause-range
returns-clause-range c k within =
    subst (λ n. n < 2 ^ coordinate_bits c.args.d) (sym (c.loop-c.invariant.read k (omega arith)))
    (coordinate_below c.args.d c.args.z c.requires.dimension c.requires.code k)

pub returns-clause-bits : goal.returns-clause-bits
returns-clause-bits c =
    IsCodeOf_from_coordinates c.args.d c.requires.dimension c.loop-c.coords c.args.z
    (omega arith) (λ k within. c.loop-c.invariant.read k (omega arith))

pub returns-clause-encodes : goal.returns-clause-encodes
returns-clause-encodes c =
    code_from_coordinates c.args.d c.requires.dimension c.loop-c.coords c.args.z
    (omega arith) (λ k within. c.loop-c.invariant.read k (omega arith))
