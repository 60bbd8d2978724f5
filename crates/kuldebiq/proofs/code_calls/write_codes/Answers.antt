-- One more code is written at its place, and none elsewhere.
use Rattle.std.proofs.Common.{◌≡◌, ◌≢◌, ◌∙◌, ℕ, ◌+◌, ◌-◌, ◌*◌, ◌<◌, ◌≤◌, length, take, drop, refl, inl, inr, ap, arith}
use Rattle.std.proofs.Common.{below_more, get_or-set_other, get_or-set_same}
use Rattle.zorder.specs.Codes.{code}
use Rattle.kuldebiq.proofs.code_calls.write_codes.Goals as goal

pub loop-i-init : goal.loop-i-init
loop-i-init c = record { codes = λ i below. absurd (omega arith); rest = λ k out. refl }

pub loop-i-preserved : goal.loop-i-preserved
loop-i-preserved c =
    let codes = c.loop-i.codes in
    let i = c.loop-i.i in
    let z = c.encode.result in
    let d = c.args.dims in
    let inside : i < length codes = omega (arith, c.requires.room, c.loop-i-test.true, c.loop-i.auto.codes) in
    let size : i * d + d - i * d ≡ d = omega arith in
    record {
      codes = below_more _ _
          (λ k before. let other : k ≢ i = omega arith in
          get_or-set_other codes i k z 0 other ∙ c.loop-i.invariant.codes k before)
          (get_or-set_same codes i z 0 inside ∙ c.encode.ensures.code
          ∙ ap (λ (n : ℕ). code d (take n (drop (i * d) c.args.coordinates.now))) size);
      rest = λ k out. elim out [
        | inl none ↦ absurd (omega (arith, none))
        | inr far ↦
            let other : k ≢ i = omega (arith, far) in
            let behind : i ≤ k = omega (arith, far) in
            get_or-set_other codes i k z 0 other ∙ c.loop-i.invariant.rest k (inr behind)
      ];
    }
