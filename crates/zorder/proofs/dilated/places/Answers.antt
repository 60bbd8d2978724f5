-- Each mask has its ones at every d-th place, as a test of its 64 places shows.
use Rattle.std.proofs.Common.{◌≡◌, ℕ, ◌%◌, sym, ap, ◌∙◌, refl, arith}
use Rattle.zorder.proofs.PlaceMasks.{mask_one, mask_zero}
use Rattle.zorder.proofs.dilated.places.Goals as goal

as_of : (d e i : ℕ) → d ≡ e → i % e ≡ i % d
as_of d e i same = ap (λ n. i % n) (sym same)

pub returns-in-2-clause-ones : goal.returns-in-2-clause-ones
returns-in-2-clause-ones c =
    λ i within first. mask_one 2 0x5555555555555555 i refl within (as_of c.args.d 2 i c.in-2.is ∙ first)

pub returns-in-2-clause-zeros : goal.returns-in-2-clause-zeros
returns-in-2-clause-zeros c =
    λ i within other. mask_zero 2 0x5555555555555555 i refl within (omega (arith, as_of c.args.d 2 i c.in-2.is))

pub returns-in-3-clause-ones : goal.returns-in-3-clause-ones
returns-in-3-clause-ones c =
    λ i within first. mask_one 3 0x9249249249249249 i refl within (as_of c.args.d 3 i c.in-3.is ∙ first)

pub returns-in-3-clause-zeros : goal.returns-in-3-clause-zeros
returns-in-3-clause-zeros c =
    λ i within other. mask_zero 3 0x9249249249249249 i refl within (omega (arith, as_of c.args.d 3 i c.in-3.is))

pub returns-in_default-clause-ones : goal.returns-in_default-clause-ones
returns-in_default-clause-ones c = λ i within first.
    let four : c.args.d ≡ 4 = omega arith in
    mask_one 4 0x1111111111111111 i refl within (as_of c.args.d 4 i four ∙ first)

pub returns-in_default-clause-zeros : goal.returns-in_default-clause-zeros
returns-in_default-clause-zeros c = λ i within other.
    let four : c.args.d ≡ 4 = omega arith in
    mask_zero 4 0x1111111111111111 i refl within (omega (arith, as_of c.args.d 4 i four))
