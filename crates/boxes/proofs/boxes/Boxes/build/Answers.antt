-- The codes are the index's keys.
use Rattle.std.proofs.Common.{ℕ, List, All, sym, ◌∙◌, subst}
use Rattle.zorder.specs.Codes.{IsCode}
use Rattle.boxes.proofs.boxes.Boxes.build.Goals as goal

pub invariant_of-result : goal.invariant_of-result
invariant_of-result g c =
    let same = c.in_ok-index.ensures.index.of_keys ∙ c.of-keys.ensures in
    record {
      dimension = c.requires.dimension;
      each = subst (λ (xs : List ℕ). All (λ z. IsCode c.args.d z) xs) (sym same) c.in_ok-codes.ensures.each;
    }
