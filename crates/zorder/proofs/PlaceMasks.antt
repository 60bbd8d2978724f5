-- The masks of every d-th place, tested place by place.
use Rattle.std.proofs.Common.{◌≡◌, ◌==◌, if◌then◌else◌, ℕ, ◌%◌, ◌<◌, Bool, true, ◌∙◌, arith}
use Rattle.std.specs.Int.{bit_at}
use Rattle.std.proofs.lemmas.Bool.{cond-true, cond-false, eq-eqb, ne_eqb, eqb-true}
use Rattle.zorder.proofs.BitLemmas.{all_below, all_below-true}

abbrev pub mask_test : ℕ → ℕ → Bool
mask_test d mask = all_below 64 (λ i. bit_at mask i == (if (i % d) == 0 then 1 else 0))

tested : (d mask i : ℕ) → mask_test d mask ≡ true → i < 64 → bit_at mask i ≡ (if (i % d) == 0 then 1 else 0)
tested d mask i test within =
    eqb-true _ _ (all_below-true 64 (λ i. bit_at mask i == (if (i % d) == 0 then 1 else 0)) test i within)

pub mask_one : (d mask i : ℕ) → mask_test d mask ≡ true → i < 64 → i % d ≡ 0 → bit_at mask i ≡ 1
mask_one d mask i test within first = tested d mask i test within ∙ cond-true ((i % d) == 0) 1 0 (eq-eqb _ _ first)

pub mask_zero : (d mask i : ℕ) → mask_test d mask ≡ true → i < 64 → 0 < i % d → bit_at mask i ≡ 0
mask_zero d mask i test within other =
    tested d mask i test within ∙ cond-false ((i % d) == 0) 1 0 (ne_eqb _ _ (λ first. omega arith))
