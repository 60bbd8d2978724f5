-- The places of one more block are written.
use Rattle.std.proofs.Common.{ℕ, slice_index, inl, inr, sym, ◌∙◌, refl, subst, arith}
use Rattle.std.proofs.lemmas.Bool.{cases_lt}
use Rattle.kuldebiq.specs.Positions.{IsPast}
use Rattle.kuldebiq.proofs.past_many.write_past.Goals as goal

pub loop-first-init : goal.loop-first-init
loop-first-init g c = record {
  within = omega arith;
  past = λ k none. absurd (omega arith);
  same = λ k outside. refl;
}

pub loop-first-preserved : goal.loop-first-preserved
loop-first-preserved g c =
    let inv = c.loop-first.invariant in
    let block = c.write_block.ensures in
    record {
      within = omega (arith, c.min.ensures);
      past = λ k inside. elim (cases_lt k c.loop-first.first) [
        | inl under ↦ subst (λ (p : ℕ). IsPast (g.K.KeyList.listed c.args.keys) (slice_index c.args.questions.now k) p)
            (sym (block.same k (inl under))) (inv.past k under)
        | inr rest ↦ block.past k rest inside
      ];
      same = λ k outside. elim outside [
        | inl none ↦ absurd (omega (arith, none))
        | inr past ↦ block.same k (inr past) ∙ inv.same k (inr (omega (arith, past)))
      ];
    }
