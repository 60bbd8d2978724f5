-- One more code; at the end all.
use Rattle.std.proofs.Common.{subst, refl, [], ◌∷◌, get_or, arith, List, ℕ}
use Rattle.std.proofs.lemmas.List.{take_all}
use Rattle.near.specs.Kept.{AreKept}
use Rattle.near.specs.Nearest.{pairs_of}
use Rattle.near.proofs.KeptLemmas.{kept_none, kept_one_more}
use Rattle.near.proofs.walk.keep_each.Goals as goal

pub loop-code-init : goal.loop-code-init
loop-code-init c = record { kept = kept_none c.args.kept.now c.requires.some c.requires.heap; heap = c.requires.heap }

pub loop-code-preserved : goal.loop-code-preserved
loop-code-preserved c =
    let z = get_or c.args.codes.now c.loop-code.code-index 0 in
    let one = subst (λ (far : ℕ). AreKept c.loop-code.kept ((far, z) ∷ []) c.keep.new.kept)
    c.distance_from.ensures c.keep.ensures.kept in
    record {
      kept = kept_one_more c.args.d c.args.centre.now c.args.codes.now
          c.loop-code.code-index z c.args.kept.now c.loop-code.kept c.keep.new.kept c.loop-code-test.true refl
          c.loop-code.invariant.kept one;
      heap = c.keep.ensures.heap;
    }

pub returns : goal.returns
returns c = record {
  kept =
      subst (λ (codes : List ℕ). AreKept c.args.kept.now (pairs_of c.args.d c.args.centre.now codes) c.loop-code.kept)
      (take_all c.loop-code.code-index c.args.codes.now (omega arith)) c.loop-code.invariant.kept;
  heap = c.loop-code.invariant.heap;
}
