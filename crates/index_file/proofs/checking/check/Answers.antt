-- There is one index, so what isn't it differs from it, and at one level first.
use Rattle.std.proofs.Common.{◌≡◌, ◌⊎◌, ℕ, List, inl, inr, refl, ap, ◌∙◌}
use Rattle.std.proofs.lemmas.Result.{IfOk-weaker, IfErr-weaker, MatchResult-from_both}
use Rattle.std.specs.Prelude.{slice_get}
use Rattle.exact_cross.specs.declared.segment.Segment.{Segment}
use Rattle.exact_cross.specs.IndexLevels.{IsIndexOver}
use Rattle.index_file.specs.declared.saved.SavedRun.{SavedRun}
use Rattle.index_file.specs.declared.fault.CheckFault.{CheckFault}
use Rattle.index_file.specs.declared.fault.CheckFault.TheVariants.{Wrong, NoMemory}
use Rattle.index_file.specs.Spelling.{SavedIndex}
use Rattle.index_file.specs.Checks.{IsSavedIndexOf, IsFirstDifference, HasCheckCause, saved_levels}
use Rattle.index_file.proofs.RightLevels.{IsIndexOver-unique, IsFirstDifference-unique}
use Rattle.index_file.proofs.checking.check.Goals as goal

module _ (xs ys : List ℕ) (saved : SavedIndex) where
  right_alone : IsSavedIndexOf xs ys saved → (fault : CheckFault) → HasCheckCause xs ys saved fault → fault ≡ NoMemory
  right_alone right (Wrong level) cause = absurd
      ((cause right.levels right.index).differs (ap (λ (l : List (List SavedRun)). slice_get l level) right.same))
  right_alone right NoMemory cause = refl

  module _ (levels : List (List Segment)) (level : ℕ) (index : IsIndexOver xs ys saved.eps saved.eps_rec levels)
      (first : IsFirstDifference saved.levels (saved_levels levels) level) where
    not_right : IsSavedIndexOf xs ys saved → ⊥
    not_right right =
        let one = IsIndexOver-unique xs ys saved.eps saved.eps_rec right.levels levels right.index index in
        first.differs (ap (λ (l : List (List SavedRun)). slice_get l level) (right.same ∙ ap saved_levels one))

    wrong_there : (fault : CheckFault) → HasCheckCause xs ys saved fault → (fault ≡ NoMemory) ⊎ (fault ≡ Wrong level)
    wrong_there (Wrong other) cause = inr
        (ap Wrong (IsFirstDifference-unique saved.levels (saved_levels levels) other level (cause levels index) first))
    wrong_there NoMemory cause = inl refl

pub returns-clause-wherever_right : goal.returns-clause-wherever_right
returns-clause-wherever_right c = λ right.
    IfErr-weaker c.check_all.result _ _
    (right_alone c.args.points.xs.now c.args.points.ys.now c.args.saved.now right) c.check_all.ensures.wrong

pub returns-clause-wherever_wrong : goal.returns-clause-wherever_wrong
returns-clause-wherever_wrong c = λ levels level index first.
    let xs = c.args.points.xs.now in
    let ys = c.args.points.ys.now in
    let saved = c.args.saved.now in
    let result = c.check_all.result in
    MatchResult-from_both result _ _
    (IfOk-weaker result (λ _. IsSavedIndexOf xs ys saved) _
    (λ _ right. absurd (not_right xs ys saved levels level index first right)) c.check_all.ensures.right)
    (IfErr-weaker result _ _ (wrong_there xs ys saved levels level index first) c.check_all.ensures.wrong)
