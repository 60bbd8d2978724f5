-- The bytes of a cut, by the three sides.
use Rattle.std.proofs.Common.{◌≡◌, ℕ, List, ◌++◌, ap, sym, subst, ◌∙◌}
use Rattle.index_file.specs.declared.saved.SavedCut.{SavedCut}
use Rattle.index_file.specs.Spelling.{cut_bytes}
use Rattle.index_file.proofs.Runs.{cut-last, cut-over}
use Rattle.index_file.proofs.Spelled.{cut-added}
use Rattle.index_file.proofs.spelling.push_cut.Goals as goal

pub returns-in_ok-push-in-Last : goal.returns-in_ok-push-in-Last
returns-in_ok-push-in-Last c =
    c.in_ok-push-in-Last.ensures.items
    ∙ ap (λ (w : List ℕ). c.args.bytes.now.items ++ w) (cut-last ∙ ap cut_bytes (sym c.in-Last.is))

pub returns-in_ok-push-in-Over : goal.returns-in_ok-push-in-Over
returns-in_ok-push-in-Over c =
    c.in_ok-push-in-Over.ensures.items
    ∙ ap (λ (w : List ℕ). c.args.bytes.now.items ++ w) (cut-over ∙ ap cut_bytes (sym c.in-Over.is))

pub returns-in_ok-push_number-in-Under-2 : goal.returns-in_ok-push_number-in-Under-2
returns-in_ok-push_number-in-Under-2 c =
    let P : SavedCut → Type 0 = λ cut. c.push_number-in-Under.new.bytes.items ≡ c.args.bytes.now.items
    ++ cut_bytes cut in
    subst P (sym c.in-Under.is)
    (cut-added c.args.bytes.now.items c.push-in-Under.new.self.items
    c.push_number.new.bytes.items c.push_number-in-Under.new.bytes.items c.in-Under.p c.in-Under.q
    c.in_ok-push-in-Under.ensures.items c.in_ok-push_number-in-Under.ensures c.in_ok-push_number-in-Under-2.ensures)
