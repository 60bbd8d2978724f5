-- The lines stand behind their head.
use Rattle.std.proofs.Common.{◌/◌, ◌++◌, ◌∙◌, List, ℕ, length, ap, subst}
use Rattle.exact_cross.specs.PointLists.{points_in}
use Rattle.hints.specs.Made.{IsHead}
use Rattle.hints.proofs.HintLemmas.{AreLinesOver-in}
use Rattle.hints.proofs.made.hints_over.Goals as goal

pub returns : goal.returns
returns c =
    AreLinesOver-in (points_in c.args.points) c.args.eps c.in_ok-hints.hints.items c.in_ok-lines.lines.items
    c.extend_from_slice.new.self.items c.in_ok-lines.ensures
    (subst (λ (l : List ℕ). IsHead c.args.eps (length l / 3) c.in_ok-hints.hints.items) c.deref.ensures.value
    c.in_ok-hints.ensures)
    (c.in_ok-extend_from_slice.ensures.items ∙ ap
    (λ (l : List ℕ). c.in_ok-hints.hints.items ++ l) c.deref-2.ensures.value)
