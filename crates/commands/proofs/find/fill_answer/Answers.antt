-- The place of a question among keys that never fall is how many of them are below it.
use Rattle.std.proofs.Common.{◌≡◌, ◌∙◌, ap, sym, subst, length, List, ℕ, arith}
use Rattle.std.specs.List.Sorted.{IsNonDecreasing}
use Rattle.window_search.specs.Searches.{lb}
use Rattle.commands.specs.Texts.Query.{find_line}
use Rattle.commands.proofs.find.fill_answer.Goals as goal

pub overflow_cast-place : goal.overflow_cast-place
overflow_cast-place c =
    omega (
      arith,
      c.position-place.ensures.bracket.within,
      ap length c.as_slice.ensures.value,
      c.args.sorted.now.keys.ok.0,
      c.args.sorted.now.few,
    )

pub returns : goal.returns
returns c =
    let keys = c.args.sorted.now.keys.items in
    let same = c.as_slice.ensures.value in
    let found = c.position-place.ensures.found (subst IsNonDecreasing (sym same) c.args.sorted.now.never_falls) in
    c.fill_find_line.ensures ∙ ap (find_line c.args.question) (found ∙ ap (λ (k : List ℕ). lb k c.args.question) same)
