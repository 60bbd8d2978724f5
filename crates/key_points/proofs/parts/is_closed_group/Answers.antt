use Rattle.std.proofs.Common.{◌≡◌, ◌-◌, ◌<◌, ◌∙◌, length, slice_index, true, inl, sym, arith, eqb}
use Rattle.std.proofs.lemmas.Bool.Decides.{nat_tests}
use Rattle.key_points.proofs.GroupLemmas.{is_closed-alone, is_closed-greatest, is_closed-above, is_closed-tested}
use Rattle.key_points.proofs.parts.is_closed_group.Goals.{then-end-at-eq1-via-then-end-at-eq1}
use Rattle.key_points.proofs.parts.is_closed_group.Goals.{then-end-at-eq1-via-else-end-at-eq1+then-file-at}
use Rattle.key_points.proofs.parts.is_closed_group.Goals as goal

pub returns-then-end-at-eq1-clause-closed : goal.returns-then-end-at-eq1-clause-closed
returns-then-end-at-eq1-clause-closed c =
    let keys = c.args.file.now in
    elim c.then-end-at-eq1.branch [
      | then-end-at-eq1-via-then-end-at-eq1 w ↦
          sym (is_closed-alone
          keys c.args.at c.args.end c.requires.never_falls c.requires.start c.requires.end w.if-end-at-eq1.true)
      | then-end-at-eq1-via-else-end-at-eq1+then-file-at w ↦
          sym (is_closed-greatest
          keys c.args.at c.args.end c.requires.never_falls c.requires.start c.requires.end w.if-file-at.true)
    ]

pub returns-then-end-file-clause-closed : goal.returns-then-end-file-clause-closed
returns-then-end-file-clause-closed c =
    let keys = c.args.file.now in
    let many : 1 < c.args.end - c.args.at = omega (arith, c.requires.end.some, c.if-end-at-eq1.false) in
    let low : slice_index keys c.args.at < 18446744073709551615 =
    omega (arith, c.if-file-at.false, c.type_inv.file c.args.at) in
    let is : eqb c.args.end (length keys) ≡ true = grind (arith, nat_tests, c.if-end-file.true) in
    is ∙ sym (is_closed-above keys c.args.at c.args.end c.requires.never_falls c.requires.start c.requires.end many low
    (inl c.if-end-file.true))

pub returns-else-end-file-clause-closed : goal.returns-else-end-file-clause-closed
returns-else-end-file-clause-closed c =
    let keys = c.args.file.now in
    let many : 1 < c.args.end - c.args.at = omega (arith, c.requires.end.some, c.if-end-at-eq1.false) in
    let low : slice_index keys c.args.at < 18446744073709551615 =
    omega (arith, c.if-file-at.false, c.type_inv.file c.args.at) in
    is_closed-tested keys c.args.at c.args.end c.requires.never_falls c.requires.start c.requires.end many low
    (omega (arith, c.requires.end.within, c.if-end-file.false))
