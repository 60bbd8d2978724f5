-- Each line's first x is the first of its numbers.
use Rattle.std.proofs.Common.{sym, arith}
use Rattle.hints.proofs.LineLemmas.{length-first_xs, first_xs-at, first_inside}
use Rattle.hints.proofs.line_list.FirstXsKeyList.at.Goals as goal

pub overflow_mul-result : goal.overflow_mul-result
overflow_mul-result c = let inside = first_inside c.args.self.now.lines.now c.args.place c.requires in omega arith

pub offset_bounds-lines-place : goal.offset_bounds-lines-place
offset_bounds-lines-place c = let inside = first_inside c.args.self.now.lines.now c.args.place c.requires in omega arith

pub bounds-lines-place : goal.bounds-lines-place
bounds-lines-place c = first_inside c.args.self.now.lines.now c.args.place c.requires

pub returns : goal.returns
returns c =
    sym (first_xs-at c.args.self.now.lines.now c.args.place
    (omega (arith, length-first_xs c.args.self.now.lines.now, c.requires)))
