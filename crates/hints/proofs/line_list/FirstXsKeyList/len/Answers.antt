-- Three numbers are a line.
use Rattle.std.proofs.Common.{arith}
use Rattle.hints.proofs.LineLemmas.{length-first_xs}
use Rattle.hints.proofs.line_list.FirstXsKeyList.len.Goals as goal

pub returns : goal.returns
returns c = omega (arith, length-first_xs c.args.self.now.lines.now)
