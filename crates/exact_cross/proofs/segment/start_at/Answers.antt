use Rattle.std.proofs.Common.{sym, arith, pos, None}
use Rattle.exact_cross.specs.declared.segment.Segment.{Segment}
use Rattle.exact_cross.proofs.RunLemmas.{start_at-is, start_at-behind}
use Rattle.exact_cross.proofs.segment.start_at.Goals as goal

-- what a read past the end would give
abbrev no_segment : Segment
no_segment = record { start = 0; a = 0; b = 0; line = record { x0 = 0; y0 = pos 0; rise = 0; run = 0 }; cut = None }

pub returns-then-place-segments : goal.returns-then-place-segments
returns-then-place-segments c = sym (start_at-is c.args.to c.args.segments.now c.args.place no_segment (omega arith))

pub returns-else-place-segments : goal.returns-else-place-segments
returns-else-place-segments c = sym (start_at-behind c.args.to c.args.segments.now c.args.place (omega arith))
