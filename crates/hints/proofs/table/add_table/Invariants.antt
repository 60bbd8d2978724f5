-- The hints of the steps so far.
use Rattle.std.proofs.Common.{◌/◌, ◌≤◌, length}
use Rattle.hints.specs.Made.{AddsHints}
use Rattle.hints.proofs.table.add_table.Given as goal

abbrev pub invariant-loop-step : goal.invariant-loop-step
invariant-loop-step l = (l.begun ≤ length l.lines / 3) × AddsHints l.step l.fn.head.items l.head.items
