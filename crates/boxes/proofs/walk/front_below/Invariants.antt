-- So far the count is the lower bound among the numbers before the place.
use Rattle.std.proofs.Common.{◌≡◌, ◌≤◌, take}
use Rattle.window_search.specs.Searches.{lb}
use Rattle.boxes.proofs.walk.front_below.Given as goal

abbrev pub invariant-loop-number : goal.invariant-loop-number
invariant-loop-number l = (l.count ≡ lb (take l.number-index l.numbers) l.least) × (l.count ≤ l.number-index)
