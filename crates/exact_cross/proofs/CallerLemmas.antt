-- What a crate above may cite: the order of slopes, when some line fits a run, the line of the steep
-- pair, runs that follow one another, on which side a refused place lies, and what witnesses show.
pub use Rattle.exact_cross.proofs.Cleared.{products_le-out, products_le-in, IsAtMost-out}
pub use Rattle.exact_cross.proofs.Cleared.{IsAtMost-in, IsWithin-above, IsWithin-below, IsWithin-in}
pub use Rattle.exact_cross.proofs.FloorLemmas.{IsFloorAt-in, IsFloorAt-out, IsFloorAt-unique}
pub use Rattle.exact_cross.proofs.FloorLemmas.{floor_not_below, floor_not_above}
pub use Rattle.exact_cross.proofs.SlopeOrder.{IsAtMost-refl, IsAtMost-trans, IsAtMost-total}
pub use Rattle.exact_cross.proofs.KeyPoints.{slice_index-rises, IsAscending-points_of, IsAscending-points_in}
pub use Rattle.exact_cross.proofs.KeyPoints.{IsNonDecreasing-places, IsNonDecreasing-from_neighbours}
pub use Rattle.exact_cross.proofs.KeyPoints.{length-places, slice_index-places, places-more}
pub use Rattle.exact_cross.proofs.LineSlopes.{flat_at_most_steep}
pub use Rattle.exact_cross.proofs.StoredLine.{some_line-one_place, some_line-from_pairs, line_of_pair-level}
pub use Rattle.exact_cross.proofs.StoredLine.{line_of_pair-rising, line_of_pair-positive, segment_line_fits}
pub use Rattle.exact_cross.proofs.StoredLine.{IsFitted-from_steep}
pub use Rattle.exact_cross.proofs.RunLemmas.{SomeLineFits-part, run_end-first, run_end-push, run_end-start}
pub use Rattle.exact_cross.proofs.RunLemmas.{start_at-is, start_at-behind, CutsInto-push, starts_of-push, EachRun-push}
pub use Rattle.exact_cross.proofs.PairOrder.{IsAtMost-decided, IsSteepPair-some, IsFlatPair-some}
pub use Rattle.exact_cross.proofs.PairLemmas.{IsSteepPair-unique, IsFlatPair-unique}
pub use Rattle.exact_cross.proofs.GreedyLemmas.{CutsInto-rises, IsGreedy-least, IsGreedy-unique}
pub use Rattle.exact_cross.proofs.LeastCover.{IsCover-from_greedy, IsLeastCover-from_greedy}
pub use Rattle.exact_cross.proofs.SideLemmas.{IsFollowed, IsOver-in, IsOver-out, IsUnder-in}
pub use Rattle.exact_cross.proofs.SideLemmas.{IsUnder-out, IsOver-no_line, IsUnder-no_line}
pub use Rattle.exact_cross.proofs.SideLemmas.{sides_exclude, some_line-longer, some_line-two_places}
pub use Rattle.exact_cross.proofs.CheckedLemmas.{EachRun-implies, StartsRise-from_cuts, IsWitness-from_cut}
pub use Rattle.exact_cross.proofs.CheckedLemmas.{IsCutShort-from_cut, IsInRange-from_steep, AreChecked-from_greedy}
pub use Rattle.exact_cross.proofs.WitnessLines.{IsOver-sums, IsOver-from_sums, IsUnder-sums}
pub use Rattle.exact_cross.proofs.WitnessLines.{IsUnder-from_sums, no_line_at_witness}
pub use Rattle.exact_cross.proofs.Certificate.{run_end-within, StartsRise-from_first, run_end-from_shown}
pub use Rattle.exact_cross.proofs.Certificate.{IsCover-from_fitted, IsCoverWithin-from_shown, AreShown-from_checked}
pub use Rattle.exact_cross.proofs.Certificate.{AreChecked-from_shown, IsLeastCover-from_checked}
