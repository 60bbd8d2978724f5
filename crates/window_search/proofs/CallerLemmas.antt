-- What the crates above cite: what a window holds, in its two uses, that there
-- is one window, and lower bounds and predecessors by the order of the keys.
pub use Rattle.window_search.proofs.WindowLemmas.{
  IsNear,
  predicted_near,
  window_holds,
  ArePlaces,
  both_in_window,
  HasNoGaps,
  position_in_window,
  IsPredicted-unique,
  IsWindow-unique,
}
pub use Rattle.window_search.proofs.LowerBounds.{IsLowerBound, IsLowerBound-lb, lb-is, lb-predecessor}
pub use Rattle.window_search.proofs.LowerBounds.{IsPredecessor-unique, predecessor_exists}
pub use Rattle.window_search.proofs.Reaching.{bracket-lb, lb-brackets}
