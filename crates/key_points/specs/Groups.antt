-- Groups of equal keys, as they stand side by side in a sorted list.
use Rattle.std.specs.Prelude.{◌≡◌, ℕ, ◌<◌, ◌≤◌, List, length, take, map, slice_index}
use Rattle.std.specs.List.{flat_map}
use Rattle.window_search.specs.Searches.{lb}
use Rattle.key_points.specs.KeyPoints.{distinct_of, with_closing}

-- a group of equal keys begins here: all keys before are less
pub record IsGroupStart (keys : List ℕ) (at : ℕ) : Type 0 where
  pub inside : at < length keys
  pub before : (k : ℕ) → k < at → slice_index keys k < slice_index keys at

-- and ends there: the keys up to it are equal, and the later ones greater
pub record IsGroupEnd (keys : List ℕ) (at end : ℕ) : Type 0 where
  pub some : at < end
  pub within : end ≤ length keys
  pub same : (k : ℕ) → at ≤ k → k < end → slice_index keys k ≡ slice_index keys at
  pub behind : (k : ℕ) → end ≤ k → k < length keys → slice_index keys at < slice_index keys k

-- the lists have the points of the first `at` keys
pub record HoldsUpTo (keys : List ℕ) (at : ℕ) (xs ys : List ℕ) : Type 0 where
  pub inside : at ≤ length keys
  pub xs_are : xs ≡ flat_map (with_closing keys) (distinct_of (take at keys))
  pub ys_are : ys ≡ map (lb keys) xs
