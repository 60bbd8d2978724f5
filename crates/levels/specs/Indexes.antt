-- The one index of a key list: levels of segments, each over the
-- first x of the runs below it. And a relaxed one, whose level 0
-- is made in pieces that aren't joined.
-- Source: P. Ferragina and G. Vinciguerra, The PGM-index, PVLDB 13(8), 2020, section 2.
use Rattle.std.specs.Prelude.{◌≡◌, ℕ, zero, suc, ◌+◌, ◌<◌, ◌^◌, List, length}
use Rattle.std.specs.List.Sorted.{IsNonDecreasing}
use Rattle.exact_cross.specs.declared.segment.Segment.{Segment}
use Rattle.exact_cross.specs.Points.{Points, points_of}
use Rattle.exact_cross.specs.Checked.{IsLeastCover}
use Rattle.exact_cross.specs.Segments.{starts_of}
use Rattle.exact_cross.specs.IndexLevels.{level_at, level_xs, level_ys, level_points, eps_at, IsLevelOver, AreLevelled}
use Rattle.piece_join.specs.Laid.{IsLaid}
use Rattle.piece_join.specs.Relaxed.{IsRelaxed}
use Rattle.key_points.specs.KeyPoints.{xs_of, ys_of}

-- an index: the keys of a file, the error bound of level 0, that of
-- the levels above, and the segments of each level, the lowest first
pub record PgmIndex : Type 0 where
  pub keys : List ℕ
  pub eps : ℕ
  pub eps_rec : ℕ
  pub levels : List (List Segment)

-- the x of level i: at level 0 those of the points of the keys, and above the first x of the runs below
abbrev pub xs_at : List ℕ → List (List Segment) → ℕ → List ℕ
xs_at keys levels i = level_xs (xs_of keys) levels i

-- the y of level i: at level 0 the positions in the file, and above the places
abbrev pub ys_at : List ℕ → List (List Segment) → ℕ → List ℕ
ys_at keys levels i = level_ys (ys_of keys) levels i

-- the points of level i
abbrev pub points_at : List ℕ → List (List Segment) → ℕ → Points
points_at keys levels i = level_points (xs_of keys) (ys_of keys) levels i

-- the segments of level i are the segmentation of its points
abbrev pub IsLevel : (keys : List ℕ) (eps eps_rec : ℕ) (levels : List (List Segment)) (i : ℕ) → Type 0
IsLevel keys eps eps_rec levels i = IsLevelOver (xs_of keys) (ys_of keys) eps eps_rec levels i

-- the index: each level is the segmentation of its points
abbrev pub IsIndex : (keys : List ℕ) (eps eps_rec : ℕ) (levels : List (List Segment)) → Type 0
IsIndex keys eps eps_rec levels = AreLevelled (λ i. IsLevel keys eps eps_rec levels i) (length keys) levels

-- each level is a least cover of its points
abbrev pub AreLeast : (keys : List ℕ) (eps eps_rec : ℕ) (levels : List (List Segment)) → Type 0
AreLeast keys eps eps_rec levels = (i : ℕ) → i < length levels →
    IsLeastCover (points_at keys levels i)
    (eps_at eps eps_rec i) 0 (length (xs_at keys levels i)) (starts_of (level_at levels i))

-- the index of a file's keys, with these error bounds
pub record IsIndexOf (file : List ℕ) (eps eps_rec : ℕ) (index : PgmIndex) : Type 0 where
  pub of_keys : index.keys ≡ file
  pub of_eps : index.eps ≡ eps
  pub of_eps_rec : index.eps_rec ≡ eps_rec
  pub levels : IsIndex file eps eps_rec index.levels

-- level 0 is the segmentation of each piece between the cuts by itself, and a level above is that of its points
pub record IsRelaxedLevel (keys : List ℕ) (eps eps_rec : ℕ) (cuts : List ℕ) (levels : List (List Segment)) (i : ℕ) :
    Type 0 where
  pub base : i ≡ 0 →
      IsRelaxed (points_of (xs_of keys) (ys_of keys)) eps 0 (length (xs_of keys)) cuts (level_at levels 0)
  pub above : 0 < i → IsLevel keys eps eps_rec levels i

-- the relaxed index of cuts
abbrev pub IsRelaxedIndex : (keys : List ℕ) (eps eps_rec : ℕ) (cuts : List ℕ) (levels : List (List Segment)) → Type 0
IsRelaxedIndex keys eps eps_rec cuts levels =
    AreLevelled (λ i. IsRelaxedLevel keys eps eps_rec cuts levels i) (length keys) levels

-- the relaxed index of a file's keys, with these error bounds and cuts
pub record IsRelaxedIndexOf (file : List ℕ) (eps eps_rec : ℕ) (cuts : List ℕ) (index : PgmIndex) : Type 0 where
  pub of_keys : index.keys ≡ file
  pub of_eps : index.eps ≡ eps
  pub of_eps_rec : index.eps_rec ≡ eps_rec
  pub levels : IsRelaxedIndex file eps eps_rec cuts index.levels

-- the segments of level i cover its points, each with the line of
-- its run's steep pair, and above level 0 they are the segmentation
pub record IsLaidLevel (keys : List ℕ) (eps eps_rec : ℕ) (levels : List (List Segment)) (i : ℕ) : Type 0 where
  pub laid :
      IsLaid (points_at keys levels i) (eps_at eps eps_rec i) 0 (length (xs_at keys levels i)) (level_at levels i)
  pub above : 0 < i → IsLevel keys eps eps_rec levels i

-- what a lookup needs of levels: an index has it, and a relaxed one too
abbrev pub IsLaidIndex : (keys : List ℕ) (eps eps_rec : ℕ) (levels : List (List Segment)) → Type 0
IsLaidIndex keys eps eps_rec levels = AreLevelled (λ i. IsLaidLevel keys eps eps_rec levels i) (length keys) levels

-- what is known of each index: sorted keys, fewer than 2^32,
-- and what a lookup needs of levels. No public clause cites it
pub record IsLaidFile (file : PgmIndex) : Type 0 where
  pub never_falls : IsNonDecreasing file.keys
  pub few : length file.keys < 2 ^ 32
  pub index : IsLaidIndex file.keys file.eps file.eps_rec file.levels

-- how many places the lists of the first n levels have together
unfoldable pub places_below : List ℕ → List (List Segment) → ℕ → ℕ
places_below keys levels zero = 0
places_below keys levels (suc n) = places_below keys levels n + length (xs_at keys levels n)
