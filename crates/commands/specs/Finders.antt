-- What finds positions, and whose windows are told.
use Rattle.std.specs.Prelude.{◌≡◌, ℕ, ◌<◌, List, length}
use Rattle.std.specs.List.Sorted.{IsNonDecreasing}
use Rattle.exact_cross.specs.declared.segment.Segment.{Segment}
use Rattle.exact_cross.specs.Points.{points_of}
use Rattle.exact_cross.specs.Segments.{starts_of}
use Rattle.exact_cross.specs.Checked.{IsCoverWithin}
use Rattle.key_points.specs.KeyPoints.{xs_of, ys_of}
use Rattle.piece_join.specs.Cuttings.{AreCutsAt, even_place}
use Rattle.exact_cross.specs.IndexLevels.{level_at}
use Rattle.levels.specs.Indexes.{PgmIndex, IsIndexOf, IsRelaxedIndex}
use Rattle.commands.specs.Tasks.{Bounds}
use Rattle.commands.specs.declared.finder.Finder.{Finder}
use Rattle.commands.specs.declared.finder.Finder.TheVariants.{Levels, Sorted, Table}

-- the keys of the file
abbrev pub keys_of : Finder → List ℕ
keys_of (Levels index) = index.now.keys
keys_of (Table buckets) = buckets.index.keys
keys_of (Sorted sorted) = sorted.now.keys.items

-- by the levels of this index where no bits of a key are told, and else by a table over it that goes by so many
abbrev pub FindsBy : PgmIndex → ℕ → Finder → Type 0
FindsBy index bits (Levels levels) = (bits ≡ 0) × (levels.now ≡ index)
FindsBy index bits (Table buckets) = (0 < bits) × (buckets.bits ≡ bits) × (buckets.index ≡ index)
FindsBy index bits (Sorted sorted) = ⊥

-- the one index of these keys, which never fall, with these bounds
pub record IsSortedIndexOf (keys : List ℕ) (bounds : Bounds) (index : PgmIndex) : Type 0 where
  pub never_falls : IsNonDecreasing keys
  pub of : IsIndexOf keys bounds.eps bounds.eps_rec index

-- it finds positions among these keys, and where bits of a key
-- are told by a table over their one index that goes by so many
pub record FindsAsAsked (keys : List ℕ) (bounds : Bounds) (bits : ℕ) (finder : Finder) : Type 0 where
  pub among : keys_of finder ≡ keys
  pub way : 0 < bits → (index : PgmIndex) × IsSortedIndexOf keys bounds index × FindsBy index bits finder

-- the levels of the relaxed index of these keys, with these bounds, whose
-- points are cut into so many even pieces: level 0 has at most a run more for
-- each cut than a least cover
pub record AreEvenLevels (keys : List ℕ) (bounds : Bounds) (pieces : ℕ) (cuts : List ℕ) (levels : List (List Segment)) :
    Type 0 where
  pub even : AreCutsAt (length (xs_of keys)) pieces (even_place (length (xs_of keys)) pieces) cuts
  pub index : IsRelaxedIndex keys bounds.eps bounds.eps_rec cuts levels
  pub within : 0 < length keys →
      IsCoverWithin (length cuts)
      (points_of (xs_of keys) (ys_of keys)) bounds.eps 0 (length (xs_of keys)) (starts_of (level_at levels 0))

-- the relaxed index of these keys, with these bounds, whose points are cut at `slack` places into so many even pieces
pub record IsRelaxedOf (keys : List ℕ) (bounds : Bounds) (pieces slack : ℕ) (index : PgmIndex) : Type 0 where
  pub of_keys : index.keys ≡ keys
  pub of_eps : index.eps ≡ bounds.eps
  pub of_eps_rec : index.eps_rec ≡ bounds.eps_rec
  pub cuts : List ℕ
  pub count : slack ≡ length cuts
  pub levels : AreEvenLevels keys bounds pieces cuts index.levels
