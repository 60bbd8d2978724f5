-- Hints that are made of a cover's lines. No public clause cites it.
use Rattle.std.specs.Prelude.{◌≡◌, ℕ, ◌+◌, ◌-◌, ◌*◌, ◌/◌, ◌%◌, ◌^◌, ◌<◌, ◌≤◌, ℤ, pos, ◌+ℤ◌, ◌-ℤ◌, ◌*ℤ◌, ◌≤ℤ◌, ◌<ℤ◌}
use Rattle.std.specs.Prelude.{List, length, slice_index, slice_index_or}
use Rattle.exact_cross.specs.declared.line.Line.{Line}
use Rattle.exact_cross.specs.Points.{Points}
use Rattle.exact_cross.specs.Lines.{FitsRun, rational}
use Rattle.exact_cross.specs.Covers.{CutsInto, IsLongest}
use Rattle.exact_cross.specs.Checked.{IsInRange, IsLeastCover}
use Rattle.hulls.specs.declared.flat.FlatLine.{FlatLine}
use Rattle.hulls.specs.FlatLines.{IsFlatInRange, MeanRises, rational_flat}
use Rattle.hints.specs.Told.{lines_in}
use Rattle.hints.specs.Leads.{AreInFormat}
use Rattle.hints.specs.declared.hint_list.TheConstants.{FORMAT, HEAD_LEN}

-- a height at q, raised by ε: that at the first x, packed with how many binary places the multiplier has, and the
-- climb from there
abbrev pub raised_by : ℕ → ℕ → ℕ → ℕ → ℕ
raised_by first multiplier packed q = packed / 128 + (q - first) * multiplier / 2 ^ (packed % 128)

-- two lines of the run s..e: both are within eps at each of its places, and their mean doesn't fall
pub record AreLinesOfRun (p : Points) (eps s e : ℕ) (line : Line) (flat : FlatLine) : Type 0 where
  pub in_range : IsInRange line
  pub fits : FitsRun p eps (rational line in_range.positive) s e
  pub flat_in_range : IsFlatInRange flat
  pub flat_fits : FitsRun p eps (rational_flat flat flat_in_range.positive) s e
  pub rises : MeanRises line flat

-- the height of a flat line at q, times its run
abbrev pub flat_height : FlatLine → ℕ → ℤ
flat_height line q = pos (line.y0 * line.run) +ℤ line.rise *ℤ (pos q -ℤ pos line.x0)

-- f is the greatest whole number not above the flat line at q (cleared of the denominator)
pub record IsFlatFloorAt (line : FlatLine) (q : ℕ) (f : ℤ) : Type 0 where
  pub not_above : (f *ℤ pos line.run) ≤ℤ flat_height line q
  pub greatest : flat_height line q <ℤ ((f +ℤ pos 1) *ℤ pos line.run)

-- m is the least whole number not below T times the slope rise / run (cleared of the denominator)
pub record IsRoundedUp (rise : ℤ) (run T : ℕ) (m : ℤ) : Type 0 where
  pub not_below : (rise *ℤ pos T) ≤ℤ (m *ℤ pos run)
  pub least : (m *ℤ pos run) <ℤ (rise *ℤ pos T +ℤ pos run)

-- the sum of both slopes, T times each and rounded up
pub record IsSumOfSlopes (line : Line) (level : FlatLine) (T multiplier : ℕ) : Type 0 where
  pub steep : ℤ
  pub steep_is : IsRoundedUp (pos line.rise) line.run T steep
  pub flat : ℤ
  pub flat_is : IsRoundedUp level.rise level.run T flat
  pub sum : pos multiplier ≡ steep +ℤ flat

-- the hints of a line are right at each point of the run s..e
pub record TellsPoints (p : Points) (eps first multiplier packed s e : ℕ) : Type 0 where
  pub begins : first ≡ p.x s
  pub not_below : (j : ℕ) → s ≤ j → j < e → p.y j ≤ raised_by first multiplier packed (p.x j) + 1
  pub not_above : (j : ℕ) → s ≤ j → j < e → raised_by first multiplier packed (p.x j) ≤ p.y j + 2 * eps + 1

-- the hints of this line among all are
abbrev pub TellsRun : (p : Points) (eps : ℕ) (lines : List ℕ) (line s e : ℕ) → Type 0
TellsRun p eps lines line s e = TellsPoints p eps (slice_index lines (3 * line)) (slice_index lines (3 * line + 1))
    (slice_index lines (3 * line + 2)) s e

-- a head with its table, behind which so many lines are to stand
pub record IsHead (eps lines : ℕ) (head : List ℕ) : Type 0 where
  pub known : slice_index head 0 ≡ FORMAT
  pub bound : slice_index head 1 ≡ eps
  pub count : slice_index head 2 ≡ lines
  pub long : length head ≡ HEAD_LEN + slice_index head 3
  pub table : slice_index head 3 ≤ 2 * lines

-- so many hints behind those that are there
pub record AddsHints (count : ℕ) (before hints : List ℕ) : Type 0 where
  pub long : length hints ≡ length before + count
  pub same : (k : ℕ) → k < length before → slice_index hints k ≡ slice_index before k

-- the hints of the first lines
pub record HoldsLines (p : Points) (eps : ℕ) (start : ℕ → ℕ) (count : ℕ) (lines : List ℕ) : Type 0 where
  pub long : length lines ≡ 3 * count
  pub each : (line : ℕ) → line < count → TellsRun p eps lines line (start line) (start (line + 1))

-- the hints of the lines of runs that begin at these starts
pub record AreLinesOf (p : Points) (eps : ℕ) (start : ℕ → ℕ) (count : ℕ) (lines : List ℕ) : Type 0 where
  pub holds : HoldsLines p eps start count lines
  pub begins : 0 < p.count → (0 < count) × (start 0 ≡ 0)
  pub rise : (line : ℕ) → line < count → start line < start (line + 1)
  pub ends : start count ≡ p.count

-- where a run begins, and behind the last one the end
abbrev pub start_in : List ℕ → ℕ → ℕ → ℕ
start_in starts end line = slice_index_or starts line end

-- the lines of the longest runs of the places before `end`
pub record AreLinesBefore (p : Points) (eps end : ℕ) (lines : List ℕ) : Type 0 where
  pub starts : List ℕ
  pub greedy : CutsInto (IsLongest p eps p.count) 0 end starts
  pub holds : HoldsLines p eps (start_in starts end) (length starts) lines
  pub begins : 0 < end → (0 < length starts) × (start_in starts end 0 ≡ 0)
  pub rise : (line : ℕ) → line < length starts → start_in starts end line < start_in starts end (line + 1)
  pub ends : start_in starts end (length starts) ≡ end

-- the hints of a least cover's lines
pub record AreLinesOver (p : Points) (eps : ℕ) (hints : List ℕ) : Type 0 where
  pub starts : List ℕ
  pub cover : IsLeastCover p eps 0 p.count starts
  pub format : AreInFormat eps hints
  pub table : slice_index hints 3 ≤ 2 * slice_index hints 2
  pub count : slice_index hints 2 ≡ length starts
  pub lines : AreLinesOf p eps (start_in starts p.count) (length starts) (lines_in hints)
