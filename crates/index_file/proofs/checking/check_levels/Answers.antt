-- Each level is judged over those below it, which are right.
use Rattle.std.proofs.Common.{◌≡◌, ℕ, ◌<◌, [], length, slice_index_or, refl, subst, arith}
use Rattle.exact_cross.specs.Points.{points_of, places}
use Rattle.exact_cross.specs.PointLists.{points_in}
use Rattle.index_file.specs.Checks.{IsWrongAt}
use Rattle.index_file.proofs.JudgedRuns.{starts_inside}
use Rattle.index_file.proofs.RightLevels.{IsWrongAt-unlike, IsWrongAt-past, IsSavedIndexOf-from_right}
use Rattle.index_file.proofs.RightLevels.{AreRightBelow-none, AreRightBelow-more}
use Rattle.index_file.proofs.RightLevels.{IsSavedSegmentation-above, places-from_above}
use Rattle.index_file.proofs.checking.check_levels.Goals as goal

-- without a level, level 0 is missing
pub returns-then-levels-eq0-clause-wrong : goal.returns-then-levels-eq0-clause-wrong
returns-then-levels-eq0-clause-wrong c =
    let xs = c.args.points.xs.now in
    let ys = c.args.points.ys.now in
    let saved = c.args.saved.now in
    let none : length saved.levels ≡ 0 = omega arith in
    IsWrongAt-unlike xs ys saved 0 xs (AreRightBelow-none xs ys saved c.args.points.rising) c.requires.some
    (λ above. absurd (omega arith)) (λ inside _. omega (arith, none, inside))

pub returns-then-not-is_level-clause-wrong : goal.returns-then-not-is_level-clause-wrong
returns-then-not-is_level-clause-wrong c =
    let xs = c.args.points.xs.now in
    let ys = c.args.points.ys.now in
    let saved = c.args.saved.now in
    IsWrongAt-unlike xs ys saved 0 xs
    (AreRightBelow-none xs ys saved c.args.points.rising) c.requires.some (λ above. absurd (omega arith))
    (λ inside level. cc (c.if-not-is_level.ensures.exact.1 (rw (c.eps.ensures.value, c.runs-lowest.ensures) level)))

pub start_xs_of-requires : goal.start_xs_of-requires
start_xs_of-requires c = λ k d inside. starts_inside
    (points_in c.args.points) c.eps.result c.runs-lowest.result.now (c.if-not-is_level.ensures.exact.0 refl) k d inside

pub loop-level-init : goal.loop-level-init
loop-level-init c =
    let xs = c.args.points.xs.now in
    let ys = c.args.points.ys.now in
    let saved = c.args.saved.now in
    AreRightBelow-more xs ys saved 0 xs c.in_ok-list.list.items
    (AreRightBelow-none xs ys saved c.args.points.rising) (omega arith) (λ above. absurd (omega arith))
    (rw (c.eps.ensures.value, c.runs-lowest.ensures) at (c.if-not-is_level.ensures.exact.0 refl))
    (rw c.runs-lowest.ensures at c.in_ok-list.ensures)

-- the levels below end with one run
pub returns-then-len-eq1-clause-wrong : goal.returns-then-len-eq1-clause-wrong
returns-then-len-eq1-clause-wrong c =
    IsWrongAt-past c.args.points.xs.now c.args.points.ys.now c.args.saved.now c.loop-level.level
    c.loop-level.list.items c.loop-level.invariant c.requires.some (omega arith) (omega arith) (omega arith)

pub returns-then-not-right-clause-wrong : goal.returns-then-not-right-clause-wrong
returns-then-not-right-clause-wrong c =
    let ys = c.args.points.ys.now in
    let saved = c.args.saved.now in
    let i : ℕ = c.loop-level.level in
    let list = c.loop-level.list.items in
    let runs = slice_index_or saved.levels i [] in
    let above : 0 < i = omega arith in
    IsWrongAt-unlike c.args.points.xs.now ys saved i list c.loop-level.invariant c.requires.some
    (λ _ one. c.if-len-eq1.false (omega arith)) (λ inside level.
    let told = c.in_ok-right.ensures.exact.1
    (rw (c.as_slice.ensures.value, c.eps_rec.ensures.value, c.runs-runs.ensures)
    (places-from_above ys saved.eps saved.eps_rec i list runs above level)) in
    cc (told, c.if-not-right.true))

pub start_xs_of-requires-in-loop-level : goal.start_xs_of-requires-in-loop-level
start_xs_of-requires-in-loop-level c =
    let list = c.loop-level.list.items in
    let level = rw c.as_slice.ensures.value at (c.in_ok-right.ensures.exact.0 c.if-not-right.false) in
    rw c.as_slice-in-loop-level.ensures.value
    (starts_inside (points_of list (places (length list))) c.eps_rec.result c.runs-runs.result.now level)

pub loop-level-preserved : goal.loop-level-preserved
loop-level-preserved c =
    let ys = c.args.points.ys.now in
    let saved = c.args.saved.now in
    let i : ℕ = c.loop-level.level in
    let list = c.loop-level.list.items in
    let runs = slice_index_or saved.levels i [] in
    let above : 0 < i = omega arith in
    let level = rw (c.as_slice.ensures.value, c.eps_rec.ensures.value, c.runs-runs.ensures) at
    (c.in_ok-right.ensures.exact.0 c.if-not-right.false) in
    AreRightBelow-more c.args.points.xs.now ys saved i list c.in_ok-list-2.list.items c.loop-level.invariant
    (omega arith) (λ _ one. c.if-len-eq1.false (omega arith))
    (IsSavedSegmentation-above ys saved.eps saved.eps_rec i list runs above level)
    (rw (c.as_slice-in-loop-level.ensures.value, c.runs-runs.ensures) at c.in_ok-list-2.ensures)

pub returns-then-len-eq1-2-clause-right : goal.returns-then-len-eq1-2-clause-right
returns-then-len-eq1-2-clause-right c =
    IsSavedIndexOf-from_right c.args.points.xs.now c.args.points.ys.now c.args.saved.now c.loop-level.level
    c.loop-level.list.items c.loop-level.invariant c.requires.some (omega arith) (omega arith) (omega arith)

-- the saved levels end before one of one run
pub returns-clause-wrong : goal.returns-clause-wrong
returns-clause-wrong c =
    let xs = c.args.points.xs.now in
    let ys = c.args.points.ys.now in
    let saved = c.args.saved.now in
    let i : ℕ = c.loop-level.level in
    let end : i ≡ c.levels-else-len-eq1-2.result = omega arith in
    subst (λ (n : ℕ). IsWrongAt xs ys saved n) end
    (IsWrongAt-unlike xs ys saved i c.loop-level.list.items c.loop-level.invariant c.requires.some
    (λ _ one. c.if-len-eq1-2.false (omega arith)) (λ inside _. absurd (omega arith)))
