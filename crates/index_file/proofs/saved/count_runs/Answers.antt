-- The runs of one level more, which are fewer than 2^32.
use Rattle.std.proofs.Common.{◌≡◌, ℕ, zero, suc, ◌+◌, ◌<◌, ◌^◌, List, [], ◌∷◌, length, take}
use Rattle.std.proofs.Common.{get_or, All, Vec, Global, refl, sym, ap, ◌∙◌, subst, arith}
use Rattle.std.proofs.lemmas.List.{length-map}
use Rattle.std.proofs.Math.ListN.{get_or-map}
use Rattle.index_file.specs.declared.saved.SavedRun.{SavedRun}
use Rattle.index_file.specs.Spelling.{LevelFits, count_runs, runs_of}
use Rattle.index_file.proofs.saved.count_runs.Goals as goal

count_runs-more : (levels : List (Vec SavedRun Global)) (i : ℕ) (level : Vec SavedRun Global) →
    i < length levels → level ≡ get_or levels i level →
    count_runs (runs_of (take (i + 1) levels)) ≡ count_runs (runs_of (take i levels)) + length level.items
count_runs-more [] i level inside is = absurd (omega arith)
count_runs-more (first ∷ later) zero level inside is =
    omega (arith, ap (λ (v : Vec SavedRun Global). length v.items) is)
count_runs-more (first ∷ later) (suc i) level inside is =
    let shift : suc i + 1 ≡ suc (i + 1) = omega arith in
    rw shift (omega (arith, count_runs-more later i level (omega arith) is))

level_few : (levels : List (Vec SavedRun Global)) (i : ℕ) (level : Vec SavedRun Global) →
    i < length levels → level ≡ get_or levels i level → All LevelFits (runs_of levels) →
    length level.items < 2 ^ 32
level_few levels i level inside is each =
    let count : length (runs_of levels) ≡ length levels = rw length-map refl in
    let items : Vec SavedRun Global → List SavedRun = λ v. v.items in
    let here : get_or (runs_of levels) i level.items
    ≡ items (get_or levels i level) = get_or-map items levels i level in
    let same : get_or (runs_of levels) i level.items ≡ level.items = here ∙ ap items (sym is) in
    subst (λ (runs : List SavedRun). length runs < 2 ^ 32) same (each i level.items (omega arith)).few

pub overflow_add-count : goal.overflow_add-count
overflow_add-count c =
    let few = level_few
    c.args.levels.now c.loop-i.i c.index-levels-i.result c.loop-i-test.true c.index-levels-i.is c.requires.each in
    omega (arith, few, c.len.ensures, c.index-levels-i.result.ok.0, c.loop-i.invariant.small, c.requires.few)

pub loop-i-preserved : goal.loop-i-preserved
loop-i-preserved c =
    let few = level_few
    c.args.levels.now c.loop-i.i c.index-levels-i.result c.loop-i-test.true c.index-levels-i.is c.requires.each in
    record {
      count = omega (
        arith,
        count_runs-more c.args.levels.now c.loop-i.i c.index-levels-i.result c.loop-i-test.true c.index-levels-i.is,
        c.len.ensures,
        c.index-levels-i.result.ok.0,
        c.loop-i.invariant.count,
      );
      small = omega (arith, few, c.len.ensures, c.index-levels-i.result.ok.0, c.loop-i.invariant.small);
    }
