-- A level by its bytes: its number of runs, and its runs.
use Rattle.std.proofs.Common.{◌≡◌, ℕ, ◌+◌, ◌<◌, ◌^◌, List, [], ◌++◌, length, sym, ap, ◌∙◌, arith, length-append}
use Rattle.std.specs.List.{flat_map}
use Rattle.std.proofs.lemmas.List.{append-nil}
use Rattle.index_file.specs.declared.saved.SavedRun.{SavedRun}
use Rattle.index_file.specs.declared.saved.SavedCut.TheVariants.{Last}
use Rattle.index_file.specs.Spelling.{number, run_bytes, level_bytes, RunFits}
use Rattle.index_file.specs.Stops.{IsNumber, AreRuns, IsLevel}
use Rattle.index_file.proofs.Numbers.{length-number}
use Rattle.index_file.proofs.Lists.{many, length-many, All-many}

pub level-of : (n : ℕ) (runs : List SavedRun) → length runs ≡ n → number n ++ flat_map run_bytes runs ≡ level_bytes runs
unfolding level_bytes
level-of n runs long = ap (λ (k : ℕ). number k ++ flat_map run_bytes runs) (sym long)

pub length-level : (n : ℕ) (runs : List SavedRun) →
    length runs ≡ n → length (level_bytes runs) ≡ 4 + length (flat_map run_bytes runs)
length-level n runs long = sym (ap length (level-of n runs long)) ∙ length-append (number n) (flat_map run_bytes runs)
    ∙ ap (λ (k : ℕ). k + length (flat_map run_bytes runs)) (length-number n)

-- a run whose numbers are all 0
pub no_run : SavedRun
no_run = record { start = 0; a = 0; b = 0; cut = Last }

pub no_run-fits : RunFits no_run
unfolding no_run
no_run-fits = record { start = omega arith; a = omega arith; b = omega arith; cut = tt }

-- a number of runs goes on to a level
pub number-goes : (bytes : List ℕ) → IsNumber bytes → (tail : List ℕ) × IsLevel ([] ++ (bytes ++ tail))
number-goes bytes of =
    let runs = many run_bytes RunFits no_run of.0 in
    let long = length-many run_bytes RunFits no_run of.0 in (
      flat_map run_bytes runs,
      (
        runs,
        record { few = omega (arith, long, of.1); each = All-many run_bytes RunFits no_run of.0 no_run-fits },
        ap (λ (w : List ℕ). w ++ flat_map run_bytes runs) of.2 ∙ level-of of.0 runs long,
      ),
    )

-- and so do the runs behind it
pub runs-go : (n : ℕ) →
    n < 2 ^ 32 → (bytes : List ℕ) → AreRuns n bytes → (tail : List ℕ) × IsLevel (number n ++ (bytes ++ tail))
runs-go n small bytes of = (
  [],
  (
    of.0,
    record { few = omega (arith, of.1, small); each = of.2 },
    ap (λ (w : List ℕ). number n ++ w) (append-nil bytes ∙ of.3) ∙ level-of n of.0 of.1,
  ),
)
