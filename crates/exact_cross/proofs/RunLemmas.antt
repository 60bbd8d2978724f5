-- Runs that follow one another: one more at the end, and parts of a run.
use Rattle.std.proofs.Common.{◌≡◌, ℕ, zero, suc, ◌<◌, ◌≤◌, List, [], ◌∷◌, ◌++◌, refl}
use Rattle.std.proofs.Common.{ap, sym, subst, drop, length, slice_index_or, arith}
use Rattle.exact_cross.specs.declared.segment.Segment.{Segment}
use Rattle.exact_cross.specs.Points.{Points}
use Rattle.exact_cross.specs.Lines.{SomeLineFits}
use Rattle.exact_cross.specs.Covers.{run_end, CutsInto}
use Rattle.exact_cross.specs.Segments.{starts_of, start_at, EachRun}

-- a line that fits a run fits each part of it
pub SomeLineFits-part : (p : Points) (eps s e from to : ℕ) →
    s ≤ from → to ≤ e → SomeLineFits p eps s e → SomeLineFits p eps from to
SomeLineFits-part p eps s e from to low high fits = (fits.0, λ j above below. fits.1 j (omega arith) (omega arith))

-- where no run is before them, they begin where they cut from
pub run_end-first : (R : ℕ → ℕ → Type 0) (starts : List ℕ) (from to : ℕ) →
    CutsInto R from to starts → run_end starts to ≡ from
run_end-first R [] from to cuts = sym cuts
run_end-first R (start ∷ later) from to cuts = cuts.0

-- with one more run behind them, each run ends where it did
pub run_end-push : (later : List ℕ) (s e : ℕ) → run_end (later ++ s ∷ []) e ≡ run_end later s
run_end-push [] s e = refl
run_end-push (next ∷ later) s e = refl

-- one more run
pub CutsInto-push : (R : ℕ → ℕ → Type 0) (starts : List ℕ) (from s e : ℕ) →
    CutsInto R from s starts → s < e → R s e → CutsInto R from e (starts ++ s ∷ [])
CutsInto-push R [] from s e here some run =
    (sym here, omega arith, subst (λ (n : ℕ). R n e) (sym here) run, refl)
CutsInto-push R (start ∷ later) from s e cuts some run =
    rw (run_end-push later s e) (cuts.0, cuts.1, cuts.2, CutsInto-push R later (run_end later s) s e cuts.3 some run)

pub starts_of-push : (segments : List Segment) (last : Segment) →
    starts_of (segments ++ last ∷ []) ≡ starts_of segments ++ last.start ∷ []
starts_of-push [] last = refl
starts_of-push (segment ∷ later) last = ap (λ (starts : List ℕ). segment.start ∷ starts) (starts_of-push later last)

pub EachRun-push : (R : Segment → ℕ → Type 0) (segments : List Segment) (last : Segment) (e : ℕ) →
    EachRun R last.start segments → R last e → EachRun R e (segments ++ last ∷ [])
EachRun-push R [] last e runs run = (run, tt)
EachRun-push R (segment ∷ later) last e runs run = (
  rw (starts_of-push later last, run_end-push (starts_of later) last.start e) runs.0,
  EachRun-push R later last e runs.1 run,
)

-- a run ends where the next one starts
pub run_end-start : (to : ℕ) (segments : List Segment) (k : ℕ) →
    run_end (starts_of (drop k segments)) to ≡ start_at to segments k
run_end-start to [] zero = refl
run_end-start to [] (suc k) = refl
run_end-start to (segment ∷ later) zero = refl
run_end-start to (segment ∷ later) (suc k) = run_end-start to later k

pub start_at-is : (to : ℕ) (segments : List Segment) (k : ℕ) (d : Segment) →
    k < length segments → start_at to segments k ≡ (slice_index_or segments k d).start
start_at-is to [] k d inside = absurd (omega arith)
start_at-is to (segment ∷ later) zero d inside = refl
start_at-is to (segment ∷ later) (suc k) d inside = start_at-is to later k d (omega arith)

pub start_at-behind : (to : ℕ) (segments : List Segment) (k : ℕ) → length segments ≤ k → start_at to segments k ≡ to
start_at-behind to [] k behind = refl
start_at-behind to (segment ∷ later) zero behind = absurd (omega arith)
start_at-behind to (segment ∷ later) (suc k) behind = start_at-behind to later k (omega arith)
