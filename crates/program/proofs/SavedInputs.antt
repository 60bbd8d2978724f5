-- A saved index as an input, and its judging.
--
-- Main results: what the check over the points of keys answered is
-- what the keys define (`judged_right`, `judged_stopped`); and told
-- files define one reading, and keys one judgement (`saved_one`, `judges_one`).
use Rattle.std.proofs.Common.{◌≡◌, ◌⊎◌, inl, inr, ℕ, List, length, Option, None, Some}
use Rattle.std.proofs.Common.{Result, Ok, Err, refl, sym, ap, subst, ◌∙◌, arith}
use Rattle.std.specs.Prelude.{slice_get}
use Rattle.std.specs.List.Sorted.{IsNonDecreasing}
use Rattle.exact_cross.specs.declared.segment.Segment.{Segment}
use Rattle.key_points.specs.KeyPoints.{xs_of, ys_of}
use Rattle.levels.specs.Indexes.{IsIndex}
use Rattle.levels.proofs.CallerLemmas.{IsIndex-least, IsIndex-some, IsIndex-unique}
use Rattle.index_file.specs.declared.saved.SavedRun.{SavedRun}
use Rattle.index_file.specs.declared.fault.IndexFault.{IndexFault}
use Rattle.index_file.specs.Spelling.{SavedIndex, run_count}
use Rattle.index_file.specs.Faults.{FailsAs, ReadsAs}
use Rattle.index_file.specs.declared.fault.CheckFault.{CheckFault}
use Rattle.index_file.specs.declared.fault.CheckFault.TheVariants as check
use Rattle.index_file.specs.Checks.{saved_levels, IsSavedIndexOf, IsFirstDifference, IsWrongAt, HasCheckCause}
use Rattle.index_file.proofs.CallerLemmas.{ReadsAs-unique, IsFirstDifference-unique}
use Rattle.commands.specs.Tasks as tasks
use Rattle.commands.proofs.SavedTexts.{IsIndexOver-from_keys, IsIndex-from_points}
use Rattle.program.specs.declared.refusal.Refusal.{Refusal}
use Rattle.program.specs.declared.refusal.Refusal.TheVariants.{ReadFault, IndexWrong}
use Rattle.program.specs.declared.refusal.Stopped.{Stopped}
use Rattle.program.specs.Files.{HoldsOfFile}
use Rattle.program.specs.Refusals.{refusal_of_index, refusal_of_check}
use Rattle.program.specs.RightIndexes.{IsRightIndex, IsWrongIndex}
use Rattle.program.specs.Inputs.{reads_saved, judges}
use Rattle.program.specs.Stops.{Answers, IsStopped, stop_of_refusal}
use Rattle.program.proofs.InputLemmas.{IsFunctional}

-- ---- reading

-- the reading of the bytes that a reading of the input rests on
abbrev Tells : Result SavedIndex IndexFault → Result SavedIndex Refusal → Type 0
Tells (Ok saved) reading = reading ≡ Ok saved
Tells (Err fault) reading = (refusal : Refusal) × (refusal_of_index fault ≡ Some refusal) × (reading ≡ Err refusal)

tells_one : (bytes_read : Result SavedIndex IndexFault) (one two : Result SavedIndex Refusal) →
    Tells bytes_read one → Tells bytes_read two → one ≡ two
tells_one (Ok saved) one two is same = is ∙ sym same
tells_one (Err fault) one two (r, of_fault, is) (q, of_fault', same) = cc

-- of told files: the file isn't there, or its bytes have the reading
abbrev Rests : (List ℕ → Option (List ℕ)) → List ℕ → Result SavedIndex Refusal → Type 0
Rests contents name reading = ((contents name ≡ None) × (reading ≡ Err ReadFault))
    ⊎ ((bytes : List ℕ) × (bytes_read : Result SavedIndex IndexFault)
    × (contents name ≡ Some bytes) × ReadsAs bytes bytes_read × Tells bytes_read reading)

rests_on_fault : (contents : List ℕ → Option (List ℕ)) (name : List ℕ) (refusal : Refusal) →
    ((fault : IndexFault)
    × (refusal_of_index fault ≡ Some refusal) × HoldsOfFile (Some contents) name (λ bytes. FailsAs bytes fault)) →
    Rests contents name (Err refusal)
rests_on_fault contents name refusal (fault, tells, holds) =
    inr (holds.0, Err fault, holds.1, holds.2, (refusal, tells, refl))

rests : (contents : List ℕ → Option (List ℕ)) (name : List ℕ) (reading : Result SavedIndex Refusal) →
    reads_saved (Some contents) name reading → Rests contents name reading
rests contents name (Ok saved) holds = inr (holds.0, Ok saved, holds.1, holds.2, refl)
rests contents name (Err ReadFault) (told, is, none) =
    let same : told ≡ contents = cc in
    inl (subst (λ (c : List ℕ → Option (List ℕ)). c name ≡ None) same none, refl)
rests contents name (Err refusal) is = rests_on_fault contents name refusal is

one_rest : (contents : List ℕ → Option (List ℕ)) (name : List ℕ) (one two : Result SavedIndex Refusal) →
    Rests contents name one → Rests contents name two → one ≡ two
one_rest contents name one two (inl (none, is)) (inl (none', same)) = is ∙ sym same
one_rest contents name one two (inl (none, is)) (inr (bytes, bytes_read, some, read, tells)) = cc
one_rest contents name one two (inr (bytes, bytes_read, some, read, tells)) (inl (none, is)) = cc
one_rest contents name one two
    (inr (bytes, bytes_read, some, read, tells)) (inr (bytes', bytes_read', some', read', tells')) =
    let same_bytes : bytes' ≡ bytes = cc in
    let same : bytes_read' ≡ bytes_read = ReadsAs-unique bytes bytes_read' bytes_read
    (subst (λ (b : List ℕ). ReadsAs b bytes_read') same_bytes read') read in
    tells_one bytes_read one two tells (subst (λ (r : Result SavedIndex IndexFault). Tells r two) same tells')

pub saved_one : (contents : List ℕ → Option (List ℕ)) (name : List ℕ) → IsFunctional (reads_saved (Some contents) name)
saved_one contents name one two is same =
    one_rest contents name one two (rests contents name one is) (rests contents name two same)

-- ---- judging

right_came : (keys : List ℕ) (saved : SavedIndex) →
    IsNonDecreasing keys → IsSavedIndexOf (xs_of keys) (ys_of keys) saved → IsRightIndex keys saved
right_came keys saved order right =
    let index : IsIndex keys saved.eps saved.eps_rec right.levels =
    IsIndex-from_points keys saved.eps saved.eps_rec right.levels order right.index in
    record {
      levels = right.levels;
      index = index;
      least = λ i inside. IsIndex-least keys saved.eps saved.eps_rec right.levels order index i inside;
      same = right.same;
    }

-- keys have an index, and so there is a first difference
wrong_came : (keys : List ℕ) (saved : SavedIndex) (level : ℕ) →
    IsNonDecreasing keys → IsWrongAt (xs_of keys) (ys_of keys) saved level → IsWrongIndex keys saved level
wrong_came keys saved level order wrong =
    let (levels, index) = IsIndex-some keys saved.eps saved.eps_rec order in
    record {
      levels = levels;
      index = index;
      first = wrong levels (IsIndexOver-from_keys keys saved.eps saved.eps_rec levels order index);
    }

-- the check's answer
pub judged_right : {B : Type 0} (made_of : B → tasks.Task) (keys : List ℕ) (saved : SavedIndex) (made : B) →
    IsNonDecreasing keys → IsSavedIndexOf (xs_of keys) (ys_of keys) saved →
    made_of made ≡ tasks.Task.check (length saved.levels) (run_count saved) →
    (faults : ℕ) → Answers (judges keys saved) made_of faults faults (Ok made)
judged_right made_of keys saved made order right is faults = record {
  ok = (right_came keys saved order right, is);
  unfaulted = refl;
  stopped = tt;
  faulted = λ rose. absurd (omega arith);
  never_falls = omega arith;
}

why_stopped : (keys : List ℕ) (saved : SavedIndex) (fault : CheckFault) →
    IsNonDecreasing keys → HasCheckCause (xs_of keys) (ys_of keys) saved fault → (faults : ℕ) →
    IsStopped (judges keys saved) faults faults (stop_of_refusal (refusal_of_check fault))
why_stopped keys saved (check.Wrong level) order wrong faults = wrong_came keys saved level order wrong
why_stopped keys saved check.NoMemory order wrong faults = tt

pub judged_stopped : {B : Type 0} (made_of : B → tasks.Task)
    (keys : List ℕ) (saved : SavedIndex) (fault : CheckFault) (stopped : Stopped) → IsNonDecreasing keys →
    stopped ≡ stop_of_refusal (refusal_of_check fault) → HasCheckCause (xs_of keys) (ys_of keys) saved fault →
    (faults : ℕ) → Answers {B = B} (judges keys saved) made_of faults faults (Err stopped)
judged_stopped made_of keys saved fault stopped order is cause faults = record {
  ok = tt;
  unfaulted = tt;
  stopped = subst (λ (s : Stopped). IsStopped (judges keys saved) faults faults s)
      (sym is) (why_stopped keys saved fault order cause faults);
  faulted = λ rose. absurd (omega arith);
  never_falls = omega arith;
}

never_both : (keys : List ℕ) (saved : SavedIndex) (level : ℕ) →
    IsRightIndex keys saved → IsWrongIndex keys saved level → ⊥
never_both keys saved level right wrong =
    let same = IsIndex-unique keys saved.eps saved.eps_rec right.levels wrong.levels right.index wrong.index in
    wrong.first.differs (ap (λ (l : List (List SavedRun)). slice_get l level) (right.same ∙ ap saved_levels same))

one_level : (keys : List ℕ) (saved : SavedIndex) (one two : ℕ) →
    IsWrongIndex keys saved one → IsWrongIndex keys saved two → one ≡ two
one_level keys saved one two first second =
    let same = IsIndex-unique keys saved.eps saved.eps_rec first.levels second.levels first.index second.index in
    IsFirstDifference-unique saved.levels (saved_levels second.levels) one two
    (subst (λ (levels : List (List Segment)). IsFirstDifference saved.levels (saved_levels levels) one)
    same first.first) second.first

pub judges_one : (keys : List ℕ) (saved : SavedIndex) → IsFunctional (judges keys saved)
judges_one keys saved (Ok task) (Ok other) is same = ap Ok (is.1 ∙ sym same.1)
judges_one keys saved (Ok task) (Err (IndexWrong level)) is same = absurd (never_both keys saved level is.0 same)
judges_one keys saved (Ok task) (Err refusal) is same = absurd same
judges_one keys saved (Err (IndexWrong level)) (Ok task) is same = absurd (never_both keys saved level same.0 is)
judges_one keys saved (Err refusal) (Ok task) is same = absurd is
judges_one keys saved (Err (IndexWrong level)) (Err (IndexWrong other)) is same =
    ap (λ (n : ℕ). Err (IndexWrong n)) (one_level keys saved level other is same)
judges_one keys saved (Err (IndexWrong level)) (Err refusal) is same = absurd same
judges_one keys saved (Err refusal) other is same = absurd is
