use Rattle.std.proofs.Common.{◌≡◌, ℕ, ◌+◌, ◌*◌, ◌^◌, ◌<◌, ◌≤◌, ◌++◌, List, Bool, false}
use Rattle.std.proofs.Common.{IsTrue, All, Err, length, take, inl, inr, subst, ap, ◌∙◌, arith}
use Rattle.std.proofs.lemmas.Bool.{cases_lt}
use Rattle.std.proofs.lemmas.Result.{err_from_is_err_and}
use Rattle.std.proofs.lemmas.List.{take_all, take_rest, length-drop}
use Rattle.log_levels.specs.declared.update.Update.{Update}
use Rattle.log_levels.specs.declared.fault.MapFault.{MapFault}
use Rattle.log_levels.specs.Accepted.{IsPlain, entries_of}
use Rattle.log_levels.specs.Shapes.{StandsFor, capacity_of}
use Rattle.log_levels.proofs.RefusalLemmas.{refuses-full, refuses-memory, refuses-none, refuses-fault}
use Rattle.log_levels.proofs.UpdateLemmas.{length-plain, take-drop, take-rest, full-is}
use Rattle.log_levels.proofs.log_map.LogMap.with_updates.Goals as goal

-- updates without a sweep that aren't too many have room
roomy : (updates : List Update) (room accepted capacity : ℕ) (b : Bool) →
    (All IsPlain updates → room < length updates → IsTrue b) →
    b ≡ false → accepted + room ≡ capacity → All IsPlain updates → accepted + length updates ≤ capacity
roomy updates room accepted capacity b wherever not whole plain = elim (cases_lt room (length updates)) [
  | inl many ↦ absurd (apart b (wherever plain many) not)
  | inr few ↦ omega (arith, few, whole)
]
  where
    apart : (b : Bool) → IsTrue b → b ≡ false → ⊥
    apart b is not = cc

pub returns-then-are_too_many-clause-refused : goal.returns-then-are_too_many-clause-refused
returns-then-are_too_many-clause-refused g c =
    let over = c.are_too_many.ensures.only c.if-are_too_many.true in
    refuses-full (StandsFor c.args.self.now) c.args.self.now.accepted
    (capacity_of c.args.self.now) c.accepted-accepted.result c.args.updates.now c.accepted-accepted.ensures.count
    (λ before stands.
    omega (
      arith,
      over.0,
      c.capacity.ensures,
      stands.accepted,
      c.accepted-accepted.ensures.count,
      c.accepted-accepted.ensures.within,
      length-plain before c.args.updates.now over.1,
    ))
    (λ plain. omega
    (arith, over.0, c.capacity.ensures, c.accepted-accepted.ensures.count, c.accepted-accepted.ensures.within))

pub returns-in_err-map-clause-refused : goal.returns-in_err-map-clause-refused
returns-in_err-map-clause-refused g c =
    let (fault, is, memory) = err_from_is_err_and c.from_residual.result c.from_residual.ensures.1 in
    rw is (refuses-memory (StandsFor c.args.self.now) c.args.self.now.accepted
    (capacity_of c.args.self.now) c.args.updates.now fault memory
    (roomy c.args.updates.now _ c.args.self.now.accepted
    (capacity_of c.args.self.now) c.are_too_many.result c.are_too_many.ensures.wherever c.if-are_too_many.false
    (omega (arith, c.accepted-accepted.ensures.count, c.accepted-accepted.ensures.within, c.capacity.ensures))))

pub loop-done-preserved : goal.loop-done-preserved
loop-done-preserved g c =
    let rest = take_rest c.args.updates.now c.loop-done.done in
    record {
      within =
          omega (
            arith,
            c.in-Ok.ensures.within,
            ap (λ (l : List Update). length l) rest,
            length-drop c.loop-done.done c.args.updates.now,
          );
      levels = c.in-Ok.ensures.levels ∙ c.loop-done.invariant.levels;
      stands = λ before stands.
          subst (StandsFor c.add_run.new.self)
          (ap (λ (l : List Update). before ++ take c.loop-done.done c.args.updates.now ++ take c.in-Ok.count l) rest
          ∙ take-drop c.loop-done.done c.in-Ok.count before c.args.updates.now)
          (c.in-Ok.ensures.added
          (before ++ take c.loop-done.done c.args.updates.now) (c.loop-done.invariant.stands before stands));
    }

pub returns-clause-applied : goal.returns-clause-applied
returns-clause-applied g c = λ before stands.
    subst (λ updates. StandsFor c.loop-done.map (before ++ updates))
    (take_all c.loop-done.done c.args.updates.now (omega (arith, c.loop-done-test.false)))
    (c.loop-done.invariant.stands before stands)

pub returns-clause-refused : goal.returns-clause-refused
returns-clause-refused g c =
    refuses-none (StandsFor c.args.self.now) c.args.self.now.accepted
    (capacity_of c.args.self.now) c.args.updates.now c.loop-done.map
    (λ before stands. omega
    (arith, (returns-clause-applied g c before stands).fits, ap (λ n. 64 * 2 ^ n) c.loop-done.invariant.levels))
    (roomy c.args.updates.now _ c.args.self.now.accepted
    (capacity_of c.args.self.now) c.are_too_many.result c.are_too_many.ensures.wherever c.if-are_too_many.false
    (omega (arith, c.accepted-accepted.ensures.count, c.accepted-accepted.ensures.within, c.capacity.ensures)))

-- a run of updates was refused, and so are all
pub returns-in-Err-clause-refused : goal.returns-in-Err-clause-refused
returns-in-Err-clause-refused g c =
    let room : All IsPlain c.args.updates.now → c.args.self.now.accepted + length c.args.updates.now
    ≤ capacity_of c.args.self.now =
    roomy c.args.updates.now _ c.args.self.now.accepted
    (capacity_of c.args.self.now) c.are_too_many.result c.are_too_many.ensures.wherever c.if-are_too_many.false
    (omega (arith, c.accepted-accepted.ensures.count, c.accepted-accepted.ensures.within, c.capacity.ensures)) in
    refuses-fault (StandsFor c.args.self.now) c.args.self.now.accepted
    (capacity_of c.args.self.now) c.args.updates.now c.behind.result room (λ told told_is.
    let (same, was_full) = c.behind.ensures.full told told_is in
    let (inner, fault) = full-is c.in-Err.fault was_full in
    let rest = take_rest c.args.updates.now c.loop-done.done in
    let over : (before : List Update) → StandsFor c.args.self.now before → capacity_of c.args.self.now
    < length (entries_of (before ++ c.args.updates.now)) = λ before stands.
    let over = c.in-Err.ensures.full_only inner (ap (λ (f : MapFault). Err f) fault)
    (before ++ take c.loop-done.done c.args.updates.now) (c.loop-done.invariant.stands before stands) in
    let whole = ap (λ (l : List Update). before ++ take c.loop-done.done c.args.updates.now ++ l) rest
    ∙ take-rest c.loop-done.done before c.args.updates.now in
    omega (
      arith,
      over,
      ap (λ (l : List Update). length (entries_of l)) whole,
      ap (λ n. 64 * 2 ^ n) c.loop-done.invariant.levels,
    ) in
    let (before, stands) = c.accepted-accepted.ensures.stands in (
      same ∙ c.accepted-accepted.ensures.count,
      over,
      λ plain. absurd (omega
          (arith, over before stands, length-plain before c.args.updates.now plain, stands.accepted, room plain)),
    ))
