-- Each group passed is a distinct key more, and with all keys passed there are as many as in all.
use Rattle.std.proofs.Common.{◌≡◌, ◌<◌, ◌≤◌, ◌∷◌, ◌+◌, [], length, take, slice_index}
use Rattle.std.proofs.Common.{sym, ap, ◌∙◌, refl, arith, length-append, inl, inr, ℕ}
use Rattle.std.proofs.lemmas.Bool.{cases_lt}
use Rattle.window_search.specs.Searches.{lb}
use Rattle.key_points.specs.KeyPoints.{distinct_of, first_of}
use Rattle.key_points.proofs.AloneLemmas.{first_of-last}
use Rattle.key_points.proofs.GroupLemmas.{distinct_of-group}
use Rattle.key_points.proofs.Heights.{count-all, first_of-group, group-end, next-group}
use Rattle.key_points.proofs.parts.start_of_group.Goals as goal

pub loop-init : goal.loop-init
loop-init c =
    record {
      inside = omega arith;
      counted = refl;
      start = λ some. record { inside = some; before = λ k less. absurd (omega arith) };
    }

pub end_of-at-requires-clause-inside : goal.end_of-at-requires-clause-inside
end_of-at-requires-clause-inside c =
    let file = c.args.file.now in
    elim (cases_lt c.loop.at (length file)) [
      | inl inside ↦ inside
      | inr past ↦ absurd
          (omega (arith, count-all file c.loop.at past, c.loop.invariant.counted, c.requires.inside, c.loop-test.true))
    ]

pub loop-preserved : goal.loop-preserved
loop-preserved c =
    let file = c.args.file.now in
    let at = c.loop.at in
    let end = c.end_of-at.result in
    let inside = end_of-at-inside c in
    let start = c.loop.invariant.start inside in
    record {
      inside = c.end_of-at.ensures.within;
      counted = ap length (distinct_of-group file at end c.requires.never_falls start c.end_of-at.ensures)
          ∙ length-append (distinct_of (take at file)) (slice_index file at ∷ [])
          ∙ ap (λ (n : ℕ). n + 1) c.loop.invariant.counted;
      start = λ some. next-group file at end start c.end_of-at.ensures some;
    }
  where
    end_of-at-inside : (c : goal.After-end_of-at) → c.loop.at < length c.args.file.now
    end_of-at-inside c = omega (arith, c.end_of-at.ensures.some, c.end_of-at.ensures.within)

pub overflow_cast-result : goal.overflow_cast-result
overflow_cast-result c = omega (arith, c.loop.invariant.inside, c.requires.few)

pub returns : goal.returns
returns c =
    let file = c.args.file.now in
    let at = c.loop.at in
    let order = c.requires.never_falls in
    let all : c.loop.counter ≡ c.args.j = omega (arith, c.loop-test.false, c.loop.auto.counter-end) in
    elim (cases_lt at (length file)) [
      | inl inside ↦
          sym (first_of-group file at (lb file (slice_index file at + 1)) order
          (c.loop.invariant.start inside) (group-end file at order inside))
          ∙ ap (first_of file) (c.loop.invariant.counted ∙ all)
      | inr past ↦
          let last : length (distinct_of file) ≤ c.args.j =
          omega (arith, count-all file at past, c.loop.invariant.counted, all) in
          omega (arith, first_of-last file c.args.j last, c.loop.invariant.inside, past)
    ]
