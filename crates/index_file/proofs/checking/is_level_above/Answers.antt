-- The heights are the places.
use Rattle.std.proofs.Common.{length, ap, ◌∙◌, subst, sym}
use Rattle.std.specs.List.Sorted.{IsNonDecreasing}
use Rattle.exact_cross.proofs.CallerLemmas.{IsNonDecreasing-places, length-places}
use Rattle.index_file.proofs.checking.is_level_above.Goals as goal

pub new-requires-clause-same_length : goal.new-requires-clause-same_length
new-requires-clause-same_length c =
    ap length (c.as_slice.ensures.value ∙ c.in_ok-places.ensures) ∙ length-places (length c.args.xs.now)

pub new-requires-clause-never_falls : goal.new-requires-clause-never_falls
new-requires-clause-never_falls c = subst IsNonDecreasing
    (sym (c.as_slice.ensures.value ∙ c.in_ok-places.ensures)) (IsNonDecreasing-places (length c.args.xs.now))

pub returns : goal.returns
returns c =
    record {
      exact = rw (c.new.ensures.xs, c.new.ensures.ys, c.as_slice.ensures.value, c.in_ok-places.ensures)
          at c.is_level.ensures.exact;
    }
