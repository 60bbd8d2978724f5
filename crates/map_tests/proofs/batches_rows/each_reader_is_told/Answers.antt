-- The map that was started is empty, and has room for the updates.
use Rattle.std.proofs.Common.{◌≡◌, ◌∷◌, [], length, refl, arith}
use Rattle.log_levels.specs.Accepted.{entries_from, entries_of}
use Rattle.log_levels.specs.declared.update.Update.TheVariants.{Put}
use Rattle.map_tests.proofs.batches_rows.each_reader_is_told.Goals as goal

-- three puts are three entries
three_puts : length (entries_of (Put 1 1 ∷ Put 1 2 ∷ Put 1 3 ∷ [])) ≡ 3
unfolding entries_from
three_puts = refl

pub all_informed-knew-requires-clause-ready : goal.all_informed-knew-requires-clause-ready
all_informed-knew-requires-clause-ready g c κs = record {
  own = refl;
  empty = c.in_ok-writer.ensures.history;
  none_staged = c.in_ok-writer.ensures.batch;
  fits = omega (arith, three_puts, c.in_ok-writer.ensures.capacity);
}
