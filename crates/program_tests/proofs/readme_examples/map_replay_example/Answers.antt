-- The map has room for the updates.
use Rattle.std.proofs.Common.{◌≡◌, ◌∷◌, [], length, refl, arith}
use Rattle.log_levels.specs.Accepted.{entries_from, entries_of}
use Rattle.log_levels.specs.declared.update.Update.TheVariants.{Put}
use Rattle.program_tests.proofs.readme_examples.map_replay_example.Goals as goal

-- two puts are two entries
two_puts : length (entries_of (Put 1 10 ∷ Put 2 20 ∷ [])) ≡ 2
unfolding entries_from
two_puts = refl

pub replay-requires-clause-fits : goal.replay-requires-clause-fits
replay-requires-clause-fits g c κs = omega (arith, two_puts)
