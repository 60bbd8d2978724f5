-- The map has room for the updates, and none is there yet.
use Rattle.std.proofs.Common.{◌≡◌, ◌∷◌, [], List, length, ap, refl, arith}
use Rattle.log_levels.specs.Accepted.{entries_from, entries_of}
use Rattle.log_levels.specs.declared.update.Update.{Update}
use Rattle.log_levels.specs.declared.update.Update.TheVariants.{Put, Del}
use Rattle.program_tests.proofs.readme_examples.map_commands_example.Goals as goal

-- a put and a del are two entries
put_del : length (entries_of (Put 1 10 ∷ Del 1 ∷ [])) ≡ 2
unfolding entries_from
put_del = refl

pub invariant_of-history : goal.invariant_of-history
invariant_of-history g c = record {
  fits =
      omega (arith, ap (λ (updates : List Update). length (entries_of updates)) c.in_ok-updates.ensures.items, put_del);
  after = λ held others is. absurd (cc is);
}
