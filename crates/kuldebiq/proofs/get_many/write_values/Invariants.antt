-- What is said of the keys so far is written.
use Rattle.std.proofs.Common.{◌≡◌, ◌-◌, ◌≤◌, List, length, map, take, unwrap_or}
use Rattle.log_levels.specs.declared.update.Update.{Update}
use Rattle.log_levels.specs.Maps.{map_after, value_at}
use Rattle.log_levels.specs.Shapes.{StandsFor}
use Rattle.kuldebiq.specs.Changes.{one_if_some}
use Rattle.kuldebiq.proofs.get_many.write_values.Given as goal

abbrev pub invariant-loop-from : goal.invariant-loop-from
invariant-loop-from l = record {
  count : length l.values ≡ length l.keys;
  flags : length l.present ≡ length l.keys;
  inside : l.from ≤ length l.keys;
  values : (updates : List Update) → StandsFor l.held updates →
      take l.from l.values ≡ map (λ key. unwrap_or (value_at (map_after updates) key) 0) (take l.from l.keys);
  present : (updates : List Update) → StandsFor l.held updates →
      take l.from l.present ≡ map (λ key. one_if_some (value_at (map_after updates) key)) (take l.from l.keys);
}

abbrev pub decreases-loop-from : goal.decreases-loop-from
decreases-loop-from l = length l.keys - l.from
