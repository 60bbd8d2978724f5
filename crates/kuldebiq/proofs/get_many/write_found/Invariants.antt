-- What was found so far is written.
use Rattle.std.proofs.Common.{◌≡◌, length, map, take, unwrap_or}
use Rattle.kuldebiq.specs.Changes.{one_if_some}
use Rattle.kuldebiq.proofs.get_many.write_found.Given as goal

abbrev pub invariant-loop-i : goal.invariant-loop-i
invariant-loop-i l = record {
  count : length l.values ≡ length l.found;
  flags : length l.present ≡ length l.found;
  values : take l.i l.values ≡ map (λ value. unwrap_or value 0) (take l.i l.found);
  present : take l.i l.present ≡ map one_if_some (take l.i l.found);
}
