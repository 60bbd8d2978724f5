use Rattle.std.proofs.Common.{sym, ◌∙◌}
use Rattle.log_levels.specs.Accepted.{entries_of}
use Rattle.log_levels.specs.Maps.{map_after}
use Rattle.log_levels.proofs.MapLemmas.{rises-after, same-pairs}
use Rattle.log_levels.proofs.SearchLemmas.{one-value}
use Rattle.log_levels.proofs.ValueLemmas.{value-after}
use Rattle.log_levels.proofs.log_map.one_map.Goals as goal

pub returns : goal.returns
returns c = record {
  map = λ held one two stands_one stands_two.
      same-pairs 0 (map_after one) (map_after two) (rises-after one) (rises-after two)
      (λ key. value-after one key
      ∙ one-value held (entries_of one) (entries_of two) key stands_one stands_two ∙ sym (value-after two key));
  accepted = λ held one two stands_one stands_two. sym stands_one.accepted ∙ stands_two.accepted;
}
