use Rattle.std.proofs.Common.{◌≡◌, ◌-◌, ◌*◌, ◌≤◌, vec_len, length, min, All, ◌<◌, ◌^◌}
use Rattle.std.specs.List.{flat_map}
use Rattle.byteorder.specs.Endian.{little_bytes}
use Rattle.edge.specs.Readers.{ReadsPiece}
use Rattle.sosd_reader.specs.NumberFiles.{number_width, AllFollow}
use Rattle.sosd_reader.proofs.reading.read_list.Given as goal

abbrev pub invariant-loop-done : goal.invariant-loop-done
invariant-loop-done g l = record {
  kind : g.T.NumberList.kind l.numbers ≡ g.T.NumberList.kind l.initial.numbers;
  read : ReadsPiece g.F.Shelf
      (flat_map (little_bytes (number_width (g.T.NumberList.kind l.initial.numbers))) (g.T.NumberList.list l.numbers))
      l.initial.shelf l.shelf;
  all_follow : AllFollow (g.T.NumberList.kind l.initial.numbers) (g.T.NumberList.list l.numbers);
  each_fits : All
      (λ number. number < 256 ^ number_width (g.T.NumberList.kind l.initial.numbers)) (g.T.NumberList.list l.numbers);
  len : length (g.T.NumberList.list l.numbers) ≡ l.done;
  in_range : l.done ≤ l.total;
  width : l.width ≡ number_width (g.T.NumberList.kind l.initial.numbers);
  room : vec_len l.bytes ≡ l.width * min l.total 65536;
}

abbrev pub decreases-loop-done : goal.decreases-loop-done
decreases-loop-done g l = l.total - l.done
