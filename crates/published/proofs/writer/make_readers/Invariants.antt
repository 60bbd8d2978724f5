-- what the copies know and show stays, and so many readers have places
use Rattle.std.proofs.Common.{◌≡◌, ◌≤◌, All, vec_len, vec_capacity}
use Rattle.left_right.specs.Sides.{view}
use Rattle.published.proofs.writer.make_readers.Given as goal

abbrev pub invariant-loop-reader : goal.invariant-loop-reader
invariant-loop-reader g l = record {
  known : view l.copies.desk.place ≡ view l.initial.copies.desk.place;
  shown : l.copies.desk.shown ≡ l.initial.copies.desk.shown;
  count : vec_len l.readers ≡ l._reader;
  room : l.fn.count ≤ vec_capacity l.readers;
  fresh : All (λ reader. reader ≡ l.front) l.readers.items;
}
