-- The count, the numbers and the byte behind them are read in turn; the fault of each is that of the file.
use Rattle.std.proofs.Common.{◌≡◌, ◌∙◌, ℕ, ◌*◌, [], ◌∷◌, ◌++◌, length, ap, arith, mul_comm}
use Rattle.std.specs.List.{flat_map}
use Rattle.byteorder.specs.Endian.{little_bytes}
use Rattle.edge.proofs.ReaderLemmas.{byte-piece, fails-behind, fails-in, no_piece-read, passed-on, pieces-read}
use Rattle.sosd_reader.specs.NumberFiles.{number_width, numbers_each}
use Rattle.sosd_reader.specs.Reading.{origin_of}
use Rattle.sosd_reader.proofs.KindLemmas.{total-few}
use Rattle.sosd_reader.proofs.Following.{numbers-stop, reads-trailing, file-read}
use Rattle.sosd_reader.proofs.Reach.{count-in_reach, numbers-in_reach, file-in_reach, takes-reach}
use Rattle.sosd_reader.proofs.reading.read_file.Goals as goal

pub returns-in_err-count-clause-reading : goal.returns-in_err-count-clause-reading
returns-in_err-count-clause-reading g c =
    let kind = g.T.NumberList.kind c.args.numbers.now in
    let fault = c.in_err-count.field-0.0 in
    passed-on g.F.Shelf (origin_of kind) _ _ _ _ _ _ fault c.from_residual.ensures.1
    (fails-behind g.F.Shelf (origin_of kind fault) _ _ _ _ [] _ _ _ (no_piece-read g.F.Shelf c.args.shelf.now)
    (λ bytes fails. fails) (λ taken few. count-in_reach kind _ taken fault few) (c.in_err-count.ensures kind))

pub overflow_mul-total : goal.overflow_mul-total
overflow_mul-total g c = omega (arith, total-few c.in_ok-count.count c.each.result (omega arith) c.each.ensures.few)

pub read_list-requires-clause-few : goal.read_list-requires-clause-few
read_list-requires-clause-few g c = total-few c.in_ok-count.count c.each.result (omega arith) c.each.ensures.few

pub returns-in_err-read_list-clause-reading : goal.returns-in_err-read_list-clause-reading
returns-in_err-read_list-clause-reading g c =
    let kind = g.T.NumberList.kind c.args.numbers.now in
    let count = c.in_ok-count.count in
    let total = count * c.each.result in
    let all : total ≡ numbers_each kind * count = ap (λ (n : ℕ). count * n) c.each.ensures.each
    ∙ mul_comm count (numbers_each kind) in
    let fault = c.in_err-read_list.field-0.0 in
    let counted = c.in_ok-count.ensures kind in
    passed-on g.F.Shelf (origin_of kind) _ _ _ _ _ _ fault c.from_residual-in_err-read_list.ensures.1
    (fails-behind g.F.Shelf (origin_of kind fault) _ _ _ _ (little_bytes 8 count) _ _ _ counted
    (λ left stops. numbers-stop kind count total left fault (omega arith) all stops)
    (λ taken few. numbers-in_reach kind count total _ _ taken fault (omega arith) all counted.read few)
    c.in_err-read_list.ensures.reading)

pub returns-in_err-after-clause-reading : goal.returns-in_err-after-clause-reading
returns-in_err-after-clause-reading g c =
    let kind = g.T.NumberList.kind c.args.numbers.now in
    let numbers = flat_map (little_bytes (number_width kind)) (g.T.NumberList.list c.read_list.new.numbers) in
    let counted = little_bytes 8 c.in_ok-count.count in
    passed-on g.F.Shelf (origin_of kind) _ _ _ _ _ _ _ c.from_residual-in_err-after.ensures.1
    (fails-behind g.F.Shelf _ _ _ _ _ (counted ++ numbers) _ _ _
    (pieces-read g.F.Shelf _ c.read_count.new.shelf c.read_list.new.shelf counted numbers
    (c.in_ok-count.ensures kind) c.in_ok-read_list.ensures.reading)
    (λ bytes none. absurd none) (λ taken none. absurd none) c.in_err-after.ensures)

pub returns-in-Some-clause-reading : goal.returns-in-Some-clause-reading
returns-in-Some-clause-reading g c =
    let kind = g.T.NumberList.kind c.args.numbers.now in
    let count = c.in_ok-count.count in
    let list = g.T.NumberList.list c.read_list.new.numbers in
    let whole : length list ≡ numbers_each kind * count = c.in_ok-read_list.ensures.len
    ∙ ap (λ (n : ℕ). count * n) c.each.ensures.each ∙ mul_comm count (numbers_each kind) in
    let numbers = flat_map (little_bytes (number_width kind)) list in
    let counted = c.in_ok-count.ensures kind in
    let read = c.in_ok-read_list.ensures.reading in
    let last = byte-piece g.F.Shelf _ _ _ _ c.in-Some.is c.in_ok-after.ensures in
    let front = pieces-read g.F.Shelf c.args.shelf.now c.read_count.new.shelf c.read_list.new.shelf
    (little_bytes 8 count) numbers counted read in
    let all = pieces-read g.F.Shelf _ c.read_list.new.shelf c.next_byte.new.shelf
    (little_bytes 8 count ++ numbers) (c.in-Some.byte ∷ []) front last in
    fails-in g.F.Shelf _ _ ((little_bytes 8 count ++ numbers) ++ c.in-Some.byte ∷ []) _ _ all
    (reads-trailing kind c.in-Some.byte count list _ _ _ _
    (record {
      few = omega arith;
      whole = whole;
      all_follow = c.in_ok-read_list.ensures.all_follow;
      each_fits = c.in_ok-read_list.ensures.each_fits;
    })
    counted.read read.read last.read)
    (file-in_reach kind count list _ _ (c.in-Some.byte ∷ []) (omega arith) whole (omega arith) counted.read)

pub returns-clause-reading : goal.returns-clause-reading
returns-clause-reading g c =
    let kind = g.T.NumberList.kind c.args.numbers.now in
    let count = c.in_ok-count.count in
    let list = g.T.NumberList.list c.read_list.new.numbers in
    let whole : length list ≡ numbers_each kind * count = c.in_ok-read_list.ensures.len
    ∙ ap (λ (n : ℕ). count * n) c.each.ensures.each ∙ mul_comm count (numbers_each kind) in
    let numbers = flat_map (little_bytes (number_width kind)) list in
    let counted = c.in_ok-count.ensures kind in
    let read = c.in_ok-read_list.ensures.reading in
    let last = byte-piece g.F.Shelf _ _ _ _ c.in_default.is c.in_ok-after.ensures in
    let front = pieces-read g.F.Shelf c.args.shelf.now c.read_count.new.shelf c.read_list.new.shelf
    (little_bytes 8 count) numbers counted read in
    let all = pieces-read g.F.Shelf _ c.read_list.new.shelf c.next_byte.new.shelf
    (little_bytes 8 count ++ numbers) [] front last in
    record {
      files = all.files;
      quiet = all.quiet;
      read = record {
        file = file-read kind count list _ _ _
            (record {
              few = omega arith;
              whole = whole;
              all_follow = c.in_ok-read_list.ensures.all_follow;
              each_fits = c.in_ok-read_list.ensures.each_fits;
            })
            counted.read read.read (c.in_ok-after.ensures.read.ended c.in_default.is);
        taken = takes-reach kind _ _ ((little_bytes 8 count ++ numbers) ++ [])
            (file-in_reach kind count list _ _ [] (omega arith) whole (omega arith) counted.read) all.read;
      };
    }

pub returns-clause-numbers : goal.returns-clause-numbers
returns-clause-numbers g c =
    let kind = g.T.NumberList.kind c.args.numbers.now in
    let count = c.in_ok-count.count in
    let list = g.T.NumberList.list c.read_list.new.numbers in
    let whole : length list ≡ numbers_each kind * count = c.in_ok-read_list.ensures.len
    ∙ ap (λ (n : ℕ). count * n) c.each.ensures.each ∙ mul_comm count (numbers_each kind) in (
      count,
      record {
        few = omega arith;
        whole = whole;
        all_follow = c.in_ok-read_list.ensures.all_follow;
        each_fits = c.in_ok-read_list.ensures.each_fits;
      },
    )
