use Rattle.std.proofs.Common.{◌+◌, ◌*◌, ◌≤◌, length, ◌∙◌, subst, arith, length-append, mul-add, mul-le-mul_left}
use Rattle.std.specs.List.{flat_map}
use Rattle.byteorder.specs.Endian.{little_bytes}
use Rattle.edge.specs.Readers.{ReadFails, ReadsOn}
use Rattle.edge.specs.Unread.{AreAtMost}
use Rattle.edge.proofs.ReaderLemmas.{fails-behind, passed-on}
use Rattle.sosd_reader.specs.NumberFiles.{Kind, number_width, AllFollow}
use Rattle.sosd_reader.specs.Reading.{ReadsNumbers, StopsAs, origin_of}
use Rattle.sosd_reader.proofs.Fronts.{length-numbers}
use Rattle.sosd_reader.proofs.Chunks.{reads-more, fit-more}
use Rattle.sosd_reader.proofs.Following.{stops-after}
use Rattle.sosd_reader.proofs.reading.read_list.Goals as goal

pub returns-in_err-read_chunk-clause-reading : goal.returns-in_err-read_chunk-clause-reading
returns-in_err-read_chunk-clause-reading g c =
    let kind = g.T.NumberList.kind c.args.numbers.now in
    let w = number_width kind in
    let next = c.min-next.result in
    let front = g.T.NumberList.list c.loop-done.numbers in
    let fault = c.in_err-read_chunk.field-0.0 in
    let so_far = c.loop-done.invariant in
    let all : length front + next ≤ c.args.total = omega (arith, so_far.len) in
    let most = mul-le-mul_left w all in
    let split = mul-add w (length front) next in
    let bytes = flat_map (little_bytes w) front in
    let Fails : Kind → Type 0 = λ k. ReadFails g.F.Shelf (origin_of k fault) (λ left. StopsAs k next front left fault)
    (λ taken. AreAtMost (number_width k * next) taken fault) c.loop-done.shelf c.read_chunk.new.shelf in
    passed-on g.F.Shelf (origin_of kind) _ _ _ _ _ _ fault c.from_residual-in_err-read_chunk.ensures.1
    (fails-behind g.F.Shelf (origin_of kind fault) _ _ _ _ bytes _ _ _ so_far.read
    (λ left stops. stops-after kind next c.args.total front left fault so_far.each_fits all stops)
    (λ taken few. omega (arith, few, length-append bytes taken, length-numbers w front, most, split))
    (subst Fails so_far.kind c.in_err-read_chunk.ensures.reading))

pub loop-done-preserved : goal.loop-done-preserved
loop-done-preserved g c =
    let kind = g.T.NumberList.kind c.args.numbers.now in
    let w = number_width kind in
    let front = g.T.NumberList.list c.loop-done.numbers in
    let list = g.T.NumberList.list c.read_chunk.new.numbers in
    let so_far = c.loop-done.invariant in
    let same = so_far.kind in
    let P : Kind → Type 0 =
    λ k. ReadsOn g.F.Shelf (ReadsNumbers (number_width k) front list) c.loop-done.shelf c.read_chunk.new.shelf in
    let reads = subst P same c.in_ok-read_chunk.ensures.reading in
    record {
      kind = c.in_ok-read_chunk.ensures.kind ∙ same;
      read = reads-more g.F.Shelf w front list _ _ _ so_far.read reads;
      all_follow = subst (λ (k : Kind). AllFollow k list) same c.in_ok-read_chunk.ensures.all_follow;
      each_fits = fit-more w front list _ _ reads.read so_far.each_fits;
      len = omega (arith, c.in_ok-read_chunk.ensures.len, so_far.len);
      in_range = omega arith;
      width = so_far.width;
      room = so_far.room;
    }
