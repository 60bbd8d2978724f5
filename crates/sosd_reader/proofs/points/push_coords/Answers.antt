use Rattle.std.proofs.Common.{◌≡◌, ◌*◌, ◌/◌, length, take, drop, refl, ap, ◌∙◌, arith}
use Rattle.std.proofs.lemmas.Bool.{false≢true}
use Rattle.std.proofs.lemmas.List.{take_rest}
use Rattle.byteorder.specs.Endian.{little_bytes}
use Rattle.sosd_reader.specs.NumberFiles.Kind.{of_points}
use Rattle.sosd_reader.proofs.Widths.{over-last}
use Rattle.sosd_reader.proofs.KindLemmas.{out-of-range}
use Rattle.sosd_reader.proofs.Pushing.{under_way_push, under_way_fails, under_way_end}
use Rattle.sosd_reader.proofs.points.push_coords.Goals as goal

pub returns-then-not-fits_range-clause-fault : goal.returns-then-not-fits_range-clause-fault
returns-then-not-fits_range-clause-fault c =
    let bytes = c.args.bytes.now in
    let is : little_bytes 4 c.first_u32-value.result ≡ take 4 (drop (4 * c.loop-i.i) bytes) =
    c.first_u32-value.ensures.bytes ∙ ap (take 4) (take_rest bytes (4 * c.loop-i.i)) in
    let wide =
    out-of-range c.args.d c.first_u32-value.result (λ less. false≢true (c.if-not-fits_range.ensures.1 less)) in (
      tt,
      (
        _,
        under_way_fails
            (of_points c.args.d) (length bytes / 4) _ bytes _ _ _ _ _ c.loop-i.invariant.under_way (omega arith)
            (omega (arith, c.loop-i.invariant.len)) (omega arith) c.first_u32-value.ensures.small is refl wide,
      ),
    )

pub loop-i-preserved : goal.loop-i-preserved
loop-i-preserved c =
    let bytes = c.args.bytes.now in
    let is : little_bytes 4 c.first_u32-value.result ≡ take 4 (drop (4 * c.loop-i.i) bytes) =
    c.first_u32-value.ensures.bytes ∙ ap (take 4) (take_rest bytes (4 * c.loop-i.i)) in
    let items = c.push_reserved.ensures.items in
    let len = c.push_reserved.ensures.len in
    record {
      under_way =
          rw items (under_way_push (of_points c.args.d) _ bytes _
          _ _ c.loop-i.invariant.under_way c.first_u32-value.ensures.small is (c.if-not-fits_range.ensures.0 refl));
      len = omega (arith, len, c.loop-i.invariant.len);
      room = omega arith;
    }

pub returns-clause-coords : goal.returns-clause-coords
returns-clause-coords c =
    let n = length c.args.bytes.now in
    let last : c.loop-i.i ≡ n / 4 = omega arith in
    under_way_end (of_points c.args.d) _ _ _ _ c.loop-i.invariant.under_way
    (omega arith) (omega (arith, over-last 4 n (omega arith), last))
