-- Each number so far is in the range of a coordinate.
use Rattle.std.proofs.Common.{ℕ, ◌^◌, ◌<◌, slice_index}
use Rattle.zorder.specs.Codes.{coordinate_bits}
use Rattle.kuldebiq.proofs.code_calls.first_too_great.Given as goal

abbrev pub invariant-loop-place : goal.invariant-loop-place
invariant-loop-place l = (c : ℕ) → c < l.place → slice_index l.coordinates c < 2 ^ coordinate_bits l.dims
