-- What a handle owns says the same to every thread, as the value in its box does.
use mir.Raw.{raw}
use base.Shift.{Keyless}
use denote.Memory.{lone}
use denote.Param.Send.{IsSend, Frees, owning_send, struct_send, sendable}
use denote.Builtin.{RawPtr}
use denote.RawPtr.{Ptr}
use denote.Struct.Struct.{exits_of}
use denote.Struct.Owning.{shape, fields, to}
use Rattle.kuldebiq.proofs.Crossing.{quiet, lies}
use Rattle.std.specs.declared.option.Option.{Option}
use Rattle.std.specs.declared.option.Option.TheVariants.{None, Some}
use Rattle.std.specs.contracts.impls.GlobalAllocator.TheImpl.{ghosts}
use Rattle.std.specs.contracts.alloc.Global as heap
use Rattle.std.proofs.Crossing.{frees}
use Rattle.kuldebiq.proofs.kept_index.KeptIndex.TheSendSync.{the_send}
use Rattle.kuldebiq.specs.Owned.{owned}
use Rattle.kuldebiq.specs.contracts.index_handle.IndexHandle.{the_row, the_type}
use Rattle.kuldebiq.proofs.IndexHandles.{R, Z}

keyless : IsSend R →
    Frees ghosts ghosts.dealloc_token → (a : Z.Denot) (p : Ptr) (x : Option R.Denot) → Keyless (owned R a p x)
keyless s f a p None = tt
keyless s f a p (Some x) = (lies R s p x, f.frees a (raw (lone R.mir)) p)

pub send : IsSend the_row
send = let s : IsSend R = the_send in
    let sa : IsSend (heap.the_field).row = search sendable in let ps : IsSend RawPtr = search sendable in
    owning_send the_type (ps, (sa, tt)) (λ d. keyless s frees d.alloc d.at d.index)
    (λ k. quiet (to the_type) (exits_of k (fields the_type)) ((struct_send (shape the_type) (ps, (sa, tt))).leaving k))
