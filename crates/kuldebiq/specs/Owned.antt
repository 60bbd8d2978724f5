-- What a handle owns: nothing at null, and else a box of the value.
use Rattle.std.specs.Prelude.{Option, Some, None}
use base.Fml.{Fml, feq}
use denote.RattleType.{RattleType}
use denote.RawPtr.{Ptr, null_ptr}
use Rattle.std.specs.declared.alloc.Global.{Global}
use Rattle.std.specs.contracts.impls.GlobalAllocator.TheImpl.{ghosts}
use Rattle.std.specs.Box.Ownership.{box_owns}

-- there is no value and the pointer is null, or the value is in a box at the pointer
abbrev pub owned : (R : RattleType) → Global → Ptr → Option R.Denot → Fml
owned R alloc at None = feq Ptr at null_ptr
owned R alloc at (Some value) = box_owns (ghosts.dealloc_token alloc) R at value
