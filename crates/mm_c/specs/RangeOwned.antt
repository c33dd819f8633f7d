-- What a handle owns: the same as a box of a range manager, or nothing.
use base.Fml.{Fml, ftrue}
use denote.RawPtr.{Ptr}
use Rattle.std.specs.Prelude.{Bool, true, false}
use Rattle.std.specs.Box.Ownership.{box_owns}
use Rattle.std.specs.Global.{Global}
use Rattle.std.specs.contracts.impls.GlobalAllocator.TheImpl.{ghosts}
use Rattle.mm_c.specs.contracts.ranges.Ranges.{the_row}

abbrev pub handle_owns : Bool → Global → Ptr → the_row.Denot → Fml
handle_owns true heap p m = box_owns (ghosts.dealloc_token heap) the_row p m
handle_owns false heap p m = ftrue
