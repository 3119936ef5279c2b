use Rattle.std.specs.Prelude.{List, Option, Result, Ok, Err, IfOk}
use Rattle.std.specs.declared.alloc.AllocError.{AllocError}
use Rattle.std.proofs.Common.{◌≡◌}
use Rattle.aud_fault.specs.declared.fault.Fault.{Fault}
use Rattle.aud_typing.specs.Ties.Typing.{plain_typed, in_box, Leaves}
use Rattle.aud_check_bodies.proofs.requeue.checked_index.Goals as goal

-- what is made, whatever is noted
made_of : {X Y : Type 0} (plain : X → Y) (r : Result X AllocError) (old new : Option Fault) (fs : List Fault) (y : Y) → Leaves plain r old new fs y → IfOk r (λ x. plain x ≡ y)
made_of plain (Ok x) old new fs y h = h.1
made_of plain (Err e) old new fs y h = tt

pub returns : goal.returns
returns c = made_of (in_box plain_typed) c.index.result _ _ _ _ c.index.ensures
