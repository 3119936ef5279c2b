use Rattle.std.proofs.Common.{◌≡◌, ◌++◌, drop}
use Rattle.std.specs.Prelude.{map}
use Rattle.aud_typed.specs.Ties.View.{handlers_in}
use Rattle.aud_code.specs.View.{plain_guard}
use Rattle.aud_layout.specs.Layout.{guards_of_by}
use Rattle.aud_layout.specs.Written.{flat_step}
use Rattle.aud_gen.proofs.bodies.guards.Given as goal

abbrev pub invariant-loop-handler : goal.invariant-loop-handler
invariant-loop-handler l =
    map plain_guard l.guards.items ++ guards_of_by flat_step (handlers_in (drop l.handler-index l.handlers)) l.to l.ways ≡ guards_of_by flat_step (handlers_in l.handlers) l.place l.ways
