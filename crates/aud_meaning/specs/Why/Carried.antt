-- A step is what its turn does, carried out at once: no order is noted.
use Rattle.std.specs.Prelude.{◌≡◌, suc, Option, Some, None, slice_get}
use Rattle.aud_text.specs.declared.limits.Limits.{Limits}
use Rattle.aud_typed.specs.Tree.{Plan}
use Rattle.aud_meaning.specs.Configuration.{TaskAt, All}
use Rattle.aud_meaning.specs.Control.{Controls}
use Rattle.aud_meaning.specs.Orders.{carried_out}
use Rattle.aud_meaning.specs.declared.state.Move.{Move}
use Rattle.aud_meaning.specs.Run.{turn_at, turn_taken, seen, scene_of, step_with}

module _ {C : Type 0} (plan : Plan) (k : Controls C) (limits : Limits) where
  abbrev pub carried_by : Option (TaskAt C) → Move → All C → All C
  carried_by None m c = c
  carried_by (Some t) m c =
      turn_taken (carried_out k) plan k.barrier limits (turn_at plan k.barrier (slice_get (seen plan k c).tasks m.task) m.task (seen plan k c)) (k.asks t.own.pending (scene_of plan k m.task c) t.control) m (record c { steps = suc c.steps })

  abbrev pub carried_step : All C → Move → All C
  carried_step c m = carried_by (slice_get c.tasks m.task) m c

abbrev pub CarriedLaw : (C : Type 0) → Type 0
CarriedLaw C = (plan : Plan) (k : Controls C) (limits : Limits) (c : All C) (m : Move) → step_with plan k limits c m ≡ carried_step plan k limits c m
