-- A task that waits in the queue of a protected entry is aborted.
--     procedure M is protected P is entry E; private Open : Boolean := False; end P; protected body P is entry E
--     when Open is begin null; end E; end P; task T; task body T is begin P.E; end T; begin delay 1.0; abort T; end
--     M;
use Rattle.std.specs.Prelude.{pos, [], ◌∷◌, false, codes}
use Rattle.aud_typed.specs.declared.program.Subtype.TheVariants as subtype
use Rattle.aud_typed.specs.Tree.{scalar, single, truth, stored, boolean, milliseconds, of_object, plainly, sequence, declare_tasks, declare_object, activated, activate, null, entry_call, delay, abort, nothing, some, no_handlers, body, as_truth, hidden, Program}
use Rattle.aud_examples.specs.Asking.{at, v, tasks, unit_plan, Ran, Advanced, Row}

abbrev pub program : Program
program = record {
  name = (codes "M");
  plan = record {
    units = (unit_plan 0 0 false (at 1 1) (at 1 214) ∷ unit_plan 2 2 false (at 1 100) (at 1 133) ∷ unit_plan 1 3 false (at 1 155) (at 1 181) ∷ []);
    tasks = (record { unit = 2; entries = ([]) } ∷ []);
    objects = (record { name = (codes "P"); level = 1; components = (record { name = (codes "OPEN"); shown = as_truth } ∷ []); entries = (0 ∷ []) } ∷ []);
    entries = (record { name = (codes "E"); formals = 0; unit = 1 } ∷ []);
    regions = ((record { name = (codes "P"); shown = hidden 1 } ∷ record { name = (codes "T"); shown = hidden 1 } ∷ []) ∷ (record { name = (codes ""); shown = hidden 1 } ∷ record { name = (codes "OPEN"); shown = as_truth } ∷ []) ∷ ([]) ∷ (record { name = (codes ""); shown = hidden 1 } ∷ []) ∷ []);
    exceptions = ([]);
  };
  bodies = ((body (some (sequence (declare_object (at 1 16) 0 ((boolean (truth false)) ∷ [])) (sequence (declare_tasks (at 1 147) (tasks 0 (codes "T") (pos 0) false 1)) (activate (at 1 188))))) (at 1 188) (sequence (delay (at 1 194) (milliseconds 1000)) (abort (at 1 205) ((single (v 0 1)) ∷ []))) no_handlers (at 1 214)) ∷ (body nothing (at 1 121) (null (at 1 127)) no_handlers (at 1 133)) ∷ (body (some (activated (at 1 170))) (at 1 170) (entry_call (at 1 176) (record { callee = (of_object (v 0 0)); entry = 0; arguments = ([]); form = plainly }) nothing nothing) no_handlers (at 1 181)) ∷ []);
  barriers = ((stored (scalar (v 1 1) subtype.Boolean)) ∷ []);
}

abbrev pub row : Row
row = record {
  program = program;
  asked = (Ran 100 ∷ Advanced 1000 ∷ Ran 100 ∷ []);
  told = (((codes "ran 6 waiting 1000") ∷ []) ∷ ((codes "clock 1000") ∷ []) ∷ ((codes "ran 7 ended") ∷ []) ∷ []);
}
