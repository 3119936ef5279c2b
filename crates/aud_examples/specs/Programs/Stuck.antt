-- Two tasks are queued on each other: nothing can happen any more.
--     procedure M is task A is entry E; end A; task B is entry E; end B; task body A is begin B.E; accept E; end A;
--     task body B is begin A.E; accept E; end B; begin null; end M;
use Rattle.std.specs.Prelude.{pos, [], ◌∷◌, true, false, codes}
use Rattle.aud_typed.specs.Tree.{single, truth, of_task, plainly, sequence, declare_tasks, activated, activate, null, entry_call, accept, nothing, some, no_handlers, body, without_do, hidden, Program}
use Rattle.aud_examples.specs.Asking.{at, v, tasks, unit_plan, Ran, Queues, Row}

abbrev pub program : Program
program = record {
  name = (codes "M");
  plan = record {
    units = (unit_plan 0 0 false (at 1 1) (at 1 166) ∷ unit_plan 1 1 false (at 1 68) (at 1 104) ∷ unit_plan 1 3 false (at 1 111) (at 1 147) ∷ []);
    tasks = (record { unit = 1; entries = (0 ∷ []) } ∷ record { unit = 2; entries = (1 ∷ []) } ∷ []);
    objects = ([]);
    entries = (record { name = (codes "E"); formals = 0; unit = 0 } ∷ record { name = (codes "E"); formals = 0; unit = 0 } ∷ []);
    regions = ((record { name = (codes "A"); shown = hidden 1 } ∷ record { name = (codes "B"); shown = hidden 1 } ∷ []) ∷ (record { name = (codes ""); shown = hidden 1 } ∷ []) ∷ ([]) ∷ (record { name = (codes ""); shown = hidden 1 } ∷ []) ∷ ([]) ∷ []);
    exceptions = ([]);
  };
  bodies = ((body (some (sequence (declare_tasks (at 1 16) (tasks 0 (codes "A") (pos 0) false 1)) (sequence (declare_tasks (at 1 42) (tasks 1 (codes "B") (pos 0) false 1)) (activate (at 1 154))))) (at 1 154) (null (at 1 160)) no_handlers (at 1 166)) ∷ (body (some (activated (at 1 83))) (at 1 83) (sequence (entry_call (at 1 89) (record { callee = (of_task (single (v 0 1))); entry = 1; arguments = ([]); form = plainly }) nothing nothing) (accept (at 1 94) 0 without_do)) no_handlers (at 1 104)) ∷ (body (some (activated (at 1 126))) (at 1 126) (sequence (entry_call (at 1 132) (record { callee = (of_task (single (v 0 0))); entry = 0; arguments = ([]); form = plainly }) nothing nothing) (accept (at 1 137) 1 without_do)) no_handlers (at 1 147)) ∷ []);
  barriers = (truth true ∷ truth true ∷ []);
}

abbrev pub row : Row
row = record {
  program = program;
  asked = (Ran 100 ∷ Queues ∷ []);
  told = (((codes "ran 9 stuck") ∷ []) ∷ ((codes "task 2 A.E: 3") ∷ (codes "task 3 B.E: 2") ∷ []) ∷ []);
}
