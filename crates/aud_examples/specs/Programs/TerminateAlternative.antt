-- A server in a loop waits at a terminate alternative and goes with its master.
--     procedure M is task S is entry E; end S; task D; task body S is begin loop select accept E; or terminate; end
--     select; end loop; end S; task body D is begin delay 2.0; S.E; end D; begin null; end M;
use Rattle.std.specs.Prelude.{pos, [], ◌∷◌, true, false, codes}
use Rattle.aud_typed.specs.Tree.{single, truth, milliseconds, of_task, plainly, sequence, declare_tasks, activated, activate, null, plain_loop, entry_call, delay, select, nothing, some, no_handlers, body, without_do, no_alternatives, accepting, terminating, hidden, Program}
use Rattle.aud_examples.specs.Asking.{at, v, tasks, unit_plan, Ran, Advanced, Moves, Row}

abbrev pub program : Program
program = record {
  name = (codes "M");
  plan = record {
    units = (unit_plan 0 0 false (at 1 1) (at 1 192) ∷ unit_plan 1 1 false (at 1 50) (at 1 129) ∷ unit_plan 1 3 false (at 1 136) (at 1 173) ∷ []);
    tasks = (record { unit = 1; entries = (0 ∷ []) } ∷ record { unit = 2; entries = ([]) } ∷ []);
    objects = ([]);
    entries = (record { name = (codes "E"); formals = 0; unit = 0 } ∷ []);
    regions = ((record { name = (codes "S"); shown = hidden 1 } ∷ record { name = (codes "D"); shown = hidden 1 } ∷ []) ∷ (record { name = (codes ""); shown = hidden 1 } ∷ []) ∷ ([]) ∷ (record { name = (codes ""); shown = hidden 1 } ∷ []) ∷ []);
    exceptions = ([]);
  };
  bodies = ((body (some (sequence (declare_tasks (at 1 16) (tasks 0 (codes "S") (pos 0) false 1)) (sequence (declare_tasks (at 1 42) (tasks 1 (codes "D") (pos 0) false 1)) (activate (at 1 180))))) (at 1 180) (null (at 1 186)) no_handlers (at 1 192)) ∷ (body (some (activated (at 1 65))) (at 1 65) (plain_loop (select (at 1 76) (accepting (truth true) (at 1 83) 0 without_do nothing (terminating (truth true) no_alternatives)) nothing)) no_handlers (at 1 129)) ∷ (body (some (activated (at 1 151))) (at 1 151) (sequence (delay (at 1 157) (milliseconds 2000)) (entry_call (at 1 168) (record { callee = (of_task (single (v 0 0))); entry = 0; arguments = ([]); form = plainly }) nothing nothing)) no_handlers (at 1 173)) ∷ []);
  barriers = (truth true ∷ []);
}

abbrev pub row : Row
row = record {
  program = program;
  asked = (Ran 100 ∷ Advanced 2000 ∷ Ran 5 ∷ Moves ∷ Ran 1 ∷ []);
  told = (((codes "ran 9 waiting 2000") ∷ []) ∷ ((codes "clock 2000") ∷ []) ∷ ((codes "ran 5 more") ∷ []) ∷ ((codes "0 1 M 1 close") ∷ []) ∷ ((codes "ran 1 ended") ∷ []) ∷ []);
}
