-- Two callers wait in the order of their arrival, with the values that they bring.
--     procedure M is task S is entry E (N : in Integer); end S; task A; task B; task body S is begin delay 1.0;
--     accept E (N : in Integer) do Put (N'Image); end E; accept E (N : in Integer) do Put (N'Image); end E; end S;
--     task body A is begin S.E (1); end A; task body B is begin S.E (2); end B; begin null; end M;
use Rattle.std.specs.Prelude.{pos, [], ◌∷◌, true, false, codes}
use Rattle.aud_typed.specs.declared.program.Subtype.TheVariants as subtype
use Rattle.aud_typed.specs.Tree.{number, variable, single, truth, whole, image, milliseconds, by_value, of_task, plainly, sequence, declare_tasks, activated, activate, null, put, entry_call, delay, accept, nothing, some, no_handlers, body, with_do, as_whole, hidden, Program}
use Rattle.aud_examples.specs.Asking.{at, v, tasks, unit_plan, Ran, Advanced, Tasks, Queues, Output, Row}

abbrev pub program : Program
program = record {
  name = (codes "M");
  plan = record {
    units = (unit_plan 0 0 false (at 1 1) (at 1 302) ∷ unit_plan 1 1 false (at 1 75) (at 1 209) ∷ unit_plan 1 4 false (at 1 216) (at 1 246) ∷ unit_plan 1 5 false (at 1 253) (at 1 283) ∷ []);
    tasks = (record { unit = 1; entries = (0 ∷ []) } ∷ record { unit = 2; entries = ([]) } ∷ record { unit = 3; entries = ([]) } ∷ []);
    objects = ([]);
    entries = (record { name = (codes "E"); formals = 1; unit = 0 } ∷ []);
    regions = ((record { name = (codes "S"); shown = hidden 1 } ∷ record { name = (codes "A"); shown = hidden 1 } ∷ record { name = (codes "B"); shown = hidden 1 } ∷ []) ∷ (record { name = (codes ""); shown = hidden 1 } ∷ []) ∷ (record { name = (codes "N"); shown = as_whole } ∷ []) ∷ (record { name = (codes "N"); shown = as_whole } ∷ []) ∷ (record { name = (codes ""); shown = hidden 1 } ∷ []) ∷ (record { name = (codes ""); shown = hidden 1 } ∷ []) ∷ []);
    exceptions = ([]);
  };
  bodies = ((body (some (sequence (declare_tasks (at 1 16) (tasks 0 (codes "S") (pos 0) false 1)) (sequence (declare_tasks (at 1 59) (tasks 1 (codes "A") (pos 0) false 1)) (sequence (declare_tasks (at 1 67) (tasks 2 (codes "B") (pos 0) false 1)) (activate (at 1 290)))))) (at 1 290) (null (at 1 296)) no_handlers (at 1 302)) ∷ (body (some (activated (at 1 90))) (at 1 90) (sequence (delay (at 1 96) (milliseconds 1000)) (sequence (accept (at 1 107) 0 (with_do 2 (body nothing (at 1 107) (put (at 1 136) (image (variable (v 2 0)))) no_handlers (at 1 151)))) (accept (at 1 158) 0 (with_do 3 (body nothing (at 1 158) (put (at 1 187) (image (variable (v 2 0)))) no_handlers (at 1 202)))))) no_handlers (at 1 209)) ∷ (body (some (activated (at 1 231))) (at 1 231) (entry_call (at 1 237) (record { callee = (of_task (single (v 0 0))); entry = 0; arguments = (by_value (whole subtype.Integer (number (pos 1))) ∷ []); form = plainly }) nothing nothing) no_handlers (at 1 246)) ∷ (body (some (activated (at 1 268))) (at 1 268) (entry_call (at 1 274) (record { callee = (of_task (single (v 0 0))); entry = 0; arguments = (by_value (whole subtype.Integer (number (pos 2))) ∷ []); form = plainly }) nothing nothing) no_handlers (at 1 283)) ∷ []);
  barriers = (truth true ∷ []);
}

abbrev pub row : Row
row = record {
  program = program;
  asked = (Ran 100 ∷ Queues ∷ Tasks ∷ Advanced 1000 ∷ Ran 100 ∷ Output ∷ []);
  told = (((codes "ran 12 waiting 1000") ∷ []) ∷ ((codes "task 2 S.E: 3 4") ∷ []) ∷ ((codes "1 M completed 1") ∷ (codes "2 S delay 1") ∷ (codes "3 A queued 1") ∷ (codes "4 B queued 1") ∷ []) ∷ ((codes "clock 1000") ∷ []) ∷ ((codes "ran 14 ended") ∷ []) ∷ ((codes "bytes 4") ∷ (codes " 1 2") ∷ []) ∷ []);
}
