-- A timed call and a delay that end at the same time.
--     procedure M is task S is entry E; end S; task body S is begin delay 0.250; accept E; end S; begin select S.E;
--     Put ("met"); or delay 0.250; Put ("late"); end select; end M;
use Rattle.std.specs.Prelude.{pos, [], ◌∷◌, true, false, codes}
use Rattle.aud_typed.specs.Tree.{single, truth, literal, milliseconds, of_task, timed, sequence, declare_tasks, activated, activate, put, entry_call, delay, accept, some, no_handlers, body, without_do, hidden, Program}
use Rattle.aud_examples.specs.Asking.{at, v, tasks, unit_plan, Ran, Stepped, Advanced, Moves, Output, Row}

abbrev pub program : Program
program = record {
  name = (codes "M");
  plan = record {
    units = (unit_plan 0 0 false (at 1 1) (at 1 166) ∷ unit_plan 1 1 false (at 1 42) (at 1 86) ∷ []);
    tasks = (record { unit = 1; entries = (0 ∷ []) } ∷ []);
    objects = ([]);
    entries = (record { name = (codes "E"); formals = 0; unit = 0 } ∷ []);
    regions = ((record { name = (codes "S"); shown = hidden 1 } ∷ []) ∷ (record { name = (codes ""); shown = hidden 1 } ∷ []) ∷ ([]) ∷ []);
    exceptions = ([]);
  };
  bodies = ((body (some (sequence (declare_tasks (at 1 16) (tasks 0 (codes "S") (pos 0) false 1)) (activate (at 1 93)))) (at 1 93) (entry_call (at 1 99) (record { callee = (of_task (single (v 0 0))); entry = 0; arguments = ([]); form = (timed (milliseconds 250)) }) (some (put (at 1 111) (literal (codes "met")))) (some (put (at 1 140) (literal (codes "late"))))) no_handlers (at 1 166)) ∷ (body (some (activated (at 1 57))) (at 1 57) (sequence (delay (at 1 63) (milliseconds 250)) (accept (at 1 76) 0 without_do)) no_handlers (at 1 86)) ∷ []);
  barriers = (truth true ∷ []);
}

abbrev pub row : Row
row = record {
  program = program;
  asked = (Ran 100 ∷ Advanced 249 ∷ Ran 1 ∷ Advanced 1 ∷ Moves ∷ Stepped 1 ∷ Stepped 1 ∷ Ran 9 ∷ Output ∷ []);
  told = (((codes "ran 5 waiting 250") ∷ []) ∷ ((codes "clock 249") ∷ []) ∷ ((codes "ran 0 waiting 250") ∷ []) ∷ ((codes "clock 250") ∷ []) ∷ ((codes "0 1 M 1 expire") ∷ (codes "1 2 S 1 expire") ∷ []) ∷ ((codes "ran 1 more") ∷ []) ∷ ((codes "ran 1 more") ∷ []) ∷ ((codes "ran 5 ended") ∷ []) ∷ ((codes "bytes 3") ∷ (codes "met") ∷ []) ∷ []);
}
