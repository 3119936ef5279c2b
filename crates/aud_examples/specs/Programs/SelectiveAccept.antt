-- Two open alternatives with callers: the move picks one.
--     procedure M is task S is entry A; entry B; end S; task body S is begin delay 1.0; select accept A do Put
--     ("a"); end A; or accept B do Put ("b"); end B; end select; select accept A do Put ("a"); end A; or accept B do
--     Put ("b"); end B; end select; end S; task P; task body P is begin S.A; end P; begin S.B; end M;
use Rattle.std.specs.Prelude.{pos, [], ◌∷◌, true, false, codes}
use Rattle.aud_typed.specs.Tree.{single, truth, literal, milliseconds, of_task, plainly, sequence, declare_tasks, activated, activate, put, entry_call, delay, select, nothing, some, no_handlers, body, with_do, no_alternatives, accepting, hidden, Program}
use Rattle.aud_examples.specs.Asking.{at, v, tasks, unit_plan, Ran, Advanced, Chosen, Moves, Output, Row}

abbrev pub program : Program
program = record {
  name = (codes "M");
  plan = record {
    units = (unit_plan 0 0 false (at 1 1) (at 1 306) ∷ unit_plan 1 1 false (at 1 51) (at 1 247) ∷ unit_plan 1 6 false (at 1 262) (at 1 288) ∷ []);
    tasks = (record { unit = 1; entries = (0 ∷ 1 ∷ []) } ∷ record { unit = 2; entries = ([]) } ∷ []);
    objects = ([]);
    entries = (record { name = (codes "A"); formals = 0; unit = 0 } ∷ record { name = (codes "B"); formals = 0; unit = 0 } ∷ []);
    regions = ((record { name = (codes "S"); shown = hidden 1 } ∷ record { name = (codes "P"); shown = hidden 1 } ∷ []) ∷ (record { name = (codes ""); shown = hidden 1 } ∷ []) ∷ ([]) ∷ ([]) ∷ ([]) ∷ ([]) ∷ (record { name = (codes ""); shown = hidden 1 } ∷ []) ∷ []);
    exceptions = ([]);
  };
  bodies = ((body (some (sequence (declare_tasks (at 1 16) (tasks 0 (codes "S") (pos 0) false 1)) (sequence (declare_tasks (at 1 254) (tasks 1 (codes "P") (pos 0) false 1)) (activate (at 1 295))))) (at 1 295) (entry_call (at 1 301) (record { callee = (of_task (single (v 0 0))); entry = 1; arguments = ([]); form = plainly }) nothing nothing) no_handlers (at 1 306)) ∷ (body (some (activated (at 1 66))) (at 1 66) (sequence (delay (at 1 72) (milliseconds 1000)) (sequence (select (at 1 83) (accepting (truth true) (at 1 90) 0 (with_do 2 (body nothing (at 1 90) (put (at 1 102) (literal (codes "a"))) no_handlers (at 1 113))) nothing (accepting (truth true) (at 1 123) 1 (with_do 3 (body nothing (at 1 123) (put (at 1 135) (literal (codes "b"))) no_handlers (at 1 146))) nothing no_alternatives)) nothing) (select (at 1 165) (accepting (truth true) (at 1 172) 0 (with_do 4 (body nothing (at 1 172) (put (at 1 184) (literal (codes "a"))) no_handlers (at 1 195))) nothing (accepting (truth true) (at 1 205) 1 (with_do 5 (body nothing (at 1 205) (put (at 1 217) (literal (codes "b"))) no_handlers (at 1 228))) nothing no_alternatives)) nothing))) no_handlers (at 1 247)) ∷ (body (some (activated (at 1 277))) (at 1 277) (entry_call (at 1 283) (record { callee = (of_task (single (v 0 0))); entry = 0; arguments = ([]); form = plainly }) nothing nothing) no_handlers (at 1 288)) ∷ []);
  barriers = (truth true ∷ truth true ∷ []);
}

abbrev pub row : Row
row = record {
  program = program;
  asked = (Ran 100 ∷ Advanced 1000 ∷ Ran 1 ∷ Moves ∷ Chosen (1 ∷ []) ∷ Ran 100 ∷ Output ∷ []);
  told = (((codes "ran 8 waiting 1000") ∷ []) ∷ ((codes "clock 1000") ∷ []) ∷ ((codes "ran 1 more") ∷ []) ∷ ((codes "0 2 S 1 select 1") ∷ (codes "1 2 S 1 select 2") ∷ []) ∷ ((codes "choices 1") ∷ []) ∷ ((codes "ran 12 ended") ∷ []) ∷ ((codes "bytes 2") ∷ (codes "ba") ∷ []) ∷ []);
}
