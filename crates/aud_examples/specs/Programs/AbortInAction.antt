-- A task is aborted within a protected action, which ends first.
--     procedure M is protected P is procedure Q; private N : Integer := 0; end P; protected body P is procedure Q is
--     begin N := 1; N := 2; Put ("q"); end Q; end P; task T is entry E; end T; task C; task body T is begin P.Q;
--     accept E; end T; task body C is begin T.E; exception when Tasking_Error => Put ("c"); end C; begin abort T;
--     end M;
use Rattle.std.specs.Prelude.{pos, [], ◌∷◌, None, true, false, codes}
use Rattle.aud_text.specs.declared.raise.Raise.TheVariants.{Tasking}
use Rattle.aud_typed.specs.declared.program.Subtype.TheVariants as subtype
use Rattle.aud_typed.specs.declared.program.Exception.TheVariants.{Predefined}
use Rattle.aud_typed.specs.Tree.{number, scalar, single, truth, whole, literal, of_task, plainly, sequence, declare_tasks, declare_object, activated, activate, assign, put, operation_call, entry_call, accept, abort, nothing, some, no_handlers, handler, body, without_do, as_whole, hidden, Program}
use Rattle.aud_examples.specs.Asking.{at, v, tasks, unit_plan, Ran, Chosen, Tasks, Output, Row}

abbrev pub program : Program
program = record {
  name = (codes "M");
  plan = record {
    units = (unit_plan 0 0 false (at 1 1) (at 1 327) ∷ unit_plan 2 2 false (at 1 97) (at 1 145) ∷ unit_plan 1 3 false (at 1 193) (at 1 229) ∷ unit_plan 1 5 false (at 1 236) (at 1 305) ∷ []);
    tasks = (record { unit = 2; entries = (0 ∷ []) } ∷ record { unit = 3; entries = ([]) } ∷ []);
    objects = (record { name = (codes "P"); level = 1; components = (record { name = (codes "N"); shown = as_whole } ∷ []); entries = ([]) } ∷ []);
    entries = (record { name = (codes "E"); formals = 0; unit = 0 } ∷ []);
    regions = ((record { name = (codes "P"); shown = hidden 1 } ∷ record { name = (codes "T"); shown = hidden 1 } ∷ record { name = (codes "C"); shown = hidden 1 } ∷ []) ∷ (record { name = (codes ""); shown = hidden 1 } ∷ record { name = (codes "N"); shown = as_whole } ∷ []) ∷ ([]) ∷ (record { name = (codes ""); shown = hidden 1 } ∷ []) ∷ ([]) ∷ (record { name = (codes ""); shown = hidden 1 } ∷ []) ∷ []);
    exceptions = ([]);
  };
  bodies = ((body (some (sequence (declare_object (at 1 16) 0 ((whole subtype.Integer (number (pos 0))) ∷ [])) (sequence (declare_tasks (at 1 159) (tasks 0 (codes "T") (pos 0) false 1)) (sequence (declare_tasks (at 1 185) (tasks 1 (codes "C") (pos 0) false 1)) (activate (at 1 312)))))) (at 1 312) (abort (at 1 318) ((single (v 0 1)) ∷ [])) no_handlers (at 1 327)) ∷ (body nothing (at 1 112) (sequence (assign (at 1 118) (scalar (v 1 1) subtype.Integer) (whole subtype.Integer (number (pos 1)))) (sequence (assign (at 1 126) (scalar (v 1 1) subtype.Integer) (whole subtype.Integer (number (pos 2)))) (put (at 1 134) (literal (codes "q"))))) no_handlers (at 1 145)) ∷ (body (some (activated (at 1 208))) (at 1 208) (sequence (operation_call (at 1 214) (v 0 0) (record { unit = 1; arguments = ([]); into = None })) (accept (at 1 219) 0 without_do)) no_handlers (at 1 229)) ∷ (body (some (activated (at 1 251))) (at 1 251) (entry_call (at 1 257) (record { callee = (of_task (single (v 0 1))); entry = 0; arguments = ([]); form = plainly }) nothing nothing) (handler false ((Predefined Tasking) ∷ []) (put (at 1 294) (literal (codes "c"))) no_handlers) (at 1 305)) ∷ []);
  barriers = (truth true ∷ []);
}

abbrev pub row : Row
row = record {
  program = program;
  asked = (Ran 4 ∷ Chosen (0 ∷ 0 ∷ 0 ∷ 1 ∷ 2 ∷ 0 ∷ []) ∷ Ran 6 ∷ Tasks ∷ Ran 100 ∷ Output ∷ []);
  told = (((codes "ran 4 more") ∷ []) ∷ ((codes "choices 6") ∷ []) ∷ ((codes "ran 6 more") ∷ []) ∷ ((codes "1 M ready 1") ∷ (codes "2 T ready abnormal 1") ∷ (codes "3 C ready 1") ∷ []) ∷ ((codes "ran 11 ended") ∷ []) ∷ ((codes "bytes 2") ∷ (codes "qc") ∷ []) ∷ []);
}
