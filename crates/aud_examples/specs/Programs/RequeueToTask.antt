-- An accept makes its call again on another entry, with what it has done to the formal.
--     procedure M is task S is entry A (N : in out Integer); entry B (N : in out Integer); end S; V : Integer := 1;
--     task body S is begin accept A (N : in out Integer) do N := N + 1; requeue B; end A; accept B (N : in out
--     Integer) do N := N * 10; end B; end S; begin S.A (V); Put (V'Image); end M;
use Rattle.std.specs.Prelude.{pos, [], ◌∷◌, true, false, codes}
use Rattle.aud_typed.specs.declared.program.Binary.TheVariants.{Sum, Product}
use Rattle.aud_typed.specs.declared.program.Subtype.TheVariants as subtype
use Rattle.aud_typed.specs.Tree.{number, variable, binary, scalar, single, truth, whole, image, by_copy, of_task, plainly, sequence, declare, declare_tasks, activated, activate, assign, put, entry_call, accept, requeue, nothing, some, no_handlers, body, with_do, as_whole, hidden, Program}
use Rattle.aud_examples.specs.Asking.{at, v, tasks, unit_plan, Ran, Queues, Output, Row}

abbrev pub program : Program
program = record {
  name = (codes "M");
  plan = record {
    units = (unit_plan 0 0 false (at 1 1) (at 1 285) ∷ unit_plan 1 1 false (at 1 111) (at 1 248) ∷ []);
    tasks = (record { unit = 1; entries = (0 ∷ 1 ∷ []) } ∷ []);
    objects = ([]);
    entries = (record { name = (codes "A"); formals = 1; unit = 0 } ∷ record { name = (codes "B"); formals = 1; unit = 0 } ∷ []);
    regions = ((record { name = (codes "S"); shown = hidden 1 } ∷ record { name = (codes "V"); shown = as_whole } ∷ []) ∷ (record { name = (codes ""); shown = hidden 1 } ∷ []) ∷ (record { name = (codes "N"); shown = as_whole } ∷ []) ∷ (record { name = (codes "N"); shown = as_whole } ∷ []) ∷ []);
    exceptions = ([]);
  };
  bodies = ((body (some (sequence (declare_tasks (at 1 16) (tasks 0 (codes "S") (pos 0) false 1)) (sequence (declare (at 1 93) 2 (whole subtype.Integer (number (pos 1)))) (activate (at 1 255))))) (at 1 255) (sequence (entry_call (at 1 261) (record { callee = (of_task (single (v 0 0))); entry = 0; arguments = (by_copy true subtype.Integer (scalar (v 0 1) subtype.Integer) ∷ []); form = plainly }) nothing nothing) (put (at 1 270) (image (variable (v 0 1))))) no_handlers (at 1 285)) ∷ (body (some (activated (at 1 126))) (at 1 126) (sequence (accept (at 1 132) 0 (with_do 2 (body nothing (at 1 132) (sequence (assign (at 1 165) (scalar (v 2 0) subtype.Integer) (whole subtype.Integer (binary Sum (variable (v 2 0)) (number (pos 1))))) (requeue (at 1 177) (record { callee = (of_task (single (v 0 0))); entry = 1; with_formals = true; with_abort = false }))) no_handlers (at 1 188)))) (accept (at 1 195) 1 (with_do 3 (body nothing (at 1 195) (assign (at 1 228) (scalar (v 2 0) subtype.Integer) (whole subtype.Integer (binary Product (variable (v 2 0)) (number (pos 10))))) no_handlers (at 1 241))))) no_handlers (at 1 248)) ∷ []);
  barriers = (truth true ∷ truth true ∷ []);
}

abbrev pub row : Row
row = record {
  program = program;
  asked = (Ran 9 ∷ Queues ∷ Ran 100 ∷ Output ∷ []);
  told = (((codes "ran 9 more") ∷ []) ∷ ((codes "task 2 S.B: 1") ∷ []) ∷ ((codes "ran 8 ended") ∷ []) ∷ ((codes "bytes 3") ∷ (codes " 20") ∷ []) ∷ []);
}
