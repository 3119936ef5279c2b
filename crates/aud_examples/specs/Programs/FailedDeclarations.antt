-- An exception in a declarative part: the task that it created never runs.
--     procedure M is begin declare task T; task body T is begin Put ("t"); end T; X : Integer := Integer'Last + 1;
--     begin null; end; exception when Constraint_Error => Put ("c"); end M;
use Rattle.std.specs.Prelude.{pos, [], ◌∷◌, false, codes}
use Rattle.aud_text.specs.declared.raise.Raise.TheVariants.{Constraint}
use Rattle.aud_typed.specs.declared.program.Subtype.TheVariants as subtype
use Rattle.aud_typed.specs.declared.program.Binary.TheVariants.{Sum}
use Rattle.aud_typed.specs.declared.program.Exception.TheVariants.{Predefined}
use Rattle.aud_typed.specs.Tree.{number, binary, whole, literal, sequence, declare, declare_tasks, activated, activate, null, put, block, nothing, some, no_handlers, handler, body, as_whole, hidden, Program}
use Rattle.aud_examples.specs.Asking.{at, tasks, unit_plan, Ran, Output, Row}

abbrev pub program : Program
program = record {
  name = (codes "M");
  plan = record {
    units = (unit_plan 0 0 false (at 1 1) (at 1 173) ∷ unit_plan 2 2 false (at 1 38) (at 1 70) ∷ []);
    tasks = (record { unit = 1; entries = ([]) } ∷ []);
    objects = ([]);
    entries = ([]);
    regions = (([]) ∷ (record { name = (codes "T"); shown = hidden 1 } ∷ record { name = (codes "X"); shown = as_whole } ∷ []) ∷ (record { name = (codes ""); shown = hidden 1 } ∷ []) ∷ []);
    exceptions = ([]);
  };
  bodies = ((body nothing (at 1 16) (block (at 1 22) 1 (body (some (sequence (declare_tasks (at 1 30) (tasks 0 (codes "T") (pos 0) false 1)) (sequence (declare (at 1 77) 2 (whole subtype.Integer (binary Sum (number (pos 2147483647)) (number (pos 1))))) (activate (at 1 110))))) (at 1 110) (null (at 1 116)) no_handlers (at 1 122))) (handler false ((Predefined Constraint) ∷ []) (put (at 1 162) (literal (codes "c"))) no_handlers) (at 1 173)) ∷ (body (some (activated (at 1 53))) (at 1 53) (put (at 1 59) (literal (codes "t"))) no_handlers (at 1 70)) ∷ []);
  barriers = ([]);
}

abbrev pub row : Row
row = record {
  program = program;
  asked = (Ran 100 ∷ Output ∷ []);
  told = (((codes "ran 8 ended") ∷ []) ∷ ((codes "bytes 1") ∷ (codes "c") ∷ []) ∷ []);
}
