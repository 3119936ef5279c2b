-- The declarative part of one of two tasks raises: Tasking_Error in the activator.
--     procedure M is task A; task B; task body A is Z : Integer := 0; X : Integer := 1 / Z; begin null; end A; task
--     body B is begin Put_Line ("b"); end B; begin Put_Line ("no"); exception when Tasking_Error => Put_Line ("te");
--     end M;
use Rattle.std.specs.Prelude.{pos, [], ◌∷◌, false, codes}
use Rattle.aud_text.specs.declared.raise.Raise.TheVariants.{Tasking}
use Rattle.aud_typed.specs.declared.program.Subtype.TheVariants as subtype
use Rattle.aud_typed.specs.declared.program.Binary.TheVariants.{Quotient}
use Rattle.aud_typed.specs.declared.program.Exception.TheVariants.{Predefined}
use Rattle.aud_typed.specs.Tree.{number, variable, binary, whole, literal, join, new_line, sequence, declare, declare_tasks, activated, activate, null, put, some, no_handlers, handler, body, as_whole, hidden, Program}
use Rattle.aud_examples.specs.Asking.{at, v, tasks, unit_plan, Ran, Output, Row}

abbrev pub program : Program
program = record {
  name = (codes "M");
  plan = record {
    units = (unit_plan 0 0 false (at 1 1) (at 1 222) ∷ unit_plan 1 1 false (at 1 32) (at 1 99) ∷ unit_plan 1 2 false (at 1 106) (at 1 143) ∷ []);
    tasks = (record { unit = 1; entries = ([]) } ∷ record { unit = 2; entries = ([]) } ∷ []);
    objects = ([]);
    entries = ([]);
    regions = ((record { name = (codes "A"); shown = hidden 1 } ∷ record { name = (codes "B"); shown = hidden 1 } ∷ []) ∷ (record { name = (codes ""); shown = hidden 1 } ∷ record { name = (codes "Z"); shown = as_whole } ∷ record { name = (codes "X"); shown = as_whole } ∷ []) ∷ (record { name = (codes ""); shown = hidden 1 } ∷ []) ∷ []);
    exceptions = ([]);
  };
  bodies = ((body (some (sequence (declare_tasks (at 1 16) (tasks 0 (codes "A") (pos 0) false 1)) (sequence (declare_tasks (at 1 24) (tasks 1 (codes "B") (pos 0) false 1)) (activate (at 1 150))))) (at 1 150) (put (at 1 156) (join (literal (codes "no")) new_line)) (handler false ((Predefined Tasking) ∷ []) (put (at 1 205) (join (literal (codes "te")) new_line)) no_handlers) (at 1 222)) ∷ (body (some (sequence (declare (at 1 47) 2 (whole subtype.Integer (number (pos 0)))) (sequence (declare (at 1 65) 3 (whole subtype.Integer (binary Quotient (number (pos 1)) (variable (v 1 1))))) (activated (at 1 87))))) (at 1 87) (null (at 1 93)) no_handlers (at 1 99)) ∷ (body (some (activated (at 1 121))) (at 1 121) (put (at 1 127) (join (literal (codes "b")) new_line)) no_handlers (at 1 143)) ∷ []);
  barriers = ([]);
}

abbrev pub row : Row
row = record {
  program = program;
  asked = (Ran 100 ∷ Output ∷ []);
  told = (((codes "ran 15 ended") ∷ []) ∷ ((codes "bytes 5") ∷ (codes "te") ∷ (codes "b") ∷ []) ∷ []);
}
