-- A selective accept with no open alternative: Program_Error.
--     procedure M is task S is entry E; end S; task body S is begin select when False => accept E; end select;
--     exception when Program_Error => Put ("pe"); end S; begin null; end M;
use Rattle.std.specs.Prelude.{pos, [], ◌∷◌, true, false, codes}
use Rattle.aud_text.specs.declared.raise.Raise.TheVariants.{Program as Program_Error}
use Rattle.aud_typed.specs.declared.program.Exception.TheVariants.{Predefined}
use Rattle.aud_typed.specs.Tree.{truth, literal, sequence, declare_tasks, activated, activate, null, put, select, nothing, some, no_handlers, handler, body, without_do, no_alternatives, accepting, hidden, Program}
use Rattle.aud_examples.specs.Asking.{at, tasks, unit_plan, Ran, Output, Row}

abbrev pub program : Program
program = record {
  name = (codes "M");
  plan = record {
    units = (unit_plan 0 0 false (at 1 1) (at 1 169) ∷ unit_plan 1 1 false (at 1 42) (at 1 150) ∷ []);
    tasks = (record { unit = 1; entries = (0 ∷ []) } ∷ []);
    objects = ([]);
    entries = (record { name = (codes "E"); formals = 0; unit = 0 } ∷ []);
    regions = ((record { name = (codes "S"); shown = hidden 1 } ∷ []) ∷ (record { name = (codes ""); shown = hidden 1 } ∷ []) ∷ ([]) ∷ []);
    exceptions = ([]);
  };
  bodies = ((body (some (sequence (declare_tasks (at 1 16) (tasks 0 (codes "S") (pos 0) false 1)) (activate (at 1 157)))) (at 1 157) (null (at 1 163)) no_handlers (at 1 169)) ∷ (body (some (activated (at 1 57))) (at 1 57) (select (at 1 63) (accepting (truth false) (at 1 84) 0 without_do nothing no_alternatives) nothing) (handler false ((Predefined Program_Error) ∷ []) (put (at 1 138) (literal (codes "pe"))) no_handlers) (at 1 150)) ∷ []);
  barriers = (truth true ∷ []);
}

abbrev pub row : Row
row = record {
  program = program;
  asked = (Ran 100 ∷ Output ∷ []);
  told = (((codes "ran 11 ended") ∷ []) ∷ ((codes "bytes 2") ∷ (codes "pe") ∷ []) ∷ []);
}
