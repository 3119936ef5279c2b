-- An exception leaves an accept: both sides have it.
--     procedure M is V : Integer := 5; task S is entry E (X : out Integer); end S; task body S is begin accept E (X
--     : out Integer) do X := 9; raise Program_Error; end E; exception when Program_Error => Put_Line ("acc"); end S;
--     begin S.E (V); exception when Program_Error => Put_Line ("call" & V'Image); end M;
use Rattle.std.specs.Prelude.{pos, [], ◌∷◌, true, false, codes}
use Rattle.aud_text.specs.declared.raise.Raise.TheVariants.{Program as Program_Error}
use Rattle.aud_typed.specs.declared.program.Subtype.TheVariants as subtype
use Rattle.aud_typed.specs.declared.program.Exception.TheVariants.{Predefined}
use Rattle.aud_typed.specs.Tree.{number, variable, scalar, single, truth, whole, literal, image, join, new_line, by_copy, of_task, plainly, sequence, declare, declare_tasks, activated, activate, assign, put, raising, entry_call, accept, nothing, some, no_handlers, handler, body, with_do, as_whole, hidden, Program}
use Rattle.aud_examples.specs.Asking.{at, v, tasks, unit_plan, Ran, Output, Row}

abbrev pub program : Program
program = record {
  name = (codes "M");
  plan = record {
    units = (unit_plan 0 0 false (at 1 1) (at 1 298) ∷ unit_plan 1 1 false (at 1 78) (at 1 215) ∷ []);
    tasks = (record { unit = 1; entries = (0 ∷ []) } ∷ []);
    objects = ([]);
    entries = (record { name = (codes "E"); formals = 1; unit = 0 } ∷ []);
    regions = ((record { name = (codes "V"); shown = as_whole } ∷ record { name = (codes "S"); shown = hidden 1 } ∷ []) ∷ (record { name = (codes ""); shown = hidden 1 } ∷ []) ∷ (record { name = (codes "X"); shown = as_whole } ∷ []) ∷ []);
    exceptions = ([]);
  };
  bodies = ((body (some (sequence (declare (at 1 16) 1 (whole subtype.Integer (number (pos 5)))) (sequence (declare_tasks (at 1 34) (tasks 0 (codes "S") (pos 0) false 1)) (activate (at 1 222))))) (at 1 222) (entry_call (at 1 228) (record { callee = (of_task (single (v 0 1))); entry = 0; arguments = (by_copy false subtype.Integer (scalar (v 0 0) subtype.Integer) ∷ []); form = plainly }) nothing nothing) (handler false ((Predefined Program_Error) ∷ []) (put (at 1 269) (join (join (literal (codes "call")) (image (variable (v 0 0)))) new_line)) no_handlers) (at 1 298)) ∷ (body (some (activated (at 1 93))) (at 1 93) (accept (at 1 99) 0 (with_do 2 (body nothing (at 1 99) (sequence (assign (at 1 129) (scalar (v 2 0) subtype.Integer) (whole subtype.Integer (number (pos 9)))) (raising (at 1 137) (Predefined Program_Error))) no_handlers (at 1 158)))) (handler false ((Predefined Program_Error) ∷ []) (put (at 1 197) (join (literal (codes "acc")) new_line)) no_handlers) (at 1 215)) ∷ []);
  barriers = (truth true ∷ []);
}

abbrev pub row : Row
row = record {
  program = program;
  asked = (Ran 100 ∷ Output ∷ []);
  told = (((codes "ran 17 ended") ∷ []) ∷ ((codes "bytes 11") ∷ (codes "call 5") ∷ (codes "acc") ∷ []) ∷ []);
}
