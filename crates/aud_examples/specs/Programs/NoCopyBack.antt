-- An exception leaves a procedure: its out formal is not copied back.
--     procedure M is V : Integer := 1; procedure Q (X : out Integer) is begin X := 5; raise Constraint_Error; end Q;
--     begin Q (V); exception when others => Put_Line (V'Image); end M;
use Rattle.std.specs.Prelude.{pos, [], ◌∷◌, None, true, false, codes}
use Rattle.aud_text.specs.declared.raise.Raise.TheVariants.{Constraint}
use Rattle.aud_typed.specs.declared.program.Subtype.TheVariants as subtype
use Rattle.aud_typed.specs.declared.program.Exception.TheVariants.{Predefined}
use Rattle.aud_typed.specs.Tree.{number, variable, scalar, whole, image, join, new_line, by_copy, sequence, declare, assign, put, raising, procedure_call, nothing, some, no_handlers, handler, body, as_whole, Program}
use Rattle.aud_examples.specs.Asking.{at, v, unit_plan, Ran, Output, Row}

abbrev pub program : Program
program = record {
  name = (codes "M");
  plan = record {
    units = (unit_plan 0 0 false (at 1 1) (at 1 170) ∷ unit_plan 1 1 false (at 1 34) (at 1 105) ∷ []);
    tasks = ([]);
    objects = ([]);
    entries = ([]);
    regions = ((record { name = (codes "V"); shown = as_whole } ∷ []) ∷ (record { name = (codes "X"); shown = as_whole } ∷ []) ∷ []);
    exceptions = ([]);
  };
  bodies = ((body (some (declare (at 1 16) 1 (whole subtype.Integer (number (pos 1))))) (at 1 112) (procedure_call (at 1 118) (record { unit = 1; arguments = (by_copy false subtype.Integer (scalar (v 0 0) subtype.Integer) ∷ []); into = None })) (handler true ([]) (put (at 1 150) (join (image (variable (v 0 0))) new_line)) no_handlers) (at 1 170)) ∷ (body nothing (at 1 67) (sequence (assign (at 1 73) (scalar (v 1 0) subtype.Integer) (whole subtype.Integer (number (pos 5)))) (raising (at 1 81) (Predefined Constraint))) no_handlers (at 1 105)) ∷ []);
  barriers = ([]);
}

abbrev pub row : Row
row = record {
  program = program;
  asked = (Ran 100 ∷ Output ∷ []);
  told = (((codes "ran 9 ended") ∷ []) ∷ ((codes "bytes 3") ∷ (codes " 1") ∷ []) ∷ []);
}
