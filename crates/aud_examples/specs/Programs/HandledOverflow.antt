-- An overflow is handled.
--     procedure M is X : Integer := Integer'Last; begin X := X + 1; exception when Constraint_Error => Put ("over" &
--     X'Image); end M;
use Rattle.std.specs.Prelude.{pos, [], ◌∷◌, false, codes}
use Rattle.aud_text.specs.declared.raise.Raise.TheVariants.{Constraint}
use Rattle.aud_typed.specs.declared.program.Subtype.TheVariants as subtype
use Rattle.aud_typed.specs.declared.program.Binary.TheVariants.{Sum}
use Rattle.aud_typed.specs.declared.program.Exception.TheVariants.{Predefined}
use Rattle.aud_typed.specs.Tree.{number, variable, binary, scalar, whole, literal, image, join, declare, assign, put, some, no_handlers, handler, body, as_whole, Program}
use Rattle.aud_examples.specs.Asking.{at, v, unit_plan, Ran, Output, Row}

abbrev pub program : Program
program = record {
  name = (codes "M");
  plan = record {
    units = (unit_plan 0 0 false (at 1 1) (at 1 122) ∷ []);
    tasks = ([]);
    objects = ([]);
    entries = ([]);
    regions = ((record { name = (codes "X"); shown = as_whole } ∷ []) ∷ []);
    exceptions = ([]);
  };
  bodies = ((body (some (declare (at 1 16) 1 (whole subtype.Integer (number (pos 2147483647))))) (at 1 45) (assign (at 1 51) (scalar (v 0 0) subtype.Integer) (whole subtype.Integer (binary Sum (variable (v 0 0)) (number (pos 1))))) (handler false ((Predefined Constraint) ∷ []) (put (at 1 98) (join (literal (codes "over")) (image (variable (v 0 0))))) no_handlers) (at 1 122)) ∷ []);
  barriers = ([]);
}

abbrev pub row : Row
row = record {
  program = program;
  asked = (Ran 100 ∷ Output ∷ []);
  told = (((codes "ran 6 ended") ∷ []) ∷ ((codes "bytes 15") ∷ (codes "over 2147483647") ∷ []) ∷ []);
}
