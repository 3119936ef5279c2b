-- A variable is declared, assigned and put out.
--     procedure M is X : Integer := 40; begin X := X + 2; Put_Line ("x" & X'Image); end M;
use Rattle.std.specs.Prelude.{pos, [], ◌∷◌, false, codes}
use Rattle.aud_typed.specs.declared.program.Subtype.TheVariants as subtype
use Rattle.aud_typed.specs.declared.program.Binary.TheVariants.{Sum}
use Rattle.aud_typed.specs.Tree.{number, variable, binary, scalar, whole, literal, image, join, new_line, sequence, declare, assign, put, some, no_handlers, body, as_whole, Program}
use Rattle.aud_examples.specs.Asking.{at, v, unit_plan, Ran, Output, Row}

abbrev pub program : Program
program = record {
  name = (codes "M");
  plan = record {
    units = (unit_plan 0 0 false (at 1 1) (at 1 79) ∷ []);
    tasks = ([]);
    objects = ([]);
    entries = ([]);
    regions = ((record { name = (codes "X"); shown = as_whole } ∷ []) ∷ []);
    exceptions = ([]);
  };
  bodies = ((body (some (declare (at 1 16) 1 (whole subtype.Integer (number (pos 40))))) (at 1 35) (sequence (assign (at 1 41) (scalar (v 0 0) subtype.Integer) (whole subtype.Integer (binary Sum (variable (v 0 0)) (number (pos 2))))) (put (at 1 53) (join (join (literal (codes "x")) (image (variable (v 0 0)))) new_line))) no_handlers (at 1 79)) ∷ []);
  barriers = ([]);
}

abbrev pub row : Row
row = record {
  program = program;
  asked = (Ran 100 ∷ Output ∷ []);
  told = (((codes "ran 5 ended") ∷ []) ∷ ((codes "bytes 5") ∷ (codes "x 42") ∷ []) ∷ []);
}
