-- Signs, mod, rem and the order of operators.
--     procedure M is W, X, Y, Z : Integer := 7; begin W := (-W) mod 3; X := -X mod 3; Y := -Y / 2; Z := (-Z) rem 2;
--     Put_Line (W'Image & X'Image & Y'Image & Z'Image); end M;
use Rattle.std.specs.Prelude.{pos, [], ◌∷◌, false, codes}
use Rattle.aud_typed.specs.declared.program.Subtype.TheVariants as subtype
use Rattle.aud_typed.specs.declared.program.Unary.TheVariants.{Negative}
use Rattle.aud_typed.specs.declared.program.Binary.TheVariants.{Quotient, Modulus, Remainder}
use Rattle.aud_typed.specs.Tree.{number, variable, unary, binary, scalar, whole, image, join, new_line, sequence, declare, assign, put, some, no_handlers, body, as_whole, Program}
use Rattle.aud_examples.specs.Asking.{at, v, unit_plan, Ran, Vars, Output, Row}

abbrev pub program : Program
program = record {
  name = (codes "M");
  plan = record {
    units = (unit_plan 0 0 false (at 1 1) (at 1 161) ∷ []);
    tasks = ([]);
    objects = ([]);
    entries = ([]);
    regions = ((record { name = (codes "W"); shown = as_whole } ∷ record { name = (codes "X"); shown = as_whole } ∷ record { name = (codes "Y"); shown = as_whole } ∷ record { name = (codes "Z"); shown = as_whole } ∷ []) ∷ []);
    exceptions = ([]);
  };
  bodies = ((body (some (declare (at 1 16) 4 (whole subtype.Integer (number (pos 7))))) (at 1 43) (sequence (assign (at 1 49) (scalar (v 0 0) subtype.Integer) (whole subtype.Integer (binary Modulus (unary Negative (variable (v 0 0))) (number (pos 3))))) (sequence (assign (at 1 66) (scalar (v 0 1) subtype.Integer) (whole subtype.Integer (unary Negative (binary Modulus (variable (v 0 1)) (number (pos 3)))))) (sequence (assign (at 1 81) (scalar (v 0 2) subtype.Integer) (whole subtype.Integer (unary Negative (binary Quotient (variable (v 0 2)) (number (pos 2)))))) (sequence (assign (at 1 94) (scalar (v 0 3) subtype.Integer) (whole subtype.Integer (binary Remainder (unary Negative (variable (v 0 3))) (number (pos 2))))) (put (at 1 111) (join (join (join (join (image (variable (v 0 0))) (image (variable (v 0 1)))) (image (variable (v 0 2)))) (image (variable (v 0 3)))) new_line)))))) no_handlers (at 1 161)) ∷ []);
  barriers = ([]);
}

abbrev pub row : Row
row = record {
  program = program;
  asked = (Ran 8 ∷ Vars 1 ∷ Ran 100 ∷ Output ∷ []);
  told = (((codes "ran 8 more") ∷ []) ∷ ((codes "1 W = 2") ∷ (codes "1 X = -1") ∷ (codes "1 Y = -3") ∷ (codes "1 Z = -1") ∷ []) ∷ ((codes "ran 3 ended") ∷ []) ∷ ((codes "bytes 9") ∷ (codes " 2-1-3-1") ∷ []) ∷ []);
}
