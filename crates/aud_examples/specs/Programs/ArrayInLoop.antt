-- A for loop fills an array, and a procedure with a formal of mode in out adds it up.
--     procedure M is A : array (1 .. 3) of Integer; S : Integer := 0; procedure Add (N : in Integer; T : in out
--     Integer) is begin T := T + N; end Add; begin for I in A'First .. A'Last loop A (I) := I * I; Add (A (I), S);
--     end loop; Put_Line (S'Image); end M;
use Rattle.std.specs.Prelude.{pos, [], ◌∷◌, None, true, false, codes}
use Rattle.aud_typed.specs.declared.program.Subtype.TheVariants as subtype
use Rattle.aud_typed.specs.declared.program.Binary.TheVariants.{Sum, Product}
use Rattle.aud_typed.specs.Tree.{number, variable, element, binary, scalar, component, whole, image, join, new_line, by_value, by_copy, sequence, declare, declare_array, assign, put, for_loop, procedure_call, nothing, some, no_handlers, body, as_whole, as_wholes, hidden, Program}
use Rattle.aud_examples.specs.Asking.{at, v, array, unit_plan, Ran, Output, Row}

abbrev pub program : Program
program = record {
  name = (codes "M");
  plan = record {
    units = (unit_plan 0 0 false (at 1 1) (at 1 246) ∷ unit_plan 1 1 false (at 1 65) (at 1 137) ∷ []);
    tasks = ([]);
    objects = ([]);
    entries = ([]);
    regions = ((record { name = (codes "A"); shown = as_wholes 3 } ∷ record { name = (codes "S"); shown = as_whole } ∷ []) ∷ (record { name = (codes "N"); shown = as_whole } ∷ record { name = (codes "T"); shown = as_whole } ∷ []) ∷ (record { name = (codes "I"); shown = as_whole } ∷ record { name = (codes ""); shown = hidden 1 } ∷ []) ∷ []);
    exceptions = ([]);
  };
  bodies = ((body (some (sequence (declare_array (at 1 16) subtype.Integer 3) (declare (at 1 47) 2 (whole subtype.Integer (number (pos 0)))))) (at 1 146) (sequence (for_loop (record { at = (at 1 152); next_at = (at 1 152); region = 2; backward = false }) (number (pos 1)) (number (pos 3)) (sequence (assign (at 1 184) (component (array 0 0 (pos 1) 3) (variable (v 1 0)) subtype.Integer) (whole subtype.Integer (binary Product (variable (v 1 0)) (variable (v 1 0))))) (procedure_call (at 1 200) (record { unit = 1; arguments = (by_value (whole subtype.Integer (element (array 0 0 (pos 1) 3) (variable (v 1 0)))) ∷ by_copy true subtype.Integer (scalar (v 0 3) subtype.Integer) ∷ []); into = None })))) (put (at 1 226) (join (image (variable (v 0 3))) new_line))) no_handlers (at 1 246)) ∷ (body nothing (at 1 119) (assign (at 1 125) (scalar (v 1 1) subtype.Integer) (whole subtype.Integer (binary Sum (variable (v 1 1)) (variable (v 1 0))))) no_handlers (at 1 137)) ∷ []);
  barriers = ([]);
}

abbrev pub row : Row
row = record {
  program = program;
  asked = (Ran 100 ∷ Output ∷ []);
  told = (((codes "ran 21 ended") ∷ []) ∷ ((codes "bytes 4") ∷ (codes " 14") ∷ []) ∷ []);
}
