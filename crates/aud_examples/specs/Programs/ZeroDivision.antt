-- A division by zero ends the program.
--     procedure M is begin Put_Line (Integer'Image (1 / 0)); end M;
use Rattle.std.specs.Prelude.{pos, [], ◌∷◌, false, codes}
use Rattle.aud_typed.specs.declared.program.Binary.TheVariants.{Quotient}
use Rattle.aud_typed.specs.Tree.{number, binary, image, join, new_line, put, nothing, no_handlers, body, Program}
use Rattle.aud_examples.specs.Asking.{at, unit_plan, Ran, Output, Row}

abbrev pub program : Program
program = record {
  name = (codes "M");
  plan = record {
    units = (unit_plan 0 0 false (at 1 1) (at 1 56) ∷ []);
    tasks = ([]);
    objects = ([]);
    entries = ([]);
    regions = (([]) ∷ []);
    exceptions = ([]);
  };
  bodies = ((body nothing (at 1 16) (put (at 1 22) (join (image (binary Quotient (number (pos 1)) (number (pos 0)))) new_line)) no_handlers (at 1 56)) ∷ []);
  barriers = ([]);
}

abbrev pub row : Row
row = record {
  program = program;
  asked = (Ran 9 ∷ Output ∷ []);
  told = (((codes "ran 3 ended") ∷ (codes "main raised CONSTRAINT_ERROR") ∷ []) ∷ ((codes "bytes 0") ∷ []) ∷ []);
}
