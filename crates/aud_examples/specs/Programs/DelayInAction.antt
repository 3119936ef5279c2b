-- A delay within a protected action: Program_Error.
--     procedure M is protected P is procedure Q; end P; protected body P is procedure Q is begin delay 1.0; end Q;
--     end P; begin P.Q; exception when Program_Error => Put ("pe"); end M;
use Rattle.std.specs.Prelude.{[], ◌∷◌, None, false, codes}
use Rattle.aud_text.specs.declared.raise.Raise.TheVariants.{Program as Program_Error}
use Rattle.aud_typed.specs.declared.program.Exception.TheVariants.{Predefined}
use Rattle.aud_typed.specs.Tree.{literal, milliseconds, declare_object, put, operation_call, delay, nothing, some, no_handlers, handler, body, hidden, Program}
use Rattle.aud_examples.specs.Asking.{at, v, unit_plan, Ran, Output, Row}

abbrev pub program : Program
program = record {
  name = (codes "M");
  plan = record {
    units = (unit_plan 0 0 false (at 1 1) (at 1 172) ∷ unit_plan 2 2 false (at 1 71) (at 1 103) ∷ []);
    tasks = ([]);
    objects = (record { name = (codes "P"); level = 1; components = ([]); entries = ([]) } ∷ []);
    entries = ([]);
    regions = ((record { name = (codes "P"); shown = hidden 1 } ∷ []) ∷ (record { name = (codes ""); shown = hidden 1 } ∷ []) ∷ ([]) ∷ []);
    exceptions = ([]);
  };
  bodies = ((body (some (declare_object (at 1 16) 0 ([]))) (at 1 117) (operation_call (at 1 123) (v 0 0) (record { unit = 1; arguments = ([]); into = None })) (handler false ((Predefined Program_Error) ∷ []) (put (at 1 160) (literal (codes "pe"))) no_handlers) (at 1 172)) ∷ (body nothing (at 1 86) (delay (at 1 92) (milliseconds 1000)) no_handlers (at 1 103)) ∷ []);
  barriers = ([]);
}

abbrev pub row : Row
row = record {
  program = program;
  asked = (Ran 100 ∷ Output ∷ []);
  told = (((codes "ran 8 ended") ∷ []) ∷ ((codes "bytes 2") ∷ (codes "pe") ∷ []) ∷ []);
}
