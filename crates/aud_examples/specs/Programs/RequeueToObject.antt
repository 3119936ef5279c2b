-- A timed call is made again on an entry whose barrier stays closed: with abort it is given up at its time, without it never.
--     procedure M is protected P is entry A; entry B; private Open : Boolean := False; end P; protected body P is
--     entry A when True is begin requeue B with abort; end A; entry B when Open is begin null; end B; end P; begin
--     select P.A; Put ("met"); or delay 0.5; Put ("late"); end select; end M;
use Rattle.std.specs.Prelude.{[], ◌∷◌, Bool, true, false, codes}
use Rattle.aud_typed.specs.declared.program.Subtype.TheVariants as subtype
use Rattle.aud_typed.specs.Tree.{scalar, truth, stored, boolean, literal, milliseconds, of_object, timed, declare_object, null, put, entry_call, requeue, nothing, some, no_handlers, body, as_truth, hidden, Program}
use Rattle.aud_examples.specs.Asking.{at, v, unit_plan, Ran, Advanced, Output, Row}

abbrev pub program : Bool → Program
program with_abort = record {
  name = (codes "M");
  plan = record {
    units = (unit_plan 0 0 false (at 1 1) (at 1 283) ∷ unit_plan 2 2 false (at 1 109) (at 1 158) ∷ unit_plan 2 3 false (at 1 165) (at 1 198) ∷ []);
    tasks = ([]);
    objects = (record { name = (codes "P"); level = 1; components = (record { name = (codes "OPEN"); shown = as_truth } ∷ []); entries = (0 ∷ 1 ∷ []) } ∷ []);
    entries = (record { name = (codes "A"); formals = 0; unit = 1 } ∷ record { name = (codes "B"); formals = 0; unit = 2 } ∷ []);
    regions = ((record { name = (codes "P"); shown = hidden 1 } ∷ []) ∷ (record { name = (codes ""); shown = hidden 1 } ∷ record { name = (codes "OPEN"); shown = as_truth } ∷ []) ∷ ([]) ∷ ([]) ∷ []);
    exceptions = ([]);
  };
  bodies = ((body (some (declare_object (at 1 16) 0 ((boolean (truth false)) ∷ []))) (at 1 212) (entry_call (at 1 218) (record { callee = (of_object (v 0 0)); entry = 0; arguments = ([]); form = (timed (milliseconds 500)) }) (some (put (at 1 230) (literal (codes "met")))) (some (put (at 1 257) (literal (codes "late"))))) no_handlers (at 1 283)) ∷ (body nothing (at 1 130) (requeue (at 1 136) (record { callee = (of_object (v 1 0)); entry = 1; with_formals = false; with_abort = with_abort })) no_handlers (at 1 158)) ∷ (body nothing (at 1 186) (null (at 1 192)) no_handlers (at 1 198)) ∷ []);
  barriers = (truth true ∷ (stored (scalar (v 1 1) subtype.Boolean)) ∷ []);
}

abbrev pub row : Row
row = record {
  program = program true;
  asked = (Ran 100 ∷ Advanced 500 ∷ Ran 100 ∷ Output ∷ []);
  told = (((codes "ran 4 waiting 500") ∷ []) ∷ ((codes "clock 500") ∷ []) ∷ ((codes "ran 4 ended") ∷ []) ∷ ((codes "bytes 4") ∷ (codes "late") ∷ []) ∷ []);
}

abbrev pub staying : Row
staying = record {
  program = program false;
  asked = (Ran 100 ∷ Advanced 500 ∷ Ran 100 ∷ []);
  told = (((codes "ran 4 stuck") ∷ []) ∷ ((codes "clock 500") ∷ []) ∷ ((codes "ran 0 stuck") ∷ []) ∷ []);
}
