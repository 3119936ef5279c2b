-- A barrier raises: Program_Error in all callers of the object.
--     procedure M is protected P is entry A; entry B; procedure Go; private Z : Integer := 1; Open : Boolean :=
--     False; end P; protected body P is entry A when 1 / Z = 2 is begin null; end A; entry B when Open is begin
--     null; end B; procedure Go is begin Z := 0; end Go; end P; task X; task Y; task body X is begin P.A; exception
--     when Program_Error => Put ("x"); end X; task body Y is begin P.B; exception when Program_Error => Put ("y");
--     end Y; begin delay 1.0; P.Go; Put ("m"); end M;
use Rattle.std.specs.Prelude.{pos, [], ◌∷◌, None, false, codes}
use Rattle.aud_text.specs.declared.raise.Raise.TheVariants.{Program as Program_Error}
use Rattle.aud_typed.specs.declared.program.Subtype.TheVariants as subtype
use Rattle.aud_typed.specs.declared.program.Binary.TheVariants.{Quotient}
use Rattle.aud_typed.specs.declared.program.Relation.TheVariants.{Equal}
use Rattle.aud_typed.specs.declared.program.Exception.TheVariants.{Predefined}
use Rattle.aud_typed.specs.Tree.{number, variable, binary, scalar, truth, stored, relation, whole, boolean, literal, milliseconds, of_object, plainly, sequence, declare_tasks, declare_object, activated, activate, null, assign, put, operation_call, entry_call, delay, nothing, some, no_handlers, handler, body, as_whole, as_truth, hidden, Program}
use Rattle.aud_examples.specs.Asking.{at, v, tasks, unit_plan, Ran, Advanced, Output, Row}

abbrev pub program : Program
program = record {
  name = (codes "M");
  plan = record {
    units = (unit_plan 0 0 false (at 1 1) (at 1 473) ∷ unit_plan 2 2 false (at 1 141) (at 1 179) ∷ unit_plan 2 3 false (at 1 186) (at 1 219) ∷ unit_plan 2 4 false (at 1 226) (at 1 256) ∷ unit_plan 1 5 false (at 1 287) (at 1 356) ∷ unit_plan 1 6 false (at 1 363) (at 1 432) ∷ []);
    tasks = (record { unit = 4; entries = ([]) } ∷ record { unit = 5; entries = ([]) } ∷ []);
    objects = (record { name = (codes "P"); level = 1; components = (record { name = (codes "Z"); shown = as_whole } ∷ record { name = (codes "OPEN"); shown = as_truth } ∷ []); entries = (0 ∷ 1 ∷ []) } ∷ []);
    entries = (record { name = (codes "A"); formals = 0; unit = 1 } ∷ record { name = (codes "B"); formals = 0; unit = 2 } ∷ []);
    regions = ((record { name = (codes "P"); shown = hidden 1 } ∷ record { name = (codes "X"); shown = hidden 1 } ∷ record { name = (codes "Y"); shown = hidden 1 } ∷ []) ∷ (record { name = (codes ""); shown = hidden 1 } ∷ record { name = (codes "Z"); shown = as_whole } ∷ record { name = (codes "OPEN"); shown = as_truth } ∷ []) ∷ ([]) ∷ ([]) ∷ ([]) ∷ (record { name = (codes ""); shown = hidden 1 } ∷ []) ∷ (record { name = (codes ""); shown = hidden 1 } ∷ []) ∷ []);
    exceptions = ([]);
  };
  bodies = ((body (some (sequence (declare_object (at 1 16) 0 ((whole subtype.Integer (number (pos 1))) ∷ (boolean (truth false)) ∷ [])) (sequence (declare_tasks (at 1 271) (tasks 0 (codes "X") (pos 0) false 1)) (sequence (declare_tasks (at 1 279) (tasks 1 (codes "Y") (pos 0) false 1)) (activate (at 1 439)))))) (at 1 439) (sequence (delay (at 1 445) (milliseconds 1000)) (sequence (operation_call (at 1 456) (v 0 0) (record { unit = 3; arguments = ([]); into = None })) (put (at 1 462) (literal (codes "m"))))) no_handlers (at 1 473)) ∷ (body nothing (at 1 167) (null (at 1 173)) no_handlers (at 1 179)) ∷ (body nothing (at 1 207) (null (at 1 213)) no_handlers (at 1 219)) ∷ (body nothing (at 1 242) (assign (at 1 248) (scalar (v 1 1) subtype.Integer) (whole subtype.Integer (number (pos 0)))) no_handlers (at 1 256)) ∷ (body (some (activated (at 1 302))) (at 1 302) (entry_call (at 1 308) (record { callee = (of_object (v 0 0)); entry = 0; arguments = ([]); form = plainly }) nothing nothing) (handler false ((Predefined Program_Error) ∷ []) (put (at 1 345) (literal (codes "x"))) no_handlers) (at 1 356)) ∷ (body (some (activated (at 1 378))) (at 1 378) (entry_call (at 1 384) (record { callee = (of_object (v 0 0)); entry = 1; arguments = ([]); form = plainly }) nothing nothing) (handler false ((Predefined Program_Error) ∷ []) (put (at 1 421) (literal (codes "y"))) no_handlers) (at 1 432)) ∷ []);
  barriers = ((relation Equal (binary Quotient (number (pos 1)) (variable (v 1 1))) (number (pos 2))) ∷ (stored (scalar (v 1 2) subtype.Boolean)) ∷ []);
}

abbrev pub row : Row
row = record {
  program = program;
  asked = (Ran 100 ∷ Advanced 1000 ∷ Ran 100 ∷ Output ∷ []);
  told = (((codes "ran 9 waiting 1000") ∷ []) ∷ ((codes "clock 1000") ∷ []) ∷ ((codes "ran 15 ended") ∷ []) ∷ ((codes "bytes 3") ∷ (codes "mxy") ∷ []) ∷ []);
}
