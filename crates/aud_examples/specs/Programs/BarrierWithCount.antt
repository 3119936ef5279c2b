-- A barrier counts the callers of its own entry.
--     procedure M is protected G is entry Wait; private Released : Boolean := False; end G; protected body G is
--     entry Wait when Wait'Count = 3 or Released is begin Released := Wait'Count > 0; end Wait; end G; task type T;
--     A : array (1 .. 3) of T; task body T is begin G.Wait; Put ("x"); end T; begin null; end M;
use Rattle.std.specs.Prelude.{pos, [], ◌∷◌, true, false, codes}
use Rattle.aud_typed.specs.declared.program.Subtype.TheVariants as subtype
use Rattle.aud_typed.specs.declared.program.Relation.TheVariants.{Equal, Greater}
use Rattle.aud_typed.specs.declared.program.Logical.TheVariants.{Or}
use Rattle.aud_typed.specs.Tree.{number, count, scalar, truth, stored, relation, logical, boolean, literal, of_object, plainly, sequence, declare_tasks, declare_object, activated, activate, null, assign, put, entry_call, nothing, some, no_handlers, body, as_truth, hidden, Program}
use Rattle.aud_examples.specs.Asking.{at, v, tasks, unit_plan, Ran, Queues, Output, Row}

abbrev pub program : Program
program = record {
  name = (codes "M");
  plan = record {
    units = (unit_plan 0 0 false (at 1 1) (at 1 301) ∷ unit_plan 2 2 false (at 1 107) (at 1 187) ∷ unit_plan 1 3 false (at 1 242) (at 1 282) ∷ []);
    tasks = (record { unit = 2; entries = ([]) } ∷ []);
    objects = (record { name = (codes "G"); level = 1; components = (record { name = (codes "RELEASED"); shown = as_truth } ∷ []); entries = (0 ∷ []) } ∷ []);
    entries = (record { name = (codes "WAIT"); formals = 0; unit = 1 } ∷ []);
    regions = ((record { name = (codes "G"); shown = hidden 1 } ∷ record { name = (codes "A"); shown = hidden 3 } ∷ []) ∷ (record { name = (codes ""); shown = hidden 1 } ∷ record { name = (codes "RELEASED"); shown = as_truth } ∷ []) ∷ ([]) ∷ (record { name = (codes ""); shown = hidden 1 } ∷ []) ∷ []);
    exceptions = ([]);
  };
  bodies = ((body (some (sequence (declare_object (at 1 16) 0 ((boolean (truth false)) ∷ [])) (sequence (declare_tasks (at 1 217) (tasks 0 (codes "A") (pos 1) true 3)) (activate (at 1 289))))) (at 1 289) (null (at 1 295)) no_handlers (at 1 301)) ∷ (body nothing (at 1 153) (assign (at 1 159) (scalar (v 1 1) subtype.Boolean) (boolean (relation Greater (count (v 1 0) 0) (number (pos 0))))) no_handlers (at 1 187)) ∷ (body (some (activated (at 1 257))) (at 1 257) (sequence (entry_call (at 1 263) (record { callee = (of_object (v 0 0)); entry = 0; arguments = ([]); form = plainly }) nothing nothing) (put (at 1 271) (literal (codes "x")))) no_handlers (at 1 282)) ∷ []);
  barriers = ((logical Or (relation Equal (count (v 1 0) 0) (number (pos 3))) (stored (scalar (v 1 1) subtype.Boolean))) ∷ []);
}

abbrev pub row : Row
row = record {
  program = program;
  asked = (Ran 10 ∷ Queues ∷ Ran 100 ∷ Output ∷ []);
  told = (((codes "ran 10 more") ∷ []) ∷ ((codes "object 1 G.WAIT: 2 3") ∷ []) ∷ ((codes "ran 20 ended") ∷ []) ∷ ((codes "bytes 3") ∷ (codes "xxx") ∷ []) ∷ []);
}
