-- A task aborts itself, and completes at once.
--     procedure M is task T; task body T is begin abort T; Put ("x"); end T; begin null; end M;
use Rattle.std.specs.Prelude.{pos, [], ◌∷◌, false, codes}
use Rattle.aud_typed.specs.Tree.{single, literal, sequence, declare_tasks, activated, activate, null, put, abort, some, no_handlers, body, hidden, Program}
use Rattle.aud_examples.specs.Asking.{at, v, tasks, unit_plan, Ran, Output, Row}

abbrev pub program : Program
program = record {
  name = (codes "M");
  plan = record {
    units = (unit_plan 0 0 false (at 1 1) (at 1 84) ∷ unit_plan 1 1 false (at 1 24) (at 1 65) ∷ []);
    tasks = (record { unit = 1; entries = ([]) } ∷ []);
    objects = ([]);
    entries = ([]);
    regions = ((record { name = (codes "T"); shown = hidden 1 } ∷ []) ∷ (record { name = (codes ""); shown = hidden 1 } ∷ []) ∷ []);
    exceptions = ([]);
  };
  bodies = ((body (some (sequence (declare_tasks (at 1 16) (tasks 0 (codes "T") (pos 0) false 1)) (activate (at 1 72)))) (at 1 72) (null (at 1 78)) no_handlers (at 1 84)) ∷ (body (some (activated (at 1 39))) (at 1 39) (sequence (abort (at 1 45) ((single (v 1 0)) ∷ [])) (put (at 1 54) (literal (codes "x")))) no_handlers (at 1 65)) ∷ []);
  barriers = ([]);
}

abbrev pub row : Row
row = record {
  program = program;
  asked = (Ran 100 ∷ Output ∷ []);
  told = (((codes "ran 9 ended") ∷ []) ∷ ((codes "bytes 0") ∷ []) ∷ []);
}
