-- Choices pick among the moves of three tasks.
--     procedure M is task A; task B; task body A is begin Put ("a"); end A; task body B is begin Put ("b"); end B;
--     begin null; end M;
use Rattle.std.specs.Prelude.{pos, [], ◌∷◌, false, codes}
use Rattle.aud_typed.specs.Tree.{literal, sequence, declare_tasks, activated, activate, null, put, some, no_handlers, body, hidden, Program}
use Rattle.aud_examples.specs.Asking.{at, tasks, unit_plan, Ran, Chosen, Output, Row}

abbrev pub program : Program
program = record {
  name = (codes "M");
  plan = record {
    units = (unit_plan 0 0 false (at 1 1) (at 1 122) ∷ unit_plan 1 1 false (at 1 32) (at 1 64) ∷ unit_plan 1 2 false (at 1 71) (at 1 103) ∷ []);
    tasks = (record { unit = 1; entries = ([]) } ∷ record { unit = 2; entries = ([]) } ∷ []);
    objects = ([]);
    entries = ([]);
    regions = ((record { name = (codes "A"); shown = hidden 1 } ∷ record { name = (codes "B"); shown = hidden 1 } ∷ []) ∷ (record { name = (codes ""); shown = hidden 1 } ∷ []) ∷ (record { name = (codes ""); shown = hidden 1 } ∷ []) ∷ []);
    exceptions = ([]);
  };
  bodies = ((body (some (sequence (declare_tasks (at 1 16) (tasks 0 (codes "A") (pos 0) false 1)) (sequence (declare_tasks (at 1 24) (tasks 1 (codes "B") (pos 0) false 1)) (activate (at 1 110))))) (at 1 110) (null (at 1 116)) no_handlers (at 1 122)) ∷ (body (some (activated (at 1 47))) (at 1 47) (put (at 1 53) (literal (codes "a"))) no_handlers (at 1 64)) ∷ (body (some (activated (at 1 86))) (at 1 86) (put (at 1 92) (literal (codes "b"))) no_handlers (at 1 103)) ∷ []);
  barriers = ([]);
}

abbrev pub row : Row
row = record {
  program = program;
  asked = (Chosen (1 ∷ 1 ∷ []) ∷ Ran 100 ∷ Output ∷ []);
  told = (((codes "choices 2") ∷ []) ∷ ((codes "ran 14 ended") ∷ []) ∷ ((codes "bytes 2") ∷ (codes "ba") ∷ []) ∷ []);
}
