-- A block with a task in a loop, left by exit.
--     procedure M is begin for I in 1 .. 2 loop declare task T; task body T is begin Put (Integer'Image (I)); end T;
--     begin exit; end; end loop; end M;
use Rattle.std.specs.Prelude.{pos, [], ◌∷◌, true, false, codes}
use Rattle.aud_typed.specs.Tree.{number, variable, truth, image, sequence, declare_tasks, activated, activate, put, for_loop, exit, block, nothing, some, no_handlers, body, as_whole, hidden, Program}
use Rattle.aud_examples.specs.Asking.{at, v, tasks, unit_plan, Ran, Output, Row}

abbrev pub program : Program
program = record {
  name = (codes "M");
  plan = record {
    units = (unit_plan 0 0 false (at 1 1) (at 1 139) ∷ unit_plan 3 3 false (at 1 59) (at 1 105) ∷ []);
    tasks = (record { unit = 1; entries = ([]) } ∷ []);
    objects = ([]);
    entries = ([]);
    regions = (([]) ∷ (record { name = (codes "I"); shown = as_whole } ∷ record { name = (codes ""); shown = hidden 1 } ∷ []) ∷ (record { name = (codes "T"); shown = hidden 1 } ∷ []) ∷ (record { name = (codes ""); shown = hidden 1 } ∷ []) ∷ []);
    exceptions = ([]);
  };
  bodies = ((body nothing (at 1 16) (for_loop (record { at = (at 1 22); next_at = (at 1 22); region = 1; backward = false }) (number (pos 1)) (number (pos 2)) (block (at 1 43) 2 (body (some (sequence (declare_tasks (at 1 51) (tasks 0 (codes "T") (pos 0) false 1)) (activate (at 1 112)))) (at 1 112) (exit (at 1 118) 0 (truth true)) no_handlers (at 1 124)))) no_handlers (at 1 139)) ∷ (body (some (activated (at 1 74))) (at 1 74) (put (at 1 80) (image (variable (v 1 0)))) no_handlers (at 1 105)) ∷ []);
  barriers = ([]);
}

abbrev pub row : Row
row = record {
  program = program;
  asked = (Ran 100 ∷ Output ∷ []);
  told = (((codes "ran 12 ended") ∷ []) ∷ ((codes "bytes 2") ∷ (codes " 1") ∷ []) ∷ []);
}
