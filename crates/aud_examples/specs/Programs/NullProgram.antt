-- A program of one null statement.
--     procedure M is begin null; end M;
use Rattle.std.specs.Prelude.{[], ◌∷◌, false, codes}
use Rattle.aud_typed.specs.Tree.{null, nothing, no_handlers, body, Program}
use Rattle.aud_examples.specs.Asking.{at, unit_plan, Ran, Row}

abbrev pub program : Program
program = record {
  name = (codes "M");
  plan = record {
    units = (unit_plan 0 0 false (at 1 1) (at 1 28) ∷ []);
    tasks = ([]);
    objects = ([]);
    entries = ([]);
    regions = (([]) ∷ []);
    exceptions = ([]);
  };
  bodies = ((body nothing (at 1 16) (null (at 1 22)) no_handlers (at 1 28)) ∷ []);
  barriers = ([]);
}

abbrev pub row : Row
row = record {
  program = program;
  asked = (Ran 10 ∷ []);
  told = (((codes "ran 3 ended") ∷ []) ∷ []);
}
