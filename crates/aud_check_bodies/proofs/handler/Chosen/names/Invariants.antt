use Rattle.std.proofs.Common.{◌≡◌, drop}
use Rattle.aud_fault.specs.Least.{noted}
use Rattle.aud_check_bodies.specs.Handlers.{names_chosen, names_chosen_faults}
use Rattle.aud_names.specs.Ties.Regions.{names_in}
use Rattle.aud_check_bodies.proofs.handler.Chosen.names.Given as goal

abbrev pub invariant-loop-other : goal.invariant-loop-other
invariant-loop-other l = record {
  chosen : names_chosen (drop l.other-index l.names.others.items) l.self l.scope ≡ names_chosen (names_in l.fn.names) l.fn.self l.scope;
  noted : noted l.faults (names_chosen_faults (drop l.other-index l.names.others.items) l.self l.scope) ≡ noted l.fn.faults (names_chosen_faults (names_in l.fn.names) l.fn.self l.scope);
}
