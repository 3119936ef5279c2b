use Rattle.std.proofs.Common.{◌≡◌, ◌++◌, drop, map}
use Rattle.aud_code.specs.Tabled.{AllDecided}
use Rattle.aud_code.specs.View.{frames_in, plain_barrier}
use Rattle.aud_layout.specs.Instructions.{condition_code}
use Rattle.aud_gen.specs.Opening.{frames_before}
use Rattle.aud_gen.specs.Writes.{barriers_in}
use Rattle.aud_gen.proofs.objects.write_barriers.Given as goal

abbrev pub invariant-loop-entry : goal.invariant-loop-entry
invariant-loop-entry l = record {
  plain : map plain_barrier l.barriers.items ++ map condition_code (barriers_in (drop l.entry-index l.entries)) ≡ map condition_code (barriers_in l.entries);
  decided : AllDecided l.barriers.items;
  frames : frames_in l.barriers.items ++ map (frames_before l.units) (drop l.entry-index l.entries) ≡ map (frames_before l.units) l.entries;
}
