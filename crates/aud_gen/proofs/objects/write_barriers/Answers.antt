use Rattle.std.proofs.Common.{◌++◌, map, ap, sym, ◌∙◌, subst, arith, append-nil}
use Rattle.std.proofs.lemmas.List.{drop_all}
use Rattle.aud_code.specs.Tabled.{AllDecided}
use Rattle.aud_code.specs.View.{frames_in, plain_barrier}
use Rattle.aud_layout.specs.Instructions.{condition_code}
use Rattle.aud_gen.specs.Opening.{frames_before}
use Rattle.aud_gen.specs.Writes.{barriers_in}
use Rattle.aud_gen.proofs.Calls.{all_decided, one_barrier, one_before}
use Rattle.aud_gen.proofs.objects.write_barriers.Goals as goal

pub loop-entry-preserved : goal.loop-entry-preserved
loop-entry-preserved c =
    let b = c.in_ok-write_barrier.field-0 in
    record {
      plain = one_barrier c.args.entries.now c.loop-entry.entry-index c.entry-item.result (omega arith) c.entry-item.is c.loop-entry.barriers.items c.push.new.self.items b _ c.in_ok-push.ensures.items c.in_ok-write_barrier.ensures.plain c.loop-entry.invariant.plain;
      decided = subst AllDecided (sym c.in_ok-push.ensures.items) (all_decided c.loop-entry.barriers.items b c.loop-entry.invariant.decided c.in_ok-write_barrier.ensures.decided);
      frames = one_before c.args.units.now c.args.entries.now c.loop-entry.entry-index c.entry-item.result (omega arith) c.entry-item.is c.loop-entry.barriers.items c.push.new.self.items b _ c.in_ok-push.ensures.items c.in_ok-write_barrier.ensures.frames c.loop-entry.invariant.frames;
    }

pub returns-clause-plain : goal.returns-clause-plain
returns-clause-plain c =
    let done = map plain_barrier c.loop-entry.barriers.items in
    let none = ap (λ xs. done ++ map condition_code (barriers_in xs)) (drop_all c.loop-entry.entry-index c.args.entries.now (omega (arith, c.loop-entry-test.false))) in
    sym (append-nil done) ∙ sym none ∙ c.loop-entry.invariant.plain

pub returns-clause-frames : goal.returns-clause-frames
returns-clause-frames c =
    let done = frames_in c.loop-entry.barriers.items in
    let none = ap (λ xs. done ++ map (frames_before c.args.units.now) xs) (drop_all c.loop-entry.entry-index c.args.entries.now (omega (arith, c.loop-entry-test.false))) in
    sym (append-nil done) ∙ sym none ∙ c.loop-entry.invariant.frames
