use Rattle.std.proofs.Common.{◌+◌, [], ◌∷◌, ◌++◌, drop, ap, sym, ◌∙◌, arith}
use Rattle.std.specs.Prelude.{map, slice_index_or}
use Rattle.std.proofs.lemmas.List.{drop_all, get_or_default}
use Rattle.aud_code.specs.View.{plain_way}
use Rattle.aud_code.specs.declared.line.Way.{Way}
use Rattle.aud_gen.proofs.Constructs.{one_stub, with_stubs}
use Rattle.aud_gen.proofs.Loops.{dropped}
use Rattle.aud_gen.proofs.writer.Writer.write_stubs.Goals as goal

pub loop-way-init : goal.loop-way-init
loop-way-init c = record { unless_refused = λ e. (e, ap (λ ws. with_stubs c.args.self.now.lines (map plain_way ws ++ plain_way c.args.ways.now.back ∷ []) c.args.end c.args.within) c.deref-way-items.ensures.value) }

pub loop-way-preserved : goal.loop-way-preserved
loop-way-preserved c = record {
  unless_refused = λ e.
      let now = c.loop-way.self.lines in
      let ws = c.deref-way-items.result.now in
      let none : Way = record { to = 0; loops = 0 } in
      let way : Way = slice_index_or ws c.loop-way.way-index none in
      let i = c.loop-way.way-index in
      let back = plain_way c.args.ways.now.back ∷ [] in
      let one = c.write_stub.ensures.unless_refused e in
      let before = c.loop-way.invariant.unless_refused one.0 in (
        before.0,
        one_stub (plain_way way) (map plain_way (drop (i + 1) ws) ++ back) c.args.end c.args.within now c.write_stub.new.self.lines _ one.1
            (ap (λ zs. with_stubs now (map plain_way zs ++ back) c.args.end c.args.within) (sym (dropped ws i way (omega arith) (get_or_default ws i none way (omega arith)))) ∙ before.1),
      );
}

pub returns : goal.returns
returns c = record {
  unless_refused = λ e.
      let now = c.loop-way.self.lines in
      let back = plain_way c.args.ways.now.back ∷ [] in
      let one = c.write_stub-2.ensures.unless_refused e in
      let before = c.loop-way.invariant.unless_refused one.0 in
      (before.0, one.1 ∙ sym (ap (λ zs. with_stubs now (map plain_way zs ++ back) c.args.end c.args.within) (drop_all c.loop-way.way-index c.deref-way-items.result.now (omega (arith, c.loop-way-test.false)))) ∙ before.1);
}
