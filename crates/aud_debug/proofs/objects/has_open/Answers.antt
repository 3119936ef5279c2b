use Rattle.std.proofs.Common.{Bool, sym, ◌∙◌, arith}
use Rattle.std.specs.Prelude.{nat_eq}
use Rattle.std.proofs.lemmas.Bool.{eq-eqb}
use Rattle.std.proofs.lemmas.List.{at_drop_all}
use Rattle.aud_meaning.specs.Parts.{any}
use Rattle.aud_store.specs.declared.stack.Open.{Open}
use Rattle.aud_store.specs.Ties.Extents.{extent_in}
use Rattle.aud_state.proofs.Numbered.{any_here, any_map}
use Rattle.aud_debug.proofs.Watched.{is_frame}
use Rattle.aud_debug.proofs.objects.has_open.Goals as goal

pub returns-then-open-frame : goal.returns-then-open-frame
returns-then-open-frame c =
    let p : Open → Bool = λ o. nat_eq o.frame c.args.frame in
    sym (any_map extent_in (is_frame c.args.frame) c.args.opened.now
    ∙ sym c.loop-open.invariant
    ∙ any_here p c.args.opened.now c.loop-open.open-index c.open-item.result c.loop-open-test.true c.open-item.is (eq-eqb c.open-item.result.frame c.args.frame c.if-open-frame.true))

pub returns : goal.returns
returns c =
    let p : Open → Bool = λ o. nat_eq o.frame c.args.frame in
    sym (any_map extent_in (is_frame c.args.frame) c.args.opened.now
    ∙ sym c.loop-open.invariant
    ∙ at_drop_all (any p) c.args.opened.now c.loop-open.open-index (omega arith))
