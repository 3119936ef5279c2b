use Rattle.std.proofs.Common.{◌++◌, take, take_all, ap, ◌∙◌, arith}
use Rattle.aud_store.specs.Ties.Named.{names_of}
use Rattle.aud_store.proofs.Names.{names_all, names_in, names_more}
use Rattle.aud_store.proofs.stack.Stack.names.Goals as goal

pub loop-open-preserved : goal.loop-open-preserved
loop-open-preserved c =
    let open_now = c.open-item.result in
    c.in_ok-names.ensures
    ∙ ap (λ l. l ++ names_of open_now) c.loop-open.invariant
    ∙ names_more c.extend_from_slice.new.self.items c.deref-open-items.result.now c.loop-open.open-index open_now (omega arith) c.open-item.is

pub returns : goal.returns
returns c =
    let opened = c.self.inside.opened.items in
    let before = c.args.into.now.items in
    let display = c.self.inside.display in
    let items = c.deref-open-items.result.now in
    let shown = c.in_ok-extend_from_slice.ensures.items ∙ ap (λ l. before ++ l) c.all.ensures in
    let all = take_all c.loop-open.open-index items (omega arith) ∙ c.deref-open-items.ensures.value in
    rw (← c.self.view_is) (names_all before c.loop-open.into.items display opened c.self.inside.backs.items c.self.invariant
    (c.loop-open.invariant
    ∙ ap (λ l. l ++ names_in (take c.loop-open.open-index items)) shown
    ∙ ap (λ l. before ++ display.numbers ++ names_in l) all))
