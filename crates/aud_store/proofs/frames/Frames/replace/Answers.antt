use Rattle.std.proofs.Common.{◌≡◌, ◌<◌, length, ap, subst}
use Rattle.std.specs.Prelude.{IfSome, IsSome}
use Rattle.aud_store.proofs.Framed.{first_written, kept_read, on_some, shelf_written}
use Rattle.aud_store.proofs.frames.Frames.replace.Goals as goal

pub returns-then-frame-eq0-clause-replaced : goal.returns-then-frame-eq0-clause-replaced
returns-then-frame-eq0-clause-replaced c =
    first_written c.self.inside.made c.args.frame c.self.inside.first.items c.replace.new.dest.items c.self.inside.shelf c.args.self.now (λ vs. c.args.cells.items) c.self.view_is c.requires c.if-frame-eq0.true
    (ap (λ v. v.items) c.replace.ensures.after)

pub returns-clause-given : goal.returns-clause-given
returns-clause-given c =
    subst (λ cells. IfSome c.replace-2.result (λ given. given.items ≡ cells))
    (kept_read c.self.inside.made c.args.frame c.self.inside.first.items c.self.inside.shelf c.args.self.now c.self.view_is c.requires c.if-frame-eq0.false)
    c.replace-2.ensures.given

pub returns-clause-replaced : goal.returns-clause-replaced
returns-clause-replaced c =
    on_some c.replace-2.result
    (shelf_written c.self.inside.made c.args.frame c.self.inside.first.items c.self.inside.shelf c.replace-2.new.self c.args.self.now (λ vs. c.args.cells.items) c.self.view_is c.requires c.if-frame-eq0.false)
    c.replace-2.ensures.replaced

pub returns-clause-some : goal.returns-clause-some
returns-clause-some c =
    subst (λ cells. 0 < length cells → IsSome c.replace-2.result)
    (kept_read c.self.inside.made c.args.frame c.self.inside.first.items c.self.inside.shelf c.args.self.now c.self.view_is c.requires c.if-frame-eq0.false)
    c.replace-2.ensures.some
