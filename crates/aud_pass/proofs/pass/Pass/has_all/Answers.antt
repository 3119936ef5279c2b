use Rattle.std.proofs.Common.{◌≡◌, length, ap, ◌∙◌, subst, arith}
use Rattle.std.proofs.lemmas.Bool.Decides.{nat_tests}
use Rattle.aud_pass.specs.Passed.{Passed, is_over}
use Rattle.aud_pass.specs.Replies.{IsWhole}
use Rattle.aud_pass.proofs.Passes.{is_whole}
use Rattle.aud_pass.proofs.pass.Pass.has_all.Goals as goal

pub returns-clause-whole : goal.returns-clause-whole
returns-clause-whole c =
    λ all over.
    let p : Passed = record { seat = c.self.inside.seat; limits = c.self.inside.limits; sent = c.self.inside.sent.items; got = c.self.inside.got.items } in
    let view : p ≡ c.args.self.now = c.self.view_is in
    let got_count = c.self.inside.got.ok.0 in
    let sent_count = c.self.inside.sent.ok.0 in
    let len = c.len.ensures in
    let len-2 = c.len-2.ensures in
    let same : length p.got ≡ length p.sent = grind (arith, nat_tests, got_count, sent_count, len, len-2, all) in
    subst IsWhole view (is_whole p c.self.invariant (ap (λ (x : Passed). is_over x.got) view ∙ over) same)
