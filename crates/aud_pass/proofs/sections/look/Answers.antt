use Rattle.std.specs.Prelude.{◌==◌}
use Rattle.std.proofs.Common.{rules, ◌≡◌, ◌<◌, length, drop, None, Ok, false, inl, sym, ap, ◌∙◌, arith}
use Rattle.std.proofs.lemmas.Bool.Decides.{nat_tests}
use Rattle.aud_hall.specs.Replies.{Answers as Replied}
use Rattle.aud_hall.specs.Halls.{place_at, collects}
use Rattle.aud_hall.specs.Told.{IsToldAt}
use Rattle.aud_hall.specs.Ties.Places.{outbox_at}
use Rattle.aud_pass.specs.declared.got.Got.TheVariants.{New}
use Rattle.aud_pass.specs.Passed.{Passed, is_over, IsGot}
use Rattle.aud_pass.specs.Sections.{not_there, Collected}
use Rattle.aud_pass.proofs.Places.{collected_there}
use Rattle.aud_pass.proofs.Passes.{got_new, collected_new}
use Rattle.aud_pass.proofs.sections.look.Goals as goal

pub take-requires : goal.take-requires
take-requires c =
    let hall = c.args.hall.now in
    let p : Passed = c.args.pass.now in
    let o = place_at hall p.seat in
    let right : IsGot p.limits p.sent p.got = c.got.ensures.right in
    let over : is_over p.got ≡ false = sym c.is_over.ensures ∙ c.if-is_over.false in
    let apart : (length p.got == length p.sent) ≡ false = sym c.has_all.ensures.count ∙ c.if-has_all.false in
    let there : not_there p o ≡ None = sym c.not_there.ensures.why ∙ c.in_default.is in
    let t : IsToldAt o = c.not_there.ensures.answers in
    let new = c.in_ok-new.new.items in
    let read : collects p.seat (length p.got) false hall ≡ record { now = hall; reply = Replied new } = search rules in
    let new_is : new ≡ drop (length p.got) (outbox_at o) = collected_there hall p.seat (length p.got) o p hall new there read in
    let new_count = c.in_ok-new.new.ok.0 in
    let count = c.len-count.ensures in
    let test = c.if-count-eq0.false in
    let some : 0 < length new = grind (arith, nat_tests, new_count, count, test) in
    got_new p right over apart o there t new new_is some

pub returns-clause-exact : goal.returns-clause-exact
returns-clause-exact c =
    let hall = c.args.hall.now in
    let p : Passed = c.args.pass.now in
    let o = place_at hall p.seat in
    let right : IsGot p.limits p.sent p.got = c.got.ensures.right in
    let over : is_over p.got ≡ false = sym c.is_over.ensures ∙ c.if-is_over.false in
    let apart : (length p.got == length p.sent) ≡ false = sym c.has_all.ensures.count ∙ c.if-has_all.false in
    let there : not_there p o ≡ None = sym c.not_there.ensures.why ∙ c.in_default.is in
    let t : IsToldAt o = c.not_there.ensures.answers in
    let new = c.in_ok-new.new.items in
    let read : collects p.seat (length p.got) false hall ≡ record { now = hall; reply = Replied new } = search rules in
    let new_is : new ≡ drop (length p.got) (outbox_at o) = collected_there hall p.seat (length p.got) o p hall new there read in
    let new_count = c.in_ok-new.new.ok.0 in
    let count = c.len-count.ensures in
    let test = c.if-count-eq0.false in
    let some : 0 < length new = grind (arith, nat_tests, new_count, count, test) in
    let all = collected_new p right over apart o there t new new_is some in
    inl (ap (λ n. Ok (New n)) (count ∙ new_count) ∙ sym (ap (λ (x : Collected). x.reply) all), c.in_ok-take.ensures.ok ∙ sym (ap (λ (x : Collected). x.pass) all))
