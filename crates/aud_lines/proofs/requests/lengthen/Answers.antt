use Rattle.std.proofs.Common.{◌≡◌, ◌-◌, ◌++◌, length, take, ap, sym, ◌∙◌, arith}
use Rattle.aud_lines.proofs.CutLaws.{take_behind, ok_items}
use Rattle.aud_lines.proofs.requests.lengthen.Goals as goal

pub returns-clause-longer : goal.returns-clause-longer
returns-clause-longer c =
    let most = c.args.most in
    let old = c.args.bytes.now.items in
    let more = c.args.more.now in
    let room : most - c.len.result ≡ most - length old = omega (arith, c.len.ensures) in
    ok_items c.extend_from_slice.result c.extend_from_slice.new.self.items (old ++ c.front.result.now) old (take most (old ++ more)) c.extend_from_slice.ensures.items
    (ap (λ xs. old ++ xs) (c.front.ensures ∙ ap (λ k. take k more) room) ∙ sym (take_behind most old more c.requires))
