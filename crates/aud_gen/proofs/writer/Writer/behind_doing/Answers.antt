use Rattle.std.proofs.Common.{◌≡◌, ℕ, ◌+◌, length, ap, ◌∙◌, arith}
use Rattle.aud_typed.specs.Tree.{part_of}
use Rattle.aud_typed.specs.Ties.View.{doing_in, plain_statements}
use Rattle.aud_layout.specs.Layout.{doing_size_by, part_place}
use Rattle.aud_layout.specs.Written.{flat_step}
use Rattle.aud_gen.specs.Writes.{Finds}
use Rattle.aud_gen.proofs.Writing.{found_as}
use Rattle.aud_gen.proofs.writer.Writer.behind_doing.Goals as goal

pub returns : goal.returns
returns c =
    let size = doing_size_by flat_step (doing_in c.args.doing.now) in
    let p = part_of (plain_statements c.args.after.now) in
    let second : Finds c.args.self.now c.behind-second.new.self (c.behind-second.result ≡ length c.args.self.now.lines + size) = found_as (λ it. omega (arith, it.0, it.1, c.place.ensures, c.doing_length.ensures)) c.behind-second.ensures in
    found_as (λ it. c.part_place.ensures ∙ ap (λ (n : ℕ). part_place p n c.args.next) it) second
