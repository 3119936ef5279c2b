use Rattle.std.proofs.Common.{◌-◌, List, Some, length, sym, ap, ◌∙◌}
use Rattle.std.specs.Prelude.{slice_get}
use Rattle.std.specs.Option.{option_copied}
use Rattle.aud_text.specs.declared.refusal.Refusal.TheVariants.{OutOfMemory}
use Rattle.aud_bench.specs.declared.request.Answer.{Answer}
use Rattle.aud_bench.specs.declared.request.Answer.TheVariants.{Refused}
use Rattle.aud_pass.specs.Passed.{Passed, is_over}
use Rattle.aud_pass.proofs.Overs.{last_is}
use Rattle.aud_pass.proofs.pass.Pass.is_over.Goals as goal

pub returns-in-Some-Refused-OutOfMemory : goal.returns-in-Some-Refused-OutOfMemory
returns-in-Some-Refused-OutOfMemory c =
    let here = c.in-Some-Refused-OutOfMemory in
    let at =
    ap (λ (xs : List Answer). slice_get xs (length xs - 1)) (sym c.deref.ensures.value) ∙ sym c.last.ensures.value ∙ ap option_copied here.is
    ∙ ap (λ (a : Answer). Some a) (here.field-0-is ∙ ap Refused here.field-0-0-is) in
    sym (ap (λ (p : Passed). is_over p.got) (sym c.self.view_is) ∙ last_is c.self.inside.got.items (Refused OutOfMemory) at)
