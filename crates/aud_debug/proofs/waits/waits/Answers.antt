use Rattle.std.proofs.Common.{◌∙◌}
use Rattle.aud_meaning.specs.Listings.{View}
use Rattle.aud_debug.proofs.Ended.{page_shown, viewed}
use Rattle.aud_debug.proofs.waits.waits.Goals as goal

pub returns : goal.returns
returns c = λ shown h.
    c.into_lines.ensures
    ∙ page_shown _ _ _ _ _ _ c.new-page.ensures.bytes c.new-page.ensures.count c.in_ok-push_waits.ensures
    (viewed (λ (v : View). v.waits) c.args.machine.now shown _ _ _ c.compiled.ensures.program c.compiled.ensures.code (c.parts.ensures.view shown h))
