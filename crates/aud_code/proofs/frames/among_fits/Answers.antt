use Rattle.std.proofs.Common.{refl}
use Rattle.aud_code.proofs.frames.among_fits.Goals as goal

pub returns-then-alternatives_fit : goal.returns-then-alternatives_fit
returns-then-alternatives_fit c =
    let led = rw c.deref.ensures.value at c.if-alternatives_fit.ensures in
    let opened = rw c.deref-then-alternatives_fit.ensures.value at c.accepts_fit.ensures in
    rw c.in-Select.is (λ e. ((led.0 refl).0, (((led.0 refl).1, opened.0 e), tt)), λ h. opened.1 h.1.0.1)
