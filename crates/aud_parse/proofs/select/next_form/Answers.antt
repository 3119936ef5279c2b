use Rattle.std.proofs.Common.{sym, ⊎_elim}
use Rattle.aud_parse.specs.Ties.Alternatives.{g_accept, g_delay, g_terminate, g_delays, g_needed, g_either, g_or, g_first, g_more}
use Rattle.aud_parse.proofs.select.next_form.Goals as goal

pub returns-in-Accepts : goal.returns-in-Accepts
returns-in-Accepts c = rw c.in-Accepts.is (g_accept (sym c.if-is.ensures))

pub returns-in-Accepts-2 : goal.returns-in-Accepts-2
returns-in-Accepts-2 c = rw c.in-Accepts.is (g_delay (sym c.if-is.ensures) (sym c.if-is-2.ensures))

pub returns-in-Accepts-3 : goal.returns-in-Accepts-3
returns-in-Accepts-3 c = rw c.in-Accepts.is (g_terminate (sym c.if-is.ensures) (sym c.if-is-2.ensures))

pub returns-in-Delays : goal.returns-in-Delays
returns-in-Delays c = rw c.in-Delays.is (g_delays (sym c.if-is-3.ensures))

pub returns-in-Delays-2 : goal.returns-in-Delays-2
returns-in-Delays-2 c = rw c.in-Delays.is (g_needed (sym c.if-is-3.ensures))

pub returns-in-AcceptsAndDelays : goal.returns-in-AcceptsAndDelays
returns-in-AcceptsAndDelays c = rw c.in-AcceptsAndDelays.is (g_either (sym c.if-is-4.ensures))

pub returns-in-AcceptsAndDelays-2 : goal.returns-in-AcceptsAndDelays-2
returns-in-AcceptsAndDelays-2 c = rw c.in-AcceptsAndDelays.is (g_or (sym c.if-is-4.ensures))

pub returns-in-Terminate : goal.returns-in-Terminate
returns-in-Terminate c = ⊎_elim (λ e. rw e g_first) (λ e. rw e g_more) c.in-Terminate.is
