-- Until when a task rests.
use Rattle.std.proofs.Common.{◌≡◌, ℕ, List, ap, ◌∙◌}
use Rattle.aud_meaning.specs.declared.state.Status.{Status}
use Rattle.aud_meaning.specs.declared.state.Status.TheVariants.{Accepting, Activating, Calling, Completed, Created, Delaying, Running, Terminated}
use Rattle.aud_meaning.specs.Configuration.{Call, Own}
use Rattle.aud_meaning.specs.Parts.{any}
use Rattle.aud_state.specs.Condition.{Condition, RestsAt, has_come}
use Rattle.aud_state.specs.Resting.{RestsBy}

-- a task with these rests whatever its call is
pub rests_by : (status : Status) (clock : ℕ) (calls : List Call) (c : Condition) (own : Own) → own.abnormal ≡ c.abnormal → own.serving ≡ c.serving → own.waits.delays ≡ c.waits.delays → RestsAt status clock c → RestsBy status clock calls own
rests_by Created clock calls c own abnormal serving delays rests = tt
rests_by Running clock calls c own abnormal serving delays rests = rests
rests_by Activating clock calls c own abnormal serving delays rests = (abnormal ∙ rests.0, serving ∙ rests.1)
rests_by Accepting clock calls c own abnormal serving delays rests = ((abnormal ∙ rests.0.0, serving ∙ rests.0.1), ap (any (has_come clock)) delays ∙ rests.1)
rests_by Delaying clock calls c own abnormal serving delays rests = ((abnormal ∙ rests.0.0, serving ∙ rests.0.1), ap (any (has_come clock)) delays ∙ rests.1)
rests_by Calling clock calls c own abnormal serving delays rests = absurd rests
rests_by Completed clock calls c own abnormal serving delays rests = rests
rests_by Terminated clock calls c own abnormal serving delays rests = tt
