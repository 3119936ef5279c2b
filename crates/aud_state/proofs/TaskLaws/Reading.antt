-- What is read of one task, and what comes next of it.
use Rattle.std.proofs.Common.{◌≡◌, ◌<◌, ◌≤◌, ℕ, List, [], ◌∷◌, length, get_or, Option, Some, None, Bool, true, false, if◌then◌else◌, slice_get, refl, ap, sym, subst, ◌∙◌}
use Rattle.aud_meaning.specs.declared.state.StepKind.{StepKind}
use Rattle.aud_meaning.specs.Configuration.{Opened, Own, TaskAt, All}
use Rattle.aud_meaning.specs.Control.{Coming, simply, ending, selecting, calling, starting}
use Rattle.aud_meaning.specs.Effects as own
use Rattle.aud_meaning.specs.Parts.{nobody, own_of}
use Rattle.aud_meaning.specs.Run.{construct_left, end_kind_by, master_left_by}
use Rattle.aud_meaning.specs.Ties.Part.{Part}
use Rattle.aud_meaning.specs.Ties.Stack.{out_of_loops, out_of_loops_by}
use Rattle.aud_code.specs.Places.{Spot}
use Rattle.aud_sequential.specs.Next.{IsOfKind}
use Rattle.aud_sequential.specs.Standing.{IsOfMaster}
use Rattle.aud_calls.specs.View.{Kept}
use Rattle.aud_state.specs.declared.task.Task.{Task}
use Rattle.aud_state.specs.declared.object.Object.{Object}
use Rattle.aud_state.specs.Reads.{IsOfItsKind, LeavesBy}
use Rattle.aud_state.specs.View.{plain_task, all_of}
use Rattle.aud_state.proofs.TaskLaws.Beside.{got, past}
use Rattle.aud_state.proofs.TaskLaws.Changed.{own_got, own_past}

pub read_at : (P : Own → Option (TaskAt Spot) → Type 0) (ts : List Task) (p : Part Spot) (k : Kept) (os : List Object) (n : ℕ) (x : Task) (c : All Spot) → n < length ts → x ≡ get_or ts n x → all_of ts p k os ≡ c →
    P (plain_task x).own (Some (plain_task x)) → P (own_of n c) (slice_get c.tasks n)
read_at P ts p k os n x c within at is h =
    let e = all_of ts p k os in
    subst (λ (z : All Spot). P (own_of n z) (slice_get z.tasks n)) is
    (subst (λ o. P o (slice_get e.tasks n)) (sym (own_got ts n x within at))
    (subst (P (plain_task x).own) (sym (got plain_task ts n x within at)) h))

pub read_none : (P : Own → Option (TaskAt Spot) → Type 0) (ts : List Task) (p : Part Spot) (k : Kept) (os : List Object) (n : ℕ) (c : All Spot) → length ts ≤ n → all_of ts p k os ≡ c →
    P nobody None → P (own_of n c) (slice_get c.tasks n)
read_none P ts p k os n c beyond is h =
    let e = all_of ts p k os in
    subst (λ (z : All Spot). P (own_of n z) (slice_get z.tasks n)) is
    (subst (λ o. P o (slice_get e.tasks n)) (sym (own_past ts n beyond))
    (subst (P nobody) (sym (past plain_task ts n beyond)) h))

-- the frames that the next leaving step finds, by the stack alone
loops_by : (os : List Opened) (x : Own) → (own.out_of_loops_by os x).opened ≡ (out_of_loops_by os (record { display = x.display; opened = x.opened })).opened
loops_by [] x = refl
loops_by (w ∷ os) x = either (own.is_loop w.purpose) (loops_by os (record x { display = w.saved; opened = os }))
  where
    either : (b : Bool) → (own.out_of_loops_by os (record x { display = w.saved; opened = os })).opened ≡ (out_of_loops_by os (record { display = w.saved; opened = os })).opened → (if b then own.out_of_loops_by os (record x { display = w.saved; opened = os }) else x).opened ≡ (if b then out_of_loops_by os (record { display = w.saved; opened = os }) else record { display = x.display; opened = x.opened }).opened
    either true inner = inner
    either false inner = refl

pub left_same : (o : Own) → construct_left o ≡ (out_of_loops (record { display = o.display; opened = o.opened })).opened
left_same o = loops_by o.opened o

pub leaves_own : (o : Own) (m : Option ℕ) (x : Coming) → IsOfMaster (record { display = o.display; opened = o.opened }) m x → LeavesBy o m x
leaves_own o m (simply w) h = h
leaves_own o m ending h = h ∙ sym (ap master_left_by (left_same o))
leaves_own o m (selecting ones) h = h
leaves_own o m (calling task entry) h = h
leaves_own o m (starting object reading) h = h

pub kind_own : (o : Own) (k : StepKind) (x : Coming) → IsOfKind (record { display = o.display; opened = o.opened }) k x → IsOfItsKind o k x
kind_own o k (simply w) h = h
kind_own o k ending h = h ∙ sym (ap end_kind_by (left_same o))
kind_own o k (selecting ones) h = h
kind_own o k (calling task entry) h = h
kind_own o k (starting object reading) h = h
