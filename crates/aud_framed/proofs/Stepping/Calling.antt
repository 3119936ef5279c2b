-- A task calls an entry of a task.
use Rattle.std.proofs.Common.{◌≡◌, ℕ, List, [], ◌∷◌, ◌++◌, length, Option, Some, None, Bool, true, false, refl, sym, ap, ◌∙◌, subst, inl, if◌then◌else◌, slice_get}
use Rattle.std.proofs.lemmas.Bool.{and_parts, false≢true, true≢false}
use Rattle.std.specs.Prelude.{◌&&◌, filter, nat_eq, not}
use Rattle.aud_text.specs.declared.raise.Raise.TheVariants.{Program, Tasking}
use Rattle.aud_typed.specs.declared.program.Exception.TheVariants.{Predefined}
use Rattle.aud_typed.specs.Tree.{Plan}
use Rattle.aud_meaning.specs.declared.state.CallState.TheVariants.{Selected}
use Rattle.aud_meaning.specs.declared.state.OpenAccept.{OpenAccept}
use Rattle.aud_meaning.specs.declared.state.Owner.TheVariants as owner
use Rattle.aud_meaning.specs.declared.state.Status.{Status}
use Rattle.aud_meaning.specs.declared.state.Status.TheVariants.{Created, Running, Activating, Accepting, Delaying, Calling, Completed, Terminated}
use Rattle.aud_meaning.specs.Configuration.{Own, Call, TaskAt, All}
use Rattle.aud_meaning.specs.Control.{Called}
use Rattle.aud_meaning.specs.Parts.{alternative_of, arrives, blocks, call_of, changed, in_action, is_accepting, is_callable, new_call, no_waits, on_control, open_alternatives, own_of, raised_at, stands_at_call}
use Rattle.aud_meaning.specs.Step.{call_record}
use Rattle.aud_meaning.specs.Tasks as effect
use Rattle.aud_code.specs.Places.{Spot}
use Rattle.aud_code.specs.Flat.{Flat, Does, end_at, flat_controls}
use Rattle.aud_code.specs.Instruction.{CallKind, CallTask}
use Rattle.aud_code.specs.Seen.{IsSeen}
use Rattle.aud_code.specs.Sound.{Counts, IsSound}
use Rattle.aud_over.specs.Over.{is_call_over}
use Rattle.aud_framed.specs.Held.{IsCall}
use Rattle.aud_framed.specs.Waiting.{is_of_object}
use Rattle.aud_framed.specs.Calls.{IsEntryOf}
use Rattle.aud_framed.specs.Stepping.{HasWays}
use Rattle.aud_framed.proofs.Stepping.Activated.{other_task}
use Rattle.aud_framed.proofs.Stepping.Arriving.{arrived_framed}
use Rattle.aud_framed.proofs.Stepping.Beginning.{goes_on_good}
use Rattle.aud_framed.proofs.Stepping.Blocks.{raised_good}
use Rattle.aud_framed.proofs.Stepping.Calls.{IsUnserved, with_calls}
use Rattle.aud_framed.proofs.Stepping.Ending.{Good, got_there}
use Rattle.aud_framed.proofs.Stepping.Making as making
use Rattle.aud_framed.proofs.Stepping.Parts.{own_got}
use Rattle.aud_framed.proofs.Stepping.Refusing.{orders}
use Rattle.aud_framed.proofs.Stepping.Rendezvous.{AllOpenHere, OpensHere, rendezvous_good, waits_here}

is_it_accepting : (s : Status) → is_accepting s ≡ true → s ≡ Accepting
is_it_accepting Created h = absurd (false≢true h)
is_it_accepting Running h = absurd (false≢true h)
is_it_accepting Activating h = absurd (false≢true h)
is_it_accepting Accepting h = refl
is_it_accepting Delaying h = absurd (false≢true h)
is_it_accepting Calling h = absurd (false≢true h)
is_it_accepting Completed h = absurd (false≢true h)
is_it_accepting Terminated h = absurd (false≢true h)

open_accepting : (own : Own) (entry : ℕ) (a : OpenAccept) (more : List OpenAccept) → open_alternatives own entry ≡ a ∷ more → (own.status ≡ Accepting) × (filter (λ (x : OpenAccept). nat_eq x.entry entry) own.waits.accepts ≡ a ∷ more)
open_accepting own entry a more h = by (is_accepting own.status && not own.abnormal) refl h
  where
    by : (b : Bool) → is_accepting own.status && not own.abnormal ≡ b → (if b then filter (λ (x : OpenAccept). nat_eq x.entry entry) own.waits.accepts else []) ≡ a ∷ more → (own.status ≡ Accepting) × (filter (λ (x : OpenAccept). nat_eq x.entry entry) own.waits.accepts ≡ a ∷ more)
    by true e h = (is_it_accepting own.status (and_parts (is_accepting own.status) (not own.abnormal) e).0, h)
    by false e h = absurd cc

-- the newest call
last_changed : (calls : List Call) (f : Call → Call) (x : Call) → f x ≡ x → changed (length calls) f (calls ++ x ∷ []) ≡ calls ++ x ∷ []
last_changed [] f x e = ap (λ y. y ∷ []) e
last_changed (a ∷ more) f x e = ap (λ ys. a ∷ ys) (last_changed more f x e)

module _ (plan : Plan) (code : Flat) (table : List Counts) (tasks barriers seen : List ℕ) (sound : IsSound code) (fits : IsSeen code table tasks barriers seen) (ways : HasWays code) where
  abbrev pub Kept : All Spot → Type 0
  Kept c = Good plan code table tasks barriers seen sound fits ways c

  abbrev Opens : OpenAccept → TaskAt Spot → Type 0
  Opens a t = OpensHere plan code table tasks barriers seen sound fits ways a t

  abbrev AllOpen : TaskAt Spot → List OpenAccept → Type 0
  AllOpen t ones = AllOpenHere plan code table tasks barriers seen sound fits ways t ones

  -- A task that waits at the accept.
  pub record IsAcceptor (m : ℕ) (c : All Spot) (a : OpenAccept) : Type 0 where
    pub task : TaskAt Spot
    pub is : slice_get c.tasks m ≡ Some task
    pub accepting : task.own.status ≡ Accepting
    pub opens : OpensHere plan code table tasks barriers seen sound fits ways a task

  some_open : (p : OpenAccept → Bool) (t : TaskAt Spot) (ones : List OpenAccept) → AllOpen t ones → AllOpen t (filter p ones)
  some_open p t [] h = tt
  some_open p t (a ∷ more) h = by (p a) (some_open p t more h.1)
    where
      by : (b : Bool) → AllOpen t (filter p more) → AllOpen t (if b then a ∷ filter p more else filter p more)
      by true k = (h.0, k)
      by false k = k

  one_open : (alternative : Option ℕ) (t : TaskAt Spot) (first : OpenAccept) (ones : List OpenAccept) → Opens first t → AllOpen t ones → Opens (alternative_of alternative first ones) t
  one_open None t first ones h k = h
  one_open (Some n) t first [] h k = h
  one_open (Some n) t first (a ∷ more) h k = by (nat_eq a.alternative n) (one_open (Some n) t first more h k.1)
    where
      by : (b : Bool) → Opens (alternative_of (Some n) first more) t → Opens (if b then a else alternative_of (Some n) first more) t
      by true on = k.0
      by false on = on

  pub acceptor_of : (alternative : Option ℕ) (m entry : ℕ) (c : All Spot) (a : OpenAccept) (more : List OpenAccept) → Kept c → open_alternatives (own_of m c) entry ≡ a ∷ more → IsAcceptor m c (alternative_of alternative a (a ∷ more))
  acceptor_of alternative m entry c a more w h = there (got_there m c.tasks (λ e. let wrong : Accepting ≡ Terminated = sym opened.0 ∙ e in absurd cc))
    where
      opened : ((own_of m c).status ≡ Accepting) × (filter (λ (x : OpenAccept). nat_eq x.entry entry) (own_of m c).waits.accepts ≡ a ∷ more)
      opened = open_accepting (own_of m c) entry a more h

      there : (t : TaskAt Spot) × (slice_get c.tasks m ≡ Some t) → IsAcceptor m c (alternative_of alternative a (a ∷ more))
      there x =
          let own_is : own_of m c ≡ x.0.own = own_got m c.tasks x.0 x.1 in
          let accepting : x.0.own.status ≡ Accepting = ap (λ (o : Own). o.status) (sym own_is) ∙ opened.0 in
          let all : AllOpen x.0 (a ∷ more) =
          subst (λ ones. AllOpen x.0 ones) (ap (λ (o : Own). filter (λ (x : OpenAccept). nat_eq x.entry entry) o.waits.accepts) (sym own_is) ∙ opened.1)
          (some_open (λ (x : OpenAccept). nat_eq x.entry entry) x.0 x.0.own.waits.accepts (waits_here plan code table tasks barriers seen sound fits ways m c x.0 w x.1 accepting)) in
          record { task = x.0; is = x.1; accepting = accepting; opens = one_open alternative x.0 a (a ∷ more) all.0 all }

  module _ (alternative : Option ℕ) (m n : ℕ) (call : Called) (form : CallKind) (c : All Spot) (t : TaskAt Spot) (w : Kept c) (is : slice_get c.tasks n ≡ Some t) (running : t.own.status ≡ Running) (none : t.own.pending ≡ None) (still : t.own.again ≡ None) (starts_none : t.own.restart ≡ None) (its : is_of_object plan call.entry ≡ false) (line : (end_at code t.control.place).last ≡ Does (CallTask call.entry form)) where
    abbrev x : Call
    x = call_record n (owner.Task m) call

    abbrev id : ℕ
    id = length c.shared.calls

    module _ (free : in_action n c ≡ false) (well : t.own.abnormal ≡ false) where
      calls : IsCall (end_at code t.control.place).last
      calls = inl (call.entry, form, line)

      abbrev waits : TaskAt Spot → TaskAt Spot
      waits u = record u { own = record (blocks Calling call.at no_waits u.own) { call = length c.shared.calls } }

      abbrev d : All Spot
      d = new_call x (stands_at_call n (length c.shared.calls) call.at c)

      own_is : own_of n d ≡ (waits t).own
      own_is = making.own_is plan code table tasks barriers seen sound fits ways (owner.Task m) n call c t w is running none still starts_none calls free

      made : Kept d
      made = making.made plan code table tasks barriers seen sound fits ways (owner.Task m) n call c t w is running none still starts_none calls free

      newest : call_of id d ≡ x
      newest = making.newest plan code table tasks barriers seen sound fits ways (owner.Task m) n call c t w is running none still starts_none calls free

      unserved : IsUnserved id d
      unserved = making.unserved plan code table tasks barriers seen sound fits ways (owner.Task m) n call c t w is running none still starts_none calls free

      -- it is queued
      queued_good : Kept (effect.calls_open (orders plan code table tasks barriers seen sound fits ways) plan (flat_controls plan code).barrier alternative [] x m c)
      queued_good = by (effect.is_conditional (orders plan code table tasks barriers seen sound fits ways) plan (flat_controls plan code).barrier call.form)
        where
          by : (b : Bool) → Kept (if b then on_control n ((orders plan code table tasks barriers seen sound fits ways).takes 1) c else arrives id d)
          by true = goes_on_good plan code table tasks barriers seen sound fits ways 1 n c t w is running none still (CallTask call.entry form, (line, tt))
          by false = record {
            framed =
                arrived_framed plan code seen id d (ap (λ (a : Call). is_call_over a.state) newest) unserved (subst (λ (a : Call). IsEntryOf plan d a.owner a.entry) (sym newest) its)
                (subst (λ (a : Call). (own_of a.caller d).abnormal ≡ true → a.stays ≡ true) (sym newest)
                (λ ill. absurd (true≢false (sym ill ∙ (ap (λ (o : Own). o.abnormal) own_is ∙ well))))) made.framed;
            spots = made.spots;
          }

      -- it is accepted at once
      met_good : (a : OpenAccept) (more : List OpenAccept) → open_alternatives (own_of m c) call.entry ≡ a ∷ more → Kept (effect.calls_open (orders plan code table tasks barriers seen sound fits ways) plan (flat_controls plan code).barrier alternative (a ∷ more) x m c)
      met_good a more open_is =
          let y : IsAcceptor m c (alternative_of alternative a (a ∷ more)) = acceptor_of alternative m call.entry c a more w open_is in
          let b : OpenAccept = alternative_of alternative a (a ∷ more) in
          let there : slice_get d.tasks m ≡ Some y.task =
          other_task n m waits c.tasks
          (λ e. let wrong : Running ≡ Accepting = sym running ∙ (ap (λ (o : Own). o.status) (sym (own_got n c.tasks t is)) ∙ (ap (λ i. (own_of i c).status) e ∙ (ap (λ (o : Own). o.status) (own_got m c.tasks y.task y.is) ∙ y.accepting))) in absurd cc)
          ∙ y.is in
          subst (λ calls. Kept (effect.rendezvous_by (orders plan code table tasks barriers seen sound fits ways) plan (flat_controls plan code).barrier b.region b id m (with_calls calls d)))
          (sym (last_changed c.shared.calls (λ (a : Call). record a { state = Selected }) x refl))
          (rendezvous_good plan code table tasks barriers seen sound fits ways b id m d y.task made there y.opens (ap (λ (a : Call). a.state) newest) (ap (λ (a : Call). a.owner) newest) unserved)

      opened_good : Kept (effect.calls_open (orders plan code table tasks barriers seen sound fits ways) plan (flat_controls plan code).barrier alternative (open_alternatives (own_of m c) call.entry) x m c)
      opened_good = by (open_alternatives (own_of m c) call.entry) refl
        where
          by : (ones : List OpenAccept) → open_alternatives (own_of m c) call.entry ≡ ones → Kept (effect.calls_open (orders plan code table tasks barriers seen sound fits ways) plan (flat_controls plan code).barrier alternative ones x m c)
          by [] e = queued_good
          by (a ∷ more) e = met_good a more e

    pub calls_task_good : (in_action n c ≡ false → t.own.abnormal ≡ false) → Kept (effect.calls_task (orders plan code table tasks barriers seen sound fits ways) plan (flat_controls plan code).barrier alternative x m c)
    calls_task_good well = by (in_action n c) refl (is_callable (own_of m c))
      where
        by : (b : Bool) → in_action n c ≡ b → (callable : Bool) → Kept (if b then raised_at Program call.at n c else if callable then effect.calls_open (orders plan code table tasks barriers seen sound fits ways) plan (flat_controls plan code).barrier alternative (open_alternatives (own_of m c) call.entry) x m c else raised_at Tasking call.at n c)
        by true e callable = raised_good plan code table tasks barriers seen sound fits ways (Predefined Program) call.at n c t w is running none still (CallTask call.entry form, line)
        by false e true = opened_good e (well e)
        by false e false = raised_good plan code table tasks barriers seen sound fits ways (Predefined Tasking) call.at n c t w is running none still (CallTask call.entry form, line)
