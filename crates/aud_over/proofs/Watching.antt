-- What is told of objects and of waiting tasks is the same where programs are the same but for what nothing names.
use Rattle.std.proofs.Common.{◌≡◌, ℕ, suc, List, [], ◌∷◌, ◌++◌, Option, Some, None, Bool, true, false, refl, sym, ap, ◌∙◌}
use Rattle.std.specs.Prelude.{Result, codes, drop, map, length, if◌then◌else◌, slice_index}
use Rattle.std.specs.Fmt.{decimal}
use Rattle.aud_text.specs.declared.raise.Raise.{Raise}
use Rattle.aud_typed.specs.Tree.{Plan, ObjectPlan}
use Rattle.aud_meaning.specs.declared.state.CallState.{CallState}
use Rattle.aud_meaning.specs.declared.state.CallState.TheVariants.{Queued, Selected, Done, Cancelled}
use Rattle.aud_meaning.specs.declared.state.Owner.{Owner}
use Rattle.aud_meaning.specs.declared.state.Owner.TheVariants as owner
use Rattle.aud_meaning.specs.Configuration.{Frame, Own, Call, Object, TaskAt, All}
use Rattle.aud_meaning.specs.Control.{Coming, simply, ending, selecting, calling, starting, Seen, Controls}
use Rattle.aud_meaning.specs.Evaluation.{Sight}
use Rattle.aud_meaning.specs.Parts.{owns, call_of, object_plan, entry_plan, is_terminated, body_master}
use Rattle.aud_meaning.specs.Run.{Turn, resting, closing, completing, withdrawing, serving, restarting, expiring, cancelling, acting, turn, seen, construct_left, master_left_by}
use Rattle.aud_meaning.specs.Tasks.{barrier_of}
use Rattle.aud_meaning.specs.Listings.Values.{spaced, frame_lines}
use Rattle.aud_meaning.specs.Listings.Objects.{within, component_lines, barrier_word, part_around, is_open, barrier_lines, action_words, lines_if_open, object_lines, objects_view}
use Rattle.aud_meaning.specs.Listings.Waits.{Hold, nothing, a_call, an_accept, a_delay, an_object, a_master, an_activation, again_on, leaving_hold, acting_hold, hold_by, entry_words, raised_reasons, delay_reasons, expiry, call_reasons, hold_reasons, reasons, reason_lines, wait_lines, waits_view}
use Rattle.aud_over.specs.Over.{with_kept, is_call_over}
use Rattle.aud_over.specs.Looks.{Looks}
use Rattle.aud_over.proofs.Frames.{Agree, agree_at}
use Rattle.aud_over.proofs.Calls.{EachOf, told_same, true_is_not_false}
use Rattle.aud_over.proofs.Beside.{Kept, MayHave, ObjectsName, each_at}
use Rattle.aud_over.proofs.Constructs.{BarrierLooks}
use Rattle.aud_over.proofs.Objects.{barrier_same}
use Rattle.aud_over.proofs.Looking.{turn_same, seen_same, seen_may}

-- Objects.

module _ (p : Kept) where
  components_same : (n : ℕ) (d : ObjectPlan) (o : Object) (fs gs : List Frame) → EachOf p.named o.display → Agree p.named fs gs → component_lines n d o fs ≡ component_lines n d o gs
  components_same n d o fs gs h a =
      ap (λ (f : Frame). frame_lines (suc n) (length d.components) (map (within d.name) d.components) (drop 1 f)) (agree_at p.named fs gs a (slice_index o.display d.level) (each_at p.named p.first o.display h d.level))

module _ {C : Type 0} (p : Kept) (plan : Plan) (barrier : ℕ → Sight → Result Bool Raise) (through : BarrierLooks barrier) where
  barriers_same : (n : ℕ) (d : ObjectPlan) (es : List ℕ) (c : All C) (fs : List Frame) (cs : List Call) → MayHave p c fs cs → barrier_lines plan barrier n d es c ≡ barrier_lines plan barrier n d es (with_kept fs cs c)
  barriers_same n d [] c fs cs m = refl
  barriers_same n d (e ∷ es) c fs cs m =
      ap (λ b. spaced (decimal (suc n)) (spaced (d.name ++ 46 ∷ (entry_plan plan e).name) (barrier_word b)) ∷ barrier_lines plan barrier n d es c) (barrier_same p plan barrier through n e c fs cs m)
      ∙ ap (λ ls. spaced (decimal (suc n)) (spaced (d.name ++ 46 ∷ (entry_plan plan e).name) (barrier_word (barrier_of plan barrier n e (with_kept fs cs c)))) ∷ ls) (barriers_same n d es c fs cs m)

  object_same : (there : Bool) (n : ℕ) (d : ObjectPlan) (o : Object) (c : All C) (fs : List Frame) (cs : List Call) → EachOf p.named o.display → MayHave p c fs cs → lines_if_open plan barrier there n d o c ≡ lines_if_open plan barrier there n d o (with_kept fs cs c)
  object_same false n d o c fs cs h m = refl
  object_same true n d o c fs cs h m =
      ap (λ ls. spaced (decimal (suc n)) (d.name ++ action_words o.actions) ∷ (ls ++ barrier_lines plan barrier n d d.entries c)) (components_same p n d o c.shared.frames fs h m.frames)
      ∙ ap (λ ls. spaced (decimal (suc n)) (d.name ++ action_words o.actions) ∷ (component_lines n d o fs ++ ls)) (barriers_same n d d.entries c fs cs m)

  objects_same : (n : ℕ) (os : List Object) (c : All C) (fs : List Frame) (cs : List Call) → ObjectsName p os → MayHave p c fs cs → object_lines plan barrier n os c ≡ object_lines plan barrier n os (with_kept fs cs c)
  objects_same n [] c fs cs h m = refl
  objects_same n (o ∷ os) c fs cs h m =
      let d = object_plan plan o.declaration in
      let there = is_open (part_around d o) c in
      ap (λ ls. ls ++ object_lines plan barrier (suc n) os c) (object_same there n d o c fs cs h.0 m)
      ∙ ap (λ ls. lines_if_open plan barrier there n d o (with_kept fs cs c) ++ ls) (objects_same (suc n) os c fs cs h.1 m)

  pub objects_view_same : (c : All C) (fs : List Frame) (cs : List Call) → MayHave p c fs cs → objects_view plan barrier c ≡ objects_view plan barrier (with_kept fs cs c)
  objects_view_same c fs cs m = objects_same 0 c.shared.objects c fs cs m.objects m

-- Waiting tasks.

module _ (p : Kept) (plan : Plan) (barrier : ℕ → Sight → Result Bool Raise) (through : BarrierLooks barrier) where
  entry_same : (o : Owner) (entry : ℕ) (c : All Seen) (fs : List Frame) (cs : List Call) → entry_words plan o entry c ≡ entry_words plan o entry (with_kept fs cs c)
  entry_same (owner.Task n) entry c fs cs = refl
  entry_same (owner.Object n) entry c fs cs = refl

  call_same : (s : CallState) (id : ℕ) (a : Call) (c : All Seen) (fs : List Frame) (cs : List Call) → call_reasons plan s id a c ≡ call_reasons plan s id a (with_kept fs cs c)
  call_same Queued id a c fs cs = ap (λ w. spaced (codes "call") w ∷ delay_reasons (expiry a)) (entry_same a.owner a.entry c fs cs)
  call_same Selected id a c fs cs = ap (λ w. spaced (codes "selected") w ∷ []) (entry_same (again_on id (owns c.tasks) a.owner) a.entry c fs cs)
  call_same Done id a c fs cs = refl
  call_same Cancelled id a c fs cs = refl

  of_over : (s : CallState) (id : ℕ) (a : Call) (c : All Seen) → is_call_over s ≡ true → call_reasons plan s id a c ≡ []
  of_over Queued id a c h = true_is_not_false (sym h)
  of_over Selected id a c h = true_is_not_false (sym h)
  of_over Done id a c h = refl
  of_over Cancelled id a c h = refl

  own_call_same : (id : ℕ) (c : All Seen) (fs : List Frame) (cs : List Call) → MayHave p c fs cs → (let a = call_of id c in call_reasons plan a.state id a c) ≡ (let a = call_of id (with_kept fs cs c) in call_reasons plan a.state id a (with_kept fs cs c))
  own_call_same id c fs cs m =
      let a = call_of id (with_kept fs cs c) in
      told_same p.kept (λ (x : Call). call_reasons plan x.state id x c) (λ x y h g. of_over x.state id x c h ∙ sym (of_over y.state id y c g)) 0 c.shared.calls cs m.calls id
      ∙ call_same a.state id a c fs cs

  leaving_same : (o : Option ℕ) (c : All Seen) (fs : List Frame) (cs : List Call) → leaving_hold o c ≡ leaving_hold o (with_kept fs cs c)
  leaving_same None c fs cs = refl
  leaving_same (Some master) c fs cs = refl

  acting_same : (next : Coming) (n : ℕ) (own : Own) (c : All Seen) (fs : List Frame) (cs : List Call) → acting_hold next n own c ≡ acting_hold next n own (with_kept fs cs c)
  acting_same (simply w) n own c fs cs = refl
  acting_same ending n own c fs cs = leaving_same (master_left_by (construct_left own)) c fs cs
  acting_same (selecting ones) n own c fs cs = refl
  acting_same (calling task entry) n own c fs cs = refl
  acting_same (starting object reading) n own c fs cs = refl

  hold_same : (u : Turn) (n : ℕ) (own : Own) (c : All Seen) (fs : List Frame) (cs : List Call) → hold_by u n own c ≡ hold_by u n own (with_kept fs cs c)
  hold_same resting n own c fs cs = refl
  hold_same closing n own c fs cs = leaving_same (Some (body_master own)) c fs cs
  hold_same completing n own c fs cs = refl
  hold_same (withdrawing object) n own c fs cs = refl
  hold_same (serving s) n own c fs cs = refl
  hold_same (restarting r) n own c fs cs = refl
  hold_same (expiring delays) n own c fs cs = refl
  hold_same (cancelling id) n own c fs cs = refl
  hold_same (acting next) n own c fs cs = acting_same next n own c fs cs

  held_same : (h : Hold) (n : ℕ) (own : Own) (c : All Seen) (fs : List Frame) (cs : List Call) → MayHave p c fs cs → hold_reasons plan h n own c ≡ hold_reasons plan h n own (with_kept fs cs c)
  held_same nothing n own c fs cs m = refl
  held_same (a_call id) n own c fs cs m = own_call_same id c fs cs m
  held_same an_accept n own c fs cs m = refl
  held_same a_delay n own c fs cs m = refl
  held_same (an_object object) n own c fs cs m = refl
  held_same (a_master master) n own c fs cs m = refl
  held_same an_activation n own c fs cs m = refl

  reasons_same : (n : ℕ) (t : TaskAt Seen) (c : All Seen) (fs : List Frame) (cs : List Call) → MayHave p c fs cs → reasons plan barrier n t c ≡ reasons plan barrier n t (with_kept fs cs c)
  reasons_same n t c fs cs m =
      let e : All Seen = with_kept fs cs c in
      let before = raised_reasons plan t.own.pending in
      let v = turn plan barrier n t e in
      ap (λ x. before ++ hold_reasons plan (hold_by x n t.own c) n t.own c) (turn_same p plan barrier through n t c fs cs m)
      ∙ ap (λ h. before ++ hold_reasons plan h n t.own c) (hold_same v n t.own c fs cs)
      ∙ ap (λ l. before ++ l) (held_same (hold_by v n t.own e) n t.own c fs cs m)

  lines_same : (n : ℕ) (ts : List (TaskAt Seen)) (c : All Seen) (fs : List Frame) (cs : List Call) → MayHave p c fs cs → wait_lines plan barrier n ts c ≡ wait_lines plan barrier n ts (with_kept fs cs c)
  lines_same n [] c fs cs m = refl
  lines_same n (t ∷ ts) c fs cs m =
      ap (λ l. reason_lines n t.own.name (if is_terminated t.own.status then [] else l) ++ wait_lines plan barrier (suc n) ts c) (reasons_same n t c fs cs m)
      ∙ ap (λ l. reason_lines n t.own.name (if is_terminated t.own.status then [] else reasons plan barrier n t (with_kept fs cs c)) ++ l) (lines_same (suc n) ts c fs cs m)

  pub waits_view_same : (c : All Seen) (fs : List Frame) (cs : List Call) → MayHave p c fs cs → waits_view plan barrier c ≡ waits_view plan barrier (with_kept fs cs c)
  waits_view_same c fs cs m = lines_same 0 c.tasks c fs cs m

module _ {C : Type 0} (p : Kept) (plan : Plan) (k : Controls C) (through : Looks k) where
  pub waits_at_same : (c : All C) (fs : List Frame) (cs : List Call) → MayHave p c fs cs → waits_view plan k.barrier (seen plan k c) ≡ waits_view plan k.barrier (seen plan k (with_kept fs cs c))
  waits_at_same c fs cs m = waits_view_same p plan k.barrier through.barrier (seen plan k c) fs cs (seen_may p plan k through c fs cs m) ∙ ap (waits_view plan k.barrier) (seen_same p plan k through c fs cs m)
