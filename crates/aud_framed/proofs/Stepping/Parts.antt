-- What a change of one task leaves of all that is said of frames.
use Rattle.std.proofs.Common.{◌≡◌, ◌⊎◌, ℕ, zero, suc, List, [], ◌∷◌, Option, Some, Bool, true, false, refl, sym, ap, ◌∙◌, subst, inl, inr, slice_get}
use Rattle.std.proofs.lemmas.Option.{same_Some}
use Rattle.aud_typed.specs.Tree.{Plan}
use Rattle.aud_meaning.specs.declared.state.Again.{Again}
use Rattle.aud_meaning.specs.declared.state.Owner.{Owner}
use Rattle.aud_meaning.specs.declared.state.Restart.{Restart}
use Rattle.aud_meaning.specs.declared.state.Serving.{Serving}
use Rattle.aud_meaning.specs.declared.state.Status.{Status}
use Rattle.aud_meaning.specs.declared.state.Status.TheVariants.{Running, Calling}
use Rattle.aud_meaning.specs.Configuration.{Opened, Own, Call, Object, TaskAt, All, Acting}
use Rattle.aud_meaning.specs.Parts.{acting, alone, alone_by, call_of, changed, is_over, on_task}
use Rattle.aud_meaning.proofs.Limits.Frames.{nth}
use Rattle.aud_code.specs.Places.{Spot}
use Rattle.aud_code.specs.Flat.{Flat}
use Rattle.aud_over.specs.Over.{is_call_over}
use Rattle.aud_framed.specs.Waiting.{AllFramed, TaskFramed}
use Rattle.aud_framed.specs.Calls.{AgainFits, AreApart, CallerWaits, CallsOn, IsPast, Serves, ServesIn, Waits, WithinEntry, calls_in, objects_in, with_restarted, with_served}
use Rattle.aud_framed.specs.Framed.{IsFramed}

-- Tasks by their numbers.

pub changed_own : (P : ℕ → Own → Type 0) (n : ℕ) (f : TaskAt Spot → TaskAt Spot) (ts : List (TaskAt Spot)) → ((t : TaskAt Spot) → slice_get ts n ≡ Some t → P n t.own → P n (f t).own) → (m : ℕ) → P m (nth m ts) → P m (nth m (changed n f ts))
changed_own P n f [] g m h = h
changed_own P zero f (t ∷ ts) g zero h = g t refl h
changed_own P zero f (t ∷ ts) g (suc m) h = h
changed_own P (suc n) f (t ∷ ts) g zero h = h
changed_own P (suc n) f (t ∷ ts) g (suc m) h = changed_own (λ i. P (suc i)) n f ts g m h

pub same_task : (n : ℕ) (ts : List (TaskAt Spot)) (t u : TaskAt Spot) → slice_get ts n ≡ Some t → slice_get ts n ≡ Some u → t ≡ u
same_task n ts t u e d = same_Some t u (sym e ∙ d)

pub own_got : (n : ℕ) (ts : List (TaskAt Spot)) (t : TaskAt Spot) → slice_get ts n ≡ Some t → nth n ts ≡ t.own
own_got n [] t e = absurd cc
own_got zero (x ∷ xs) t e = ap (λ (y : TaskAt Spot). y.own) (same_Some x t e)
own_got (suc n) (x ∷ xs) t e = own_got n xs t e

-- What is said depends on tasks, calls and objects alone.

abbrev pub bare : List (TaskAt Spot) → List Call → List Object → All Spot
bare ts calls objects = record {
  tasks = ts;
  shared = record { frames = []; output = []; cut = false; calls = calls; arrivals = 0; objects = objects };
  choices = [];
  clock = 0;
  steps = 0;
}

module _ (plan : Plan) where
  pub serves_bare : (c : All Spot) (n : ℕ) (own : Own) → Serves plan c n own → Serves plan (bare [] c.shared.calls c.shared.objects) n own
  serves_bare c n own s = record {
    opened = s.opened;
    calls = s.calls;
    objects = s.objects;
    serving = s.serving;
    again = s.again;
    restart = λ r e. let x = s.restart r e in record { served = x.served; form = x.form; entry = x.entry; outside = x.outside; apart = x.apart };
    withdraw = s.withdraw;
  }

  pub serves_full : (c : All Spot) (n : ℕ) (own : Own) → Serves plan (bare [] c.shared.calls c.shared.objects) n own → Serves plan c n own
  serves_full c n own s = record {
    opened = s.opened;
    calls = s.calls;
    objects = s.objects;
    serving = s.serving;
    again = s.again;
    restart = λ r e. let x = s.restart r e in record { served = x.served; form = x.form; entry = x.entry; outside = x.outside; apart = x.apart };
    withdraw = s.withdraw;
  }

  pub serves_like : (c d : All Spot) (n : ℕ) (own : Own) → c.shared.calls ≡ d.shared.calls → c.shared.objects ≡ d.shared.objects → Serves plan c n own → Serves plan d n own
  serves_like c d n own e f s =
      serves_full d n own
      (subst (λ objects. Serves plan (bare [] d.shared.calls objects) n own) f
      (subst (λ calls. Serves plan (bare [] calls c.shared.objects) n own) e (serves_bare c n own s)))

-- What of a task's change counts for calls and objects.
pub record Follows (plan : Plan) (c : All Spot) (n : ℕ) (own new : Own) : Type 0 where
  pub live : is_over new.status ≡ false → is_over own.status ≡ false
  pub waits : (id : ℕ) → is_call_over (call_of id c).state ≡ false → (call_of id c).caller ≡ n → CallerWaits id (call_of id c) own → CallerWaits id (call_of id c) new
  pub serves : is_over new.status ≡ false → Serves plan c n own → Serves plan c n new
  pub abnormal : new.abnormal ≡ true → own.abnormal ≡ true

module _ (plan : Plan) (code : Flat) (seen : List ℕ) where
  pub framed_at : (n : ℕ) (ts : List (TaskAt Spot)) (t : TaskAt Spot) → slice_get ts n ≡ Some t → AllFramed plan code seen ts → TaskFramed plan code seen t.own.status t
  framed_at n [] t e h = absurd cc
  framed_at zero (x ∷ xs) t e h = subst (λ (y : TaskAt Spot). TaskFramed plan code seen y.own.status y) (same_Some x t e) h.0
  framed_at (suc n) (x ∷ xs) t e h = framed_at n xs t e h.1

  pub changed_framed : (n : ℕ) (f : TaskAt Spot → TaskAt Spot) (ts : List (TaskAt Spot)) → ((t : TaskAt Spot) → slice_get ts n ≡ Some t → TaskFramed plan code seen (f t).own.status (f t)) → AllFramed plan code seen ts → AllFramed plan code seen (changed n f ts)
  changed_framed n f [] g h = tt
  changed_framed zero f (t ∷ ts) g h = (g t refl, h.1)
  changed_framed (suc n) f (t ∷ ts) g h = (h.0, changed_framed n f ts g h.1)

  pub task_framed : (n : ℕ) (f : TaskAt Spot → TaskAt Spot) (c : All Spot) (t : TaskAt Spot) → slice_get c.tasks n ≡ Some t → TaskFramed plan code seen (f t).own.status (f t) → Follows plan c n t.own (f t).own → IsFramed plan code seen c → IsFramed plan code seen (on_task n f c)
  task_framed n f c t is framed follows w = record {
    tasks = changed_framed n f c.tasks (λ x e. subst (λ (y : TaskAt Spot). TaskFramed plan code seen (f y).own.status (f y)) (same_task n c.tasks t x is e) framed) w.tasks;
    objects = w.objects;
    calls = λ id live.
        changed_own (λ m own. (call_of id c).caller ≡ m → CallerWaits id (call_of id c) own) n f c.tasks
        (λ x e h mine.
        subst (λ (y : TaskAt Spot). CallerWaits id (call_of id c) (f y).own) (same_task n c.tasks t x is e)
        (follows.waits id live mine (subst (λ (y : TaskAt Spot). CallerWaits id (call_of id c) y.own) (same_task n c.tasks x t e is) (h mine))))
        (call_of id c).caller (λ mine. w.calls id live) refl;
    queued = w.queued;
    stays = λ id queued.
        changed_own (λ m own. own.abnormal ≡ true → (call_of id c).stays ≡ true) n f c.tasks
        (λ x e h ill.
        h (subst (λ (y : TaskAt Spot). y.own.abnormal ≡ true) (same_task n c.tasks t x is e) (follows.abnormal (subst (λ (y : TaskAt Spot). (f y).own.abnormal ≡ true) (same_task n c.tasks x t e is) ill)))) (call_of id c).caller (w.stays id queued);
    serves = λ m live.
        serves_like plan c (on_task n f c) m (nth m (changed n f c.tasks)) refl refl
        (changed_own (λ i own. is_over own.status ≡ false → Serves plan c i own) n f c.tasks
        (λ x e h.
        subst (λ (y : TaskAt Spot). is_over (f y).own.status ≡ false → Serves plan c n (f y).own) (same_task n c.tasks t x is e)
        (λ goes. follows.serves goes (subst (λ (y : TaskAt Spot). is_over y.own.status ≡ false → Serves plan c n y.own) (same_task n c.tasks x t e is) h (follows.live goes)))) m (w.serves m) live);
    alone = w.alone;
  }

  framed_bare : (c : All Spot) → IsFramed plan code seen c → IsFramed plan code seen (bare c.tasks c.shared.calls c.shared.objects)
  framed_bare c w = record {
    tasks = w.tasks;
    objects = w.objects;
    calls = w.calls;
    queued = w.queued;
    stays = w.stays;
    serves = λ n live. serves_like plan c (bare c.tasks c.shared.calls c.shared.objects) n (nth n c.tasks) refl refl (w.serves n live);
    alone = w.alone;
  }

  framed_full : (c : All Spot) → IsFramed plan code seen (bare c.tasks c.shared.calls c.shared.objects) → IsFramed plan code seen c
  framed_full c w = record {
    tasks = w.tasks;
    objects = w.objects;
    calls = w.calls;
    queued = w.queued;
    stays = w.stays;
    serves = λ n live. serves_like plan (bare c.tasks c.shared.calls c.shared.objects) c n (nth n c.tasks) refl refl (w.serves n live);
    alone = w.alone;
  }

  pub like_framed : (c d : All Spot) → c.tasks ≡ d.tasks → c.shared.calls ≡ d.shared.calls → c.shared.objects ≡ d.shared.objects → IsFramed plan code seen c → IsFramed plan code seen d
  like_framed c d a b e w =
      framed_full d
      (subst (λ objects. IsFramed plan code seen (bare d.tasks d.shared.calls objects)) e
      (subst (λ calls. IsFramed plan code seen (bare d.tasks calls c.shared.objects)) b
      (subst (λ ts. IsFramed plan code seen (bare ts c.shared.calls c.shared.objects)) a (framed_bare c w))))

  abbrev pub task_of : Acting Spot → TaskAt Spot
  task_of u = record { control = u.control; own = u.own }

  -- what a task does alone
  pub alone_framed : (f : Acting Spot → Acting Spot) (n : ℕ) (c : All Spot) (t : TaskAt Spot) → slice_get c.tasks n ≡ Some t → (f (acting t c.shared)).shared.calls ≡ c.shared.calls → (f (acting t c.shared)).shared.objects ≡ c.shared.objects → TaskFramed plan code seen (f (acting t c.shared)).own.status (task_of (f (acting t c.shared))) → Follows plan c n t.own (f (acting t c.shared)).own → IsFramed plan code seen c → IsFramed plan code seen (alone f n c)
  alone_framed f n c t is calls objects framed follows w =
      let u : Acting Spot = f (acting t c.shared) in
      subst (λ o. IsFramed plan code seen (alone_by f o n c)) (sym is)
      (like_framed (on_task n (λ old. task_of u) c) (alone_by f (Some t) n c) refl (sym calls) (sym objects) (task_framed n (λ old. task_of u) c t is framed follows w))

-- A task whose frames alone change.

pub record Side : Type 0 where
  pub status : Status
  pub call : ℕ
  pub serving : Option Serving
  pub restart : Option Restart
  pub withdraw : Option ℕ
  pub abnormal : Bool

abbrev pub side : Own → Side
side own = record { status = own.status; call = own.call; serving = own.serving; restart = own.restart; withdraw = own.withdraw; abnormal = own.abnormal }

-- what counts of frames for calls and objects
pub record Likens (plan : Plan) (c : All Spot) (n : ℕ) (os ps : List Opened) : Type 0 where
  pub within : (o : Owner) → WithinEntry o os → WithinEntry o ps
  pub serves : ServesIn plan c n os → ServesIn plan c n ps
  pub calls : calls_in ps ≡ calls_in os
  pub objects : objects_in ps ≡ objects_in os

pub like_frames : (plan : Plan) (c : All Spot) (n : ℕ) (os : List Opened) → Likens plan c n os os
like_frames plan c n os = record { within = λ o h. h; serves = λ h. h; calls = refl; objects = refl }

pub then_frames : (plan : Plan) (c : All Spot) (n : ℕ) (os ps qs : List Opened) → Likens plan c n os ps → Likens plan c n ps qs → Likens plan c n os qs
then_frames plan c n os ps qs h k = record { within = λ o x. k.within o (h.within o x); serves = λ x. k.serves (h.serves x); calls = k.calls ∙ h.calls; objects = k.objects ∙ h.objects }

waits_on : (o : Owner) (own new : Own) → side new ≡ side own → (WithinEntry o own.opened → WithinEntry o new.opened) → Waits o own → Waits o new
waits_on o own new same f (inl h) = inl (ap (λ (k : Side). k.status) same ∙ h)
waits_on o own new same f (inr (inl h, w)) = inr (inl (ap (λ (k : Side). k.status) same ∙ h), f w)
waits_on o own new same f (inr (inr h, w)) = inr (inr (ap (λ (k : Side). k.status) same ∙ h), f w)

may_serve : (own new : Own) (P : Type 0) → side new ≡ side own → (own.status ≡ Running) ⊎ ((own.status ≡ Calling) × P) → (new.status ≡ Running) ⊎ ((new.status ≡ Calling) × P)
may_serve own new P same (inl h) = inl (ap (λ (k : Side). k.status) same ∙ h)
may_serve own new P same (inr h) = inr (ap (λ (k : Side). k.status) same ∙ h.0, h.1)

pub follows : (plan : Plan) (c : All Spot) (n : ℕ) (own new : Own) → side new ≡ side own → ((r : Again) → new.again ≡ Some r → AgainFits plan c r new) → Likens plan c n own.opened new.opened → Follows plan c n own new
follows plan c n own new same again k = record {
  live = λ h. subst (λ (x : Side). is_over x.status ≡ false) same h;
  waits = λ id live mine h. (ap (λ (x : Side). x.call) same ∙ h.0, waits_on (call_of id c).owner own new same (k.within (call_of id c).owner) h.1);
  serves = λ goes s. record {
    opened = k.serves s.opened;
    calls =
        subst (λ (x : Side). AreApart (with_restarted x.restart (calls_in new.opened))) (sym same)
        (subst (λ ns. AreApart (with_restarted own.restart ns)) (sym k.calls) s.calls);
    objects =
        subst (λ (x : Side). AreApart (with_served x.serving (objects_in new.opened))) (sym same)
        (subst (λ ns. AreApart (with_served own.serving ns)) (sym k.objects) s.objects);
    serving = λ x e. let h = s.serving x (ap (λ (y : Side). y.serving) (sym same) ∙ e) in (h.0, may_serve own new (CallsOn plan c n x.object) same h.1);
    again = again;
    restart = λ r e.
        let x = s.restart r (ap (λ (y : Side). y.restart) (sym same) ∙ e) in
        record { served = x.served; form = x.form; entry = x.entry; outside = k.objects ∙ x.outside; apart = (ap (λ (y : Side). y.serving) same ∙ x.apart.0, λ q. x.apart.1 (ap (λ (y : Side). y.status) (sym same) ∙ q)) };
    withdraw = λ o e.
        let h = s.withdraw o (ap (λ (y : Side). y.withdraw) (sym same) ∙ e) in
        ((h.0.0, waits_on h.0.0 own new same (k.within h.0.0) h.0.1), (h.1.0, (subst (λ (x : Side). IsPast plan c x.call) (sym same) h.1.1.0, h.1.1.1)));
  };
  abnormal = λ h. subst (λ (x : Side). x.abnormal ≡ true) same h;
}
