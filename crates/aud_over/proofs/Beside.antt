-- Two programs under way that are the same but for frames and calls that nothing names.
use Rattle.std.proofs.Common.{◌≡◌, ℕ, zero, suc, ◌≤◌, List, [], ◌∷◌, ◌++◌, length, slice_get, slice_index_or, Option, Some, None, Bool, true, false, refl, sym, ap, subst, arith, length-append}
use Rattle.std.specs.Prelude.{if◌then◌else◌, take, slice_index}
use Rattle.std.proofs.Math.Path.{fun_ext}
use Rattle.aud_meaning.specs.Configuration.{Frame, Purpose, for_body, for_block, for_loop, for_procedure, for_operation, for_entry, for_accept, Opened, Own, Call, Object, TaskAt, All, Acting}
use Rattle.aud_meaning.specs.Evaluation.{Facts, Sight}
use Rattle.aud_meaning.specs.Parts.{changed, nobody, no_object, owns, on_task, on_own, on_control, on_call, on_object, new_call, with_frames, acting, put_back, alone_by, alone, facts_in, is_callable, is_terminated}
use Rattle.aud_over.specs.Over.{with_kept}
use Rattle.aud_over.specs.Looks.{SeesSame}
use Rattle.aud_over.proofs.Frames.{Agree, agree_at, agree_length}
use Rattle.aud_over.proofs.Calls.{SameCalls, EachOf, same_changed, same_behind, queue_same}
use Rattle.aud_meaning.specs.declared.state.Restart.{Restart}

-- which frames and calls are the same: all with these numbers or higher ones, and the first frame
pub record Kept : Type 1 where
  pub named : ℕ → Type 0
  pub kept : ℕ → Type 0
  pub frames : ℕ
  pub calls : ℕ
  pub first : named 0
  pub new : (i : ℕ) → frames ≤ i → named i
  pub new_call : (i : ℕ) → calls ≤ i → kept i

abbrev pub KeepsPurpose : (ℕ → Type 0) → Purpose → Type 0
KeepsPurpose kept for_body = Unit {0}
KeepsPurpose kept for_block = Unit {0}
KeepsPurpose kept for_loop = Unit {0}
KeepsPurpose kept (for_procedure r) = Unit {0}
KeepsPurpose kept (for_operation n r) = Unit {0}
KeepsPurpose kept (for_entry n id s b) = kept id
KeepsPurpose kept (for_accept id) = kept id

-- its frame, those that were seen before, its call
abbrev pub NamesOpened : Kept → Opened → Type 0
NamesOpened p o = p.named o.frame × EachOf p.named o.saved × KeepsPurpose p.kept o.purpose

abbrev pub NamesAll : Kept → List Opened → Type 0
NamesAll p [] = Unit {0}
NamesAll p (o ∷ os) = NamesOpened p o × NamesAll p os

-- the call that it makes again
abbrev pub KeepsRestart : (ℕ → Type 0) → Option Restart → Type 0
KeepsRestart kept None = Unit {0}
KeepsRestart kept (Some r) = kept r.call

abbrev pub Names : Kept → Own → Type 0
Names p own = EachOf p.named own.display × NamesAll p own.opened × KeepsRestart p.kept own.restart

abbrev pub TasksName : {C : Type 0} → Kept → List (TaskAt C) → Type 0
TasksName p [] = Unit {0}
TasksName p (t ∷ ts) = Names p t.own × TasksName p ts

abbrev pub ObjectsName : Kept → List Object → Type 0
ObjectsName p [] = Unit {0}
ObjectsName p (o ∷ os) = EachOf p.named o.display × ObjectsName p os

-- these frames and calls may stand in place of its own
pub record MayHave {C : Type 0} (p : Kept) (c : All C) (fs : List Frame) (cs : List Call) : Type 0 where
  pub frames : Agree p.named c.shared.frames fs
  pub calls : SameCalls p.kept 0 c.shared.calls cs
  pub tasks : TasksName p c.tasks
  pub objects : ObjectsName p c.shared.objects
  pub room : p.frames ≤ length c.shared.frames
  pub call_room : p.calls ≤ length c.shared.calls

pub record Beside {C : Type 0} (p : Kept) (c d : All C) : Type 0 where
  pub fs : List Frame
  pub cs : List Call
  pub same : d ≡ with_kept fs cs c
  pub may : MayHave p c fs cs

pub each_joined : (named : ℕ → Type 0) (ns ms : List ℕ) → EachOf named ns → EachOf named ms → EachOf named (ns ++ ms)
each_joined named [] ms h g = g
each_joined named (n ∷ ns) ms h g = (h.0, each_joined named ns ms h.1 g)

pub each_taken : (named : ℕ → Type 0) (k : ℕ) (ns : List ℕ) → EachOf named ns → EachOf named (take k ns)
each_taken named zero ns h = tt
each_taken named (suc k) [] h = tt
each_taken named (suc k) (n ∷ ns) h = (h.0, each_taken named k ns h.1)

pub each_at : (named : ℕ → Type 0) → named 0 → (ns : List ℕ) → EachOf named ns → (i : ℕ) → named (slice_index ns i)
each_at named z [] h i = z
each_at named z (n ∷ ns) h zero = h.0
each_at named z (n ∷ ns) h (suc i) = each_at named z ns h.1 i

pub length_changed : {A : Type 0} (n : ℕ) (f : A → A) (xs : List A) → length (changed n f xs) ≡ length xs
length_changed n f [] = refl
length_changed zero f (x ∷ xs) = refl
length_changed (suc n) f (x ∷ xs) = ap suc (length_changed n f xs)

pub one_more : {A : Type 0} (n : ℕ) (x : A) (xs : List A) → n ≤ length xs → n ≤ length (xs ++ x ∷ [])
one_more n x xs h = simp length-append (omega (arith, h))

module _ (p : Kept) where
  -- What is named by parts.

  pub nobody_names : Names p nobody
  nobody_names = (tt, tt, tt)

  pub own_names : {C : Type 0} (ts : List (TaskAt C)) (n : ℕ) → TasksName p ts → Names p (slice_index_or (owns ts) n nobody)
  own_names [] n h = nobody_names
  own_names (t ∷ ts) zero h = h.0
  own_names (t ∷ ts) (suc n) h = own_names ts n h.1

  abbrev pub IfNames : {C : Type 0} → Option (TaskAt C) → Type 0
  IfNames None = Unit {0}
  IfNames (Some t) = Names p t.own

  pub got_names : {C : Type 0} (ts : List (TaskAt C)) (n : ℕ) → TasksName p ts → IfNames (slice_get ts n)
  got_names [] n h = tt
  got_names (t ∷ ts) zero h = h.0
  got_names (t ∷ ts) (suc n) h = got_names ts n h.1

  pub changed_names : {C : Type 0} (ts : List (TaskAt C)) (n : ℕ) (f : TaskAt C → TaskAt C) → ((t : TaskAt C) → Names p t.own → Names p (f t).own) → TasksName p ts → TasksName p (changed n f ts)
  changed_names [] n f keeps h = tt
  changed_names (t ∷ ts) zero f keeps h = (keeps t h.0, h.1)
  changed_names (t ∷ ts) (suc n) f keeps h = (h.0, changed_names ts n f keeps h.1)

  pub joined_names : {C : Type 0} (ts us : List (TaskAt C)) → TasksName p ts → TasksName p us → TasksName p (ts ++ us)
  joined_names [] us h g = g
  joined_names (t ∷ ts) us h g = (h.0, joined_names ts us h.1 g)

  pub object_names : (os : List Object) (n : ℕ) → ObjectsName p os → EachOf p.named (slice_index_or os n no_object).display
  object_names [] n h = tt
  object_names (o ∷ os) zero h = h.0
  object_names (o ∷ os) (suc n) h = object_names os n h.1

  pub changed_objects : (os : List Object) (n : ℕ) (f : Object → Object) → ((o : Object) → EachOf p.named o.display → EachOf p.named (f o).display) → ObjectsName p os → ObjectsName p (changed n f os)
  changed_objects [] n f keeps h = tt
  changed_objects (o ∷ os) zero f keeps h = (keeps o h.0, h.1)
  changed_objects (o ∷ os) (suc n) f keeps h = (h.0, changed_objects os n f keeps h.1)

  pub joined_objects : (os more : List Object) → ObjectsName p os → ObjectsName p more → ObjectsName p (os ++ more)
  joined_objects [] more h g = g
  joined_objects (o ∷ os) more h g = (h.0, joined_objects os more h.1 g)

  -- What is read.

  pub sees_same : (s : Sight) (fs : List Frame) → Agree p.named s.frames fs → EachOf p.named s.display → SeesSame s fs
  sees_same s fs a d = record {
    at = λ level. agree_at p.named s.frames fs a (slice_index s.display level) (each_at p.named p.first s.display d level);
    many = agree_length p.named s.frames fs a;
  }

  pub facts_same : (os : List Own) (xs ys : List Call) → SameCalls p.kept 0 xs ys → facts_in os xs ≡ facts_in os ys
  facts_same os xs ys h =
      ap (λ (count : ℕ → ℕ → ℕ). let f : Facts = record { count = count; callable = λ n. is_callable (slice_index_or os n nobody); terminated = λ n. is_terminated (slice_index_or os n nobody).status } in f)
      (fun_ext (λ owner. fun_ext (λ entry. ap (λ ws. length ws) (queue_same p.kept owner entry xs ys h))))

  -- What is done.

  pub beside : {C : Type 0} (c : All C) (fs : List Frame) (cs : List Call) → MayHave p c fs cs → Beside p c (with_kept fs cs c)
  beside c fs cs m = record { fs = fs; cs = cs; same = refl; may = m }

  pub at_kept : {C : Type 0} (f : All C → All C) (c d : All C) → Beside p c d → ((fs : List Frame) (cs : List Call) → MayHave p c fs cs → Beside p (f c) (f (with_kept fs cs c))) → Beside p (f c) (f d)
  at_kept f c d r go = subst (λ e. Beside p (f c) (f e)) (sym r.same) (go r.fs r.cs r.may)

  pub if_beside : {C : Type 0} (b : Bool) (x y x' y' : All C) → Beside p x x' → Beside p y y' → Beside p (if b then x else y) (if b then x' else y')
  if_beside true x y x' y' h g = h
  if_beside false x y x' y' h g = g

  pub task_kept : {C : Type 0} (n : ℕ) (f : TaskAt C → TaskAt C) (c d : All C) → ((t : TaskAt C) → Names p t.own → Names p (f t).own) → Beside p c d → Beside p (on_task n f c) (on_task n f d)
  task_kept n f c d keeps r = record {
    fs = r.fs;
    cs = r.cs;
    same = ap (on_task n f) r.same;
    may = record { frames = r.may.frames; calls = r.may.calls; tasks = changed_names c.tasks n f keeps r.may.tasks; objects = r.may.objects; room = r.may.room; call_room = r.may.call_room };
  }

  pub own_kept : {C : Type 0} (n : ℕ) (f : Own → Own) (c d : All C) → ((o : Own) → Names p o → Names p (f o)) → Beside p c d → Beside p (on_own n f c) (on_own n f d)
  own_kept n f c d keeps r = task_kept n (λ t. record t { own = f t.own }) c d (λ t h. keeps t.own h) r

  pub control_kept : {C : Type 0} (n : ℕ) (f : C → C) (c d : All C) → Beside p c d → Beside p (on_control n f c) (on_control n f d)
  control_kept n f c d r = task_kept n (λ t. record t { control = f t.control }) c d (λ t h. h) r

  pub call_kept : {C : Type 0} (id : ℕ) (f : Call → Call) (c d : All C) → p.kept id → Beside p c d → Beside p (on_call id f c) (on_call id f d)
  call_kept id f c d k r = record {
    fs = r.fs;
    cs = changed id f r.cs;
    same = ap (on_call id f) r.same;
    may = record { frames = r.may.frames; calls = same_changed p.kept c.shared.calls r.cs id f r.may.calls k; tasks = r.may.tasks; objects = r.may.objects; room = r.may.room; call_room = subst (λ n. p.calls ≤ n) (sym (length_changed id f c.shared.calls)) r.may.call_room };
  }

  pub object_kept : {C : Type 0} (n : ℕ) (f : Object → Object) (c d : All C) → ((o : Object) → EachOf p.named o.display → EachOf p.named (f o).display) → Beside p c d → Beside p (on_object n f c) (on_object n f d)
  object_kept n f c d keeps r = record {
    fs = r.fs;
    cs = r.cs;
    same = ap (on_object n f) r.same;
    may = record { frames = r.may.frames; calls = r.may.calls; tasks = r.may.tasks; objects = changed_objects c.shared.objects n f keeps r.may.objects; room = r.may.room; call_room = r.may.call_room };
  }

  pub call_added : {C : Type 0} (x : Call) (c d : All C) → Beside p c d → Beside p (new_call x c) (new_call x d)
  call_added x c d r = record {
    fs = r.fs;
    cs = r.cs ++ x ∷ [];
    same = ap (new_call x) r.same;
    may = record {
      frames = r.may.frames;
      calls = same_behind p.kept c.shared.calls r.cs x r.may.calls (p.new_call (length c.shared.calls) r.may.call_room);
      tasks = r.may.tasks;
      objects = r.may.objects;
      room = r.may.room;
      call_room = one_more p.calls x c.shared.calls r.may.call_room;
    };
  }

  pub frames_kept : {C : Type 0} (xs ys : List Frame) (c d : All C) → Agree p.named xs ys → p.frames ≤ length xs → Beside p c d → Beside p (with_frames xs c) (with_frames ys d)
  frames_kept xs ys c d a more r = record {
    fs = ys;
    cs = r.cs;
    same = ap (with_frames ys) r.same;
    may = record { frames = a; calls = r.may.calls; tasks = r.may.tasks; objects = r.may.objects; room = more; call_room = r.may.call_room };
  }

-- A task by itself.

abbrev pub one_with : {C : Type 0} → List Frame → List Call → Acting C → Acting C
one_with fs cs u = record u { shared = record u.shared { frames = fs; calls = cs } }

pub record MayHaveOne {C : Type 0} (p : Kept) (u : Acting C) (fs : List Frame) (cs : List Call) : Type 0 where
  pub frames : Agree p.named u.shared.frames fs
  pub calls : SameCalls p.kept 0 u.shared.calls cs
  pub own : Names p u.own
  pub objects : ObjectsName p u.shared.objects
  pub room : p.frames ≤ length u.shared.frames
  pub call_room : p.calls ≤ length u.shared.calls

pub record BesideOne {C : Type 0} (p : Kept) (u v : Acting C) : Type 0 where
  pub fs : List Frame
  pub cs : List Call
  pub same : v ≡ one_with fs cs u
  pub may : MayHaveOne p u fs cs

module _ (p : Kept) where
  pub beside_one : {C : Type 0} (u : Acting C) (fs : List Frame) (cs : List Call) → MayHaveOne p u fs cs → BesideOne p u (one_with fs cs u)
  beside_one u fs cs m = record { fs = fs; cs = cs; same = refl; may = m }

  pub at_one : {C : Type 0} (f : Acting C → Acting C) (u v : Acting C) → BesideOne p u v → ((fs : List Frame) (cs : List Call) → MayHaveOne p u fs cs → BesideOne p (f u) (f (one_with fs cs u))) → BesideOne p (f u) (f v)
  at_one f u v r go = subst (λ e. BesideOne p (f u) (f e)) (sym r.same) (go r.fs r.cs r.may)

  pub if_one : {C : Type 0} (b : Bool) (x y x' y' : Acting C) → BesideOne p x x' → BesideOne p y y' → BesideOne p (if b then x else y) (if b then x' else y')
  if_one true x y x' y' h g = h
  if_one false x y x' y' h g = g

  pub alone_kept : {C : Type 0} (f : Acting C → Acting C) (n : ℕ) (c d : All C) → ((u v : Acting C) → BesideOne p u v → BesideOne p (f u) (f v)) → Beside p c d → Beside p (alone f n c) (alone f n d)
  alone_kept {C} f n c d keeps r = at_kept p (alone f n) c d r (λ fs cs m. got fs cs m (slice_get c.tasks n) (got_names p c.tasks n m.tasks))
    where
      got : (fs : List Frame) (cs : List Call) → MayHave p c fs cs → (o : Option (TaskAt C)) → IfNames p o → Beside p (alone_by f o n c) (alone_by f o n (with_kept fs cs c))
      got fs cs m None h = beside p c fs cs m
      got fs cs m (Some t) h =
          let u : Acting C = acting t c.shared in
          let o : BesideOne p (f u) (f (one_with fs cs u)) = keeps u (one_with fs cs u) (beside_one u fs cs (record { frames = m.frames; calls = m.calls; own = h; objects = m.objects; room = m.room; call_room = m.call_room })) in
          record {
            fs = o.fs;
            cs = o.cs;
            same = ap (λ (a : Acting C). put_back n a (with_kept fs cs c)) o.same;
            may = record {
              frames = o.may.frames;
              calls = o.may.calls;
              tasks = changed_names p c.tasks n (λ old. record { control = (f u).control; own = (f u).own }) (λ t g. o.may.own) m.tasks;
              objects = o.may.objects;
              room = o.may.room;
              call_room = o.may.call_room;
            };
          }
