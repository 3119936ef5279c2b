-- Masters that are left, declarative parts in which an exception is raised, and tasks that are closed.
use Rattle.std.proofs.Common.{◌≡◌, ℕ, suc, List, [], ◌∷◌, Bool, true, false, refl, sym, subst, if◌then◌else◌}
use Rattle.std.proofs.lemmas.Bool.{and_parts, false≢true}
use Rattle.std.specs.Prelude.{◌&&◌, ◌||◌, nat_eq, not}
use Rattle.aud_typed.specs.Tree.{Plan}
use Rattle.aud_meaning.specs.declared.state.Status.{Status}
use Rattle.aud_meaning.specs.declared.state.Status.TheVariants.{Created, Running, Activating, Accepting, Delaying, Calling, Completed, Terminated}
use Rattle.aud_meaning.specs.Configuration.{Own, TaskAt, All}
use Rattle.aud_meaning.specs.Parts.{Closable, any, body_master, depends, is_accepting, is_created, may_terminate, numbers, own_of}
use Rattle.aud_meaning.specs.Tasks as effect
use Rattle.aud_meaning.proofs.Limits.Frames.{nth}
use Rattle.aud_code.specs.Places.{Spot}
use Rattle.aud_code.specs.Flat.{Flat, flat_controls}
use Rattle.aud_code.specs.Seen.{IsSeen}
use Rattle.aud_code.specs.Sound.{Counts, IsSound}
use Rattle.aud_framed.specs.Stepping.{HasWays}
use Rattle.aud_framed.proofs.Stepping.Refusing.{Became, EachRests, IsGood, Rests, all_terminated, orders, terminated, then_became}

accepting_rests : (s : Status) → is_accepting s ≡ true → Rests s
accepting_rests Created h = tt
accepting_rests Running h = absurd (false≢true h)
accepting_rests Activating h = absurd (false≢true h)
accepting_rests Accepting h = tt
accepting_rests Delaying h = tt
accepting_rests Calling h = absurd (false≢true h)
accepting_rests Completed h = tt
accepting_rests Terminated h = tt

pub created_rests : (s : Status) → is_created s ≡ true → Rests s
created_rests Created h = tt
created_rests Running h = absurd (false≢true h)
created_rests Activating h = absurd (false≢true h)
created_rests Accepting h = tt
created_rests Delaying h = tt
created_rests Calling h = absurd (false≢true h)
created_rests Completed h = tt
created_rests Terminated h = tt

-- what may be left of a master waits at a terminate alternative
may_rest : (own : Own) → may_terminate own ≡ true → Rests own.status
may_rest own h = accepting_rests own.status (and_parts (is_accepting own.status) _ (and_parts (is_accepting own.status && own.waits.terminate) (not own.abnormal) h).0).0

abbrev pub FoundOwn : ℕ → List (TaskAt Spot) → (ℕ → Own) → Type 0
FoundOwn m [] look = Unit {0}
FoundOwn m (t ∷ ts) look = (look m ≡ t.own) × FoundOwn (suc m) ts look

own_on : (m : ℕ) (ts : List (TaskAt Spot)) (look : ℕ → Own) → FoundOwn m ts (λ n. look (suc n)) → FoundOwn (suc m) ts look
own_on m [] look h = tt
own_on m (t ∷ ts) look h = (h.0, own_on (suc m) ts look h.1)

abbrev pub AllRest : (ℕ → Own) → List ℕ → Type 0
AllRest look [] = Unit {0}
AllRest look (n ∷ ns) = Rests (look n).status × AllRest look ns

pub owns_found : (ts : List (TaskAt Spot)) → FoundOwn 0 ts (λ i. nth i ts)
owns_found [] = tt
owns_found (t ∷ ts) = (refl, own_on 0 ts (λ i. nth i (t ∷ ts)) (owns_found ts))

none_in_the_way : (master : ℕ) (m : ℕ) (ts : List (TaskAt Spot)) (look : ℕ → Own) → FoundOwn m ts look → not (any (λ (t : TaskAt Spot). depends master t.own && not (may_terminate t.own)) ts) ≡ true → AllRest look (numbers (λ (t : TaskAt Spot). depends master t.own) m ts)
none_in_the_way master m [] look f h = tt
none_in_the_way master m (t ∷ ts) look f h = by (depends master t.own) (may_terminate t.own) refl h (none_in_the_way master (suc m) ts look f.1)
  where
    by : (b e : Bool) → may_terminate t.own ≡ e → not ((b && not e) || any (λ (t : TaskAt Spot). depends master t.own && not (may_terminate t.own)) ts) ≡ true → (not (any (λ (t : TaskAt Spot). depends master t.own && not (may_terminate t.own)) ts) ≡ true → AllRest look (numbers (λ (t : TaskAt Spot). depends master t.own) (suc m) ts)) → AllRest look (if b then m ∷ numbers (λ (t : TaskAt Spot). depends master t.own) (suc m) ts else numbers (λ (t : TaskAt Spot). depends master t.own) (suc m) ts)
    by false e q h on = on h
    by true true q h on = (subst (λ (o : Own). Rests o.status) (sym f.0) (may_rest t.own q), on h)
    by true false q h on = absurd (false≢true h)

pub each_created : (p : TaskAt Spot → Bool) (m : ℕ) (ts : List (TaskAt Spot)) (look : ℕ → Own) → FoundOwn m ts look → AllRest look (numbers (λ (t : TaskAt Spot). is_created t.own.status && p t) m ts)
each_created p m [] look f = tt
each_created p m (t ∷ ts) look f = by (is_created t.own.status && p t) refl (each_created p (suc m) ts look f.1)
  where
    by : (b : Bool) → is_created t.own.status && p t ≡ b → AllRest look (numbers (λ (t : TaskAt Spot). is_created t.own.status && p t) (suc m) ts) → AllRest look (if b then m ∷ numbers (λ (t : TaskAt Spot). is_created t.own.status && p t) (suc m) ts else numbers (λ (t : TaskAt Spot). is_created t.own.status && p t) (suc m) ts)
    by true e r = (subst (λ (o : Own). Rests o.status) (sym f.0) (created_rests t.own.status (and_parts (is_created t.own.status) (p t) e).0), r)
    by false e r = r

module _ (plan : Plan) (code : Flat) (table : List Counts) (tasks barriers seen : List ℕ) (sound : IsSound code) (fits : IsSeen code table tasks barriers seen) (ways : HasWays code) where
  abbrev pub Becomes : All Spot → All Spot → Type 0
  Becomes c d = Became plan code table tasks barriers seen sound fits ways c d

  abbrev pub Fine : All Spot → Type 0
  Fine c = IsGood plan code table tasks barriers seen sound fits ways c

  pub each_rests : (c : All Spot) (ns : List ℕ) → AllRest (λ i. own_of i c) ns → EachRests plan code table tasks barriers seen sound fits ways c ns
  each_rests c [] h = tt
  each_rests c (n ∷ ns) h = (h.0, each_rests c ns h.1)

  pub master_closed : (master : ℕ) (c : All Spot) → Fine c → Closable master c ≡ true → Becomes c (effect.close_master (orders plan code table tasks barriers seen sound fits ways) plan (flat_controls plan code).barrier master c)
  master_closed master c w h =
      let ns : List ℕ = numbers (λ (t : TaskAt Spot). depends master t.own) 0 c.tasks in
      all_terminated plan code table tasks barriers seen sound fits ways ns c w (each_rests c ns (none_in_the_way master 0 c.tasks (λ i. own_of i c) (owns_found c.tasks) h))

  -- what a declarative part has created becomes terminated
  pub part_terminated : (part : ℕ) (c : All Spot) → Fine c → Becomes c (effect.terminate_all (orders plan code table tasks barriers seen sound fits ways) plan (flat_controls plan code).barrier (effect.not_activated (orders plan code table tasks barriers seen sound fits ways) plan (flat_controls plan code).barrier part c) c)
  part_terminated part c w =
      let ns : List ℕ = numbers (λ (t : TaskAt Spot). is_created t.own.status && nat_eq t.own.part part) 0 c.tasks in
      all_terminated plan code table tasks barriers seen sound fits ways ns c w
      (each_rests c ns (each_created (λ (t : TaskAt Spot). nat_eq t.own.part part) 0 c.tasks (λ i. own_of i c) (owns_found c.tasks)))

  -- a task that is completed is closed
  pub task_closed : (n : ℕ) (c : All Spot) → Fine c → (own_of n c).status ≡ Completed → Closable (body_master (own_of n c)) c ≡ true → Becomes c (effect.closes (orders plan code table tasks barriers seen sound fits ways) plan (flat_controls plan code).barrier n c)
  task_closed n c w completed h =
      let master : ℕ = body_master (own_of n c) in
      let d : All Spot = effect.close_master (orders plan code table tasks barriers seen sound fits ways) plan (flat_controls plan code).barrier master c in
      let once : Becomes c d = master_closed master c w h in
      let rest : Rests (own_of n c).status = subst (λ s. Rests s) (sym completed) tt in
      then_became plan code table tasks barriers seen sound fits ways c d (effect.closes (orders plan code table tasks barriers seen sound fits ways) plan (flat_controls plan code).barrier n c) once
      (terminated plan code table tasks barriers seen sound fits ways n d once.good (once.rests n rest))
