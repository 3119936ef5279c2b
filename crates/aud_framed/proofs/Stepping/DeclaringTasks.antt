-- Tasks are declared.
use Rattle.std.proofs.Common.{◌≡◌, ℕ, zero, suc, ◌+◌, ◌≤◌, List, [], ◌∷◌, ◌++◌, length, Some, None, Bool, true, false, nat_le, refl, sym, ◌∙◌, subst, if◌then◌else◌, slice_get, arith}
use Rattle.std.proofs.lemmas.Bool.{false≢true}
use Rattle.std.specs.Prelude.{◌&&◌, nat_eq, not, ℤ}
use Rattle.aud_text.specs.declared.limits.Limits.{Limits}
use Rattle.aud_text.specs.declared.limits.TheConstants.{ELEMENTS}
use Rattle.aud_text.specs.declared.place.Pos.{Pos}
use Rattle.aud_text.specs.declared.raise.Raise.TheVariants.{Program, Storage}
use Rattle.aud_typed.specs.Tree.{Plan, Tasks}
use Rattle.aud_meaning.specs.declared.state.Status.TheVariants.{Created, Running}
use Rattle.aud_meaning.specs.Configuration.{Opened, Own, TaskAt, All, Acting}
use Rattle.aud_meaning.specs.Control.{begins_body}
use Rattle.aud_meaning.specs.Effects as effects
use Rattle.aud_meaning.specs.Effects.{changed_first}
use Rattle.aud_meaning.specs.Parts.{acting, alone, alone_by, call_of, in_action, is_over, nobody, on_control, own_of, task_plan, unit_of}
use Rattle.aud_meaning.specs.Tasks as effect
use Rattle.aud_meaning.proofs.Limits.Frames.{nth}
use Rattle.aud_code.specs.Places.{Spot}
use Rattle.aud_code.specs.Flat.{Flat, Does, end_at, flat_controls, start_at}
use Rattle.aud_code.specs.Frames.{IsWritten}
use Rattle.aud_code.specs.Instruction.{DeclareTasks}
use Rattle.aud_code.specs.Seen.{IsSeen, LastSees}
use Rattle.aud_code.specs.Sound.{Counts, IsSound}
use Rattle.aud_code.specs.Starts.{AreSpots, IsSpot}
use Rattle.aud_code.proofs.Starts.{moved_kept}
use Rattle.aud_framed.specs.Held.{StandsAt}
use Rattle.aud_framed.specs.Waiting.{AllFramed, TaskFramed}
use Rattle.aud_framed.specs.Calls.{AreApart, CallerWaits, Serves, ServesIn, calls_in, objects_in, with_restarted, with_served}
use Rattle.aud_framed.specs.Framed.{HasLevels, IsFramed}
use Rattle.aud_framed.specs.Ways.{StandsAtStep}
use Rattle.aud_framed.specs.Stepping.{HasWays}
use Rattle.aud_framed.proofs.Steps.{sees}
use Rattle.aud_framed.proofs.Stepping.Beginning.{goes_on_good, task_changed}
use Rattle.aud_framed.proofs.Stepping.Blocks.{raised_in_part}
use Rattle.aud_framed.proofs.Stepping.Ending.{Good, changed_spots}
use Rattle.aud_framed.proofs.Stepping.Frames.{Alike, first_frames, stands_as}
use Rattle.aud_framed.proofs.Stepping.Going.{taken}
use Rattle.aud_framed.proofs.Stepping.Lone.{at_step, spot_of}
use Rattle.aud_framed.proofs.Stepping.Parts.{alone_framed, follows, own_got, serves_like}
use Rattle.aud_framed.proofs.Stepping.Refusing.{orders, rest_waits}

-- A task that has done nothing yet: it serves nothing, and calls nobody.
record IsFresh (own : Own) : Type 0 where
  status : own.status ≡ Created
  opened : own.opened ≡ []
  serving : own.serving ≡ None
  again : own.again ≡ None
  restart : own.restart ≡ None
  withdraw : own.withdraw ≡ None
  well : own.abnormal ≡ false

abbrev AllFresh : List (TaskAt Spot) → Type 0
AllFresh [] = Unit {0}
AllFresh (t ∷ ts) = IsFresh t.own × AllFresh ts

-- what holds of each task, and of new ones in the place of none
more_own : (P : Own → Own → Type 0) → ((o : Own) → P o o) → ((o : Own) → IsFresh o → P nobody o) → (m : ℕ) (ts more : List (TaskAt Spot)) → AllFresh more → P (nth m ts) (nth m (ts ++ more))
more_own P same new zero (t ∷ ts) more h = same t.own
more_own P same new (suc m) (t ∷ ts) more h = more_own P same new m ts more h
more_own P same new m [] [] h = same nobody
more_own P same new zero [] (t ∷ ts) h = new t.own h.0
more_own P same new (suc m) [] (t ∷ ts) h = more_own P same new m [] ts h.1

more_got : (n : ℕ) (ts more : List (TaskAt Spot)) (t : TaskAt Spot) → slice_get ts n ≡ Some t → slice_get (ts ++ more) n ≡ Some t
more_got n [] more t e = absurd cc
more_got zero (x ∷ xs) more t e = e
more_got (suc n) (x ∷ xs) more t e = more_got n xs more t e

fresh_serves : (plan : Plan) (c : All Spot) (n : ℕ) (own : Own) → IsFresh own → Serves plan c n own
fresh_serves plan c n own h = record {
  opened = subst (λ os. ServesIn plan c n os) (sym h.opened) tt;
  calls = subst (λ os. AreApart (with_restarted own.restart (calls_in os))) (sym h.opened) (subst (λ r. AreApart (with_restarted r [])) (sym h.restart) tt);
  objects = subst (λ os. AreApart (with_served own.serving (objects_in os))) (sym h.opened) (subst (λ r. AreApart (with_served r [])) (sym h.serving) tt);
  serving = λ s e. let wrong : None ≡ Some s = sym h.serving ∙ e in absurd cc;
  again = λ r e. let wrong : None ≡ Some r = sym h.again ∙ e in absurd cc;
  restart = λ r e. let wrong : None ≡ Some r = sym h.restart ∙ e in absurd cc;
  withdraw = λ o e. let wrong : None ≡ Some o = sym h.withdraw ∙ e in absurd cc;
}

abbrev with_tasks : List (TaskAt Spot) → All Spot → All Spot
with_tasks more c = record c { tasks = c.tasks ++ more }

module _ (plan : Plan) (code : Flat) (table : List Counts) (tasks barriers seen : List ℕ) (sound : IsSound code) (fits : IsSeen code table tasks barriers seen) (ways : HasWays code) where
  abbrev Kept : All Spot → Type 0
  Kept c = Good plan code table tasks barriers seen sound fits ways c

  all_more : (ts more : List (TaskAt Spot)) → AllFramed plan code seen ts → AllFramed plan code seen more → AllFramed plan code seen (ts ++ more)
  all_more [] more h k = k
  all_more (t ∷ ts) more h k = (h.0, all_more ts more h.1 k)

  spots_more : (ts more : List (TaskAt Spot)) → AreSpots code.lines ts → AreSpots code.lines more → AreSpots code.lines (ts ++ more)
  spots_more [] more h k = k
  spots_more (t ∷ ts) more h k = (h.0, spots_more ts more h.1 k)

  -- tasks are added
  more_good : (more : List (TaskAt Spot)) (c : All Spot) → AllFresh more → AllFramed plan code seen more → AreSpots code.lines more → Kept c → Kept (with_tasks more c)
  more_good more c fresh framed spots w = record {
    framed = record {
      tasks = all_more c.tasks more w.framed.tasks framed;
      objects = w.framed.objects;
      calls = λ id live.
          more_own (λ old new. CallerWaits id (call_of id c) old → CallerWaits id (call_of id c) new) (λ o h. h) (λ o f h. absurd (rest_waits (call_of id c).owner nobody tt h.1)) (call_of id c).caller c.tasks more fresh (w.framed.calls id live);
      queued = w.framed.queued;
      stays = λ id queued ill.
          w.framed.stays id queued
          (more_own (λ old new. new.abnormal ≡ true → old.abnormal ≡ true) (λ o h. h) (λ o f h. absurd (false≢true (sym f.well ∙ h))) (call_of id c).caller c.tasks more fresh ill);
      serves = λ m live.
          serves_like plan c (with_tasks more c) m (nth m (c.tasks ++ more)) refl refl
          (more_own (λ old new. (is_over old.status ≡ false → Serves plan c m old) → is_over new.status ≡ false → Serves plan c m new) (λ o h. h) (λ o f h goes. fresh_serves plan c m o f) m c.tasks more fresh (w.framed.serves m) live);
      alone = w.framed.alone;
    };
    spots = spots_more c.tasks more w.spots spots;
  }

  -- Those that are created.

  abbrev created : Own → Tasks → ℕ → ℕ → List (TaskAt Spot)
  created creator ts i k = effect.all_created (orders plan code table tasks barriers seen sound fits ways) plan (flat_controls plan code).barrier creator ts i k

  created_fresh : (creator : Own) (ts : Tasks) (i k : ℕ) → AllFresh (created creator ts i k)
  created_fresh creator ts i zero = tt
  created_fresh creator ts i (suc k) =
      (record { status = refl; opened = refl; serving = refl; again = refl; restart = refl; withdraw = refl; well = refl }, created_fresh creator ts (suc i) k)

  created_framed : (creator : Own) (ts : Tasks) (i k : ℕ) → (unit_of plan (task_plan plan ts.task_type).unit).level ≤ length creator.display → AllFramed plan code seen (created creator ts i k)
  created_framed creator ts i zero h = tt
  created_framed creator ts i (suc k) h =
      (record { place = refl; display = taken (unit_of plan (task_plan plan ts.task_type).unit).level creator.display h; opened = refl; none = refl }, created_framed creator ts (suc i) k h)

  created_spots : (creator : Own) (ts : Tasks) (i k : ℕ) (s : Spot) → IsSpot code.lines s → AreSpots code.lines (created creator ts i k)
  created_spots creator ts i zero s h = tt
  created_spots creator ts i (suc k) s h = (moved_kept code sound plan (begins_body (task_plan plan ts.task_type).unit) s h, created_spots creator ts (suc i) k s h)

  -- One more name is elaborated, and the declaration is left.

  declared : (cells : List ℤ) (n : ℕ) (c : All Spot) (t : TaskAt Spot) (ts : Tasks) → Kept c → slice_get c.tasks n ≡ Some t → t.own.status ≡ Running → t.own.pending ≡ None → t.own.again ≡ None → (end_at code t.control.place).last ≡ Does (DeclareTasks ts) → Kept (on_control n ((orders plan code table tasks barriers seen sound fits ways).takes 0) (alone (λ a. effects.declares cells a) n c))
  declared cells n c t ts w is running none still line =
      subst (λ o. Kept (on_control n ((orders plan code table tasks barriers seen sound fits ways).takes 0) (alone_by f o n c))) (sym is)
      (goes_on_good plan code table tasks barriers seen sound fits ways 0 n (alone_by f (Some t) n c) (record { control = u.control; own = u.own }) after
      (task_changed n (λ old. record { control = u.control; own = u.own }) c.tasks t is) running none still (DeclareTasks ts, (line, tt)))
    where
      f : Acting Spot → Acting Spot
      f a = effects.declares cells a

      u : Acting Spot
      u = effects.declares cells (acting t c.shared)

      s : StandsAtStep code seen t.control.place (end_at code t.control.place) t.control.returns t.own.display t.own.opened
      s = at_step plan code seen n c t w.spots is running none w.framed

      like : Alike plan code.lines seen c n t.own.opened (changed_first (λ (o : Opened). record o { elaborated = suc o.elaborated }) t.own.opened)
      like = first_frames plan code.lines seen c n (λ o. record o { elaborated = suc o.elaborated }) (λ o. refl) (λ o. refl) t.own.opened

      framed : IsFramed plan code seen (alone f n c)
      framed =
          alone_framed plan code seen f n c t is refl refl
          (subst (λ st. TaskFramed plan code seen st (record { control = u.control; own = u.own })) (sym running)
          (subst (λ p. StandsAt code.lines seen p t.control t.own.display u.own.opened) (sym none)
          (stands_as code.lines seen t.own.opened u.own.opened None t.control t.own.display (λ x. like.holds x t.control.returns) s.stands)))
          (follows plan c n t.own u.own refl (λ r e. let wrong : None ≡ Some r = sym still ∙ e in absurd cc) like.likens) w.framed

      after : Kept (alone_by f (Some t) n c)
      after = record {
        framed = subst (λ o. IsFramed plan code seen (alone_by f o n c)) is framed;
        spots = put_spots c.tasks (spot_of code.lines n c.tasks t is w.spots) w.spots;
      }
        where
          put_spots : (ts : List (TaskAt Spot)) → IsSpot code.lines t.control → AreSpots code.lines ts → AreSpots code.lines (alone_by f (Some t) n (record c { tasks = ts })).tasks
          put_spots ts h k = changed_spots plan code table tasks barriers seen sound fits ways n (λ old. record { control = u.control; own = u.own }) ts (λ x g. h) k

  either_kept : (b : Bool) (x y : All Spot) → Kept x → Kept y → Kept (if b then x else y)
  either_kept true x y h k = h
  either_kept false x y h k = k

  pub declares_tasks_good : HasLevels plan code tasks seen → (limits : Limits) (at : Pos) (ts : Tasks) (n : ℕ) (c : All Spot) (t : TaskAt Spot) → Kept c → slice_get c.tasks n ≡ Some t → t.own.status ≡ Running → t.own.pending ≡ None → t.own.again ≡ None → (end_at code t.control.place).last ≡ Does (DeclareTasks ts) → Kept (effect.declares_tasks (orders plan code table tasks barriers seen sound fits ways) plan (flat_controls plan code).barrier limits at ts n c)
  declares_tasks_good levels limits at ts n c t w is running none still line =
      either_kept (not (nat_eq ts.length 0) && in_action n c) _ _ (raised_in_part plan code table tasks barriers seen sound fits ways Program at n c t w is running none still (DeclareTasks ts, line))
      (either_kept (nat_le ts.length ELEMENTS && nat_le (length c.tasks + ts.length) limits.tasks) _ _
      (declared (effect.counted_from (orders plan code table tasks barriers seen sound fits ways) plan (flat_controls plan code).barrier (length c.tasks) ts.length) n (with_tasks more c) t ts
      (more_good more c (created_fresh (own_of n c) ts 0 ts.length) (created_framed (own_of n c) ts 0 ts.length enough) (created_spots (own_of n c) ts 0 ts.length t.control (spot_of code.lines n c.tasks t is w.spots)) w)
      (more_got n c.tasks more t is) running none still line)
      (raised_in_part plan code table tasks barriers seen sound fits ways Storage at n c t w is running none still (DeclareTasks ts, line)))
    where
      more : List (TaskAt Spot)
      more = created (own_of n c) ts 0 ts.length

      unit : ℕ
      unit = (task_plan plan ts.task_type).unit

      s : StandsAtStep code seen t.control.place (end_at code t.control.place) t.control.returns t.own.display t.own.opened
      s = at_step plan code seen n c t w.spots is running none w.framed

      seen_there : IsWritten (slice_get seen (start_at code unit)) (λ m. (1 ≤ m) × (m ≤ suc (length t.own.display)))
      seen_there =
          subst (λ k. IsWritten (slice_get seen (start_at code k)) (λ m. (1 ≤ m) × (m ≤ suc (length t.own.display)))) (levels.types ts.task_type)
          (subst (λ last. LastSees code tasks barriers seen last (length t.own.display) (end_at code t.control.place)) line
          (sees code table tasks barriers seen sound fits t.control.place t.control.returns t.own.display t.own.opened (end_at code t.control.place) s).last).0

      less : (1 ≤ suc (unit_of plan unit).level) × (suc (unit_of plan unit).level ≤ suc (length t.own.display))
      less = subst (λ o. IsWritten o (λ m. (1 ≤ m) × (m ≤ suc (length t.own.display)))) (levels.bodies unit) seen_there

      enough : (unit_of plan unit).level ≤ length (own_of n c).display
      enough = subst (λ (o : Own). (unit_of plan unit).level ≤ length o.display) (sym (own_got n c.tasks t is)) (let most = less.1 in omega (arith, most))
