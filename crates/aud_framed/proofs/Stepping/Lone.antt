-- What a task asks that concerns it alone keeps all that is said of frames.
use Rattle.std.proofs.Common.{◌≡◌, ℕ, zero, suc, ℤ, List, [], ◌∷◌, ◌++◌, drop, take, length, Option, Some, None, Bool, true, false, nat_le, refl, sym, ap, ◌∙◌, subst, inl, inr, if◌then◌else◌, slice_get}
use Rattle.std.specs.Prelude.{int_le, is_some}
use Rattle.std.proofs.lemmas.Option.{same_Some}
use Rattle.aud_text.specs.declared.limits.TheConstants.{OUTPUT}
use Rattle.aud_text.specs.declared.place.Pos.{Pos}
use Rattle.aud_typed.specs.declared.program.Exception.{Exception}
use Rattle.aud_typed.specs.Tree.{For, Plan}
use Rattle.aud_meaning.specs.declared.state.Again.{Again}
use Rattle.aud_meaning.specs.declared.state.Pending.{Pending}
use Rattle.aud_meaning.specs.declared.state.Status.TheVariants.{Running}
use Rattle.aud_meaning.specs.Configuration.{for_block, for_loop, for_procedure, Purpose, Returning, Opened, Own, Shared, TaskAt, All, Acting, Target}
use Rattle.aud_meaning.specs.Control.{Asked, Scene, raises_here, declares, declares_array, goes_on, assigns, puts, enters_loop, next_of_loop, goes_out, raises, raises_again, enters_block, calls_procedure, calls_own_entry, requeues, ends, handles}
use Rattle.aud_meaning.specs.Effects as effects
use Rattle.aud_meaning.specs.Evaluation.{Passed}
use Rattle.aud_meaning.specs.Effects.{changed_first, closed, closed_by, has_room, out_of, sets_value}
use Rattle.aud_meaning.specs.Orders.{Orders, carried_out}
use Rattle.aud_meaning.specs.Parts.{acting, unit_of}
use Rattle.aud_meaning.specs.Run.{scene_of}
use Rattle.aud_meaning.specs.Step as step
use Rattle.aud_meaning.specs.Why.Alone.{IsAlone, acts}
use Rattle.aud_meaning.proofs.Alone.{alone_law}
use Rattle.aud_code.specs.Places.{Spot, loops_of}
use Rattle.aud_code.specs.Instruction.{Loop, Block, Proc}
use Rattle.aud_code.specs.Flat.{Flat, FlatLine, EndLine, Does, Continues, asked_at, end_at, flat_controls, start_at}
use Rattle.aud_code.specs.Frames.{found_from, found, Found}
use Rattle.aud_code.specs.Seen.{IsSeen}
use Rattle.aud_code.specs.Sound.{Counts, IsSound, IsStart}
use Rattle.aud_code.specs.Starts.{AreSpots, IsPlace, IsSpot}
use Rattle.aud_framed.specs.Held.{StandsAt}
use Rattle.aud_framed.specs.Waiting.{TaskFramed}
use Rattle.aud_framed.specs.Calls.{RequeueFits}
use Rattle.aud_framed.specs.Framed.{AskedMeets, HasLevels, IsFramed, IsLeaving}
use Rattle.aud_framed.specs.Ways.{StandsAtStep}
use Rattle.aud_framed.specs.Stepping.{AskedBy, DoesPlain, DoesSome, HasWays, LoneFramedLaw}
use Rattle.aud_framed.proofs.Steps.{here}
use Rattle.aud_framed.proofs.Stepping.Asked.{asks, end_is}
use Rattle.aud_framed.proofs.Stepping.Frames.{Alike, AreLoops, first_frames, loop_likens, out_likens, out_requeues, same_frames, stands_as, valued_frames}
use Rattle.aud_framed.proofs.Stepping.Going.{block_goes, first_goes, guards_stay, loop_goes, loop_left, one_longer, part_goes, pends_there, procedure_goes, turn_goes, turn_loop, way_goes, way_loops}
use Rattle.aud_framed.proofs.Stepping.Parts.{Likens, Side, alone_framed, follows, framed_at, like_frames, side, then_frames}

-- Frames that are left leave the rest of the task.

record Rest : Type 0 where
  side : Side
  pending : Option Pending
  again : Option Again

abbrev rest : Own → Rest
rest own = record { side = side own; pending = own.pending; again = own.again }

closed_rest : (os : List Opened) (own : Own) → rest (closed_by os own) ≡ rest own
closed_rest [] own = refl
closed_rest (o ∷ os) own = refl

out_rest : (n : ℕ) (own : Own) → rest (out_of n own) ≡ rest own
out_rest zero own = refl
out_rest (suc n) own = out_rest n (closed own) ∙ closed_rest own.opened own

-- What is kept of a task, from t to u.
pub record Keeps (plan : Plan) (lines : List FlatLine) (seen : List ℕ) (c : All Spot) (n : ℕ) (t u : Acting Spot) : Type 0 where
  pub same : side u.own ≡ side t.own
  pub again : (r : Again) → u.own.again ≡ Some r → RequeueFits plan c r u.own.opened
  pub stands : StandsAt lines seen u.own.pending u.control u.own.display u.own.opened
  pub likens : Likens plan c n t.own.opened u.own.opened
  pub calls : u.shared.calls ≡ t.shared.calls
  pub objects : u.shared.objects ≡ t.shared.objects

module _ (plan : Plan) (code : Flat) (table : List Counts) (tasks barriers seen : List ℕ) (sound : IsSound code) (fits : IsSeen code table tasks barriers seen) (levels : HasLevels plan code tasks seen) (ways : HasWays code) (c : All Spot) (n : ℕ) where
  abbrev go : Orders Spot
  go = carried_out (flat_controls plan code)

  abbrev Goes : Acting Spot → Acting Spot → Type 0
  Goes t u = Keeps plan code.lines seen c n t u

  abbrev As : List Opened → List Opened → Type 0
  As os ps = Alike plan code.lines seen c n os ps

  either_goes : (t : Acting Spot) (b : Bool) (x y : Acting Spot) → Goes t x → Goes t y → Goes t (if b then x else y)
  either_goes t true x y h k = h
  either_goes t false x y h k = k

  module _ (t : Acting Spot) (none : t.own.pending ≡ None) (still : t.own.again ≡ None) where
    abbrev line : EndLine
    line = end_at code t.control.place

    -- it makes no call again
    quiet : (os : List Opened) (r : Again) → t.own.again ≡ Some r → RequeueFits plan c r os
    quiet os r e = let clash = sym still ∙ e in absurd cc

    module _ (s : StandsAtStep code seen t.control.place (end_at code t.control.place) t.control.returns t.own.display t.own.opened) where
      -- with other frames in the place of its own
      other_step : (os : List Opened) → As t.own.opened os → StandsAtStep code seen t.control.place line t.control.returns t.own.display os
      other_step os k = record { begins = s.begins; is = s.is; stands = stands_as code.lines seen t.own.opened os None t.control t.own.display (λ w. k.holds w t.control.returns) s.stands }

      raises_keeps : (x : Exception) (at : Pos) → DoesSome line.last → Goes t (effects.raises x at t)
      raises_keeps x at d = record {
        same = refl;
        again = quiet t.own.opened;
        stands = pends_there code table tasks barriers seen sound fits ways t.control.place t.control.returns t.own.display t.own.opened line s (record { exception = x; at = at }) d;
        likens = like_frames plan c n t.own.opened;
        calls = refl;
        objects = refl;
      }

      -- a part follows, with other frames and what is shared
      on_keeps : (part : ℕ) (os : List Opened) (shared : Shared) → As t.own.opened os → shared.calls ≡ t.shared.calls → shared.objects ≡ t.shared.objects → StandsAt code.lines seen None (go.takes part t.control) t.own.display t.own.opened → Goes t (step.moves_on go plan (flat_controls plan code).barrier part (record t { own = record t.own { opened = os }; shared = shared }))
      on_keeps part os shared k calls objects h = record {
        same = refl;
        again = quiet os;
        stands =
            subst (λ p. StandsAt code.lines seen p (go.takes part t.control) t.own.display os) (sym none)
            (stands_as code.lines seen t.own.opened os None (go.takes part t.control) t.own.display (λ w. k.holds w (go.takes part t.control).returns) h);
        likens = k.likens;
        calls = calls;
        objects = objects;
      }

      plain_keeps : (part : ℕ) (os : List Opened) (shared : Shared) → As t.own.opened os → shared.calls ≡ t.shared.calls → shared.objects ≡ t.shared.objects → DoesPlain line.last → Goes t (step.moves_on go plan (flat_controls plan code).barrier part (record t { own = record t.own { opened = os }; shared = shared }))
      plain_keeps part os shared k calls objects d =
          on_keeps part os shared k calls objects (part_goes code table tasks barriers seen sound fits ways t.control.place t.control.returns t.own.display t.own.opened line s part d)

      same_as : As t.own.opened t.own.opened
      same_as = same_frames plan code.lines seen c n t.own.opened

      counted : As t.own.opened (changed_first (λ o. record o { elaborated = suc o.elaborated }) t.own.opened)
      counted = first_frames plan code.lines seen c n (λ o. record o { elaborated = suc o.elaborated }) (λ o. refl) (λ o. refl) t.own.opened

      goes_on_keeps : (part : ℕ) → AskedBy line.last (loops_of line.exit) (goes_on part) → Goes t (acts go plan (flat_controls plan code).barrier (goes_on part) t)
      goes_on_keeps part (inl d) = plain_keeps part t.own.opened t.shared same_as refl refl d
      goes_on_keeps part (inr g) =
          on_keeps part t.own.opened t.shared same_as refl refl (guards_stay code table tasks barriers seen sound fits ways t.control.place t.control.returns t.own.display t.own.opened line s part g.0 g.1)

      put_calls : (b : Bool) (x y : Shared) → x.calls ≡ t.shared.calls → y.calls ≡ t.shared.calls → (if b then x else y).calls ≡ t.shared.calls
      put_calls true x y h k = h
      put_calls false x y h k = k

      put_objects : (b : Bool) (x y : Shared) → x.objects ≡ t.shared.objects → y.objects ≡ t.shared.objects → (if b then x else y).objects ≡ t.shared.objects
      put_objects true x y h k = h
      put_objects false x y h k = k

      puts_keeps : (text : List ℕ) → DoesPlain line.last → Goes t (acts go plan (flat_controls plan code).barrier (puts text) t)
      puts_keeps text d =
          plain_keeps 0 t.own.opened (effects.put_out text t.shared) same_as
          (put_calls (nat_le (length (t.shared.output ++ text)) OUTPUT) _ _ refl refl)
          (put_objects (nat_le (length (t.shared.output ++ text)) OUTPUT) _ _ refl refl) d

      -- Frames that are opened.

      room_keeps : (at : Pos) (u : Acting Spot) → DoesSome line.last → Goes t u → Goes t (step.if_room go plan (flat_controls plan code).barrier at t u)
      room_keeps at u d h = either_goes t (has_room t.own) u _ h (raises_keeps _ at d)

      abbrev opened_for : Purpose → ℕ → Pos → ℕ → Opened
      opened_for purpose region at elaborated = record { frame = length t.shared.frames; region = region; elaborated = elaborated; handling = None; saved = t.own.display; at = at; purpose = purpose }

      -- within the same execution
      inner_keeps : (purpose : Purpose) (region : ℕ) (at : Pos) (cells : List ℤ) (elaborated : ℕ) → Likens plan c n t.own.opened (opened_for purpose region at elaborated ∷ t.own.opened) → StandsAt code.lines seen None (go.takes 1 t.control) (t.own.display ++ length t.shared.frames ∷ []) (opened_for purpose region at elaborated ∷ t.own.opened) → Goes t (step.moves_on go plan (flat_controls plan code).barrier 1 (effects.opens purpose region at t.own.display cells elaborated t))
      inner_keeps purpose region at cells elaborated k h = record {
        same = refl;
        again = quiet (opened_for purpose region at elaborated ∷ t.own.opened);
        stands = subst (λ p. StandsAt code.lines seen p (go.takes 1 t.control) (t.own.display ++ length t.shared.frames ∷ []) (opened_for purpose region at elaborated ∷ t.own.opened)) (sym none) h;
        likens = k;
        calls = refl;
        objects = refl;
      }

      loop_keeps : (f : For) (a b : ℤ) → line.last ≡ Does (Loop f) → Goes t (acts go plan (flat_controls plan code).barrier (enters_loop f a b) t)
      loop_keeps f a b e =
          either_goes t (int_le a b) _ _
          (room_keeps f.at _ (Loop f, e)
          (inner_keeps for_loop f.region f.at (step.for_first f.backward a b ∷ step.for_first f.backward b a ∷ []) 1 (record { within = λ o h. h; serves = λ h. (tt, h); calls = refl; objects = refl })
          (loop_goes code table tasks barriers seen sound fits ways t.control.place t.control.returns t.own.display t.own.opened line s f (opened_for for_loop f.region f.at 1) (t.own.display ++ length t.shared.frames ∷ []) e refl refl (one_longer t.own.display (length t.shared.frames)))))
          (on_keeps 0 t.own.opened t.shared same_as refl refl (first_goes code table tasks barriers seen sound fits ways t.control.place t.control.returns t.own.display t.own.opened line s (Loop f, e)))

      block_keeps : (at : Pos) (region : ℕ) → line.last ≡ Does (Block region) → Goes t (acts go plan (flat_controls plan code).barrier (enters_block at region) t)
      block_keeps at region e =
          room_keeps at _ (Block region, e)
          (inner_keeps for_block region at [] 0 (record { within = λ o h. h; serves = λ h. (tt, h); calls = refl; objects = refl })
          (block_goes code table tasks barriers seen sound fits ways t.control.place t.control.returns t.own.display t.own.opened line s region (opened_for for_block region at 0) (t.own.display ++ length t.shared.frames ∷ []) e refl refl (one_longer t.own.display (length t.shared.frames))))

      procedure_keeps : (at : Pos) (unit : ℕ) (p : Passed) (into : Option Target) → line.last ≡ Does (Proc unit) → Goes t (acts go plan (flat_controls plan code).barrier (calls_procedure at unit p into) t)
      procedure_keeps at unit p into e =
          let r : Returning = record { is_function = (unit_of plan unit).is_function; backs = p.backs; into = into; value = None } in
          let o : Opened = opened_for (for_procedure r) (unit_of plan unit).region at (length p.values) in
          let display : List ℕ = take (unit_of plan unit).level t.own.display ++ length t.shared.frames ∷ [] in
          let place : Spot = record { place = start_at code unit; returns = t.control.place ∷ t.control.returns } in
          room_keeps at _ (Proc unit, e)
          (record {
            same = refl;
            again = quiet (o ∷ t.own.opened);
            stands =
                subst (λ q. StandsAt code.lines seen q place display (o ∷ t.own.opened)) (sym none)
                (procedure_goes code table tasks barriers seen sound fits ways t.control.place t.control.returns t.own.display t.own.opened line s plan unit (length t.shared.frames) o r levels e refl refl);
            likens = record { within = λ w h. h; serves = λ h. (tt, h); calls = refl; objects = refl };
            calls = refl;
            objects = refl;
          })

      -- Out of loops.

      out_keeps : (loops : ℕ) (own : Own) → side own ≡ side t.own → own.pending ≡ None → own.display ≡ t.own.display → As t.own.opened own.opened → ((r : Again) → own.again ≡ Some r → RequeueFits plan c r own.opened) → DoesSome line.last → loops ≡ loops_of line.exit → Goes t (step.out_of_loops go plan (flat_controls plan code).barrier loops (record t { own = own }))
      out_keeps loops own same pending display k again d e =
          let x : StandsAtStep code seen t.control.place line t.control.returns own.display own.opened =
          subst (λ ds. StandsAtStep code seen t.control.place line t.control.returns ds own.opened) (sym display) (other_step own.opened k) in
          let out : ℕ = loops_of line.exit in
          let loops_are : AreLoops out own.opened = way_loops code table tasks barriers seen sound fits ways t.control.place t.control.returns own line x d in
          let kept : rest (out_of out own) ≡ rest own = out_rest out own in
          subst (λ m. Goes t (step.out_of_loops go plan (flat_controls plan code).barrier m (record t { own = own }))) (sym e)
          (record {
            same = ap (λ (y : Rest). y.side) kept ∙ same;
            again = λ r q. out_requeues plan c n r out own loops_are (again r (ap (λ (y : Rest). y.again) (sym kept) ∙ q));
            stands =
                subst (λ p. StandsAt code.lines seen p (go.out t.control) (out_of out own).display (out_of out own).opened) (sym (ap (λ (y : Rest). y.pending) kept ∙ pending))
                (way_goes code table tasks barriers seen sound fits ways t.control.place t.control.returns own line x d);
            likens = then_frames plan c n t.own.opened own.opened (out_of out own).opened k.likens (out_likens plan c n out own loops_are);
            calls = refl;
            objects = refl;
          })

      out_valued : (loops : ℕ) (value : Option ℤ) → DoesSome line.last × (loops ≡ loops_of line.exit) → Goes t (acts go plan (flat_controls plan code).barrier (goes_out loops value) t)
      out_valued loops None h = out_keeps loops t.own refl none refl same_as (quiet t.own.opened) h.0 h.1
      out_valued loops (Some z) h =
          out_keeps loops (record t.own { opened = sets_value z t.own.opened }) refl none refl (valued_frames plan code.lines seen c n z t.own.opened) (quiet (sets_value z t.own.opened)) h.0 h.1

      requeued_keeps : (loops : ℕ) (r : Again) → RequeueFits plan c r t.own.opened → DoesSome line.last × (loops ≡ loops_of line.exit) → Goes t (acts go plan (flat_controls plan code).barrier (requeues loops r) t)
      requeued_keeps loops r meets h =
          out_keeps loops (record t.own { again = Some r }) refl none refl same_as (λ q e. subst (λ x. RequeueFits plan c x t.own.opened) (same_Some r q e) meets) h.0 h.1

      -- The turns of a loop.

      nothing_open : {A : Type 0} → StandsAtStep code seen t.control.place line t.control.returns t.own.display [] → A
      nothing_open x = absurd (here code table tasks barriers seen sound fits t.control.place t.control.returns t.own.display [] line x).1

      turned : (f : For) (os : List Opened) → line.last ≡ Continues f → StandsAtStep code seen t.control.place line t.control.returns t.own.display os → StandsAt code.lines seen None (go.takes 1 t.control) t.own.display os
      turned f [] e x = nothing_open x
      turned f (o ∷ os) e x = turn_goes code table tasks barriers seen sound fits ways t.control.place t.control.returns t.own.display o os f line x e

      loop_ended : (f : For) (os : List Opened) → line.last ≡ Continues f → t.own.opened ≡ os → StandsAtStep code seen t.control.place line t.control.returns t.own.display os → Goes t (step.moves_on go plan (flat_controls plan code).barrier 0 (record t { own = closed_by os t.own }))
      loop_ended f [] e q x = nothing_open x
      loop_ended f (o ∷ os) e q x = record {
        same = refl;
        again = quiet os;
        stands =
            subst (λ p. StandsAt code.lines seen p (go.takes 0 t.control) o.saved os) (sym none)
            (loop_left code table tasks barriers seen sound fits ways t.control.place t.control.returns t.own.display o os f line x e);
        likens =
            subst (λ ps. Likens plan c n ps os) (sym q)
            (loop_likens plan c n o os (turn_loop code table tasks barriers seen sound fits ways t.control.place t.control.returns t.own.display o os f line x e));
        calls = refl;
        objects = refl;
      }

      turn_keeps : (f : For) → line.last ≡ Continues f → Goes t (acts go plan (flat_controls plan code).barrier (next_of_loop f) t)
      turn_keeps f e =
          either_goes t (step.has_next f.backward (step.loop_cell go plan (flat_controls plan code).barrier 0 t) (step.loop_cell go plan (flat_controls plan code).barrier 1 t)) _ _
          (on_keeps 1 t.own.opened _ same_as refl refl (turned f t.own.opened e s))
          (loop_ended f t.own.opened e refl s)

      lone_keeps : (a : Asked) → IsAlone a → AskedMeets plan t.own c a → AskedBy line.last (loops_of line.exit) a → Goes t (acts go plan (flat_controls plan code).barrier a t)
      lone_keeps (raises_here raise at) i m h = raises_keeps _ at h
      lone_keeps (declares up_to z) i m h = plain_keeps _ _ _ counted refl refl h
      lone_keeps (declares_array at t n) i m h = plain_keeps 0 _ _ counted refl refl h
      lone_keeps (goes_on part) i m h = goes_on_keeps part h
      lone_keeps (assigns target z) i m h = plain_keeps 0 _ _ same_as refl refl h
      lone_keeps (puts text) i m h = puts_keeps text h
      lone_keeps (enters_loop f a b) i m h = loop_keeps f a b h
      lone_keeps (next_of_loop f) i m h = turn_keeps f h
      lone_keeps (goes_out loops value) i m h = out_valued loops value h
      lone_keeps (raises x at) i m h = raises_keeps x at h
      lone_keeps (raises_again at) i m h = raises_keeps _ at h
      lone_keeps (enters_block at region) i m h = block_keeps at region h
      lone_keeps (calls_procedure at unit p into) i m h = procedure_keeps at unit p into h
      lone_keeps (calls_own_entry at) i m h = raises_keeps _ at h
      lone_keeps (requeues loops r) i m h = requeued_keeps loops r m h
      lone_keeps (handles p) i m h = absurd h
      lone_keeps a i m h = absurd i

-- Such a step is no leaving one.
alone_stays : (a : Asked) → IsAlone a → IsLeaving a → ⊥
alone_stays (ends loops) i h = i
alone_stays a i h = h

pub not_again : (again : Option Again) (P : Type 0) → (is_some again ≡ true → P) → (P → ⊥) → again ≡ None
not_again None P h differs = refl
not_again (Some r) P h differs = absurd (differs (h refl))

-- Where a task stands, an ending is found.

found_there : (x : Option EndLine) (P : EndLine → Type 0) → Found x P → (l : EndLine) × (x ≡ Some l)
found_there None P h = absurd h
found_there (Some l) P h = (l, refl)

pub end_found : (code : Flat) (place : ℕ) (P : EndLine → Type 0) → Found (found code.lines place) P → found code.lines place ≡ Some (end_at code place)
end_found code place P h = by (found_there (found code.lines place) P h)
  where
    by : (l : EndLine) × (found code.lines place ≡ Some l) → found code.lines place ≡ Some (end_at code place)
    by x = x.1 ∙ ap (λ l. Some l) (sym (end_is (drop place code.lines) place x.0 x.1))

none_behind : (ls : List FlatLine) → found_from (drop (length ls) ls) ≡ None
none_behind [] = refl
none_behind (x ∷ xs) = none_behind xs

pub begins_there : (lines : List FlatLine) (place : ℕ) (P : EndLine → Type 0) → Found (found lines place) P → IsPlace lines place → IsStart lines place
begins_there lines place P h (inl s) = s
begins_there lines place P h (inr e) = absurd (subst (λ x. Found x P) (ap (found lines) e ∙ none_behind lines) h)

pub spot_of : (lines : List FlatLine) (n : ℕ) (ts : List (TaskAt Spot)) (t : TaskAt Spot) → slice_get ts n ≡ Some t → AreSpots lines ts → IsSpot lines t.control
spot_of lines n [] t e h = absurd cc
spot_of lines zero (x ∷ xs) t e h = subst (λ (y : TaskAt Spot). IsSpot lines y.control) (same_Some x t e) h.0
spot_of lines (suc n) (x ∷ xs) t e h = spot_of lines n xs t e h.1

-- a running task stands at a step
pub at_step : (plan : Plan) (code : Flat) (seen : List ℕ) (n : ℕ) (c : All Spot) (t : TaskAt Spot) → AreSpots code.lines c.tasks → slice_get c.tasks n ≡ Some t → t.own.status ≡ Running → t.own.pending ≡ None → IsFramed plan code seen c → StandsAtStep code seen t.control.place (end_at code t.control.place) t.control.returns t.own.display t.own.opened
at_step plan code seen n c t spots is running none w = record { begins = begins_there code.lines t.control.place _ stands (spot_of code.lines n c.tasks t is spots).place; is = end_found code t.control.place _ stands; stands = stands }
  where
    stands : StandsAt code.lines seen None t.control t.own.display t.own.opened
    stands =
        subst (λ p. StandsAt code.lines seen p t.control t.own.display t.own.opened) none
        (subst (λ st. TaskFramed plan code seen st t) running (framed_at plan code seen n c.tasks t is w.tasks))

pub lone_framed : LoneFramedLaw
lone_framed plan code table tasks barriers seen limits alternative n c t sound fits levels ways spots is running none unserving unmade alone meets w =
    let k = flat_controls plan code in
    let scene : Scene = scene_of plan k n c in
    let a : Asked = asked_at code None scene t.control in
    let met = subst (λ p. AskedMeets plan t.own c (asked_at code p scene t.control) × (is_some t.own.again ≡ true → IsLeaving (asked_at code p scene t.control))) none meets in
    let still : t.own.again ≡ None = not_again t.own.again (IsLeaving a) met.1 (alone_stays a alone) in
    let s = at_step plan code seen n c t spots is running none w in
    let f : Acting Spot → Acting Spot = acts (carried_out k) plan k.barrier a in
    let u : Acting Spot = f (acting t c.shared) in
    let kept : Keeps plan code.lines seen c n (acting t c.shared) u =
    lone_keeps plan code table tasks barriers seen sound fits levels ways c n (acting t c.shared) none still s a alone met.0 (asks code sound scene t.control s.begins) in
    subst (λ d. IsFramed plan code seen d) (sym (alone_law (carried_out k) plan k.barrier limits alternative a alone n c))
    (alone_framed plan code seen f n c t is kept.calls kept.objects
    (subst (λ st. TaskFramed plan code seen st (record { control = u.control; own = u.own })) (sym (ap (λ (x : Side). x.status) kept.same ∙ running)) kept.stands)
    (follows plan c n t.own u.own kept.same (λ r e. (kept.again r e, (ap (λ (x : Side). x.status) kept.same ∙ running, (ap (λ (x : Side). x.serving) kept.same ∙ unserving, ap (λ (x : Side). x.restart) kept.same ∙ unmade)))) kept.likens) w)
