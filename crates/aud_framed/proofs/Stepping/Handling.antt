-- A pending exception is handled.
use Rattle.std.proofs.Common.{◌≡◌, ◌⊎◌, ℕ, List, [], ◌∷◌, drop, Option, Some, None, Bool, true, false, refl, sym, ap, ◌∙◌, subst, inl, inr, if◌then◌else◌}
use Rattle.std.proofs.lemmas.Bool.{false≢true}
use Rattle.std.specs.Prelude.{is_some}
use Rattle.aud_typed.specs.declared.program.Exception.{Exception}
use Rattle.aud_typed.specs.Tree.{Plan}
use Rattle.aud_meaning.specs.Configuration.{Purpose, for_body, for_block, for_loop, for_procedure, for_operation, for_entry, for_accept, Opened, Own, TaskAt, All}
use Rattle.aud_meaning.specs.Control.{Scene}
use Rattle.aud_meaning.specs.Effects.{changed_first, is_loop, out_of_loops, out_of_loops_by}
use Rattle.aud_meaning.specs.Effects as effects
use Rattle.aud_meaning.specs.Orders.{carried_out}
use Rattle.aud_meaning.specs.Run.{scene_of}
use Rattle.aud_meaning.specs.Statements.{handled_or_left}
use Rattle.aud_code.specs.Places.{Spot, Guard, goes_there, guarded, is_there}
use Rattle.aud_code.specs.Flat.{Flat, FlatLine, instructs, end, EndLine, Last, Does, Continues, Guards, Ends, Leaves, asked_at, end_at, end_from, flat_controls, handler_at, handler_in, no_end}
use Rattle.aud_code.specs.Frames.{found_from, found}
use Rattle.aud_framed.specs.Held.{StandsAt}
use Rattle.aud_framed.specs.Waiting.{TaskFramed}
use Rattle.aud_framed.specs.Framed.{AskedMeets, IsLeaving}
use Rattle.aud_framed.specs.Ways.{Pends}
use Rattle.aud_framed.specs.Stepping.{HandledStepLaw}
use Rattle.aud_framed.proofs.Exceptions.{handled_framed}
use Rattle.aud_framed.proofs.Stepping.Frames.{first_frames, loop_likens, stands_as}
use Rattle.aud_framed.proofs.Stepping.Lone.{begins_there, end_found, not_again, spot_of}
use Rattle.aud_framed.proofs.Stepping.Parts.{Follows, Likens, Side, follows, framed_at, like_frames, side, task_framed, then_frames}

-- Frames of loops that are left.

pub a_loop : (p : Purpose) → is_loop p ≡ true → p ≡ for_loop
a_loop for_body h = absurd (false≢true h)
a_loop for_block h = absurd (false≢true h)
a_loop for_loop h = refl
a_loop (for_procedure r) h = absurd (false≢true h)
a_loop (for_operation n r) h = absurd (false≢true h)
a_loop (for_entry n id served back) h = absurd (false≢true h)
a_loop (for_accept id) h = absurd (false≢true h)

pub loops_side : (os : List Opened) (own : Own) → side (out_of_loops_by os own) ≡ side own
loops_side [] own = refl
loops_side (o ∷ os) own = by (is_loop o.purpose) (loops_side os (record own { display = o.saved; opened = os }))
  where
    by : (b : Bool) → side (out_of_loops_by os (record own { display = o.saved; opened = os })) ≡ side own → side (if b then out_of_loops_by os (record own { display = o.saved; opened = os }) else own) ≡ side own
    by true e = e
    by false e = refl

pub loops_again : (os : List Opened) (own : Own) → (out_of_loops_by os own).again ≡ own.again
loops_again [] own = refl
loops_again (o ∷ os) own = by (is_loop o.purpose) (loops_again os (record own { display = o.saved; opened = os }))
  where
    by : (b : Bool) → (out_of_loops_by os (record own { display = o.saved; opened = os })).again ≡ own.again → (if b then out_of_loops_by os (record own { display = o.saved; opened = os }) else own).again ≡ own.again
    by true e = e
    by false e = refl

pub loops_likens : (plan : Plan) (c : All Spot) (n : ℕ) (os : List Opened) (own : Own) → own.opened ≡ os → Likens plan c n os (out_of_loops_by os own).opened
loops_likens plan c n [] own e = subst (λ ps. Likens plan c n [] ps) (sym e) (like_frames plan c n [])
loops_likens plan c n (o ∷ os) own e = by (is_loop o.purpose) refl (loops_likens plan c n os (record own { display = o.saved; opened = os }) refl)
  where
    by : (b : Bool) → is_loop o.purpose ≡ b → Likens plan c n os (out_of_loops_by os (record own { display = o.saved; opened = os })).opened → Likens plan c n (o ∷ os) (if b then out_of_loops_by os (record own { display = o.saved; opened = os }) else own).opened
    by true q k = then_frames plan c n (o ∷ os) os (out_of_loops_by os (record own { display = o.saved; opened = os })).opened (loop_likens plan c n o os (a_loop o.purpose q)) k
    by false q k = subst (λ ps. Likens plan c n (o ∷ os) ps) (sym e) (like_frames plan c n (o ∷ os))

-- The line that guards.

ending_or_none : (ls : List FlatLine) (n : ℕ) → (found_from ls ≡ Some (end_from ls n)) ⊎ (end_from ls n ≡ no_end n)
ending_or_none [] n = inr refl
ending_or_none (instructs i ∷ ls) n = ending_or_none ls n
ending_or_none (end l ∷ ls) n = inl refl

record Guarding (last : Last) (x : Exception) (next : ℕ) : Type 0 where
  guards : List Guard
  is : last ≡ Guards guards
  choice : guarded x guards ≡ Some next

guarding : (last : Last) (x : Exception) (next : ℕ) → handler_in last x ≡ Some next → Guarding last x next
guarding (Does e) x next h = absurd cc
guarding (Continues f) x next h = absurd cc
guarding (Guards gs) x next h = record { guards = gs; is = refl; choice = h }
guarding (Ends c to) x next h = absurd cc
guarding (Leaves n to) x next h = absurd cc

guard_found : (code : Flat) (out : ℕ) (x : Exception) (next : ℕ) → handler_in (end_at code out).last x ≡ Some next → found code.lines out ≡ Some (end_at code out)
guard_found code out x next h = by (ending_or_none (drop out code.lines) out)
  where
    by : (found_from (drop out code.lines) ≡ Some (end_from (drop out code.lines) out)) ⊎ (end_from (drop out code.lines) out ≡ no_end out) → found code.lines out ≡ Some (end_at code out)
    by (inl e) = e
    by (inr e) = let wrong : None ≡ Some next = ap (λ (l : EndLine). handler_in l.last x) (sym e) ∙ h in absurd cc

there : (o : Option ℕ) → is_there o ≡ true → (n : ℕ) × (o ≡ Some n)
there None h = absurd (false≢true h)
there (Some n) h = (n, refl)

pub handled_step : HandledStepLaw
handled_step plan code table tasks barriers seen limits alternative n c t p sound fits spots is running pending caught meets w = task_framed plan code seen n f c t is framed kept w
  where
    place : ℕ
    place = t.control.place

    line : EndLine
    line = end_at code t.control.place

    f : TaskAt Spot → TaskAt Spot
    f = λ u. record u { control = (carried_out (flat_controls plan code)).handling p.exception u.control; own = effects.handles p u.own }

    next : (m : ℕ) × (handler_at code p.exception t.control ≡ Some m)
    next = there (handler_at code p.exception t.control) caught

    guard : Guarding (end_at code (end_at code t.control.place).out).last p.exception (there (handler_at code p.exception t.control) caught).0
    guard = guarding (end_at code (end_at code t.control.place).out).last p.exception (there (handler_at code p.exception t.control) caught).0 (there (handler_at code p.exception t.control) caught).1

    stands : StandsAt code.lines seen (Some p) t.control t.own.display t.own.opened
    stands =
        subst (λ q. StandsAt code.lines seen q t.control t.own.display t.own.opened) pending
        (subst (λ st. TaskFramed plan code seen st t) running (framed_at plan code seen n c.tasks t is w.tasks))

    pends : Pends code seen t.control.place (end_at code t.control.place) t.control.returns t.own.display t.own.opened p
    pends = record { begins = begins_there code.lines t.control.place _ stands (spot_of code.lines n c.tasks t is spots).place; is = end_found code t.control.place _ stands; stands = stands }

    handled : StandsAt code.lines seen None (record { place = (there (handler_at code p.exception t.control) caught).0; returns = t.control.returns }) (out_of_loops t.own).display (out_of_loops t.own).opened
    handled =
        handled_framed code table tasks barriers seen sound fits t.control.place (there (handler_at code p.exception t.control) caught).0 t.control.returns t.own (end_at code t.control.place) (end_at code (end_at code t.control.place).out) guard.guards p.exception p pends
        (guard_found code (end_at code t.control.place).out p.exception (there (handler_at code p.exception t.control) caught).0 (there (handler_at code p.exception t.control) caught).1) guard.is guard.choice

    marked : List Opened
    marked = changed_first (λ o. record o { handling = Some p.exception }) (out_of_loops t.own).opened

    standing : StandsAt code.lines seen None (goes_there (handler_at code p.exception t.control) t.control) (out_of_loops t.own).display marked
    standing =
        subst (λ o. StandsAt code.lines seen None (goes_there o t.control) (out_of_loops t.own).display marked) (sym (there (handler_at code p.exception t.control) caught).1)
        (stands_as code.lines seen (out_of_loops t.own).opened marked None (record { place = (there (handler_at code p.exception t.control) caught).0; returns = t.control.returns }) (out_of_loops t.own).display
        (λ v. (first_frames plan code.lines seen c n (λ o. record o { handling = Some p.exception }) (λ o. refl) (λ o. refl) (out_of_loops t.own).opened).holds v t.control.returns) handled)

    same : side (effects.handles p t.own) ≡ side t.own
    same = loops_side t.own.opened t.own

    framed : TaskFramed plan code seen (effects.handles p t.own).status (record t { control = goes_there (handler_at code p.exception t.control) t.control; own = effects.handles p t.own })
    framed =
        subst (λ st. TaskFramed plan code seen st (record t { control = goes_there (handler_at code p.exception t.control) t.control; own = effects.handles p t.own }))
        (sym (ap (λ (x : Side). x.status) same ∙ running)) standing

    scene : Scene
    scene = scene_of plan (flat_controls plan code) n c

    met : AskedMeets plan t.own c (handled_or_left true p) × (is_some t.own.again ≡ true → IsLeaving (handled_or_left true p))
    met =
        subst (λ b. AskedMeets plan t.own c (handled_or_left b p) × (is_some t.own.again ≡ true → IsLeaving (handled_or_left b p))) caught
        (subst (λ q. AskedMeets plan t.own c (asked_at code q scene t.control) × (is_some t.own.again ≡ true → IsLeaving (asked_at code q scene t.control))) pending meets)

    still : t.own.again ≡ None
    still = not_again t.own.again (IsLeaving (handled_or_left true p)) met.1 (λ h. h)

    kept : Follows plan c n t.own (effects.handles p t.own)
    kept =
        follows plan c n t.own (effects.handles p t.own) same (λ r e. let wrong : None ≡ Some r = sym (loops_again t.own.opened t.own ∙ still) ∙ e in absurd cc)
        (then_frames plan c n t.own.opened (out_of_loops t.own).opened marked (loops_likens plan c n t.own.opened t.own refl)
        (first_frames plan code.lines seen c n (λ o. record o { handling = Some p.exception }) (λ o. refl) (λ o. refl) (out_of_loops t.own).opened).likens)
