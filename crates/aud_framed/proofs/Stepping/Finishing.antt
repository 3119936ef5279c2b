-- The body of a task is left at its end or by an exception: the task completes.
use Rattle.std.proofs.Common.{◌≡◌, ℕ, List, [], ◌∷◌, Option, Some, None, refl, sym, ap, ◌∙◌, subst, inl, inr, slice_get}
use Rattle.aud_text.specs.declared.limits.Limits.{Limits}
use Rattle.aud_typed.specs.Tree.{Plan}
use Rattle.aud_meaning.specs.declared.state.Owner.{Owner}
use Rattle.aud_meaning.specs.declared.state.Pending.{Pending}
use Rattle.aud_meaning.specs.declared.state.Status.TheVariants.{Running, Calling}
use Rattle.aud_meaning.specs.Configuration.{for_body, Opened, Own, TaskAt, All}
use Rattle.aud_meaning.specs.Control.{ends, here, is_left_by, out_by, passes_end}
use Rattle.aud_meaning.specs.Effects.{out_of, out_of_loops}
use Rattle.aud_meaning.specs.Parts.{call_of, exception_of, is_over, on_task, own_of}
use Rattle.aud_meaning.specs.Step.{done}
use Rattle.aud_meaning.specs.Tasks as effect
use Rattle.aud_code.specs.Places.{Spot}
use Rattle.aud_code.specs.Flat.{Flat, flat_controls}
use Rattle.aud_code.specs.Seen.{IsSeen}
use Rattle.aud_code.specs.Sound.{Counts, IsSound}
use Rattle.aud_code.specs.Starts.{IsSpot}
use Rattle.aud_code.proofs.Starts.{moved_kept}
use Rattle.aud_framed.specs.Calls.{Waits, WithinEntry}
use Rattle.aud_framed.specs.Stepping.{HasWays}
use Rattle.aud_framed.proofs.Stepping.Blocks.{own_changed}
use Rattle.aud_framed.proofs.Stepping.Completing.{Kept, completed}
use Rattle.aud_framed.proofs.Stepping.Handling.{loops_likens}
use Rattle.aud_framed.proofs.Stepping.Leaving.{loops_quiet}
use Rattle.aud_framed.proofs.Stepping.Refusing.{orders}
use Rattle.aud_framed.proofs.Stepping.Tasks.{unchanged}

-- a task that is directly in its body calls nobody
calls_none : (plan : Plan) (c : All Spot) (n : ℕ) (own : Own) (o : Opened) → own.status ≡ Running → (out_of_loops own).opened ≡ o ∷ [] → o.purpose ≡ for_body → (x : Owner) → Waits x own → ⊥
calls_none plan c n own o running inner body x (inl h) = let wrong : Running ≡ Calling = sym running ∙ h in absurd cc
calls_none plan c n own o running inner body x (inr h) =
    let within : WithinEntry x (o ∷ []) = subst (λ ps. WithinEntry x ps) inner ((loops_likens plan c n own.opened own refl).within x h.1) in
    subst (λ p. WithinEntry x (record o { purpose = p } ∷ [])) body within

module _ (plan : Plan) (code : Flat) (table : List Counts) (tasks barriers seen : List ℕ) (sound : IsSound code) (fits : IsSeen code table tasks barriers seen) (ways : HasWays code) where
  abbrev pub Fine : All Spot → Type 0
  Fine c = Kept plan code table tasks barriers seen sound fits ways c

  body_left : (n : ℕ) (c : All Spot) (t : TaskAt Spot) (o : Opened) (to : Spot → Spot) (alternative : Option ℕ) (p : Option Pending) → Fine c → slice_get c.tasks n ≡ Some t → t.own.status ≡ Running → (out_of_loops t.own).opened ≡ o ∷ [] → o.purpose ≡ for_body → ((s : Spot) → IsSpot code.lines s → IsSpot code.lines (to s)) → Fine (effect.at_end (orders plan code table tasks barriers seen sound fits ways) plan (flat_controls plan code).barrier alternative p n (on_task n (λ (u : TaskAt Spot). record u { control = to u.control; own = record u.own { pending = None } }) c))
  body_left n c t o to alternative p w is running inner body places =
      subst (λ d. Fine d)
      (sym (ap (λ ps. effect.at_end_of (orders plan code table tasks barriers seen sound fits ways) plan (flat_controls plan code).barrier alternative ps p n (on_task n start c)) innermost_is
      ∙ ap (λ q. effect.at_end_by (orders plan code table tasks barriers seen sound fits ways) plan (flat_controls plan code).barrier alternative q p o n (on_task n start c)) body))
      (completed plan code table tasks barriers seen sound fits ways (exception_of p) n c t to w is (ap is_over running) places (λ id live mine h. calls_none plan c n t.own o running inner body (call_of id c).owner h.1))
    where
      start : TaskAt Spot → TaskAt Spot
      start = λ u. record u { control = to u.control; own = record u.own { pending = None } }

      innermost_is : (out_of_loops (own_of n (on_task n (λ (u : TaskAt Spot). record u { control = to u.control; own = record u.own { pending = None } }) c))).opened ≡ o ∷ []
      innermost_is = ap (λ (x : Own). (out_of_loops x).opened) (own_changed n (λ (u : TaskAt Spot). record u { control = to u.control; own = record u.own { pending = None } }) c.tasks t is) ∙ (loops_quiet t.own.opened t.own ∙ inner)

  pub body_ended : (limits : Limits) (alternative : Option ℕ) (n : ℕ) (c : All Spot) (t : TaskAt Spot) (o : Opened) → Fine c → slice_get c.tasks n ≡ Some t → t.own.status ≡ Running → (out_of_loops t.own).opened ≡ o ∷ [] → o.purpose ≡ for_body → Fine (done (orders plan code table tasks barriers seen sound fits ways) plan (flat_controls plan code).barrier limits alternative (ends 0) n c)
  body_ended limits alternative n c t o w is running inner body =
      subst (λ ts. Fine (record after { tasks = ts })) (sym (unchanged n (λ (u : TaskAt Spot). record u { own = out_of 0 u.own }) after.tasks (λ u. refl)))
      (body_left n c t o (orders plan code table tasks barriers seen sound fits ways).behind alternative None w is running inner body (λ s h. moved_kept code sound plan (passes_end here) s h))
    where
      after : All Spot
      after =
          effect.at_end (orders plan code table tasks barriers seen sound fits ways) plan (flat_controls plan code).barrier alternative None n
          (on_task n (λ (u : TaskAt Spot). record u { control = (orders plan code table tasks barriers seen sound fits ways).behind u.control; own = record u.own { pending = None } }) c)

  pub body_left_by : (limits : Limits) (alternative : Option ℕ) (n : ℕ) (c : All Spot) (t : TaskAt Spot) (o : Opened) (p : Pending) → Fine c → slice_get c.tasks n ≡ Some t → t.own.status ≡ Running → (out_of_loops t.own).opened ≡ o ∷ [] → o.purpose ≡ for_body → Fine (done (orders plan code table tasks barriers seen sound fits ways) plan (flat_controls plan code).barrier limits alternative (is_left_by p) n c)
  body_left_by limits alternative n c t o p w is running inner body =
      body_left n c t o ((orders plan code table tasks barriers seen sound fits ways).left p.exception) alternative (Some p) w is running inner body (λ s h. moved_kept code sound plan (out_by p.exception here) s h)
