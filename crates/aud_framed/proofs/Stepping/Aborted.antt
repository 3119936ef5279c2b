-- An aborted task completes, wherever it is.
use Rattle.std.proofs.Common.{◌≡◌, ℕ, zero, suc, List, [], ◌∷◌, Some, None, Bool, true, false, refl, sym, ap, ◌∙◌, subst, inl, inr, if◌then◌else◌, slice_get}
use Rattle.std.proofs.lemmas.Bool.{true≢false}
use Rattle.std.specs.Prelude.{◌&&◌, ◌||◌}
use Rattle.aud_text.specs.declared.raise.Raise.TheVariants.{Tasking}
use Rattle.aud_typed.specs.Tree.{Plan}
use Rattle.aud_meaning.specs.declared.state.CallState.{CallState}
use Rattle.aud_meaning.specs.declared.state.CallState.TheVariants.{Queued, Selected, Done, Cancelled}
use Rattle.aud_meaning.specs.declared.state.Status.TheVariants.{Calling, Completed}
use Rattle.aud_meaning.specs.Configuration.{Opened, Own, TaskAt, All}
use Rattle.aud_meaning.specs.Parts.{call_of, changed, in_action, is_over, is_queued, is_selected, no_waits, numbers, on_task, own_of}
use Rattle.aud_meaning.specs.Tasks as effect
use Rattle.aud_code.specs.Places.{Spot}
use Rattle.aud_code.specs.Flat.{Flat, flat_controls}
use Rattle.aud_code.specs.Seen.{IsSeen}
use Rattle.aud_code.specs.Sound.{Counts, IsSound}
use Rattle.aud_over.specs.Over.{is_call_over}
use Rattle.aud_framed.specs.Calls.{CallerWaits, Serves, Waits}
use Rattle.aud_framed.specs.Stepping.{HasWays}
use Rattle.aud_framed.proofs.Stepping.Blocks.{own_changed}
use Rattle.aud_framed.proofs.Stepping.Completing.{completed}
use Rattle.aud_framed.proofs.Stepping.Delays.{not_within, outside}
use Rattle.aud_framed.proofs.Stepping.Ending.{Good}
use Rattle.aud_framed.proofs.Stepping.Parts.{own_got}
use Rattle.aud_framed.proofs.Stepping.Refusing.{orders}
use Rattle.aud_framed.proofs.Stepping.Tasks.{fused}

-- a change that a test doesn't see
numbers_still : (p : TaskAt Spot → Bool) (m n : ℕ) (f : TaskAt Spot → TaskAt Spot) (ts : List (TaskAt Spot)) → ((t : TaskAt Spot) → p (f t) ≡ p t) → numbers p m (changed n f ts) ≡ numbers p m ts
numbers_still p m n f [] e = refl
numbers_still p m zero f (t ∷ ts) e = ap (λ b. if b then m ∷ numbers p (suc m) ts else numbers p (suc m) ts) (e t)
numbers_still p m (suc n) f (t ∷ ts) e = ap (λ ns. if p t then m ∷ ns else ns) (numbers_still p (suc m) n f ts e)

-- a call that is neither selected nor stays, of an aborted task, is over
not_live : (s : CallState) (stays : Bool) → is_call_over s ≡ false → is_selected s || (is_queued s && stays) ≡ false → (s ≡ Queued → stays ≡ true) → ⊥
not_live Queued stays live h k = true≢false (sym (k refl) ∙ h)
not_live Selected stays live h k = true≢false h
not_live Done stays live h k = true≢false live
not_live Cancelled stays live h k = true≢false live

module _ (plan : Plan) (code : Flat) (table : List Counts) (tasks barriers seen : List ℕ) (sound : IsSound code) (fits : IsSeen code table tasks barriers seen) (ways : HasWays code) where
  abbrev pub Kept : All Spot → Type 0
  Kept c = Good plan code table tasks barriers seen sound fits ways c

  module _ (n : ℕ) (c : All Spot) (t : TaskAt Spot) (w : Kept c) (is : slice_get c.tasks n ≡ Some t) (alive : is_over t.own.status ≡ false) (ill : t.own.abnormal ≡ true) (free : in_action n c ≡ false) (unbound : t.own.status ≡ Calling → is_selected (call_of t.own.call c).state || (is_queued (call_of t.own.call c).state && (call_of t.own.call c).stays) ≡ false) where
    own_is : own_of n c ≡ t.own
    own_is = own_got n c.tasks t is

    mine : Serves plan c n t.own
    mine = subst (λ x. Serves plan c n x) own_is (w.framed.serves n (ap (λ (x : Own). is_over x.status) own_is ∙ alive))

    calls_nobody : (id : ℕ) → is_call_over (call_of id c).state ≡ false → (call_of id c).caller ≡ n → CallerWaits id (call_of id c) t.own → ⊥
    calls_nobody id live its h = by h.1
      where
        stays : (call_of id c).state ≡ Queued → (call_of id c).stays ≡ true
        stays queued = w.framed.stays id queued (ap (λ m. (own_of m c).abnormal) its ∙ (ap (λ (x : Own). x.abnormal) own_is ∙ ill))

        by : Waits (call_of id c).owner t.own → ⊥
        by (inl e) = not_live (call_of id c).state (call_of id c).stays live (subst (λ i. is_selected (call_of i c).state || (is_queued (call_of i c).state && (call_of i c).stays) ≡ false) h.0 (unbound e)) stays
        by (inr k) = not_within (call_of id c).owner t.own.opened (outside plan c n free t.own.opened mine.opened) k.1

    abbrev start : TaskAt Spot → TaskAt Spot
    start u = record u { own = record u.own { pending = None } }

    abbrev done : TaskAt Spot → TaskAt Spot
    done u = record u { own = record u.own { status = Completed; pending = None; raised = None; waits = no_waits } }

    abbrev behind : List Opened → List ℕ → List (TaskAt Spot) → All Spot
    behind os ns ts =
        effect.activation_ended (orders plan code table tasks barriers seen sound fits ways) plan (flat_controls plan code).barrier false n
        (effect.terminate_all (orders plan code table tasks barriers seen sound fits ways) plan (flat_controls plan code).barrier ns (effect.refuse_queues (orders plan code table tasks barriers seen sound fits ways) plan (flat_controls plan code).barrier n (effect.refuse (orders plan code table tasks barriers seen sound fits ways) plan (flat_controls plan code).barrier Tasking (effect.accepts_under_way (orders plan code table tasks barriers seen sound fits ways) plan (flat_controls plan code).barrier os) (record c { tasks = ts }))))

    abbrev created : List Opened → List (TaskAt Spot) → List ℕ
    created os ts = numbers (effect.created_in (orders plan code table tasks barriers seen sound fits ways) plan (flat_controls plan code).barrier os) 0 ts

    same_opened : (own_of n (on_task n start c)).opened ≡ (own_of n c).opened
    same_opened = ap (λ (x : Own). x.opened) (own_changed n start c.tasks t is) ∙ ap (λ (x : Own). x.opened) (sym own_is)

    pub aborted_completes : Kept (effect.completes (orders plan code table tasks barriers seen sound fits ways) plan (flat_controls plan code).barrier None n c)
    aborted_completes =
        subst (λ ts. Kept (behind (own_of n c).opened (created (own_of n c).opened c.tasks) ts)) (fused n done start c.tasks)
        (subst (λ ns. Kept (behind (own_of n c).opened ns (changed n done (changed n start c.tasks)))) (numbers_still (effect.created_in (orders plan code table tasks barriers seen sound fits ways) plan (flat_controls plan code).barrier (own_of n c).opened) 0 n start c.tasks (λ u. refl))
        (subst (λ os. Kept (behind os (created os (changed n start c.tasks)) (changed n done (changed n start c.tasks)))) same_opened
        (completed plan code table tasks barriers seen sound fits ways None n c t (λ s. s) w is alive (λ s h. h) calls_nobody)))
