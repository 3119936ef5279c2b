-- Loops that a task leaves count for no master: they are left before it or behind it.
use Rattle.std.proofs.Common.{◌≡◌, ℕ, zero, suc, List, [], ◌∷◌, None, Result, Bool, refl, sym, ap, ◌∙◌, if◌then◌else◌}
use Rattle.aud_text.specs.declared.place.Pos.{Pos}
use Rattle.aud_text.specs.declared.raise.Raise.{Raise}
use Rattle.aud_text.specs.declared.raise.Raise.TheVariants.{Tasking}
use Rattle.aud_typed.specs.declared.program.Exception.{Exception}
use Rattle.aud_typed.specs.declared.program.Exception.TheVariants.{Predefined}
use Rattle.aud_typed.specs.Tree.{Plan}
use Rattle.aud_meaning.specs.declared.state.Status.{Status}
use Rattle.aud_meaning.specs.declared.state.Status.TheVariants.{Terminated}
use Rattle.aud_meaning.specs.Configuration.{Opened, Own, TaskAt, All}
use Rattle.aud_meaning.specs.Effects.{closed, closed_by, out_of, pends}
use Rattle.aud_meaning.specs.Evaluation.{Sight}
use Rattle.aud_meaning.specs.Orders.{Orders}
use Rattle.aud_meaning.specs.Parts.{calls_on_task, changed, depends, fails, no_waits, nobody, numbers, on_own, runs}
use Rattle.aud_meaning.specs.Tasks as effect
use Rattle.aud_code.specs.Places.{Spot}

pub commute : (n m : ℕ) (f g : TaskAt Spot → TaskAt Spot) (ts : List (TaskAt Spot)) → ((t : TaskAt Spot) → g (f t) ≡ f (g t)) → changed m g (changed n f ts) ≡ changed n f (changed m g ts)
commute n m f g [] e = refl
commute zero zero f g (t ∷ ts) e = ap (λ u. u ∷ ts) (e t)
commute zero (suc m) f g (t ∷ ts) e = refl
commute (suc n) zero f g (t ∷ ts) e = refl
commute (suc n) (suc m) f g (t ∷ ts) e = ap (λ us. t ∷ us) (commute n m f g ts e)

numbers_same : (p : TaskAt Spot → Bool) (m n : ℕ) (f : TaskAt Spot → TaskAt Spot) (ts : List (TaskAt Spot)) → ((t : TaskAt Spot) → p (f t) ≡ p t) → numbers p m (changed n f ts) ≡ numbers p m ts
numbers_same p m n f [] e = refl
numbers_same p m zero f (t ∷ ts) e = ap (λ b. if b then m ∷ numbers p (suc m) ts else numbers p (suc m) ts) (e t)
numbers_same p m (suc n) f (t ∷ ts) e = ap (λ ns. if p t then m ∷ ns else ns) (numbers_same p (suc m) n f ts e)

abbrev ends_task : Own → Own
ends_task own = record own { status = Terminated; pending = None; display = []; opened = []; waits = no_waits }

-- A change that others leave as it is.
pub record Passes (f : Own → Own) : Type 0 where
  pub status : (own : Own) → (f own).status ≡ own.status
  pub masters : (own : Own) → (f own).masters ≡ own.masters
  pub fails : (x : Exception) (at : Pos) (own : Own) → pends x at (runs (f own)) ≡ f (pends x at (runs own))
  pub ends : (own : Own) → ends_task (f own) ≡ f (ends_task own)

module _ (go : Orders Spot) (plan : Plan) (barrier : ℕ → Sight → Result Bool Raise) (n : ℕ) (f : Own → Own) (passes : Passes f) where
  abbrev F : All Spot → All Spot
  F c = on_own n f c

  failed : (x : Exception) (id : ℕ) (c : All Spot) → effect.end_call go plan barrier (fails x) id (F c) ≡ F (effect.end_call go plan barrier (fails x) id c)
  failed x id c =
      let call = effect.end_call go plan barrier (fails x) id c in
      ap (λ ts. record call { tasks = ts })
      (commute n _ (λ (t : TaskAt Spot). record t { own = f t.own }) _ c.tasks (λ t. ap (λ own. record t { own = own }) (passes.fails x _ t.own)))

  refused : (raise : Raise) (ids : List ℕ) (c : All Spot) → effect.refuse go plan barrier raise ids (F c) ≡ F (effect.refuse go plan barrier raise ids c)
  refused raise [] c = refl
  refused raise (id ∷ ids) c =
      ap (λ d. effect.refuse go plan barrier raise ids d) (failed (Predefined raise) id c)
      ∙ refused raise ids (effect.end_call go plan barrier (fails (Predefined raise)) id c)

  terminated : (m : ℕ) (c : All Spot) → effect.terminate go plan barrier m (F c) ≡ F (effect.terminate go plan barrier m c)
  terminated m c =
      ap (λ ts. effect.refuse go plan barrier Tasking (calls_on_task m c.shared.calls) (record c { tasks = ts }))
      (commute n m (λ (t : TaskAt Spot). record t { own = f t.own }) (λ (t : TaskAt Spot). record t { own = ends_task t.own }) c.tasks (λ t. ap (λ own. record t { own = own }) (passes.ends t.own)))
      ∙ refused Tasking (calls_on_task m c.shared.calls) (on_own m ends_task c)

  all_terminated : (ns : List ℕ) (c : All Spot) → effect.terminate_all go plan barrier ns (F c) ≡ F (effect.terminate_all go plan barrier ns c)
  all_terminated [] c = refl
  all_terminated (m ∷ ns) c =
      ap (λ d. effect.terminate_all go plan barrier ns d) (terminated m c)
      ∙ all_terminated ns (effect.terminate go plan barrier m c)

  pub master_passes : (master : ℕ) (c : All Spot) → effect.close_master go plan barrier master (F c) ≡ F (effect.close_master go plan barrier master c)
  master_passes master c =
      ap (λ ns. effect.terminate_all go plan barrier ns (F c))
      (numbers_same (λ (t : TaskAt Spot). depends master t.own) 0 n (λ (t : TaskAt Spot). record t { own = f t.own }) c.tasks (λ t. same t.own))
      ∙ all_terminated (numbers (λ (t : TaskAt Spot). depends master t.own) 0 c.tasks) c
    where
      by : Status → List ℕ → Bool
      by s ms = depends master (record nobody { status = s; masters = ms })

      same : (own : Own) → depends master (f own) ≡ depends master own
      same own = ap (λ s. by s (f own).masters) (passes.status own) ∙ ap (λ ms. by own.status ms) (passes.masters own)

-- Out of loops, a task changes in its frames alone.

pub out_shape : (k : ℕ) (own : Own) → out_of k own ≡ record own { display = (out_of k own).display; opened = (out_of k own).opened }
out_shape zero own = refl
out_shape (suc k) own = by own.opened (out_shape k)
  where
    by : (os : List Opened) → ((x : Own) → out_of k x ≡ record x { display = (out_of k x).display; opened = (out_of k x).opened }) → out_of k (closed (record own { opened = os })) ≡ record own { display = (out_of k (closed (record own { opened = os }))).display; opened = (out_of k (closed (record own { opened = os }))).opened }
    by [] on = on (record own { opened = [] })
    by (o ∷ os) on = on (record own { display = o.saved; opened = os })

out_fails : (k : ℕ) (x : Exception) (at : Pos) (own : Own) → pends x at (runs (out_of k own)) ≡ out_of k (pends x at (runs own))
out_fails zero x at own = refl
out_fails (suc k) x at own = by own.opened (out_fails k x at)
  where
    by : (os : List Opened) → ((y : Own) → pends x at (runs (out_of k y)) ≡ out_of k (pends x at (runs y))) → pends x at (runs (out_of k (closed (record own { opened = os })))) ≡ out_of k (closed (pends x at (runs (record own { opened = os }))))
    by [] on = on (record own { opened = [] })
    by (o ∷ os) on = on (record own { display = o.saved; opened = os })

out_none : (k : ℕ) (own : Own) → own.opened ≡ [] → out_of k own ≡ own
out_none zero own e = refl
out_none (suc k) own e = ap (λ os. out_of k (closed_by os own)) e ∙ out_none k own e

pub out_passes : (k : ℕ) → Passes (out_of k)
out_passes k = record {
  status = λ own. ap (λ (x : Own). x.status) (out_shape k own);
  masters = λ own. ap (λ (x : Own). x.masters) (out_shape k own);
  fails = λ x at own. out_fails k x at own;
  ends = λ own. ap ends_task (out_shape k own) ∙ sym (out_none k (ends_task own) refl);
}
