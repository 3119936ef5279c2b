-- A task is changed beside what all share.
use Rattle.std.proofs.Common.{◌≡◌, false, ◌<◌, ◌≤◌, ℕ, zero, suc, List, [], ◌∷◌, length, map, get_or, set, refl, ap, sym, subst, ◌∙◌, arith, slice_get, Some, None}
use Rattle.std.specs.Prelude.{Result, Bool}
use Rattle.aud_text.specs.declared.raise.Raise.{Raise}
use Rattle.aud_typed.specs.Tree.{Plan, UnitPlan}
use Rattle.aud_meaning.specs.Control.{Asked}
use Rattle.aud_meaning.specs.Evaluation.{Sight}
use Rattle.aud_meaning.specs.Orders.{Orders}
use Rattle.aud_meaning.specs.Tasks as effect
use Rattle.aud_store.specs.Ties.Stored.{accepted_in}
use Rattle.aud_meaning.specs.Configuration.{All, Acting, Own, Shared, Opened, Purpose, for_body, for_block, for_loop, for_procedure, for_operation, for_entry, for_accept}
use Rattle.aud_meaning.specs.Parts.{alone, alone_by, put_back}
use Rattle.aud_meaning.specs.Parts.{acting as beside}
use Rattle.aud_meaning.specs.Ties.Part.{Part, Rest, rest_of, shared_by, within}
use Rattle.aud_code.specs.Flat.{Flat}
use Rattle.aud_code.specs.Places.{Spot}
use Rattle.aud_sequential.specs.Parked.{Parked, acting, parked}
use Rattle.aud_sequential.specs.Steps.{DoesAsked}
use Rattle.aud_calls.specs.View.{Kept}
use Rattle.aud_calls.proofs.Lists.{changed_at}
use Rattle.aud_state.specs.declared.task.Task.{Task}
use Rattle.aud_state.specs.declared.object.Object.{Object}
use Rattle.aud_state.specs.View.{plain_object, plain_own, plain_task, all_of}

pub got : {A B : Type 0} (view : A → B) (xs : List A) (n : ℕ) (x : A) → n < length xs → x ≡ get_or xs n x → slice_get (map view xs) n ≡ Some (view x)
got view [] n x within is = absurd (omega (arith, within))
got view (y ∷ ys) zero x within is = ap (λ z. Some (view z)) (sym is)
got view (y ∷ ys) (suc n) x within is = got view ys n x (omega (arith, within)) is

pub past : {A B : Type 0} (view : A → B) (xs : List A) (n : ℕ) → length xs ≤ n → slice_get (map view xs) n ≡ None
past view [] n is = refl
past view (y ∷ ys) zero is = absurd (omega (arith, is))
past view (y ∷ ys) (suc n) is = past view ys n (omega (arith, is))

-- what all share besides
abbrev others : Kept → List Object → Shared
others k os = record { frames = []; output = []; cut = false; calls = k.calls; arrivals = k.arrivals; objects = map plain_object os }

pub alone_changed : (f : Acting Spot → Acting Spot) (ts : List Task) (p q : Part Spot) (k : Kept) (os : List Object) (n : ℕ) (x y : Task) (c : All Spot) → n < length ts → x ≡ get_or ts n x →
    ((s : Shared) → beside (plain_task y) (shared_by s q) ≡ f (beside (plain_task x) (shared_by s p))) → rest_of q ≡ rest_of p → all_of ts p k os ≡ c → all_of (set ts n y) q k os ≡ alone f n c
alone_changed f ts p q k os n x y c within at new rest is =
    ap (λ us. record (all_of ts q k os) { tasks = us }) (changed_at plain_task (λ old. plain_task y) ts n x y within refl)
    ∙ ap (λ (r : Rest). record (put_back n (beside (plain_task y) (shared_by (others k os) q)) (all_of ts p k os)) { choices = r.choices; clock = r.clock; steps = r.steps }) rest
    ∙ ap (λ a. put_back n a (all_of ts p k os)) (new (others k os))
    ∙ ap (λ o. alone_by f o n (all_of ts p k os)) (sym (got plain_task ts n x within at))
    ∙ ap (alone f n) is

pub alone_past : (f : Acting Spot → Acting Spot) (ts : List Task) (p : Part Spot) (k : Kept) (os : List Object) (n : ℕ) (c : All Spot) → length ts ≤ n → all_of ts p k os ≡ c → c ≡ alone f n c
alone_past f ts p k os n c is_past is =
    sym is ∙ ap (λ o. alone_by f o n (all_of ts p k os)) (sym (past plain_task ts n is_past)) ∙ ap (alone f n) is

-- its part is worked on between two exchanges
pub between : (f : Acting Spot → Acting Spot) (t : Task) (y z : Parked) (p o q r : Part Spot) → o ≡ acting t.parked p → ((own : Own) (shared : Shared) → within own shared q ≡ f (within own shared o)) →
    r ≡ acting y q → z ≡ parked q → (s : Shared) → beside (plain_task (record t { parked = z })) (shared_by s r) ≡ f (beside (plain_task t) (shared_by s p))
between f t y z p o q r in_ does out is s =
    ap (λ w. beside (plain_task (record t { parked = w })) (shared_by s r)) is
    ∙ ap (λ w. beside (plain_task (record t { parked = parked q })) (shared_by s w)) out
    ∙ does (plain_own t) s
    ∙ ap (λ w. f (within (plain_own t) s w)) in_

pub between_asked : (units : List UnitPlan) (code : Flat) (a : Asked) (t y z : Parked) (p o q r : Part Spot) → o ≡ acting t p → DoesAsked units code o q a → r ≡ acting y q → z ≡ parked q → DoesAsked units code (acting t p) (acting z r) a
between_asked units code a t y z p o q r in_ does out is =
    let back : q ≡ acting z r = sym (ap (λ w. acting w r) is ∙ ap (acting (parked q)) out) in
    subst (λ w. DoesAsked units code w (acting z r) a) in_ (subst (λ w. DoesAsked units code o w a) back does)

pub rest_kept : (t y : Parked) (p o q r : Part Spot) → o ≡ acting t p → rest_of q ≡ rest_of o → r ≡ acting y q → rest_of r ≡ rest_of p
rest_kept t y p o q r in_ kept out = ap (λ (x : Part Spot). rest_of x) out ∙ kept ∙ ap (λ (x : Part Spot). rest_of x) in_

-- the calls whose accepts are under way
module _ (go : Orders Spot) (plan : Plan) (barrier : ℕ → Sight → Result Bool Raise) where
  accepts_by : (o : Opened) (os : List Opened) (purpose : Purpose) → o.purpose ≡ purpose → accepted_in os ≡ effect.accepts_under_way go plan barrier os → accepted_in (record o { purpose = purpose } ∷ os) ≡ effect.accepts_under_way go plan barrier (record o { purpose = purpose } ∷ os)
  accepts_by o os for_body is more = more
  accepts_by o os for_block is more = more
  accepts_by o os for_loop is more = more
  accepts_by o os (for_procedure r) is more = more
  accepts_by o os (for_operation n r) is more = more
  accepts_by o os (for_entry n i s b) is more = more
  accepts_by o os (for_accept i) is more = ap (λ ns. i ∷ ns) more

  pub accepts_same : (os : List Opened) → accepted_in os ≡ effect.accepts_under_way go plan barrier os
  accepts_same [] = refl
  accepts_same (o ∷ os) = accepts_by o os o.purpose refl (accepts_same os)
