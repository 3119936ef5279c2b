-- One task is changed, and what is read of one.
use Rattle.std.proofs.Common.{◌≡◌, ◌<◌, ◌≤◌, ℕ, zero, suc, ℤ, List, [], ◌∷◌, ◌++◌, length, map, get_or, set, refl, ap, sym, ◌∙◌, arith, slice_index_or}
use Rattle.std.proofs.lemmas.List.{map-append}
use Rattle.aud_meaning.specs.Configuration.{TaskAt, All}
use Rattle.aud_meaning.specs.Parts.{on_object, on_shared, on_task, nobody, own_of, owns}
use Rattle.aud_meaning.specs.Ties.Part.{Part}
use Rattle.aud_code.specs.Places.{Spot}
use Rattle.aud_calls.specs.View.{Kept}
use Rattle.aud_calls.proofs.Lists.{changed_at, unchanged}
use Rattle.aud_state.specs.declared.task.Task.{Task}
use Rattle.aud_meaning.specs.Configuration as meaning
use Rattle.aud_state.specs.declared.object.Object.{Object}
use Rattle.aud_state.specs.View.{plain_object, plain_task, with_object, all_of}

pub task_changed : (f : TaskAt Spot → TaskAt Spot) (ts : List Task) (p : Part Spot) (k : Kept) (os : List Object) (n : ℕ) (x y : Task) (c : All Spot) → n < length ts → x ≡ get_or ts n x → plain_task y ≡ f (plain_task x) → all_of ts p k os ≡ c → all_of (set ts n y) p k os ≡ on_task n f c
task_changed f ts p k os n x y c within at new is =
    ap (λ us. record (all_of ts p k os) { tasks = us }) (changed_at plain_task f ts n x y within (new ∙ ap (λ z. f (plain_task z)) at))
    ∙ ap (on_task n f) is

pub no_task : (f : TaskAt Spot → TaskAt Spot) (ts : List Task) (p : Part Spot) (k : Kept) (os : List Object) (n : ℕ) (c : All Spot) → length ts ≤ n → all_of ts p k os ≡ c → c ≡ on_task n f c
no_task f ts p k os n c past is =
    sym is ∙ ap (λ us. record (all_of ts p k os) { tasks = us }) (unchanged plain_task f ts n past) ∙ ap (on_task n f) is

-- one object is changed
pub object_changed : (f : meaning.Object → meaning.Object) (ts : List Task) (p : Part Spot) (k : Kept) (os : List Object) (n : ℕ) (x y : Object) (c : All Spot) → n < length os → x ≡ get_or os n x → plain_object y ≡ f (plain_object x) → all_of ts p k os ≡ c → all_of ts p k (set os n y) ≡ on_object n f c
object_changed f ts p k os n x y c within at new is =
    ap (λ xs. record (all_of ts p k os) { shared = record (all_of ts p k os).shared { objects = xs } }) (changed_at plain_object f os n x y within (new ∙ ap (λ z. f (plain_object z)) at))
    ∙ ap (on_object n f) is

pub no_object_there : (f : meaning.Object → meaning.Object) (ts : List Task) (p : Part Spot) (k : Kept) (os : List Object) (n : ℕ) (c : All Spot) → length os ≤ n → all_of ts p k os ≡ c → c ≡ on_object n f c
no_object_there f ts p k os n c past is =
    sym is ∙ ap (λ xs. record (all_of ts p k os) { shared = record (all_of ts p k os).shared { objects = xs } }) (unchanged plain_object f os n past) ∙ ap (on_object n f) is

-- one object more
pub object_made : (declaration : ℕ) (cells : List ℤ) (display : List ℕ) (ts : List Task) (p q : Part Spot) (k : Kept) (os ps : List Object) (o : Object) (c : All Spot) → q ≡ record p { frames = p.frames ++ cells ∷ [] } → ps ≡ os ++ o ∷ [] →
    plain_object o ≡ record { declaration = declaration; display = display ++ length p.frames ∷ []; actions = [] } → all_of ts p k os ≡ c → all_of ts q k ps ≡ on_shared (with_object declaration cells display) c
object_made declaration cells display ts p q k os ps o c made more new is =
    let with : Part Spot = record p { frames = p.frames ++ cells ∷ [] } in
    ap (λ r. all_of ts r k ps) made
    ∙ ap (λ xs. all_of ts with k xs) more
    ∙ ap (λ xs. record (all_of ts with k os) { shared = record (all_of ts with k os).shared { objects = xs } }) (map-append plain_object os (o ∷ []) ∙ ap (λ x. map plain_object os ++ x ∷ []) new)
    ∙ ap (on_shared (with_object declaration cells display)) is

-- what is read of a task; where there is none of the number it is nobody
pub own_got : (ts : List Task) (n : ℕ) (x : Task) → n < length ts → x ≡ get_or ts n x → slice_index_or (owns (map plain_task ts)) n nobody ≡ (plain_task x).own
own_got [] n x within is = absurd (omega (arith, within))
own_got (y ∷ ys) zero x within is = ap (λ (z : Task). (plain_task z).own) (sym is)
own_got (y ∷ ys) (suc n) x within is = own_got ys n x (omega (arith, within)) is

pub own_past : (ts : List Task) (n : ℕ) → length ts ≤ n → slice_index_or (owns (map plain_task ts)) n nobody ≡ nobody
own_past [] n past = refl
own_past (y ∷ ys) zero past = absurd (omega (arith, past))
own_past (y ∷ ys) (suc n) past = own_past ys n (omega (arith, past))

-- so it is of all
pub own_at : (ts : List Task) (p : Part Spot) (k : Kept) (os : List Object) (n : ℕ) (x : Task) (c : All Spot) → n < length ts → x ≡ get_or ts n x → all_of ts p k os ≡ c → own_of n c ≡ (plain_task x).own
own_at ts p k os n x c within at is = sym (ap (own_of n) is) ∙ own_got ts n x within at

pub own_none : (ts : List Task) (p : Part Spot) (k : Kept) (os : List Object) (n : ℕ) (c : All Spot) → length ts ≤ n → all_of ts p k os ≡ c → own_of n c ≡ nobody
own_none ts p k os n c past is = sym (ap (own_of n) is) ∙ own_past ts n past
