-- The lines of queues, one by one.
use Rattle.std.proofs.Common.{◌≡◌, ◌<◌, ◌≤◌, ◌+◌, ℕ, zero, suc, List, [], ◌∷◌, ◌++◌, length, drop, map, get_or, Option, Some, None, Bool, true, false, ◌&&◌, if◌then◌else◌, slice_index_or, add-one, append_assoc, length-append, refl, ap, sym, ◌∙◌, subst, arith}
use Rattle.std.specs.Prelude.{codes, nat_eq, nat_lt}
use Rattle.std.specs.Fmt.{decimal}
use Rattle.std.proofs.lemmas.Bool.{eqb-true}
use Rattle.std.proofs.lemmas.List.{at_drop_all, at_drop_more}
use Rattle.aud_typed.specs.declared.program.Entry.{Entry}
use Rattle.aud_typed.specs.declared.program.EntryBody.{EntryBody}
use Rattle.aud_typed.specs.declared.program.ProtectedObject.{ProtectedObject}
use Rattle.aud_typed.specs.declared.program.TaskType.{TaskType}
use Rattle.aud_typed.specs.Ties.View.{entry_with, plain_entry, plain_object, plain_task_type}
use Rattle.aud_typed.specs.Tree.{EntryPlan, Plan, plan_of_entry}
use Rattle.aud_meaning.specs.declared.state.Owner.{Owner}
use Rattle.aud_meaning.specs.declared.state.Owner.TheVariants as owner
use Rattle.aud_meaning.specs.Configuration.{All, Call, Object, Own, TaskAt}
use Rattle.aud_meaning.specs.Listings.{callers, entries_by, object_queues, queue_lines, spaced, task_queues}
use Rattle.aud_meaning.specs.Parts.{Waiting, call_of, entry_plan, insert, is_queued, no_call, no_object, nobody, object_of, object_plan, own_of, owner_number, owns, queue, queue_from}
use Rattle.aud_code.specs.Places.{Spot}
use Rattle.aud_debug.specs.Ties.Rows.{calls_on, entry_lines, owner_name, owner_word, queue_head, queue_line}

-- Who waits is who made the call.

abbrev IsRight : List Call → Waiting → Type 0
IsRight all w = w.caller ≡ (slice_index_or all w.call no_call).caller

abbrev AreRight : List Call → List Waiting → Type 0
AreRight all [] = Unit {0}
AreRight all (w ∷ ws) = IsRight all w × AreRight all ws

put_right : (all : List Call) (w : Waiting) (ws : List Waiting) → IsRight all w → AreRight all ws → AreRight all (insert w ws)
put_right all w [] h hs = (h, tt)
put_right all w (x ∷ xs) h hs = by (nat_lt w.arrival x.arrival) (put_right all w xs h hs.1)
  where
    by : (b : Bool) → AreRight all (insert w xs) → AreRight all (if b then w ∷ x ∷ xs else x ∷ insert w xs)
    by true behind = (h, hs)
    by false behind = (hs.0, behind)

at_length : (before cs : List Call) (c : Call) → slice_index_or (before ++ c ∷ cs) (length before) no_call ≡ c
at_length [] cs c = refl
at_length (b ∷ before) cs c = at_length before cs c

all_right : (owner entry k : ℕ) (all before cs : List Call) → all ≡ before ++ cs → k ≡ length before → AreRight all (queue_from k owner entry cs)
all_right owner entry k all before [] is at = tt
all_right owner entry k all before (c ∷ cs) is at =
    by (is_queued c.state && nat_eq c.entry entry && nat_eq (owner_number c.owner) owner)
    (all_right owner entry (suc k) all (before ++ c ∷ []) cs (is ∙ sym (append_assoc before (c ∷ []) cs)) (omega (arith, at, length-append before (c ∷ []))))
  where
    here : c.caller ≡ (slice_index_or all k no_call).caller
    here = sym (ap (λ i. (slice_index_or all i no_call).caller) at ∙ ap (λ l. (slice_index_or l (length before) no_call).caller) is ∙ ap (λ (x : Call). x.caller) (at_length before cs c))

    by : (b : Bool) → AreRight all (queue_from (suc k) owner entry cs) → AreRight all (if b then insert (record { call = k; arrival = c.arrival; caller = c.caller }) (queue_from (suc k) owner entry cs) else queue_from (suc k) owner entry cs)
    by true behind = put_right all (record { call = k; arrival = c.arrival; caller = c.caller }) (queue_from (suc k) owner entry cs) here behind
    by false behind = behind

module _ (plan : Plan) (c : All Spot) where
  abbrev numbers : List Waiting → List ℕ
  numbers ws = map (λ (w : Waiting). w.call) ws

  abbrev waiting : Owner → ℕ → List Waiting
  waiting o entry = queue (owner_number o) entry c.shared.calls

  callers_are : (ws : List Waiting) → AreRight c.shared.calls ws → callers ws ≡ calls_on (numbers ws) c
  callers_are [] h = refl
  callers_are (w ∷ ws) h =
      ap (λ n. 32 ∷ (decimal (suc n) ++ callers ws)) h.0
      ∙ ap (λ l. 32 ∷ (decimal (suc (call_of w.call c).caller) ++ l)) (callers_are ws h.1)

  right : (o : Owner) (entry : ℕ) → AreRight c.shared.calls (waiting o entry)
  right o entry = all_right (owner_number o) entry 0 c.shared.calls [] c.shared.calls refl refl

  -- An entry without calls has no line, and another one has one.

  without_calls : (o : Owner) (entry : ℕ) (ws : List Waiting) → waiting o entry ≡ ws → numbers ws ≡ [] → queue_line plan o entry c ≡ []
  without_calls o entry [] is h = rw is refl
  without_calls o entry (w ∷ ws) is h = absurd cc

  pub no_line : (o : Owner) (entry : ℕ) (ids : List ℕ) → ids ≡ numbers (waiting o entry) → nat_eq (length ids) 0 ≡ true → queue_line plan o entry c ≡ []
  no_line o entry [] are h = without_calls o entry (waiting o entry) refl (sym are)
  no_line o entry (id ∷ ids) are h = absurd (omega (arith, eqb-true (length (id ∷ ids)) 0 h))

  head_first : (o : Owner) (entry : ℕ) (rest : List ℕ) → queue_head plan o entry c ++ rest ≡ spaced (owner_word o) (spaced (decimal (suc (owner_number o))) (owner_name plan o c ++ 46 ∷ ((entry_plan plan entry).name ++ 58 ∷ rest)))
  head_first o entry rest =
      let word = owner_word o in
      let number = decimal (suc (owner_number o)) in
      let name = owner_name plan o c in
      let called = (entry_plan plan entry).name in
      append_assoc word (32 ∷ (number ++ 32 ∷ (name ++ 46 ∷ (called ++ 58 ∷ [])))) rest
      ∙ ap (λ l. word ++ 32 ∷ l) (append_assoc number (32 ∷ (name ++ 46 ∷ (called ++ 58 ∷ []))) rest)
      ∙ ap (λ l. word ++ 32 ∷ (number ++ 32 ∷ l)) (append_assoc name (46 ∷ (called ++ 58 ∷ [])) rest)
      ∙ ap (λ l. word ++ 32 ∷ (number ++ 32 ∷ (name ++ 46 ∷ l))) (append_assoc called (58 ∷ []) rest)

  with_calls : (o : Owner) (entry : ℕ) (ws : List Waiting) → waiting o entry ≡ ws → ¬ (numbers ws ≡ []) → queue_line plan o entry c ≡ (queue_head plan o entry c ++ calls_on (numbers ws) c) ∷ []
  with_calls o entry [] is h = absurd (h refl)
  with_calls o entry (w ∷ ws) is h =
      let told = callers_are (w ∷ ws) (subst (AreRight c.shared.calls) is (right o entry)) in
      rw is (ap (λ l. l ∷ []) (sym (head_first o entry (callers (w ∷ ws))) ∙ ap (λ l. queue_head plan o entry c ++ l) told))

  some_there : (ids : List ℕ) → nat_eq (length ids) 0 ≡ false → ¬ (ids ≡ [])
  some_there [] h none = absurd cc
  some_there (id ∷ ids) h none = absurd cc

  pub one_line : (o : Owner) (entry : ℕ) (ids : List ℕ) → ids ≡ numbers (waiting o entry) → nat_eq (length ids) 0 ≡ false → queue_line plan o entry c ≡ (queue_head plan o entry c ++ calls_on ids c) ∷ []
  one_line o entry ids are h =
      with_calls o entry (waiting o entry) refl (λ none. some_there ids h (are ∙ none))
      ∙ ap (λ l. (queue_head plan o entry c ++ calls_on l c) ∷ []) (sym are)

  -- One entry after the other.

  entries_next : (o : Owner) (entry : ℕ) (entries : List ℕ) → entry_lines plan o (entry ∷ entries) c ≡ queue_line plan o entry c ++ entry_lines plan o entries c
  entries_next o entry entries = by (waiting o entry) refl
    where
      by : (ws : List Waiting) → waiting o entry ≡ ws → entry_lines plan o (entry ∷ entries) c ≡ queue_line plan o entry c ++ entry_lines plan o entries c
      by [] is = rw is refl
      by (w ∷ ws) is = rw is refl

  pub next_entry : (o : Owner) (entries : List ℕ) (i : ℕ) → i < length entries → entry_lines plan o (drop i entries) c ≡ queue_line plan o (get_or entries i 0) c ++ entry_lines plan o (drop (i + 1) entries) c
  next_entry o entries i within =
      at_drop_more (λ l. entry_lines plan o l c) entries i 0 within
      ∙ entries_next o (get_or entries i 0) (drop (i + 1) entries)

  pub no_entry : (o : Owner) (entries : List ℕ) (i : ℕ) → length entries ≤ i → entry_lines plan o (drop i entries) c ≡ []
  no_entry o entries i past = at_drop_all (λ l. entry_lines plan o l c) entries i past

  -- One task after the other.

  abbrev pub of_task : ℕ → List (List ℕ)
  of_task n = entry_lines plan (owner.Task n) (entries_by plan (own_of n c).task_type) c

  abbrev lines_of : ℕ → Own → List (List ℕ)
  lines_of n own = queue_lines plan (codes "task") own.name n (entries_by plan own.task_type) c

  next_task_by : (n : ℕ) (ts : List (TaskAt Spot)) (i : ℕ) → i < length ts → task_queues plan n (drop i ts) c ≡ lines_of n (slice_index_or (owns ts) i nobody) ++ task_queues plan (suc n) (drop (suc i) ts) c
  next_task_by n [] i within = absurd (omega (arith, within))
  next_task_by n (t ∷ ts) zero within = refl
  next_task_by n (t ∷ ts) (suc i) within = next_task_by n ts i (omega (arith, within))

  abbrev pub tasks_from : ℕ → List (List ℕ)
  tasks_from n = task_queues plan n (drop n c.tasks) c

  pub tasks_next : (n : ℕ) → n < length c.tasks → tasks_from n ≡ of_task n ++ tasks_from (n + 1)
  tasks_next n within =
      next_task_by n c.tasks n within
      ∙ ap (λ k. lines_of n (own_of n c) ++ task_queues plan k (drop k c.tasks) c) (sym (add-one n))

  pub tasks_past : (n : ℕ) → length c.tasks ≤ n → tasks_from n ≡ []
  tasks_past n past = at_drop_all (λ ts. task_queues plan n ts c) c.tasks n past

  -- One object after the other.

  abbrev pub of_object : ℕ → List (List ℕ)
  of_object n = entry_lines plan (owner.Object n) (object_plan plan (object_of n c).declaration).entries c

  abbrev lines_by : ℕ → Object → List (List ℕ)
  lines_by n o =
      let declared = object_plan plan o.declaration in
      queue_lines plan (codes "object") declared.name n declared.entries c

  next_object_by : (n : ℕ) (os : List Object) (i : ℕ) → i < length os → object_queues plan n (drop i os) c ≡ lines_by n (slice_index_or os i no_object) ++ object_queues plan (suc n) (drop (suc i) os) c
  next_object_by n [] i within = absurd (omega (arith, within))
  next_object_by n (o ∷ os) zero within = refl
  next_object_by n (o ∷ os) (suc i) within = next_object_by n os i (omega (arith, within))

  abbrev pub objects_from : ℕ → List (List ℕ)
  objects_from n = object_queues plan n (drop n c.shared.objects) c

  pub objects_next : (n : ℕ) → n < length c.shared.objects → objects_from n ≡ of_object n ++ objects_from (n + 1)
  objects_next n within =
      next_object_by n c.shared.objects n within
      ∙ ap (λ k. lines_by n (object_of n c) ++ object_queues plan k (drop k c.shared.objects) c) (sym (add-one n))

  pub objects_past : (n : ℕ) → length c.shared.objects ≤ n → objects_from n ≡ []
  objects_past n past = at_drop_all (λ os. object_queues plan n os c) c.shared.objects n past

-- One caller after the other.

one_caller : (ids : List ℕ) (i : ℕ) (c : All Spot) → i < length ids → calls_on (drop i ids) c ≡ 32 ∷ (decimal (suc (call_of (get_or ids i 0) c).caller) ++ calls_on (drop (i + 1) ids) c)
one_caller ids i c within = at_drop_more (λ l. calls_on l c) ids i 0 within

pub no_caller : (ids : List ℕ) (i : ℕ) (c : All Spot) → length ids ≤ i → calls_on (drop i ids) c ≡ []
no_caller ids i c past = at_drop_all (λ l. calls_on l c) ids i past

pub next_caller : (out mid new whole : List ℕ) (number caller : ℕ) (ids : List ℕ) (i : ℕ) (c : All Spot) → i < length ids → mid ≡ out ++ 32 ∷ [] → new ≡ mid ++ decimal number → number ≡ suc caller → caller ≡ (call_of (get_or ids i 0) c).caller →
    out ++ calls_on (drop i ids) c ≡ whole → new ++ calls_on (drop (i + 1) ids) c ≡ whole
next_caller out mid new whole number caller ids i c within space written counted made left =
    let rest = calls_on (drop (i + 1) ids) c in
    let one = decimal (suc (call_of (get_or ids i 0) c).caller) in
    let told : new ≡ (out ++ 32 ∷ []) ++ one = written ∙ ap (λ l. l ++ decimal number) space ∙ ap (λ k. (out ++ 32 ∷ []) ++ decimal k) (counted ∙ ap suc made) in
    ap (λ l. l ++ rest) told
    ∙ append_assoc (out ++ 32 ∷ []) one rest
    ∙ append_assoc out (32 ∷ []) (one ++ rest)
    ∙ ap (λ l. out ++ l) (sym (one_caller ids i c within))
    ∙ left

-- The entries of a type in memory.

pub entries_found : (ts : List TaskType) (n : ℕ) (t : TaskType) → n < length ts → t ≡ get_or ts n t → t.entries.items ≡ (slice_index_or (map plain_task_type ts) n (record { unit = 0; entries = [] })).entries
entries_found [] n t within at = absurd (omega (arith, within))
entries_found (x ∷ ts) zero t within at = ap (λ (y : TaskType). y.entries.items) at
entries_found (x ∷ ts) (suc n) t within at = entries_found ts n t (omega (arith, within)) at

pub entries_missing : (ts : List TaskType) (n : ℕ) → length ts ≤ n → (slice_index_or (map plain_task_type ts) n (record { unit = 0; entries = [] })).entries ≡ []
entries_missing [] n past = refl
entries_missing (x ∷ ts) zero past = absurd (omega (arith, past))
entries_missing (x ∷ ts) (suc n) past = entries_missing ts n (omega (arith, past))

-- The declaration of an object in memory.

pub object_found : (os : List ProtectedObject) (n : ℕ) (o : ProtectedObject) → n < length os → o ≡ get_or os n o → plain_object o ≡ slice_index_or (map plain_object os) n (record { name = []; level = 0; components = []; entries = [] })
object_found [] n o within at = absurd (omega (arith, within))
object_found (x ∷ os) zero o within at = ap plain_object at
object_found (x ∷ os) (suc n) o within at = object_found os n o (omega (arith, within)) at

pub object_missing : (os : List ProtectedObject) (n : ℕ) → length os ≤ n → slice_index_or (map plain_object os) n (record { name = []; level = 0; components = []; entries = [] }) ≡ record { name = []; level = 0; components = []; entries = [] }
object_missing [] n past = refl
object_missing (x ∷ os) zero past = absurd (omega (arith, past))
object_missing (x ∷ os) (suc n) past = object_missing os n (omega (arith, past))

-- The words before the callers, one after the other.
pub grouped : (o a b c d e f g h : List ℕ) → (((((((o ++ a) ++ b) ++ c) ++ d) ++ e) ++ f) ++ g) ++ h ≡ o ++ (a ++ (b ++ (c ++ (d ++ (e ++ (f ++ (g ++ h)))))))
grouped o a b c d e f g h =
    append_assoc ((((((o ++ a) ++ b) ++ c) ++ d) ++ e) ++ f) g h
    ∙ append_assoc (((((o ++ a) ++ b) ++ c) ++ d) ++ e) f (g ++ h)
    ∙ append_assoc ((((o ++ a) ++ b) ++ c) ++ d) e (f ++ (g ++ h))
    ∙ append_assoc (((o ++ a) ++ b) ++ c) d (e ++ (f ++ (g ++ h)))
    ∙ append_assoc ((o ++ a) ++ b) c (d ++ (e ++ (f ++ (g ++ h))))
    ∙ append_assoc (o ++ a) b (c ++ (d ++ (e ++ (f ++ (g ++ h)))))
    ∙ append_assoc o a (b ++ (c ++ (d ++ (e ++ (f ++ (g ++ h))))))

-- The name of an entry in memory.

abbrev entry_plans : List Entry → List EntryPlan
entry_plans es = map plan_of_entry (map plain_entry es)

named_as : (name : List ℕ) (formals : ℕ) (b : Option EntryBody) → name ≡ (entry_with name formals b).name
named_as name formals None = refl
named_as name formals (Some b) = refl

pub name_found : (es : List Entry) (n : ℕ) (e : Entry) → n < length es → e ≡ get_or es n e → e.name ≡ (slice_index_or (entry_plans es) n (record { name = []; formals = 0; unit = 0 })).name
name_found [] n e within at = absurd (omega (arith, within))
name_found (x ∷ es) zero e within at = ap (λ (y : Entry). y.name) at ∙ named_as x.name x.formals x.body
name_found (x ∷ es) (suc n) e within at = name_found es n e (omega (arith, within)) at

pub name_missing : (es : List Entry) (n : ℕ) → length es ≤ n → (slice_index_or (entry_plans es) n (record { name = []; formals = 0; unit = 0 })).name ≡ []
name_missing [] n past = refl
name_missing (x ∷ es) zero past = absurd (omega (arith, past))
name_missing (x ∷ es) (suc n) past = name_missing es n (omega (arith, past))
