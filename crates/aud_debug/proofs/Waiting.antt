-- The lines of waiting tasks, one by one.
use Rattle.std.proofs.Common.{◌≡◌, ◌<◌, ◌≤◌, ◌+◌, ℕ, zero, suc, List, [], ◌∷◌, ◌++◌, length, drop, get_or, slice_index_or, Option, Some, None, Bool, true, false, add-one, refl, ap, sym, ◌∙◌, arith, append_assoc, append-nil}
use Rattle.std.specs.Prelude.{codes, if◌then◌else◌, not}
use Rattle.std.specs.Fmt.{decimal}
use Rattle.std.proofs.lemmas.List.{at_drop_all, at_drop_more, drop_more}
use Rattle.std.proofs.lemmas.Option.{same_Some}
use Rattle.aud_typed.specs.Tree.{Plan}
use Rattle.aud_meaning.specs.declared.state.CallState.{CallState}
use Rattle.aud_meaning.specs.declared.state.CallState.TheVariants.{Queued, Selected, Done, Cancelled}
use Rattle.aud_meaning.specs.declared.state.OpenAccept.{OpenAccept}
use Rattle.aud_meaning.specs.declared.state.OpenDelay.{OpenDelay}
use Rattle.aud_meaning.specs.declared.state.Owner.{Owner}
use Rattle.aud_meaning.specs.declared.state.Owner.TheVariants as owner
use Rattle.aud_meaning.specs.Configuration.{All, Call, Own, TaskAt}
use Rattle.aud_meaning.specs.Control.{Coming, simply, ending, selecting, calling, starting, Seen}
use Rattle.aud_meaning.specs.Listings.Values.{numbered, spaced}
use Rattle.aud_meaning.specs.Listings.Waits.{Hold, nothing, a_call, an_accept, a_delay, an_object, a_master, an_activation, accept_words, acting_hold, again_by, again_on, call_reasons, delay_behind, delay_reasons, entry_words, expiry, hold_by, hold_reasons, is_awaited, leaving_hold, master_if, owner_words, raised_reasons, reason_lines, reasons, soonest, times, wait_lines}
use Rattle.aud_meaning.specs.Parts.{body_master, call_of, depends, entry_plan, is_terminated, nobody, numbers, own_of, owns}
use Rattle.aud_meaning.specs.Run.{Turn, resting, closing, completing, withdrawing, serving, restarting, expiring, cancelling, acting, construct_left, master_left_by, seen, seen_from, turn}
use Rattle.aud_code.specs.Places.{Spot}
use Rattle.aud_code.specs.Flat.{Flat, barrier_at, flat_controls}
use Rattle.aud_machine.specs.Tasking.{hold_in, seen_in}
use Rattle.aud_machine.proofs.Tasking.{closable_seen, many, none_seen}
use Rattle.aud_debug.specs.Listed.{ended}
use Rattle.aud_debug.specs.Ties.Rows.{task_head}
use Rattle.aud_debug.specs.Ties.Watched.{first_of, number_if, reasons_in, sooner, told_of}
use Rattle.aud_debug.proofs.Ended.{line_ended}
use Rattle.aud_debug.proofs.Tasked.{one_seen}

-- Reasons depend on what is seen alone.

module _ (plan : Plan) (code : Flat) (c : All Spot) where
  abbrev d : All Seen
  d = seen plan (flat_controls plan code) c

  owns_seen : (i : ℕ) (ts : List (TaskAt Spot)) → owns (seen_from plan (flat_controls plan code) i ts (owns c.tasks) c.shared) ≡ owns ts
  owns_seen i [] = refl
  owns_seen i (t ∷ ts) = ap (λ os. t.own ∷ os) (owns_seen (suc i) ts)

  owns_are : owns d.tasks ≡ owns c.tasks
  owns_are = owns_seen 0 c.tasks

  owner_seen : (o : Owner) → owner_words plan o d ≡ owner_words plan o c
  owner_seen (owner.Task n) = ap (λ (os : List Own). spaced (decimal (suc n)) (slice_index_or os n nobody).name) owns_are
  owner_seen (owner.Object n) = refl

  entry_seen : (o : Owner) (entry : ℕ) → entry_words plan o entry d ≡ entry_words plan o entry c
  entry_seen o entry = ap (λ w. w ++ 46 ∷ (entry_plan plan entry).name) (owner_seen o)

  call_seen : (s : CallState) (id : ℕ) (a : Call) → call_reasons plan s id a d ≡ call_reasons plan s id a c
  call_seen Queued id a = ap (λ w. spaced (codes "call") w ∷ delay_reasons (expiry a)) (entry_seen a.owner a.entry)
  call_seen Selected id a =
      ap (λ (os : List Own). spaced (codes "selected") (entry_words plan (again_on id os a.owner) a.entry d) ∷ []) owns_are
      ∙ ap (λ w. spaced (codes "selected") w ∷ []) (entry_seen (again_on id (owns c.tasks) a.owner) a.entry)
  call_seen Done id a = refl
  call_seen Cancelled id a = refl

  leaving_seen : (m : Option ℕ) → leaving_hold m d ≡ leaving_hold m c
  leaving_seen None = refl
  leaving_seen (Some master) = ap (λ b. master_if (not b) master) (closable_seen plan code c master)

  acting_seen : (next : Coming) (n : ℕ) (own : Own) → acting_hold next n own d ≡ acting_hold next n own c
  acting_seen (simply w) n own = refl
  acting_seen ending n own = leaving_seen (master_left_by (construct_left own))
  acting_seen (selecting ones) n own = refl
  acting_seen (calling task entry) n own = refl
  acting_seen (starting object reading) n own = refl

  hold_seen : (u : Turn) (n : ℕ) (own : Own) → hold_by u n own d ≡ hold_by u n own c
  hold_seen resting n own = refl
  hold_seen closing n own = leaving_seen (Some (body_master own))
  hold_seen completing n own = refl
  hold_seen (withdrawing object) n own = refl
  hold_seen (serving s) n own = refl
  hold_seen (restarting r) n own = refl
  hold_seen (expiring delays) n own = refl
  hold_seen (cancelling id) n own = refl
  hold_seen (acting next) n own = acting_seen next n own

  held_seen : (h : Hold) (n : ℕ) (own : Own) → hold_reasons plan h n own d ≡ hold_reasons plan h n own c
  held_seen nothing n own = refl
  held_seen (a_call id) n own = call_seen (call_of id c).state id (call_of id c)
  held_seen an_accept n own = refl
  held_seen a_delay n own = refl
  held_seen (an_object object) n own = refl
  held_seen (a_master master) n own = ap (λ (os : List Own). (codes "master" ++ numbered (numbers (depends master) 0 os)) ∷ []) owns_are
  held_seen an_activation n own = ap (λ (os : List Own). (codes "activation" ++ numbered (numbers (is_awaited n) 0 os)) ∷ []) owns_are

  reasons_seen : (n : ℕ) → (if is_terminated (own_of n c).status then [] else reasons plan (barrier_at code) n (seen_in plan code n c) d) ≡ reasons_in plan code n c
  reasons_seen n =
      let own = own_of n c in
      let before = raised_reasons plan own.pending in
      let u = turn plan (barrier_at code) n (seen_in plan code n c) d in
      ap (λ l. if is_terminated own.status then [] else l) (
      ap (λ h. before ++ hold_reasons plan h n own d) (hold_seen u n own)
      ∙ ap (λ l. before ++ l) (held_seen (hold_in plan code n c) n own))

  -- One task after the other.

  abbrev pub waits_from : ℕ → List (List ℕ)
  waits_from n = wait_lines plan (barrier_at code) n (drop n d.tasks) d

  pub waits_next : (n : ℕ) → n < length c.tasks → waits_from n ≡ told_of n (reasons_in plan code n c) c ++ waits_from (n + 1)
  waits_next n within =
      let inside : n < length d.tasks = omega (arith, within, many plan code c) in
      at_drop_more (λ ts. wait_lines plan (barrier_at code) n ts d) d.tasks n none_seen inside
      ∙ ap (λ t. wait_lines plan (barrier_at code) n (t ∷ drop (n + 1) d.tasks) d) (one_seen plan code c n within)
      ∙ ap (λ l. reason_lines n (own_of n c).name l ++ wait_lines plan (barrier_at code) (suc n) (drop (n + 1) d.tasks) d) (reasons_seen n)
      ∙ ap (λ k. told_of n (reasons_in plan code n c) c ++ wait_lines plan (barrier_at code) k (drop (n + 1) d.tasks) d) (sym (add-one n))

  pub waits_past : (n : ℕ) → length c.tasks ≤ n → waits_from n ≡ []
  waits_past n past =
      let beyond : length d.tasks ≤ n = omega (arith, past, many plan code c) in
      at_drop_all (λ ts. wait_lines plan (barrier_at code) n ts d) d.tasks n beyond

-- One reason after the other.

pub lines_append : (n : ℕ) (name : List ℕ) (xs ys : List (List ℕ)) → reason_lines n name (xs ++ ys) ≡ reason_lines n name xs ++ reason_lines n name ys
lines_append n name [] ys = refl
lines_append n name (x ∷ xs) ys = ap (λ l. spaced (decimal (suc n)) (spaced name x) ∷ l) (lines_append n name xs ys)

reason_told : (o n name words : List ℕ) → (o ++ (n ++ 32 ∷ (name ++ 32 ∷ []))) ++ words ≡ o ++ (n ++ 32 ∷ (name ++ 32 ∷ words))
reason_told o n name words = simp append_assoc

pub reason_ended : (n : ℕ) (c : All Spot) (words before mid told after : List ℕ) (count many : ℕ) → mid ≡ before ++ task_head n c → told ≡ mid ++ words → after ≡ told ++ 10 ∷ [] → many ≡ suc count →
    (after ≡ before ++ ended (told_of n (words ∷ []) c)) × (many ≡ count + length (told_of n (words ∷ []) c))
reason_ended n c words before mid told after count many head written ends counts =
    line_ended before told after (spaced (decimal (suc n)) (spaced (own_of n c).name words)) count many
    (written ∙ ap (λ l. l ++ words) head ∙ reason_told before (decimal (suc n)) (own_of n c).name words) ends counts

-- Words one after the other.

pub two_words : (out mid new first second : List ℕ) → mid ≡ out ++ first → new ≡ mid ++ second → new ≡ out ++ (first ++ second)
two_words out mid new first second one two = two ∙ ap (λ l. l ++ second) one ∙ append_assoc out first second

-- Whose entry is called.

owns_many : (ts : List (TaskAt Spot)) → length (owns ts) ≡ length ts
owns_many [] = refl
owns_many (t ∷ ts) = ap suc (owns_many ts)

pub again_next : (id n : ℕ) (o : Owner) (c : All Spot) → n < length c.tasks → again_on id (drop n (owns c.tasks)) o ≡ again_on id (drop (n + 1) (owns c.tasks)) (again_by id (own_of n c).restart o)
again_next id n o c within = ap (λ os. again_on id os o) (drop_more (owns c.tasks) n nobody (omega (arith, within, owns_many c.tasks)))

pub again_past : (id n : ℕ) (o : Owner) (c : All Spot) → length c.tasks ≤ n → again_on id (drop n (owns c.tasks)) o ≡ o
again_past id n o c past = at_drop_all (λ os. again_on id os o) (owns c.tasks) n (omega (arith, past, owns_many c.tasks))

-- Whose activation is waited for.

abbrev pub awaited_from : ℕ → ℕ → All Spot → List ℕ
awaited_from activator n c = numbers (is_awaited activator) n (drop n (owns c.tasks))

number_told : (out : List ℕ) (b : Bool) (n : ℕ) (rest : List ℕ) → (out ++ number_if b n) ++ numbered rest ≡ out ++ numbered (if b then n ∷ rest else rest)
number_told out true n rest = append_assoc out (32 ∷ decimal (suc n)) (numbered rest)
number_told out false n rest = ap (λ l. l ++ numbered rest) (append-nil out)

pub awaited_next : (activator n : ℕ) (c : All Spot) (out new whole : List ℕ) (is : Bool) → n < length c.tasks → is ≡ is_awaited activator (own_of n c) → new ≡ out ++ number_if is n →
    out ++ numbered (awaited_from activator n c) ≡ whole → new ++ numbered (awaited_from activator (n + 1) c) ≡ whole
awaited_next activator n c out new whole is within found written left =
    let rest = awaited_from activator (n + 1) c in
    ap (λ l. l ++ numbered rest) (written ∙ ap (λ b. out ++ number_if b n) found)
    ∙ number_told out (is_awaited activator (own_of n c)) n rest
    ∙ ap (λ k. out ++ numbered (if is_awaited activator (own_of n c) then n ∷ numbers (is_awaited activator) k (drop (n + 1) (owns c.tasks)) else numbers (is_awaited activator) k (drop (n + 1) (owns c.tasks)))) (add-one n)
    ∙ ap (λ os. out ++ numbered (numbers (is_awaited activator) n os)) (sym (drop_more (owns c.tasks) n nobody (omega (arith, within, owns_many c.tasks))))
    ∙ left

pub awaited_past : (activator n : ℕ) (c : All Spot) (out whole : List ℕ) → length c.tasks ≤ n → out ++ numbered (awaited_from activator n c) ≡ whole → out ≡ whole
awaited_past activator n c out whole past left =
    sym (append-nil out)
    ∙ ap (λ l. out ++ l) (sym (at_drop_all (λ os. numbered (numbers (is_awaited activator) n os)) (owns c.tasks) n (omega (arith, past, owns_many c.tasks))))
    ∙ left

-- those that pass are numbered alike among tasks and their own parts
pub numbers_owns : (f : Own → Bool) (k : ℕ) (ts : List (TaskAt Spot)) → numbers (λ (t : TaskAt Spot). f t.own) k ts ≡ numbers f k (owns ts)
numbers_owns f k [] = refl
numbers_owns f k (t ∷ ts) = ap (λ l. if f t.own then k ∷ l else l) (numbers_owns f (suc k) ts)

-- The soonest of some times.

abbrev pub fold : Option ℕ → List ℕ → Option ℕ
fold found [] = found
fold found (time ∷ more) = fold (Some (sooner found time)) more

fold_some : (time : ℕ) (more : List ℕ) → fold (Some time) more ≡ Some (soonest time more)
fold_some time [] = refl
fold_some time (other ∷ more) = fold_some (sooner (Some time) other) more

pub fold_is : (ts : List ℕ) → fold None ts ≡ first_of ts
fold_is [] = refl
fold_is (time ∷ more) = fold_some time more

pub fold_next : (found : Option ℕ) (ds : List OpenDelay) (i : ℕ) (d : OpenDelay) → i < length ds → fold found (times (drop i ds)) ≡ fold (Some (sooner found (get_or ds i d).time)) (times (drop (i + 1) ds))
fold_next found ds i d within = ap (λ l. fold found (times l)) (drop_more ds i d within)

pub fold_past : (found : Option ℕ) (ds : List OpenDelay) (i : ℕ) → length ds ≤ i → fold found (times (drop i ds)) ≡ found
fold_past found ds i past = at_drop_all (λ l. fold found (times l)) ds i past

pub behind_some : (ts : List ℕ) (time : ℕ) → first_of ts ≡ Some time → delay_behind ts ≡ codes " delay " ++ decimal time
behind_some [] time is = absurd cc
behind_some (t ∷ ts) time is = ap (λ k. codes " delay " ++ decimal k) (same_Some (soonest t ts) time is)

pub behind_none : (ts : List ℕ) → first_of ts ≡ None → delay_behind ts ≡ []
behind_none [] is = refl
behind_none (t ∷ ts) is = absurd cc

pub reasons_some : (ts : List ℕ) (time : ℕ) → first_of ts ≡ Some time → (codes "delay " ++ decimal time) ∷ [] ≡ delay_reasons ts
reasons_some [] time is = absurd cc
reasons_some (t ∷ ts) time is = ap (λ k. (codes "delay " ++ decimal k) ∷ []) (sym (same_Some (soonest t ts) time is))

pub reasons_none : (ts : List ℕ) → first_of ts ≡ None → [] ≡ delay_reasons ts
reasons_none [] is = refl
reasons_none (t ∷ ts) is = absurd cc

-- Open entries.

pub next_accept : (plan : Plan) (out mid new whole : List ℕ) (name : List ℕ) (ones : List OpenAccept) (i : ℕ) (d : OpenAccept) → i < length ones → mid ≡ out ++ 32 ∷ [] → new ≡ mid ++ name → name ≡ (entry_plan plan (get_or ones i d).entry).name →
    out ++ accept_words plan (drop i ones) ≡ whole → new ++ accept_words plan (drop (i + 1) ones) ≡ whole
next_accept plan out mid new whole name ones i d within space written named left =
    let rest = accept_words plan (drop (i + 1) ones) in
    let called = (entry_plan plan (get_or ones i d).entry).name in
    ap (λ l. l ++ rest) (written ∙ ap (λ l. l ++ name) space ∙ ap (λ l. (out ++ 32 ∷ []) ++ l) named)
    ∙ append_assoc (out ++ 32 ∷ []) called rest
    ∙ append_assoc out (32 ∷ []) (called ++ rest)
    ∙ ap (λ l. out ++ l) (sym (ap (accept_words plan) (drop_more ones i d within)))
    ∙ left

pub no_accept : (plan : Plan) (out whole : List ℕ) (ones : List OpenAccept) (i : ℕ) → length ones ≤ i → out ++ accept_words plan (drop i ones) ≡ whole → out ≡ whole
no_accept plan out whole ones i past left = sym (append-nil out) ∙ ap (λ l. out ++ l) (sym (at_drop_all (accept_words plan) ones i past)) ∙ left
