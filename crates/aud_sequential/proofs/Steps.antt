-- What a step does to a task's part is what the task does alone.
use Rattle.std.proofs.Common.{◌≡◌, ℕ, suc, ℤ, List, [], ◌∷◌, Option, Some, None, Bool, true, false, if◌then◌else◌, length, take, replicate, slice_index_or, nat_lt, nat_le, refl, sym, ap, ◌∙◌, subst}
use Rattle.std.specs.Prelude.{slice_get, int_le, ◌+ℤ◌, ◌++◌, Result}
use Rattle.aud_text.specs.declared.limits.TheConstants.{FRAMES, OUTPUT}
use Rattle.aud_text.specs.declared.raise.Raise.{Raise}
use Rattle.aud_text.specs.declared.place.Pos.{Pos}
use Rattle.aud_typed.specs.Tree.{Plan, UnitPlan}
use Rattle.aud_meaning.specs.Configuration.{Target, for_block, for_loop, for_procedure, Own, Shared, Acting}
use Rattle.aud_meaning.specs.Control.{Scene, Asked, goes_on, assigns, enters_loop, next_of_loop, goes_out, enters_block, calls_procedure, declares as asks_declaration}
use Rattle.aud_meaning.specs.Evaluation.{Sight, nearest_zero}
use Rattle.aud_meaning.specs.Effects.{put_out, elaborated_in, innermost, live_frames}
use Rattle.aud_meaning.specs.Effects as own
use Rattle.aud_meaning.specs.Orders.{Orders}
use Rattle.aud_meaning.specs.Parts.{no_unit, unit_of}
use Rattle.aud_meaning.specs.Step.{for_first, for_step, has_next}
use Rattle.aud_meaning.specs.Statements.{branch}
use Rattle.aud_meaning.specs.Ties.Part.{Part, within}
use Rattle.aud_meaning.specs.Why.Alone.{acts}
use Rattle.aud_meaning.proofs.Part.{closes, closes_times}
use Rattle.aud_code.specs.declared.line.EndLine.{EndLine}
use Rattle.aud_code.specs.declared.line.Ending.{Ending}
use Rattle.aud_code.specs.declared.line.Ending.TheVariants.{Declare, DeclareArray, Null, Assign, Put, If, While, Loop, Exit, RaiseAgain, Block, Return, ReturnValue, Call, OwnCall}
use Rattle.aud_code.specs.declared.line.Ending.TheVariants as ending
use Rattle.aud_code.specs.declared.line.Last.{Last}
use Rattle.aud_code.specs.declared.line.Last.TheVariants.{Does, Concerns, Continues, Guards, Ends, Leaves}
use Rattle.aud_code.specs.declared.line.ForLoop.{ForLoop}
use Rattle.aud_code.specs.declared.line.Way.{Way}
use Rattle.aud_code.specs.Control.{going}
use Rattle.aud_code.specs.Places.{Spot, goes, goes_there, goes_way, loops_of}
use Rattle.aud_code.specs.Instruction.{Operands, Reached}
use Rattle.aud_code.specs.Eval.{newest, with_one, with_two as asked_two, passed_in}
use Rattle.aud_code.specs.Flat.{Flat, end_at, asked_last}
use Rattle.aud_code.specs.Flat as flat
use Rattle.aud_code.specs.Sound.{Takes, LastFine, counts_of}
use Rattle.aud_code.specs.View.{plain_end, plain_last, plain_for, ways_of, exit_of}
use Rattle.aud_store.specs.Ties.Stored.{declared as declared_in, entered, innermost_cell, with_function_value}
use Rattle.aud_store.specs.Ties.Stored as store
use Rattle.aud_sequential.specs.Shown.{unit_in}
use Rattle.aud_sequential.specs.Steps.{DoesAsked, IsOfOne, moved_to, stored, stored_in, on_stored, shared_in, written, declared_to, opened, looped, continued, left_loops, called_unit, returning_with, with_result, does, with_newest, with_two}

module _ (code : Flat) (plan : Plan) (barrier : ℕ → Sight → Result Bool Raise) (o : Own) (shared : Shared) (q : Part Spot) where
  abbrev go : Orders Spot
  go = going code

  abbrev W : Part Spot → Acting Spot
  W p = within o shared p

  abbrev Acts : Asked → Acting Spot
  Acts a = acts go plan barrier a (W q)

  -- one of two, of which each is as it should be
  either : (b : Bool) (x y : Part Spot) (u v : Acting Spot) → W x ≡ u → W y ≡ v → W (if b then x else y) ≡ (if b then u else v)
  either true x y u v e f = e
  either false x y u v e f = f

  -- At the place of an ending.
  module _ (l : EndLine) (is_end : plain_end l ≡ end_at code q.control.place) where
    takes_so : (n : ℕ) → goes_there (slice_get (ways_of l.last) n) q.control ≡ go.takes n q.control
    takes_so n = ap (λ (e : flat.EndLine). goes_there (slice_get e.ways n) q.control) is_end

    out_so : goes_way (exit_of l.last) q.control ≡ go.out q.control
    out_so = ap (λ (e : flat.EndLine). goes_way e.exit q.control) is_end

    -- to its part of this number
    pub goes_to : (t : Acting Spot) (n : ℕ) (to : Spot) → to ≡ goes_there (slice_get (ways_of l.last) n) q.control → record t { control = to } ≡ record t { control = go.takes n q.control }
    goes_to t n to is = ap (λ (c : Spot). record t { control = c }) (is ∙ takes_so n)

    pub gets_out : (w : Way) → exit_of l.last ≡ Some (record { to = w.to; loops = w.loops }) → W (left_loops w q) ≡ Acts (goes_out w.loops None)
    gets_out w is =
        ap (λ (c : Spot). record (W (left_loops w q)) { control = c }) (ap (λ e. goes_way e q.control) (sym is) ∙ out_so)
        ∙ ap (λ (x : Own). record (W q) { control = go.out q.control; own = x }) (closes_times o q.pending w.loops q.stack)

    -- with a function's value
    gets_out_with : (w : Way) (z : ℤ) → exit_of l.last ≡ Some (record { to = w.to; loops = w.loops }) → W (left_loops w (with_result z q)) ≡ Acts (goes_out w.loops (Some z))
    gets_out_with w z is =
        ap (λ (c : Spot). record (W (left_loops w (with_result z q))) { control = c }) (ap (λ e. goes_way e q.control) (sym is) ∙ out_so)
        ∙ ap (λ (x : Own). record (W q) { control = go.out q.control; own = x }) (closes_times o q.pending w.loops (with_function_value z q.stack))

  -- part 1 or part 0
  one_of_two : (b : Bool) (next inside : ℕ) → goes (if b then inside else next) q.control ≡ goes_there (slice_get (next ∷ inside ∷ []) (if b then 1 else 0)) q.control
  one_of_two true next inside = refl
  one_of_two false next inside = refl

  declares_so : (up_to again next : ℕ) (at : Pos) (out : ℕ) (w : Option ℕ) (z : ℤ) → plain_end (record { last = Does (Declare up_to again) next; at = at; out = out; within = w }) ≡ end_at code q.control.place →
      W (declared_to up_to again next (on_stored (declared_in (z ∷ [])) q)) ≡ Acts (asks_declaration up_to z)
  declares_so up_to again next at out w z is_end =
      let p = on_stored (declared_in (z ∷ [])) q in
      let more = nat_lt (elaborated_in p.stack.opened) up_to in
      goes_to (record { last = Does (Declare up_to again) next; at = at; out = out; within = w }) is_end (W p) (if more then 1 else 0) (goes (if more then again else next) q.control) (one_of_two more next again)

  -- the newest truth value decides
  pub decides_so : (e : Ending) (there next : ℕ) (at : Pos) (out : ℕ) (w : Option ℕ) → ways_of (Does e next) ≡ next ∷ there ∷ [] → plain_end (record { last = Does e next; at = at; out = out; within = w }) ≡ end_at code q.control.place → (b : Bool) →
      W (moved_to (if b then there else next) q) ≡ Acts (goes_on (branch b))
  decides_so e there next at out w ways is_end true =
      goes_to (record { last = Does e next; at = at; out = out; within = w }) is_end (W q) 1 (goes there q.control) (ap (λ ns. goes_there (slice_get ns 1) q.control) (sym ways))
  decides_so e there next at out w ways is_end false =
      goes_to (record { last = Does e next; at = at; out = out; within = w }) is_end (W q) 0 (goes next q.control) (ap (λ ns. goes_there (slice_get ns 0) q.control) (sym ways))

  pub assigns_so : (next : ℕ) (at : Pos) (out : ℕ) (w : Option ℕ) (t : Target) (z : ℤ) → plain_end (record { last = Does Assign next; at = at; out = out; within = w }) ≡ end_at code q.control.place → W (stored t z (moved_to next q)) ≡ Acts (assigns t z)
  assigns_so next at out w t z is_end = goes_to (record { last = Does Assign next; at = at; out = out; within = w }) is_end (W (stored t z q)) 0 (goes next q.control) refl

  -- a text
  puts_by : (b : Bool) (whole cut : List ℕ) → record shared {
    frames = q.frames;
    output = (if b then record (shared_in q) { output = whole } else record (shared_in q) { output = cut; cut = true }).output;
    cut = (if b then record (shared_in q) { output = whole } else record (shared_in q) { output = cut; cut = true }).cut;
  } ≡ (if b then record (W q).shared { output = whole } else record (W q).shared { output = cut; cut = true })
  puts_by true whole cut = refl
  puts_by false whole cut = refl

  puts_so : (text : List ℕ) → (W (written text q)).shared ≡ put_out text (W q).shared
  puts_so text = let whole = q.output ++ text in puts_by (nat_le (length whole) OUTPUT) whole (take OUTPUT whole)

  loops_so : (f : ForLoop) (inside next : ℕ) (at : Pos) (out : ℕ) (w : Option ℕ) (a b : ℤ) → plain_end (record { last = Does (Loop f inside) next; at = at; out = out; within = w }) ≡ end_at code q.control.place →
      W (looped f inside next a b q) ≡ Acts (enters_loop (plain_for f) a b)
  loops_so f inside next at out w a b is_end =
      let l : EndLine = record { last = Does (Loop f inside) next; at = at; out = out; within = w } in
      let p = on_stored (entered for_loop f.region f.at (for_first f.backward a b ∷ for_first f.backward b a ∷ []) 1) q in
      either (int_le a b) _ _ _ _
      (either (nat_le (suc (live_frames q.stack.opened)) FRAMES) _ _ _ _ (goes_to l is_end (W p) 1 (goes inside q.control) refl) refl)
      (goes_to l is_end (W q) 0 (goes next q.control) refl)

  blocks_so : (region inside next : ℕ) (at : Pos) (out : ℕ) (w : Option ℕ) → plain_end (record { last = Does (Block region inside) next; at = at; out = out; within = w }) ≡ end_at code q.control.place →
      W (opened for_block region at [] 0 inside q) ≡ Acts (enters_block at region)
  blocks_so region inside next at out w is_end =
      let l : EndLine = record { last = Does (Block region inside) next; at = at; out = out; within = w } in
      let p = on_stored (entered for_block region at [] 0) q in
      either (nat_le (suc (live_frames q.stack.opened)) FRAMES) _ _ _ _ (goes_to l is_end (W p) 1 (goes inside q.control) refl) refl

  pub continues_so : (f : ForLoop) (behind inside : ℕ) (at : Pos) (out : ℕ) (w : Option ℕ) → plain_end (record { last = Continues f behind inside; at = at; out = out; within = w }) ≡ end_at code q.control.place →
      W (continued f behind inside q) ≡ Acts (next_of_loop (plain_for f))
  continues_so f behind inside at out w is_end =
      let l : EndLine = record { last = Continues f behind inside; at = at; out = out; within = w } in
      let s = stored_in q in
      let value = innermost_cell 0 s in
      let p = on_stored (store.stored (innermost q.stack.opened) 0 (value +ℤ for_step f.backward)) q in
      either (has_next f.backward value (innermost_cell 1 s)) _ _ _ _
      (goes_to l is_end (W p) 1 (goes inside q.control) refl)
      (ap (λ (x : Own). record (W q) { control = goes behind q.control; own = x }) (closes o q.pending q.stack)
      ∙ goes_to l is_end (record (W q) { own = own.closed (W q).own }) 0 (goes behind q.control) refl)

  -- a procedure's frame
  module _ (units : List UnitPlan) (has : plan.units ≡ units) (n : ℕ) (at : Pos) (x : Operands) where
    abbrev entering : UnitPlan → Acting Spot
    entering u =
        own.opens (for_procedure (returning_with u.is_function x)) u.region at (take u.level q.stack.display) x.values (length x.values)
        (record (W q) { control = go.enters n q.control })

    calls_so : W (called_unit units code n at x q) ≡ Acts (calls_procedure at n (passed_in x) (newest x.targets))
    calls_so =
        let unit : unit_of plan n ≡ unit_in units n = ap (λ us. slice_index_or us n no_unit) has in
        either (nat_le (suc (live_frames q.stack.opened)) FRAMES) _ _ _ _
        (ap entering (sym unit)) refl

  -- Each ending, whatever it sees.
  module _ (units : List UnitPlan) (has : plan.units ≡ units) (s : Scene) where
    abbrev Asks : Last → Pos → Operands → Asked
    Asks last at x = asked_last (plain_last last) (loops_of (exit_of last)) at s (Reached x)

    by_one : {A : Type 0} (xs : List A) (f : A → Part Spot) (g : A → Asked) → Takes (length xs) (λ n. Unit {0}) → ((x : A) → W (f x) ≡ Acts (g x)) → W (with_newest xs q f) ≡ Acts (with_one xs g)
    by_one [] f g fine each = absurd fine
    by_one (x ∷ xs) f g fine each = each x

    pub done_by : (e : Ending) (next : ℕ) (at : Pos) (out : ℕ) (w : Option ℕ) (x : Operands) → plain_end (record { last = Does e next; at = at; out = out; within = w }) ≡ end_at code q.control.place → LastFine (plain_last (Does e next)) (counts_of x) →
        W (does units code e at next x q) ≡ Acts (Asks (Does e next) at x)
    done_by (Declare up_to again) next at out w x is_end fine = by_one x.integers _ _ fine (λ z. declares_so up_to again next at out w z is_end)
    done_by (DeclareArray t n) next at out w x is_end fine =
        goes_to (record { last = Does (DeclareArray t n) next; at = at; out = out; within = w }) is_end (W (on_stored (declared_in (replicate n (nearest_zero t))) q)) 0 (goes next q.control) refl
    done_by Null next at out w x is_end fine = goes_to (record { last = Does Null next; at = at; out = out; within = w }) is_end (W q) 0 (goes next q.control) refl
    done_by Assign next at out w x is_end fine = by x.targets x.integers fine
      where
        by : (ts : List Target) (zs : List ℤ) → Takes (length ts) (λ n. Takes (length zs) (λ m. Unit {0})) →
            W (with_newest ts q (λ t. with_newest zs q (λ z. stored t z (moved_to next q)))) ≡ Acts (with_one ts (λ t. with_one zs (λ z. assigns t z)))
        by [] zs f = absurd f
        by (t ∷ ts) [] f = absurd f
        by (t ∷ ts) (z ∷ zs) f = assigns_so next at out w t z is_end
    done_by Put next at out w x is_end fine =
        ap (λ (sh : Shared). record (W q) { control = goes next q.control; shared = sh }) (puts_so x.text)
        ∙ goes_to (record { last = Does Put next; at = at; out = out; within = w }) is_end (record (W q) { shared = put_out x.text (W q).shared }) 0 (goes next q.control) refl
    done_by (If inside) next at out w x is_end fine = by_one x.booleans _ _ fine (λ b. decides_so (If inside) inside next at out w refl is_end b)
    done_by (While inside) next at out w x is_end fine = by_one x.booleans _ _ fine (λ b. decides_so (While inside) inside next at out w refl is_end b)
    done_by (Loop f inside) next at out w x is_end fine = by x.integers fine
      where
        by : (zs : List ℤ) → Takes (length zs) (λ n. Takes n (λ m. Unit {0})) → W (with_two zs q (λ a b. looped f inside next a b q)) ≡ Acts (asked_two zs (λ a b. enters_loop (plain_for f) a b))
        by [] g = absurd g
        by (b ∷ []) g = absurd g
        by (b ∷ a ∷ zs) g = loops_so f inside next at out w a b is_end
    done_by (Exit way) next at out w x is_end fine = by_one x.booleans _ _ fine each
      where
        each : (b : Bool) → W (if b then left_loops way q else moved_to next q) ≡ Acts (if b then goes_out way.loops None else goes_on 0)
        each true = gets_out (record { last = Does (Exit way) next; at = at; out = out; within = w }) is_end way refl
        each false = goes_to (record { last = Does (Exit way) next; at = at; out = out; within = w }) is_end (W q) 0 (goes next q.control) refl
    done_by (ending.Raise y) next at out w x is_end fine = refl
    done_by RaiseAgain next at out w x is_end fine = refl
    done_by (Block region inside) next at out w x is_end fine = blocks_so region inside next at out w is_end
    done_by (Return way) next at out w x is_end fine = gets_out (record { last = Does (Return way) next; at = at; out = out; within = w }) is_end way refl
    done_by (ReturnValue way) next at out w x is_end fine = by_one x.integers _ _ fine (λ z. gets_out_with (record { last = Does (ReturnValue way) next; at = at; out = out; within = w }) is_end way z refl)
    done_by (Call n) next at out w x is_end fine = calls_so units has n at x
    done_by OwnCall next at out w x is_end fine = refl

-- An ending that a task comes to does what it asks for, by what becomes of the task's part.
module _ (units : List UnitPlan) (code : Flat) (q : Part Spot) (l : EndLine) (is_end : plain_end l ≡ end_at code q.control.place) where
  abbrev Answers : Last → Part Spot → Operands → Type 0
  Answers last p x = (s : Scene) → DoesAsked units code q p (asked_last (plain_last last) (loops_of (exit_of last)) l.at s (Reached x))

  pub statement_answers : (e : Ending) (next : ℕ) (x : Operands) → l.last ≡ Does e next → LastFine (plain_last l.last) (counts_of x) → Answers l.last (does units code e l.at next x q) x
  statement_answers e next x is fine = subst (λ last. plain_end (record l { last = last }) ≡ end_at code q.control.place → LastFine (plain_last last) (counts_of x) → Answers last (does units code e l.at next x q) x) (sym is)
      (λ there f s plan has barrier o shared. done_by code plan barrier o shared q units has s e next l.at l.out l.within x there f) is_end fine

  pub loop_answers : (f : ForLoop) (behind inside : ℕ) (x : Operands) → l.last ≡ Continues f behind inside → Answers l.last (continued f behind inside q) x
  loop_answers f behind inside x is = subst (λ last. plain_end (record l { last = last }) ≡ end_at code q.control.place → Answers last (continued f behind inside q) x) (sym is)
      (λ there s plan has barrier o shared. continues_so code plan barrier o shared q f behind inside l.at l.out l.within there) is_end

  by_last : (last : Last) → IsOfOne last → ((e : Ending) (next : ℕ) → last ≡ Does e next → ⊥) → ((f : ForLoop) (behind inside : ℕ) → last ≡ Continues f behind inside → ⊥) → plain_end (record l { last = last }) ≡ end_at code q.control.place → (x : Operands) → Answers last q x
  by_last (Does e next) one no_statement no_loop there x = absurd (no_statement e next refl)
  by_last (Concerns a next) one no_statement no_loop there x = absurd one
  by_last (Continues f behind inside) one no_statement no_loop there x = absurd (no_loop f behind inside refl)
  by_last (Guards gs) one no_statement no_loop there x = λ s plan has barrier o shared. goes_to code plan barrier o shared q (record l { last = Guards gs }) there (within o shared q) 0 q.control refl
  by_last (Ends c next) one no_statement no_loop there x = absurd one
  by_last (Leaves n to) one no_statement no_loop there x = absurd one

  pub guards_answer : IsOfOne l.last → ((e : Ending) (next : ℕ) → l.last ≡ Does e next → ⊥) → ((f : ForLoop) (behind inside : ℕ) → l.last ≡ Continues f behind inside → ⊥) → (x : Operands) → Answers l.last q x
  guards_answer one no_statement no_loop x = by_last l.last one no_statement no_loop is_end x
