-- The lines of each part of a scoped program see the frames that the table has there.
use Rattle.std.proofs.Common.{◌≡◌, ◌⊎◌, inl, ℕ, zero, suc, ◌+◌, ◌≤◌, ◌<◌, List, [], ◌∷◌, ◌++◌, length, map, slice_get, slice_index_or, Bool, true, false, Option, Some, None, refl, sym, ap, ◌∙◌, subst, arith}
use Rattle.aud_text.specs.declared.place.Pos.{Pos}
use Rattle.aud_typed.specs.declared.program.Variable.{Variable}
use Rattle.aud_typed.specs.Tree as tree
use Rattle.aud_typed.specs.Tree.{Statement, sequence, declare, declare_tasks, if_then, plain_loop, while_loop, for_loop, exit, return, return_value, block, procedure_call, operation_call, entry_call, accept, select, Part, nothing, some, Handlers, no_handlers, handler, Body, body, Doing, without_do, with_do, Alternatives, no_alternatives, accepting, delaying, terminating, Callee, of_task, of_object, CallForm, TaskPlan, EntryPlan, Plan, Program, requeue}
use Rattle.aud_typed.specs.Why.Scoped.{Elaborated, Scope, scope_after, IsElaborated, CalleeScoped, NamedOutside, NamedInside, CalledOutside, CalledAgain, entry_unit, formals_of, no_entry_plan, all_formals, all_of_table, Entry, entry_of, no_task, task_of, table, CreatedScoped, AllCreatedScoped, StatementScoped, PartScoped, DoingScoped, AlternativesScoped, HandlersScoped, BodyScoped, none_yet}
use Rattle.aud_meaning.specs.Parts as parts
use Rattle.aud_meaning.specs.declared.state.Construct.{Construct}
use Rattle.aud_meaning.specs.declared.state.OpenAccept.{OpenAccept}
use Rattle.aud_meaning.specs.declared.state.Construct.TheVariants as construct
use Rattle.aud_code.specs.Places.{Way}
use Rattle.aud_code.specs.Instruction.{Ending, Accept, Select}
use Rattle.aud_code.specs.Flat.{Does, start_at}
use Rattle.aud_code.specs.Frames.{found, opener, Found, EachOpened}
use Rattle.aud_code.specs.Seen.{inside, Fewer, WaysSee, BodiesSee, DoingSees, OpenedSees, WaySees, WithinSees, OutSees, BodySees, OperationSees, BarrierSees, BarrierSeesAgain, EndingSees, LastSees}
use Rattle.aud_scoped.specs.Declares.{StatementDeclares, PartDeclares, HandlersDeclare, BodyDeclares, DoingDeclares, OfferedDeclare}
use Rattle.aud_layout.specs.Layout.{one_line, Line, Around, line, in_loop, in_for, in_block, in_call, around_out, ways_count, statement_size, part_size, handlers_size, body_size, doing_size, offered_size, main_size, end_place, stubs, stubs_of, end_line, part_place, doing_place, parts_from, bodies_from, statement_code, part_code, handlers_code, body_code, doing_code, offered_code, code_of}
use Rattle.aud_layout.specs.Assembly as assembly
use Rattle.aud_layout.specs.Assembly.{instructions_by, offset, last_by, way_moved, within_moved, flat_program}
use Rattle.aud_layout.specs.Instructions.{call_end, requeue_end, instructions_of, ending_of}
use Rattle.aud_layout.specs.Opened.{body_of, task_bodies, frames_before, barrier_frames}
use Rattle.aud_layout.proofs.Standing.Places.{length-statement, length-part, length-handlers, length-body, length-doing, length-offered}
use Rattle.aud_layout.proofs.Standing.Sizes.{count-block, last_is}
use Rattle.aud_layout.proofs.Flat.Frames.{found_is}
use Rattle.aud_layout.proofs.Flat.Numbers.{is_written, same_there, one_out, after_long, one_longer, open_long, variable_open, StepOpen, names_open}
use Rattle.aud_layout.proofs.Flat.Opening.{NoAccepts, call_has_none, requeue_has_none, each_any, select_opened}
use Rattle.aud_layout.proofs.Flat.Seeing.{lines, Stands, front, back, tail, stands_moved, Here, here_on, here_inside, all_written, first_written, statement_begins, part_begins, guards_see, body_stands, body_begins, body_ends, doing_begins, offer_stands, offers_begin, WaysOut, AroundSees, InsideSees, within_inside, exit_sees, loop_sees, for_sees, stubs_see}

pub unit_of : (ts : List TaskPlan) (n : ℕ) → slice_index_or (map body_of ts) n 0 ≡ (slice_index_or ts n no_task).unit
unit_of [] zero = refl
unit_of [] (suc n) = refl
unit_of (t ∷ ts) zero = refl
unit_of (t ∷ ts) (suc n) = unit_of ts n

frames_there : (plan : Plan) (es : List EntryPlan) (n : ℕ) → n < length es → slice_get (map (frames_before plan) es) n ≡ Some (parts.unit_of plan (slice_index_or es n no_entry_plan).unit).level
frames_there plan [] n h = absurd (omega (arith, h))
frames_there plan (e ∷ es) zero h = refl
frames_there plan (e ∷ es) (suc n) h = frames_there plan es n (omega (arith, h))

-- a call of an entry opens no frame
call_inside : (c : Callee) (entry : ℕ) (form : CallForm) (n : ℕ) → inside (call_end c entry form) n ≡ n
call_inside (of_task t) entry form n = refl
call_inside (of_object v) entry form n = refl

requeue_inside : (c : Callee) (r : tree.Requeue) (n : ℕ) → inside (requeue_end c r) n ≡ n
requeue_inside (of_task t) r n = refl
requeue_inside (of_object v) r n = refl

module _ (program : Program) (seen : List ℕ) where
  -- a line with its number
  pub record LineSeen (at : ℕ) (l : Line) : Type 0 where
    pub frames : ℕ
    pub written : (j : ℕ) → j ≤ length (instructions_by l.what) → slice_get seen (offset (code_of program).lines at + j) ≡ Some frames
    pub names : StepOpen frames l.what
    pub opens : EachOpened (instructions_by l.what) (λ a. OpenedSees seen (last_by (offset (code_of program).lines) l.what) (map (offset (code_of program).lines) l.bodies) frames a)
    pub within : WithinSees seen (within_moved (offset (code_of program).lines) l.within) frames
    pub last : LastSees (flat_program program) (task_bodies program) (barrier_frames program) seen (last_by (offset (code_of program).lines) l.what) frames (assembly.end_line (offset (code_of program).lines) l)

  pub data EachSeen : ℕ → List Line → Type 0 where
    no_lines : {at : ℕ} → EachSeen at []
    one_and : {at : ℕ} {l : Line} {ls : List Line} → LineSeen at l → EachSeen (suc at) ls → EachSeen at (l ∷ ls)

  pub joined : (a b : List Line) (at n : ℕ) → length a ≡ n → EachSeen at a → EachSeen (at + n) b → EachSeen at (a ++ b)
  joined [] b at n e h k = let same : at + n ≡ at = omega (arith, e) in subst (λ m. EachSeen m b) same k
  joined (l ∷ ls) b at n e (one_and h hs) k =
      let same : at + n ≡ suc at + length ls = omega (arith, e) in
      one_and h (joined ls b (suc at) (length ls) refl hs (subst (λ m. EachSeen m b) same k))

module _ (program : Program) (seen : List ℕ) (base : ℕ) (entries : List Entry) (calls : (u : ℕ) → u < length entries → slice_get seen (start_at (flat_program program) u) ≡ Some (suc (length (entry_of entries u).outer))) (levels : (u : ℕ) → (parts.unit_of program.plan u).level ≡ length (entry_of entries u).outer) where
  abbrev T : List ℕ
  T = task_bodies program

  abbrev B : List ℕ
  B = barrier_frames program

  abbrev G : ℕ → ℕ
  G = offset (code_of program).lines

  abbrev K : Option ℕ → Option ℕ
  K = within_moved (offset (code_of program).lines)

  abbrev At : ℕ → List Line → Type 0
  At = Stands program T seen base

  abbrev Is : Option ℕ → ℕ → ℕ → Type 0
  Is = Here program T seen base

  abbrev Around_ : Around → ℕ → Type 0
  Around_ = AroundSees program T seen base

  abbrev Scoped : Statement → Scope → Type 0
  Scoped = StatementScoped program.plan entries

  -- Tasks that a declaration creates: they begin where as many frames are open.

  abbrev Creates : Bool → Statement → ℕ → Type 0
  Creates declares s n = declares ≡ true → (scope : Scope) × (length scope ≡ n) × CreatedScoped program.plan entries s scope

  none_created : (s : Statement) (n : ℕ) → Creates false s n
  none_created s n e = absurd cc

  entered : (u n : ℕ) (scope : Scope) → length scope ≡ n → u < length entries → length (entry_of entries u).outer ≤ length scope → BodySees seen n (start_at (flat_program program) u)
  entered u n scope e there long =
      let m = length (entry_of entries u).outer in
      is_written (slice_get seen (start_at (flat_program program) u)) (suc m) (λ k. (1 ≤ k) × (k ≤ suc n)) (calls u there) (omega arith, omega (arith, long, e))

  -- an operation's body, whose object is named from outside
  operation_entered : (v : Variable) (u : ℕ) → u < length entries → NamedOutside v (entry_of entries u).outer → OperationSees seen v (start_at (flat_program program) u)
  operation_entered v u there named =
      is_written (slice_get seen (start_at (flat_program program) u)) (suc (length (entry_of entries u).outer)) (λ k. k ≡ v.level + 3) (calls u there) (omega (arith, named))

  object_open : (v : Variable) (n : ℕ) (scope : Scope) → length scope ≡ n → IsElaborated v scope → v.level < n
  object_open v n scope e h = subst (λ m. v.level < m) e (variable_open v scope h)

  -- the barrier of an entry that is called

  abbrev around_body : ℕ → Scope
  around_body entry = (entry_of entries (entry_unit program.plan entry)).outer

  barrier_frames_there : (entry : ℕ) → entry < length program.plan.entries → slice_get B entry ≡ Some (length (around_body entry))
  barrier_frames_there entry there = frames_there program.plan program.plan.entries entry there ∙ ap Some (levels (entry_unit program.plan entry))

  asked : (v : Variable) (entry : ℕ) → entry < length program.plan.entries → NamedOutside v (around_body entry) → BarrierSees B v entry
  asked v entry there named = is_written (slice_get B entry) (length (around_body entry)) (λ k. k ≡ v.level + 2) (barrier_frames_there entry there) named

  asked_again : (v : Variable) (entry : ℕ) → entry < length program.plan.entries → NamedOutside v (around_body entry) ⊎ NamedInside v (around_body entry) → BarrierSeesAgain B v entry
  asked_again v entry there named =
      is_written (slice_get B entry) (length (around_body entry)) (λ k. (k ≡ v.level + 2) ⊎ ((v.index ≡ 0) × (k ≡ v.level + 1))) (barrier_frames_there entry there) named

  call_sees : (c : Callee) (entry : ℕ) (form : CallForm) (n : ℕ) (scope : Scope) → length scope ≡ n → entry < length program.plan.entries → CalleeScoped program.plan c scope → CalledOutside program.plan entries c entry → EndingSees (flat_program program) T B seen (call_end c entry form) n
  call_sees (of_task t) entry form n scope e there h named = tt
  call_sees (of_object v) entry form n scope e there h named = (object_open v n scope e h, asked v entry there named)

  requeue_sees : (c : Callee) (r : tree.Requeue) (n : ℕ) (scope : Scope) → length scope ≡ n → r.entry < length program.plan.entries → CalleeScoped program.plan c scope → CalledAgain program.plan entries c r.entry → EndingSees (flat_program program) T B seen (requeue_end c r) n
  requeue_sees (of_task t) r n scope e there h named = tt
  requeue_sees (of_object v) r n scope e there h named = (object_open v n scope e h, asked_again v r.entry there named)

  ending_sees : (s : Statement) (n : ℕ) (declares : Bool) (scope : Scope) → length scope ≡ n → Scoped s scope → StatementDeclares declares s → Creates declares s n → EndingSees (flat_program program) T B seen (ending_of s) n
  ending_sees (declare_tasks at ts) n declares scope e sc dc cr =
      let c = cr dc in
      let u = (task_of program.plan ts).unit in
      subst (λ k. BodySees seen n (start_at (flat_program program) k)) (sym (unit_of program.plan.tasks ts.task_type)) (entered u n c.0 c.1 c.2.1 (open_long (entry_of entries u).outer c.0 c.2.3))
  ending_sees (procedure_call at c) n declares scope e sc dc cr = entered c.unit n scope e sc.0 (open_long (entry_of entries c.unit).outer scope sc.2)
  ending_sees (operation_call at v c) n declares scope e sc dc cr = (object_open v n scope e sc.0, operation_entered v c.unit sc.1.0 sc.1.3)
  ending_sees (entry_call at c p q) n declares scope e sc dc cr = call_sees c.callee c.entry c.form n scope e sc.0.0 sc.0.2 sc.0.6
  ending_sees (requeue at r) n declares scope e sc dc cr = requeue_sees r.callee r n scope e sc.0 sc.1 sc.3
  ending_sees s n declares scope e sc dc cr = tt

  -- a statement's own line, with its ways and what accepts do
  line_with : (s : Statement) (ways bodies : List ℕ) (leads : Option Way) (a : Around) (b : List Line) (at n : ℕ) (declares : Bool) (scope : Scope) → length scope ≡ n → Scoped s scope → StatementDeclares declares s → Creates declares s n → At at (line s ways bodies leads a ∷ b) → Is a.within at n → WaysSee seen 0 n (inside (ending_of s) n) (map G ways) → BodiesSee seen (ending_of s) n (map G bodies) → EachOpened (instructions_of s) (λ x. OpenedSees seen (Does (ending_of s)) (map G bodies) n x) → WaySees seen n (way_moved G leads) → OutSees seen (K a.within) n (G a.out) → LineSeen program seen at (line s ways bodies leads a)
  line_with s ways bodies leads a b at n declares scope e sc dc cr st here to bs opened out o = record {
    frames = n;
    written = all_written program T seen base _ b at n st here;
    names = names_open scope program.plan entries n s e sc;
    opens = opened;
    within = here.within;
    last = (ending_sees s n declares scope e sc dc cr, (to, (bs, (out, o))));
  }

  no_bodies : (e : Ending) (n : ℕ) → NoAccepts e → BodiesSee seen e n []
  no_bodies (Accept entry region) n h = absurd h
  no_bodies (Select has_else) n h = absurd h
  no_bodies e n h = tt

  none_opened : (e : Ending) (n : ℕ) (x : OpenAccept) → NoAccepts e → OpenedSees seen (Does e) [] n x
  none_opened (Accept entry region) n x h = absurd h
  none_opened (Select has_else) n x h = absurd h
  none_opened e n x h = tt

  own_line : (s : Statement) (ways : List ℕ) (leads : Option Way) (a : Around) (b : List Line) (at n : ℕ) (declares : Bool) (scope : Scope) → length scope ≡ n → Scoped s scope → StatementDeclares declares s → Creates declares s n → At at (line s ways [] leads a ∷ b) → Is a.within at n → WaysSee seen 0 n (inside (ending_of s) n) (map G ways) → WaySees seen n (way_moved G leads) → OutSees seen (K a.within) n (G a.out) → NoAccepts (ending_of s) → LineSeen program seen at (line s ways [] leads a)
  own_line s ways leads a b at n declares scope e sc dc cr st here to out o none =
      line_with s ways [] leads a b at n declares scope e sc dc cr st here to (no_bodies (ending_of s) n none) (each_any (λ x. OpenedSees seen (Does (ending_of s)) [] n x) (instructions_of s) (λ x. none_opened (ending_of s) n x none)) out o

  -- the ways out of a block
  stub_lines : (ws : List Way) (end : Pos) (w at place n : ℕ) → WaysOut program T seen base n ws → At at (stubs ws end (Some w) place) → Is (Some w) at (suc n) → EachSeen program seen at (stubs ws end (Some w) place)
  stub_lines [] end w at place n k st here = no_lines
  stub_lines (x ∷ ws) end w at place n k st here =
      one_and (record { frames = suc n; written = all_written program T seen base _ _ at (suc n) st here; names = tt; opens = tt; within = here.within; last = one_out seen x.loops n (G x.to) k.0 })
      (stub_lines ws end w (suc at) (suc place) n k.1 (tail program T seen base _ _ at st) (here_on program T seen base (Some w) at (suc at) (suc n) (omega arith) here))

  and_back : (n : ℕ) (ws : List Way) (x : Way) → WaysOut program T seen base n ws → Fewer seen x.loops n (G x.to) → WaysOut program T seen base n (ws ++ x ∷ [])
  and_back n [] x h k = (k, tt)
  and_back n (y ∷ ws) x h k = (h.0, and_back n ws x h.1 k)

  all_stub_lines : (b : Body) (a : Around) (w at place n : ℕ) → Around_ a n → At at (stubs_of b (a.exits ++ a.back ∷ []) (Some w) place) → Is (Some w) at (suc n) → EachSeen program seen at (stubs_of b (a.exits ++ a.back ∷ []) (Some w) place)
  all_stub_lines (body d begin s hs end) a w at place n i st here = stub_lines (a.exits ++ a.back ∷ []) end w at place n (and_back n a.exits a.back i.exits i.back) st here

  block_sees : (b : Body) (a : Around) (w last n : ℕ) → At (suc last) (stubs_of b (a.exits ++ a.back ∷ []) (Some w) (suc last)) → Is (Some w) (suc last) (suc n) → InsideSees program T seen base (in_block w last a) (suc n)
  block_sees (body d begin s hs end) a w last n st here =
      let ways = stubs_see program T seen base a.exits a.back end (Some w) (suc last) (suc n) st here in
      record { exits = ways.0; back = ways.1 }

  -- the end of a construct, wherever it stands
  abbrev EndSees : Construct → ℕ → ℕ → Option ℕ → ℕ → Type 0
  EndSees c next out w n = (pos : Pos) → LastSees (flat_program program) T B seen (last_by G (end_line c pos next out w).what) n (assembly.end_line G (end_line c pos next out w))

  -- the step of an accept or of a selective accept, of which exceptions go to out
  record Opens (opener n out : ℕ) : Type 0 where
    own : slice_get seen (G opener) ≡ Some n
    behind : Found (found (flat_program program).lines (G opener)) (λ o. OutSees seen o.within n (G out))

  opens : (s : Statement) (ways bodies : List ℕ) (leads : Option Way) (a : Around) (b : List Line) (at n : ℕ) → At at (line s ways bodies leads a ∷ b) → Is a.within at n → Around_ a n → Opens at n a.out
  opens s ways bodies leads a b at n st here i = record {
    own = first_written program T seen base _ b at n st here;
    behind = found_is (lines program T seen base) at _ b (λ o. OutSees seen o.within n (G a.out)) st.has i.out;
  }

  mutual
    pub statement_sees : (s : Statement) (at next : ℕ) (a : Around) (n : ℕ) (declares : Bool) (scope : Scope) → length scope ≡ n → Scoped s scope → StatementDeclares declares s → Creates declares s n → At at (statement_code s at next a) → Is a.within at n → Fewer seen 0 n (G next) → Around_ a n → EachSeen program seen at (statement_code s at next a)
    statement_sees (sequence x y) at next a n declares scope e sc dc cr st here k i =
        let size = statement_size x (ways_count a) in
        let middle = at + size in
        let long = length-statement x at middle a in
        let first = front program T seen base _ _ at st in
        let second = back program T seen base _ _ at size long st in
        let there = here_on program T seen base a.within at middle n (omega arith) here in
        let to = same_there seen (G middle) n (statement_begins program T seen base y middle next a n second there) in
        joined program seen _ _ at size long
        (statement_sees x at middle a n declares scope e sc.0 dc.0 (λ t. let c = cr t in (c.0, c.1, c.2.0)) first here to i)
        (statement_sees y middle next a n declares (scope_after x scope) (after_long x scope ∙ e) sc.1 dc.1 (λ t. let c = cr t in (c.0, c.1, c.2.1)) second there k i)
    statement_sees (plain_loop x) at next a n declares scope e sc dc cr st here k i =
        let again = same_there seen (G at) n (statement_begins program T seen base x at at (in_loop next a) n st here) in
        statement_sees x at at (in_loop next a) n false scope e sc dc (none_created x n) st here again (loop_sees program T seen base next a n k i)
    statement_sees (declare pos m x) at next a n declares scope e sc dc cr st here k i =
        let again = same_there seen (G at) n (first_written program T seen base _ _ at n st here) in
        one_and (own_line (declare pos m x) (next ∷ at ∷ []) None a [] at n declares scope e sc dc cr st here (k, (again, tt)) tt i.out tt) no_lines
    statement_sees (if_then pos c x p) at next a n declares scope e sc dc cr st here k i =
        let size = statement_size x (ways_count a) in
        let second = suc at + size in
        let long = length-statement x (suc at) next a in
        let rest = tail program T seen base _ _ at st in
        let then = front program T seen base _ _ (suc at) rest in
        let else = back program T seen base _ _ (suc at) size long rest in
        let there = here_on program T seen base a.within at (suc at) n (omega arith) here in
        let behind = here_on program T seen base a.within at second n (omega arith) here in
        let to : WaysSee seen 0 n n (G (part_place p second next) ∷ G (suc at) ∷ []) = (part_begins program T seen base p second next a n else behind k, (same_there seen (G (suc at)) n (statement_begins program T seen base x (suc at) next a n then there), tt)) in
        one_and (own_line (if_then pos c x p) (part_place p second next ∷ suc at ∷ []) None a _ at n declares scope e sc dc cr st here to tt i.out tt)
        (joined program seen _ _ (suc at) size long
        (statement_sees x (suc at) next a n false scope e sc.1 dc.0 (none_created x n) then there k i)
        (part_sees p second next a n false scope e sc.2 dc.1 (λ t. absurd cc) else behind k i))
    statement_sees (while_loop pos c x) at next a n declares scope e sc dc cr st here k i =
        let rest = tail program T seen base _ _ at st in
        let there = here_on program T seen base a.within at (suc at) n (omega arith) here in
        let again = same_there seen (G at) n (first_written program T seen base _ _ at n st here) in
        let to : WaysSee seen 0 n n (G next ∷ G (suc at) ∷ []) = (k, (same_there seen (G (suc at)) n (statement_begins program T seen base x (suc at) at (in_loop next a) n rest there), tt)) in
        one_and (own_line (while_loop pos c x) (next ∷ suc at ∷ []) None a _ at n declares scope e sc dc cr st here to tt i.out tt)
        (statement_sees x (suc at) at (in_loop next a) n false scope e sc.1 dc (none_created x n) rest there again (loop_sees program T seen base next a n k i))
    statement_sees (for_loop f x y z) at next a n declares scope e sc dc cr st here k i =
        let inner = in_for at next a in
        let own = first_written program T seen base _ _ at n st here in
        let after = tail program T seen base _ _ at st in
        let rest = tail program T seen base _ _ (suc at) after in
        let there = here_inside program T seen base at (suc at) n (omega arith) own in
        let further = here_inside program T seen base at (suc (suc at)) n (omega arith) own in
        let inside = same_there seen (G (suc (suc at))) (suc n) (statement_begins program T seen base z (suc (suc at)) (suc at) inner (suc n) rest further) in
        let again = same_there seen (G (suc at)) (suc n) (first_written program T seen base _ _ (suc at) (suc n) after there) in
        one_and (own_line (for_loop f x y z) (next ∷ suc (suc at) ∷ []) None a _ at n declares scope e sc dc cr st here (k, (inside, tt)) tt i.out tt)
        (one_and (record { frames = suc n; written = all_written program T seen base _ _ (suc at) (suc n) after there; names = tt; opens = tt; within = there.within; last = (one_out seen 0 n (G next) k, (inside, tt)) })
        (statement_sees z (suc (suc at)) (suc at) inner (suc n) false (scope ++ all_of_table (table program.plan f.region) ∷ []) (one_longer scope (all_of_table (table program.plan f.region)) n e) sc.3 dc (none_created z (suc n)) rest further again (for_sees program T seen base at next a n k i)))
    statement_sees (block pos m b) at next a n declares scope e sc dc cr st here k i =
        let w = ways_count a in
        let end = end_place b (suc at) w in
        let inner = in_block at end a in
        let size = body_size b (ways_count inner) in
        let long = length-body construct.Block b (suc at) next a.out inner in
        let own = first_written program T seen base _ _ at n st here in
        let rest = tail program T seen base _ _ at st in
        let within = front program T seen base _ _ (suc at) rest in
        let stubs_there = back program T seen base _ _ (suc at) size long rest in
        let same : suc at + size ≡ suc end = ap (λ j. suc at + body_size b j) (count-block at end a) ∙ sym (last_is one_line b (suc at) w) in
        let stubs_at = stands_moved program T seen base _ _ _ same stubs_there in
        let there = here_inside program T seen base at (suc at) n (omega arith) own in
        let behind = here_inside program T seen base at (suc at + size) n (omega arith) own in
        let last = here_inside program T seen base at (suc end) n (omega (arith, same)) own in
        let around = block_sees b a at end n stubs_at last in
        let ends : EndSees construct.Block next a.out (Some at) (suc n) = λ p. (k, found_is (lines program T seen base) at _ _ (λ o. OutSees seen o.within n (G a.out)) st.has i.out) in
        one_and (own_line (block pos m b) (next ∷ suc at ∷ []) None a _ at n declares scope e sc dc cr st here (k, (same_there seen (G (suc at)) (suc n) (body_begins program T seen base construct.Block b (suc at) next a.out inner (suc n) within there), tt)) tt i.out tt)
        (joined program seen _ _ (suc at) size long
        (body_sees construct.Block b (suc at) next a.out inner n none_yet (table program.plan m) scope e sc dc within there around ends)
        (all_stub_lines b a at (suc at + size) (suc end) n i stubs_there behind))
    statement_sees (exit pos m c) at next a n declares scope e sc dc cr st here k i =
        one_and (own_line (exit pos m c) (next ∷ []) (Some (slice_index_or a.exits m (record { to = next; loops = 0 }))) a [] at n declares scope e sc dc cr st here (k, tt) (exit_sees program T seen base a.exits m next n i.exits k) i.out tt) no_lines
    statement_sees (return pos) at next a n declares scope e sc dc cr st here k i =
        one_and (own_line (return pos) (next ∷ []) (Some a.back) a [] at n declares scope e sc dc cr st here (k, tt) i.back i.out tt) no_lines
    statement_sees (return_value pos x) at next a n declares scope e sc dc cr st here k i =
        one_and (own_line (return_value pos x) (next ∷ []) (Some a.back) a [] at n declares scope e sc dc cr st here (k, tt) i.back i.out tt) no_lines
    statement_sees (entry_call pos c p q) at next a n declares scope e sc dc cr st here k i =
        let size = part_size p (ways_count a) in
        let second = suc at + size in
        let long = length-part p (suc at) next a in
        let rest = tail program T seen base _ _ at st in
        let behind_call = front program T seen base _ _ (suc at) rest in
        let otherwise = back program T seen base _ _ (suc at) size long rest in
        let there = here_on program T seen base a.within at (suc at) n (omega arith) here in
        let further = here_on program T seen base a.within at second n (omega arith) here in
        let ways : List ℕ = part_place p (suc at) next ∷ part_place q second next ∷ [] in
        let to : WaysSee seen 0 n n (map G ways) = (part_begins program T seen base p (suc at) next a n behind_call there k, (part_begins program T seen base q second next a n otherwise further k, tt)) in
        one_and (own_line (entry_call pos c p q) ways None a _ at n declares scope e sc dc cr st here (subst (λ m. WaysSee seen 0 n m (map G ways)) (sym (call_inside c.callee c.entry c.form n)) to) tt i.out (call_has_none c.callee c.entry c.form))
        (joined program seen _ _ (suc at) size long
        (part_sees p (suc at) next a n false scope e sc.1 dc.0 (λ t. absurd cc) behind_call there k i)
        (part_sees q second next a n false scope e sc.2 dc.1 (λ t. absurd cc) otherwise further k i))
    statement_sees (accept pos m d) at next a n declares scope e sc dc cr st here k i =
        let rest = tail program T seen base _ _ at st in
        let o = opens (accept pos m d) (next ∷ []) (doing_place d (suc at) next ∷ []) None a _ at n st here i in
        let does = doing_begins program T seen base d at (suc at) next a.out n rest (omega arith) o.own k in
        one_and (line_with (accept pos m d) (next ∷ []) (doing_place d (suc at) next ∷ []) None a _ at n declares scope e sc dc cr st here (k, tt) (does, tt) tt tt i.out)
        (doing_sees d m at (suc at) next a.out n scope e sc.1 dc (omega arith) rest k o)
    statement_sees (select pos offered p) at next a n declares scope e sc dc cr st here k i =
        let w = ways_count a in
        let size = offered_size offered w in
        let second = suc at + size in
        let long = length-offered offered at (suc at) next a in
        let rest = tail program T seen base _ _ at st in
        let alternatives = front program T seen base _ _ (suc at) rest in
        let else = back program T seen base _ _ (suc at) size long rest in
        let there = here_on program T seen base a.within at (suc at) n (omega arith) here in
        let further = here_on program T seen base a.within at second n (omega arith) here in
        let ways : List ℕ = part_place p second next ∷ parts_from offered (suc at) next w in
        let bodies : List ℕ = at ∷ bodies_from offered (suc at) next w in
        let o = opens (select pos offered p) ways bodies None a _ at n st here i in
        let places = offers_begin program T seen base offered at (suc at) next a n alternatives there (omega arith) o.own k in
        let opened = select_opened G (λ region x. DoingSees seen region n x) offered (G at) (suc at) next w places.does in
        one_and (line_with (select pos offered p) ways bodies None a _ at n declares scope e sc dc cr st here (part_begins program T seen base p second next a n else further k, places.parts) (inl (same_there seen (G at) n o.own), places.bodies) opened tt i.out)
        (joined program seen _ _ (suc at) size long
        (offered_see offered at (suc at) next a n scope e sc.0 dc.0 (omega arith) alternatives there k i o)
        (part_sees p second next a n false scope e sc.1 dc.1 (λ t. absurd cc) else further k i))
    statement_sees (requeue pos r) at next a n declares scope e sc dc cr st here k i =
        let ways : List ℕ = next ∷ [] in
        let to : WaysSee seen 0 n n (map G ways) = (k, tt) in
        one_and (own_line (requeue pos r) ways (Some a.back) a [] at n declares scope e sc dc cr st here (subst (λ m. WaysSee seen 0 n m (map G ways)) (sym (requeue_inside r.callee r n)) to) i.back i.out (requeue_has_none r.callee r)) no_lines
    statement_sees s at next a n declares scope e sc dc cr st here k i =
        one_and (own_line s (next ∷ []) None a [] at n declares scope e sc dc cr st here (k, tt) tt i.out tt) no_lines

    part_sees : (p : Part) (at next : ℕ) (a : Around) (n : ℕ) (declares : Bool) (scope : Scope) → length scope ≡ n → PartScoped program.plan entries p scope → PartDeclares declares p → (declares ≡ true → (begun : Scope) × (length begun ≡ n) × AllCreatedScoped program.plan entries p begun) → At at (part_code p at next a) → Is a.within at n → Fewer seen 0 n (G next) → Around_ a n → EachSeen program seen at (part_code p at next a)
    part_sees nothing at next a n declares scope e sc dc cr st here k i = no_lines
    part_sees (some s) at next a n declares scope e sc dc cr st here k i = statement_sees s at next a n declares scope e sc dc cr st here k i

    handlers_see : (hs : Handlers) (at next : ℕ) (a : Around) (n : ℕ) (scope : Scope) → length scope ≡ n → HandlersScoped program.plan entries hs scope → HandlersDeclare hs → At at (handlers_code hs at next a) → Is a.within at n → Fewer seen 0 n (G next) → Around_ a n → EachSeen program seen at (handlers_code hs at next a)
    handlers_see no_handlers at next a n scope e sc dc st here k i = no_lines
    handlers_see (handler others choices s more) at next a n scope e sc dc st here k i =
        let size = statement_size s (ways_count a) in
        let long = length-statement s at next a in
        joined program seen _ _ at size long
        (statement_sees s at next a n false scope e sc.1 dc.0 (none_created s n) (front program T seen base _ _ at st) here k i)
        (handlers_see more (at + size) next a n scope e sc.2 dc.1 (back program T seen base _ _ at size long st) (here_on program T seen base a.within at (at + size) n (omega arith) here) k i)

    pub body_sees : (c : Construct) (b : Body) (at next out : ℕ) (a : Around) (n : ℕ) (first : Elaborated) (names : List tree.Named) (scope : Scope) → length scope ≡ n → BodyScoped program.plan entries b first names scope → BodyDeclares b → At at (body_code c b at next out a) → Is a.within at (suc n) → InsideSees program T seen base a (suc n) → EndSees c next out a.within (suc n) → EachSeen program seen at (body_code c b at next out a)
    body_sees c (body d begin s hs end) at next out a n begun names scope e sc dc st here i ends =
        let w = ways_count a in
        let m = suc n in
        let first = at + part_size d w in
        let guard = first + statement_size s w in
        let last = first + main_size s hs w in
        let all = all_of_table names in
        let full = one_longer scope all n e in
        let it = body_stands program T seen base c d begin s hs end at next out a st in
        let here_first = here_on program T seen base a.within at first m (omega arith) here in
        let here_guard = here_on program T seen base a.within at guard m (omega arith) here in
        let here_handlers = here_on program T seen base a.within at (suc guard) m (omega arith) here in
        let here_last = here_on program T seen base a.within at last m (omega arith) here in
        let here_end = here_on program T seen base a.within at (suc guard + handlers_size hs w) m (omega arith) here in
        let at_last = first_written program T seen base _ _ last m it.ended here_last in
        let at_guard = first_written program T seen base _ _ guard m it.guarding here_guard in
        let to_last = same_there seen (G last) m at_last in
        let before = same_there seen (G first) m (statement_begins program T seen base s first last (around_out guard a) m it.statements here_first) in
        let out_last = within_inside program T seen base last a m i at_last in
        let out_guard = within_inside program T seen base guard a m i at_guard in
        let handled = tail program T seen base _ _ guard it.guarding in
        let ended = back program T seen base _ _ (suc guard) (handlers_size hs w) (length-handlers hs (suc guard) last (around_out last a)) handled in
        joined program seen _ _ at _ (length-part d at first (around_out last a)) (part_sees d at first (around_out last a) m true (scope ++ begun ∷ []) (one_longer scope begun n e) sc.0 dc.0 (λ t. (scope ++ all ∷ [], full, sc.2)) it.declarations here before out_last)
        (joined program seen _ _ first _ (length-statement s first last (around_out guard a)) (statement_sees s first last (around_out guard a) m false (scope ++ all ∷ []) full sc.3 dc.1.0 (none_created s m) it.statements here_first to_last out_guard)
        (one_and (record { frames = m; written = all_written program T seen base _ _ guard m it.guarding here_guard; names = tt; opens = tt; within = here_guard.within; last = (guards_see program T seen base hs (suc guard) last (around_out last a) m it.handlers here_handlers, to_last) })
        (joined program seen _ _ (suc guard) _ (length-handlers hs (suc guard) last (around_out last a)) (handlers_see hs (suc guard) last (around_out last a) m (scope ++ all ∷ []) full sc.4 dc.1.1 it.handlers here_handlers to_last out_last)
        (one_and (record { frames = m; written = all_written program T seen base _ _ _ m ended here_end; names = tt; opens = tt; within = here_end.within; last = ends end }) no_lines))))

    -- what an accept does, whose step stands at the place opener
    doing_sees : (d : Doing) (entry opener at next out n : ℕ) (scope : Scope) → length scope ≡ n → DoingScoped program.plan entries entry d scope → DoingDeclares d → opener < at → At at (doing_code d opener at next out) → Fewer seen 0 n (G next) → Opens opener n out → EachSeen program seen at (doing_code d opener at next out)
    doing_sees without_do entry opener at next out n scope e sc dc before st k o = no_lines
    doing_sees (with_do m b) entry opener at next out n scope e sc dc before st k o =
        let last = end_place b at 1 in
        let inner = in_call (Some opener) last in
        let here = here_inside program T seen base opener at n before o.own in
        let around : InsideSees program T seen base inner (suc n) = record { exits = tt; back = same_there seen (G last) (suc n) (body_ends program T seen base construct.Accept b at next out inner (suc n) st here) } in
        let ends : EndSees construct.Accept next out (Some opener) (suc n) = λ p. (k, o.behind) in
        body_sees construct.Accept b at next out inner n (all_formals (formals_of program.plan entry)) (table program.plan m) scope e sc dc st here around ends

    offered_see : (x : Alternatives) (opener at next : ℕ) (a : Around) (n : ℕ) (scope : Scope) → length scope ≡ n → AlternativesScoped program.plan entries x scope → OfferedDeclare x → opener < at → At at (offered_code x opener at next a) → Is a.within at n → Fewer seen 0 n (G next) → Around_ a n → Opens opener n a.out → EachSeen program seen at (offered_code x opener at next a)
    offered_see no_alternatives opener at next a n scope e sc dc before st here k i o = no_lines
    offered_see (accepting g pos m d p more) opener at next a n scope e sc dc before st here k i o =
        let after = at + doing_size d in
        let later = after + part_size p (ways_count a) in
        let it = offer_stands program T seen base d p more opener at next a st in
        let there = here_on program T seen base a.within at after n (omega arith) here in
        let further = here_on program T seen base a.within at later n (omega arith) here in
        let to = part_begins program T seen base p after next a n it.part there k in
        joined program seen _ _ at _ (length-doing d opener at (part_place p after next) a.out)
        (doing_sees d m opener at (part_place p after next) a.out n scope e sc.2 dc.0 before it.doing to o)
        (joined program seen _ _ after _ (length-part p after next a)
        (part_sees p after next a n false scope e sc.3 dc.1.0 (λ t. absurd cc) it.part there k i)
        (offered_see more opener later next a n scope e sc.4 dc.1.1 (omega (arith, before)) it.others further k i o))
    offered_see (delaying g x p more) opener at next a n scope e sc dc before st here k i o =
        let size = part_size p (ways_count a) in
        let long = length-part p at next a in
        let further = here_on program T seen base a.within at (at + size) n (omega arith) here in
        joined program seen _ _ at size long
        (part_sees p at next a n false scope e sc.2 dc.0 (λ t. absurd cc) (front program T seen base _ _ at st) here k i)
        (offered_see more opener (at + size) next a n scope e sc.3 dc.1 (omega (arith, before)) (back program T seen base _ _ at size long st) further k i o)
    offered_see (terminating g more) opener at next a n scope e sc dc before st here k i o = offered_see more opener at next a n scope e sc.1 dc before st here k i o
