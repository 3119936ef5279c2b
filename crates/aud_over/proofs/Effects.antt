-- What a step does to its own task keeps programs the same but for what nothing names.
use Rattle.std.proofs.Common.{◌≡◌, ℕ, zero, suc, ◌≤◌, ℤ, pos, List, [], ◌∷◌, ◌++◌, length, slice_index_or, Option, Some, None, Bool, true, false, refl, sym, ap, subst}
use Rattle.std.specs.Prelude.{if◌then◌else◌, take, slice_set, Result, Ok, Err, nat_lt, int_le, ◌+ℤ◌, nat_le}
use Rattle.std.proofs.Math.ListN.{length-set}
use Rattle.aud_text.specs.declared.place.Pos.{Pos}
use Rattle.aud_text.specs.declared.raise.Raise.{Raise}
use Rattle.aud_text.specs.declared.raise.Raise.TheVariants.{Storage}
use Rattle.aud_text.specs.declared.limits.TheConstants.{OUTPUT}
use Rattle.aud_typed.specs.declared.program.Exception.{Exception}
use Rattle.aud_typed.specs.declared.program.Exception.TheVariants.{Predefined}
use Rattle.aud_typed.specs.Tree.{Plan, For}
use Rattle.aud_meaning.specs.Orders.{noted}
use Rattle.aud_meaning.specs.declared.state.Pending.{Pending}
use Rattle.aud_meaning.specs.Configuration.{Frame, Target, Back, Purpose, for_body, for_block, for_loop, for_procedure, for_operation, for_entry, for_accept, Opened, Own, Call, Shared, Acting}
use Rattle.aud_meaning.specs.Evaluation.{Sight, in_range}
use Rattle.aud_meaning.specs.Control.{Moved, takes_part, gets_out}
use Rattle.aud_meaning.specs.Effects as own
use Rattle.aud_meaning.specs.Effects.{CopiedBack, back_by, copied_back, with_result, assigned, innermost, changed_first, closed_by, closed, out_of_loops_by, is_loop}
use Rattle.aud_meaning.specs.Step as step
use Rattle.aud_meaning.specs.Step.{has_next, for_first, for_step}
use Rattle.aud_over.proofs.Frames.{Agree, agree_at, agree_length, agree_set, agree_behind}
use Rattle.aud_over.proofs.Calls.{EachOf}
use Rattle.aud_over.proofs.Beside.{Kept, KeepsPurpose, NamesOpened, NamesAll, Names, each_joined, MayHaveOne, BesideOne, one_with, beside_one, at_one, if_one, one_more}
use Rattle.aud_meaning.specs.declared.state.Again.{Again}

-- what is copied back, with the same exception
pub record BackSame (p : Kept) (b d : CopiedBack) : Type 0 where
  pub frames : Agree p.named b.frames d.frames
  pub raised : b.raised ≡ d.raised
  pub room : p.frames ≤ length b.frames

module _ (p : Kept) where
  -- Frames that are open.

  pub first_named : (os : List Opened) → NamesAll p os → p.named (innermost os)
  first_named [] h = p.first
  first_named (o ∷ os) h = h.0.0

  pub names_first : (f : Opened → Opened) (os : List Opened) → ((o : Opened) → NamesOpened p o → NamesOpened p (f o)) → NamesAll p os → NamesAll p (changed_first f os)
  names_first f [] keeps h = tt
  names_first f (o ∷ os) keeps h = (keeps o h.0, h.1)

  pub names_closed_by : (os : List Opened) (o : Own) → NamesAll p os → Names p o → Names p (closed_by os o)
  names_closed_by [] o h g = g
  names_closed_by (x ∷ xs) o h g = (h.0.1, h.1, g.2)

  pub names_closed : (o : Own) → Names p o → Names p (closed o)
  names_closed o h = names_closed_by o.opened o h.1 h

  pub names_out : (os : List Opened) (o : Own) → NamesAll p os → Names p o → Names p (out_of_loops_by os o)
  names_out [] o h g = g
  names_out (x ∷ xs) o h g = by (is_loop x.purpose) (names_out xs (record o { display = x.saved; opened = xs }) h.1 (h.0.1, h.1, g.2))
    where
      by : (b : Bool) → Names p (out_of_loops_by xs (record o { display = x.saved; opened = xs })) → Names p (if b then out_of_loops_by xs (record o { display = x.saved; opened = xs }) else o)
      by true k = k
      by false k = g

  pub names_out_of_loops : (o : Own) → Names p o → Names p (own.out_of_loops o)
  names_out_of_loops o h = names_out o.opened o h.1 h

  pub names_out_of : (n : ℕ) (o : Own) → Names p o → Names p (own.out_of n o)
  names_out_of zero o h = h
  names_out_of (suc n) o h = names_out_of n (closed o) (names_closed o h)

  pub names_handles : (pending : Pending) (o : Own) → Names p o → Names p (own.handles pending o)
  names_handles pending o h =
      let g : Names p (own.out_of_loops o) = names_out_of_loops o h in
      (g.0, names_first (λ f. record f { handling = Some pending.exception }) (own.out_of_loops o).opened (λ x k. k) g.1, g.2)

  names_value_in : (z : ℤ) (purpose : Purpose) → KeepsPurpose p.kept purpose → KeepsPurpose p.kept (own.with_value_in z purpose)
  names_value_in z for_body h = h
  names_value_in z for_block h = h
  names_value_in z for_loop h = h
  names_value_in z (for_procedure r) h = h
  names_value_in z (for_operation n r) h = h
  names_value_in z (for_entry n c s b) h = h
  names_value_in z (for_accept c) h = h

  pub names_value : (z : ℤ) (os : List Opened) → NamesAll p os → NamesAll p (own.sets_value z os)
  names_value z [] h = tt
  names_value z (o ∷ os) h = by (own.is_inner o.purpose) (names_value z os h.1)
    where
      by : (b : Bool) → NamesAll p (own.sets_value z os) → NamesAll p (if b then o ∷ own.sets_value z os else record o { purpose = own.with_value_in z o.purpose } ∷ os)
      by true k = (h.0, k)
      by false k = ((h.0.0, h.0.1, names_value_in z o.purpose h.0.2), h.1)

  -- What is copied back.

  set_room : (fs : List Frame) (i : ℕ) (v : Frame) → p.frames ≤ length fs → p.frames ≤ length (slice_set fs i v)
  set_room fs i v h = subst (λ n. p.frames ≤ n) (sym (length-set fs i v)) h

  pub assigned_same : (frame index : ℕ) (z : ℤ) (fs gs : List Frame) → Agree p.named fs gs → Agree p.named (assigned frame index z fs) (assigned frame index z gs)
  assigned_same frame index z fs gs a =
      agree_set p.named fs gs frame (slice_set (slice_index_or fs frame []) index z) (slice_set (slice_index_or gs frame []) index z) a
      (λ l. ap (λ f. slice_set f index z) (agree_at p.named fs gs a frame l))

  pub assigned_room : (frame index : ℕ) (z : ℤ) (fs : List Frame) → p.frames ≤ length fs → p.frames ≤ length (assigned frame index z fs)
  assigned_room frame index z fs h = set_room fs frame (slice_set (slice_index_or fs frame []) index z) h

  back_same : (r : Result ℤ Raise) (t : Target) (fs gs : List Frame) (go : List Frame → CopiedBack) → Agree p.named fs gs → p.frames ≤ length fs → ((xs ys : List Frame) → Agree p.named xs ys → p.frames ≤ length xs → BackSame p (go xs) (go ys)) → BackSame p (back_by r t fs go) (back_by r t gs go)
  back_same (Ok z) t fs gs go a room on = on (assigned t.frame t.index z fs) (assigned t.frame t.index z gs) (assigned_same t.frame t.index z fs gs a) (assigned_room t.frame t.index z fs room)
  back_same (Err raise) t fs gs go a room on = record { frames = a; raised = refl; room = room }

  pub copied_same : (values : List ℤ) (backs : List Back) (fs gs : List Frame) → Agree p.named fs gs → p.frames ≤ length fs → BackSame p (copied_back values backs fs) (copied_back values backs gs)
  copied_same values [] fs gs a room = record { frames = a; raised = refl; room = room }
  copied_same values (b ∷ bs) fs gs a room =
      back_same (in_range b.target.subtype (slice_index_or values b.formal (pos 0))) b.target fs gs (λ xs. copied_back values bs xs) a room
      (λ xs ys h r. copied_same values bs xs ys h r)

  pub result_same : (into : Option Target) (value : Option ℤ) (b d : CopiedBack) → BackSame p b d → BackSame p (with_result into value b) (with_result into value d)
  result_same None value b d h = h
  result_same (Some t) None b d h = h
  result_same (Some t) (Some z) b d h =
      back_same (in_range t.subtype z) t b.frames d.frames (λ xs. record { frames = xs; raised = None }) h.frames h.room
      (λ xs ys g r. record { frames = g; raised = refl; room = r })

  -- A task by itself.

  pub control_one : (f : Moved → Moved) (u v : Acting Moved) → BesideOne p u v → BesideOne p (record u { control = f u.control }) (record v { control = f v.control })
  control_one f u v r = at_one p (λ t. record t { control = f t.control }) u v r (λ fs cs m.
      beside_one p (record u { control = f u.control }) fs cs (record { frames = m.frames; calls = m.calls; own = m.own; objects = m.objects; room = m.room; call_room = m.call_room }))

  pub own_one : (f : Own → Own) (u v : Acting Moved) → ((o : Own) → Names p o → Names p (f o)) → BesideOne p u v → BesideOne p (record u { own = f u.own }) (record v { own = f v.own })
  own_one f u v keeps r = at_one p (λ t. record t { own = f t.own }) u v r (λ fs cs m.
      beside_one p (record u { own = f u.own }) fs cs (record { frames = m.frames; calls = m.calls; own = keeps u.own m.own; objects = m.objects; room = m.room; call_room = m.call_room }))

  abbrev opens_at : ℕ → Purpose → ℕ → Pos → List ℕ → List ℤ → ℕ → Acting Moved → Acting Moved
  opens_at frame purpose region at display cells elaborated t = record t {
    own = record t.own {
      display = display ++ frame ∷ [];
      opened = record { frame = frame; region = region; elaborated = elaborated; handling = None; saved = t.own.display; at = at; purpose = purpose } ∷ t.own.opened;
    };
    shared = record t.shared { frames = t.shared.frames ++ cells ∷ [] };
  }

  pub opens_one : (purpose : Purpose) (region : ℕ) (at : Pos) (display : List ℕ) (cells : List ℤ) (elaborated : ℕ) (u v : Acting Moved) → EachOf p.named display → KeepsPurpose p.kept purpose → BesideOne p u v → BesideOne p (own.opens purpose region at display cells elaborated u) (own.opens purpose region at display cells elaborated v)
  opens_one purpose region at display cells elaborated u v d k r = at_one p (λ t. own.opens purpose region at display cells elaborated t) u v r (λ fs cs m.
      let new : p.named (length u.shared.frames) = p.new (length u.shared.frames) m.room in
      record {
        fs = fs ++ cells ∷ [];
        cs = cs;
        same = ap (λ n. opens_at n purpose region at display cells elaborated (one_with fs cs u)) (sym (agree_length p.named u.shared.frames fs m.frames));
        may = record {
          frames = agree_behind p.named u.shared.frames fs (cells ∷ []) m.frames;
          calls = m.calls;
          own = (each_joined p.named display (length u.shared.frames ∷ []) d (new, tt), ((new, m.own.0, k), m.own.1), m.own.2);
          objects = m.objects;
          room = one_more p.frames cells u.shared.frames m.room;
          call_room = m.call_room;
        };
      })

  pub declares_one : (cells : List ℤ) (u v : Acting Moved) → BesideOne p u v → BesideOne p (own.declares cells u) (own.declares cells v)
  declares_one cells u v r = at_one p (λ t. own.declares cells t) u v r (λ fs cs m.
      let i = innermost u.own.opened in
      record {
        fs = slice_set fs i (slice_index_or fs i [] ++ cells);
        cs = cs;
        same = refl;
        may = record {
          frames = agree_set p.named u.shared.frames fs i (slice_index_or u.shared.frames i [] ++ cells) (slice_index_or fs i [] ++ cells) m.frames (λ l. ap (λ f. f ++ cells) (agree_at p.named u.shared.frames fs m.frames i l));
          calls = m.calls;
          own = (m.own.0, names_first (λ o. record o { elaborated = suc o.elaborated }) u.own.opened (λ x k. k) m.own.1, m.own.2);
          objects = m.objects;
          room = set_room u.shared.frames i (slice_index_or u.shared.frames i [] ++ cells) m.room;
          call_room = m.call_room;
        };
      })

  abbrev cut_as : Bool → List ℕ → Shared → Shared
  cut_as b text s = if b then record s { output = s.output ++ text } else record s { output = take OUTPUT (s.output ++ text); cut = true }

  cut_same : (text : List ℕ) (u : Acting Moved) (fs : List Frame) (cs : List Call) → MayHaveOne p u fs cs → (b : Bool) → BesideOne p (record u { shared = cut_as b text u.shared }) (record (one_with fs cs u) { shared = cut_as b text (one_with fs cs u).shared })
  cut_same text u fs cs m true = record { fs = fs; cs = cs; same = refl; may = record { frames = m.frames; calls = m.calls; own = m.own; objects = m.objects; room = m.room; call_room = m.call_room } }
  cut_same text u fs cs m false = record { fs = fs; cs = cs; same = refl; may = record { frames = m.frames; calls = m.calls; own = m.own; objects = m.objects; room = m.room; call_room = m.call_room } }

  pub puts_one : (text : List ℕ) (u v : Acting Moved) → BesideOne p u v → BesideOne p (own.puts text u) (own.puts text v)
  puts_one text u v r = at_one p (λ t. own.puts text t) u v r (λ fs cs m. cut_same text u fs cs m (nat_le (length (u.shared.output ++ text)) OUTPUT))

  pub stored_one : (a : Target) (z : ℤ) (u v : Acting Moved) → BesideOne p u v → BesideOne p (record u { shared = record u.shared { frames = assigned a.frame a.index z u.shared.frames } }) (record v { shared = record v.shared { frames = assigned a.frame a.index z v.shared.frames } })
  stored_one a z u v r = at_one p (λ t. record t { shared = record t.shared { frames = assigned a.frame a.index z t.shared.frames } }) u v r (λ fs cs m. record {
    fs = assigned a.frame a.index z fs;
    cs = cs;
    same = refl;
    may = record { frames = assigned_same a.frame a.index z u.shared.frames fs m.frames; calls = m.calls; own = m.own; objects = m.objects; room = assigned_room a.frame a.index z u.shared.frames m.room; call_room = m.call_room };
  })

  pub raises_one : (x : Exception) (at : Pos) (u v : Acting Moved) → BesideOne p u v → BesideOne p (own.raises x at u) (own.raises x at v)
  raises_one x at u v r = own_one (own.pends x at) u v (λ o h. h) r

  module _ (plan : Plan) (barrier : ℕ → Sight → Result Bool Raise) where
    pub moves_on_one : (n : ℕ) (u v : Acting Moved) → BesideOne p u v → BesideOne p (step.moves_on noted plan barrier n u) (step.moves_on noted plan barrier n v)
    moves_on_one n u v r = control_one (takes_part n) u v r

    pub if_room_one : (at : Pos) (f : Acting Moved → Acting Moved) (u v : Acting Moved) → ((x y : Acting Moved) → BesideOne p x y → BesideOne p (f x) (f y)) → BesideOne p u v → BesideOne p (step.if_room noted plan barrier at u (f u)) (step.if_room noted plan barrier at v (f v))
    if_room_one at f u v keeps r = at_one p (λ t. step.if_room noted plan barrier at t (f t)) u v r (λ fs cs m.
        if_one p (own.has_room u.own) (f u) (own.raises (Predefined Storage) at u) (f (one_with fs cs u)) (own.raises (Predefined Storage) at (one_with fs cs u))
        (keeps u (one_with fs cs u) (beside_one p u fs cs m)) (raises_one (Predefined Storage) at u (one_with fs cs u) (beside_one p u fs cs m)))

    pub opens_here_one : (purpose : Purpose) (region : ℕ) (at : Pos) (cells : List ℤ) (elaborated part : ℕ) (u v : Acting Moved) → KeepsPurpose p.kept purpose → BesideOne p u v → BesideOne p (step.moves_on noted plan barrier part (own.opens purpose region at u.own.display cells elaborated u)) (step.moves_on noted plan barrier part (own.opens purpose region at v.own.display cells elaborated v))
    opens_here_one purpose region at cells elaborated part u v k r = at_one p (λ t. step.moves_on noted plan barrier part (own.opens purpose region at t.own.display cells elaborated t)) u v r (λ fs cs m.
        moves_on_one part (own.opens purpose region at u.own.display cells elaborated u) (own.opens purpose region at u.own.display cells elaborated (one_with fs cs u))
        (opens_one purpose region at u.own.display cells elaborated u (one_with fs cs u) m.own.0 k (beside_one p u fs cs m)))

    pub block_one : (at : Pos) (region : ℕ) (u v : Acting Moved) → BesideOne p u v → BesideOne p (step.if_room noted plan barrier at u (step.moves_on noted plan barrier 1 (own.opens for_block region at u.own.display [] 0 u))) (step.if_room noted plan barrier at v (step.moves_on noted plan barrier 1 (own.opens for_block region at v.own.display [] 0 v)))
    block_one at region u v r = if_room_one at (λ t. step.moves_on noted plan barrier 1 (own.opens for_block region at t.own.display [] 0 t)) u v (λ x y k. opens_here_one for_block region at [] 0 1 x y tt k) r

    abbrev entered : For → ℤ → ℤ → Acting Moved → Acting Moved
    entered f a b t = step.if_room noted plan barrier f.at t (step.moves_on noted plan barrier 1 (own.opens for_loop f.region f.at t.own.display (for_first f.backward a b ∷ for_first f.backward b a ∷ []) 1 t))

    entered_one : (f : For) (a b : ℤ) (u v : Acting Moved) → BesideOne p u v → BesideOne p (entered f a b u) (entered f a b v)
    entered_one f a b u v r =
        if_room_one f.at (λ t. step.moves_on noted plan barrier 1 (own.opens for_loop f.region f.at t.own.display (for_first f.backward a b ∷ for_first f.backward b a ∷ []) 1 t)) u v
        (λ x y k. opens_here_one for_loop f.region f.at (for_first f.backward a b ∷ for_first f.backward b a ∷ []) 1 1 x y tt k) r

    pub loop_entered_one : (f : For) (a b : ℤ) (u v : Acting Moved) → BesideOne p u v → BesideOne p (step.loop_entered noted plan barrier f a b u) (step.loop_entered noted plan barrier f a b v)
    loop_entered_one f a b u v r = if_one p (int_le a b) (entered f a b u) (step.moves_on noted plan barrier 0 u) (entered f a b v) (step.moves_on noted plan barrier 0 v) (entered_one f a b u v r) (moves_on_one 0 u v r)

    -- with these two cells of the loop
    abbrev continued : For → ℤ → ℤ → Acting Moved → Acting Moved
    continued f value last t =
        if has_next f.backward value last
        then step.moves_on noted plan barrier 1 (record t { shared = record t.shared { frames = assigned (innermost t.own.opened) 0 (value +ℤ for_step f.backward) t.shared.frames } })
        else step.moves_on noted plan barrier 0 (record t { own = closed t.own })

    abbrev stepped : ℤ → Acting Moved → Acting Moved
    stepped z t = record t { shared = record t.shared { frames = assigned (innermost t.own.opened) 0 z t.shared.frames } }

    stepped_one : (z : ℤ) (u v : Acting Moved) → BesideOne p u v → BesideOne p (stepped z u) (stepped z v)
    stepped_one z u v r = at_one p (stepped z) u v r (λ fs cs m. record {
      fs = assigned (innermost u.own.opened) 0 z fs;
      cs = cs;
      same = refl;
      may = record { frames = assigned_same (innermost u.own.opened) 0 z u.shared.frames fs m.frames; calls = m.calls; own = m.own; objects = m.objects; room = assigned_room (innermost u.own.opened) 0 z u.shared.frames m.room; call_room = m.call_room };
    })

    continued_one : (f : For) (value last : ℤ) (u v : Acting Moved) → BesideOne p u v → BesideOne p (continued f value last u) (continued f value last v)
    continued_one f value last u v r =
        let z = value +ℤ for_step f.backward in
        if_one p (has_next f.backward value last) (step.moves_on noted plan barrier 1 (stepped z u)) (step.moves_on noted plan barrier 0 (record u { own = closed u.own })) (step.moves_on noted plan barrier 1 (stepped z v)) (step.moves_on noted plan barrier 0 (record v { own = closed v.own }))
        (moves_on_one 1 (stepped z u) (stepped z v) (stepped_one z u v r))
        (moves_on_one 0 (record u { own = closed u.own }) (record v { own = closed v.own }) (own_one closed u v names_closed r))

    cell_same : (n : ℕ) (u : Acting Moved) (fs : List Frame) (cs : List Call) → MayHaveOne p u fs cs → step.loop_cell noted plan barrier n u ≡ step.loop_cell noted plan barrier n (one_with fs cs u)
    cell_same n u fs cs m = ap (λ f. slice_index_or f n (pos 0)) (agree_at p.named u.shared.frames fs m.frames (innermost u.own.opened) (first_named u.own.opened m.own.1))

    pub loop_continued_one : (f : For) (u v : Acting Moved) → BesideOne p u v → BesideOne p (step.loop_continued noted plan barrier f u) (step.loop_continued noted plan barrier f v)
    loop_continued_one f u v r = at_one p (λ t. step.loop_continued noted plan barrier f t) u v r (λ fs cs m.
        let w : Acting Moved = one_with fs cs u in
        subst (λ z. BesideOne p (step.loop_continued noted plan barrier f u) (continued f z (step.loop_cell noted plan barrier 1 w) w)) (cell_same 0 u fs cs m)
        (subst (λ z. BesideOne p (step.loop_continued noted plan barrier f u) (continued f (step.loop_cell noted plan barrier 0 u) z w)) (cell_same 1 u fs cs m)
        (continued_one f (step.loop_cell noted plan barrier 0 u) (step.loop_cell noted plan barrier 1 u) u w (beside_one p u fs cs m))))

    pub variable_one : (up_to : ℕ) (z : ℤ) (u v : Acting Moved) → BesideOne p u v → BesideOne p (step.variable_declared noted plan barrier up_to z u) (step.variable_declared noted plan barrier up_to z v)
    variable_one up_to z u v r = at_one p (λ t. step.variable_declared noted plan barrier up_to z t) u v r (λ fs cs m.
        let w : Acting Moved = one_with fs cs u in
        moves_on_one (if nat_lt (own.elaborated_in (own.declares (z ∷ []) u).own.opened) up_to then 1 else 0) (own.declares (z ∷ []) u) (own.declares (z ∷ []) w)
        (declares_one (z ∷ []) u w (beside_one p u fs cs m)))

    pub declared_one : (cells : List ℤ) (u v : Acting Moved) → BesideOne p u v → BesideOne p (step.moves_on noted plan barrier 0 (own.declares cells u)) (step.moves_on noted plan barrier 0 (own.declares cells v))
    declared_one cells u v r = moves_on_one 0 (own.declares cells u) (own.declares cells v) (declares_one cells u v r)

    value_one : (value : Option ℤ) (u v : Acting Moved) → BesideOne p u v → BesideOne p (step.with_function_value noted plan barrier value u) (step.with_function_value noted plan barrier value v)
    value_one None u v r = r
    value_one (Some z) u v r = own_one (λ o. record o { opened = own.sets_value z o.opened }) u v (λ o h. (h.0, names_value z o.opened h.1, h.2)) r

    pub goes_out_one : (loops : ℕ) (value : Option ℤ) (u v : Acting Moved) → BesideOne p u v → BesideOne p (step.out_of_loops noted plan barrier loops (step.with_function_value noted plan barrier value u)) (step.out_of_loops noted plan barrier loops (step.with_function_value noted plan barrier value v))
    goes_out_one loops value u v r =
        let x : Acting Moved = step.with_function_value noted plan barrier value u in
        let y : Acting Moved = step.with_function_value noted plan barrier value v in
        own_one (own.out_of loops) (record x { control = gets_out x.control }) (record y { control = gets_out y.control }) (names_out_of loops) (control_one gets_out x y (value_one value u v r))

    pub requeue_one : (loops : ℕ) (r : Again) (u v : Acting Moved) → BesideOne p u v → BesideOne p (step.out_of_loops noted plan barrier loops (step.requeued noted plan barrier r u)) (step.out_of_loops noted plan barrier loops (step.requeued noted plan barrier r v))
    requeue_one loops r u v h =
        let x : Acting Moved = step.requeued noted plan barrier r u in
        let y : Acting Moved = step.requeued noted plan barrier r v in
        own_one (own.out_of loops) (record x { control = gets_out x.control }) (record y { control = gets_out y.control }) (names_out_of loops)
        (control_one gets_out x y (own_one (λ o. record o { again = Some r }) u v (λ o k. k) h))

    pub assigns_one : (a : Target) (z : ℤ) (u v : Acting Moved) → BesideOne p u v → BesideOne p (step.moves_on noted plan barrier 0 (step.stored_at noted plan barrier a z u)) (step.moves_on noted plan barrier 0 (step.stored_at noted plan barrier a z v))
    assigns_one a z u v r = moves_on_one 0 (step.stored_at noted plan barrier a z u) (step.stored_at noted plan barrier a z v) (stored_one a z u v r)

    pub put_one : (text : List ℕ) (u v : Acting Moved) → BesideOne p u v → BesideOne p (step.moves_on noted plan barrier 0 (own.puts text u)) (step.moves_on noted plan barrier 0 (own.puts text v))
    put_one text u v r = moves_on_one 0 (own.puts text u) (own.puts text v) (puts_one text u v r)
