-- The innermost construct that a task is in, by the end at which it stands or the exception that leaves it.
use Rattle.std.proofs.Common.{◌≡◌, ◌⊎◌, ℕ, List, [], ◌∷◌, length, Option, Some, None, Bool, true, false, refl, sym, ap, ◌∙◌, subst, inl, inr, if◌then◌else◌, slice_get}
use Rattle.aud_text.specs.declared.limits.Limits.{Limits}
use Rattle.aud_typed.specs.Tree.{Plan}
use Rattle.aud_meaning.specs.declared.state.Again.{Again}
use Rattle.aud_meaning.specs.declared.state.Construct.{Construct}
use Rattle.aud_meaning.specs.declared.state.Construct.TheVariants as construct
use Rattle.aud_meaning.specs.declared.state.Pending.{Pending}
use Rattle.aud_meaning.specs.declared.state.Status.TheVariants.{Running}
use Rattle.aud_meaning.specs.Configuration.{Purpose, for_body, for_block, for_loop, for_procedure, for_operation, for_entry, for_accept, Returning, Opened, Own, TaskAt, All}
use Rattle.aud_meaning.specs.Control.{ending, ends, is_left_by}
use Rattle.aud_meaning.specs.Effects.{is_loop, out_of_loops, out_of_loops_by}
use Rattle.aud_meaning.specs.Parts.{Closable, is_over, own_of}
use Rattle.aud_meaning.specs.Run.{again_left, construct_left, master_left_by}
use Rattle.aud_meaning.specs.Step.{done}
use Rattle.aud_code.specs.Places.{Spot, loops_of}
use Rattle.aud_code.specs.Flat.{Flat, EndLine, Last, Ends, Leaves, end_at, flat_controls, left_by}
use Rattle.aud_code.specs.Frames.{found, opener, Found, LastFits, OpensAccept, OpensBlock}
use Rattle.aud_code.specs.Seen.{IsSeen}
use Rattle.aud_code.specs.Sound.{Counts, IsSound, IsStart}
use Rattle.aud_framed.specs.Held.{Entered, Holds, IsOpenAt, IsOutermost, MayPend, OpenedBy, StandsAt, StandsBy, has_left}
use Rattle.aud_framed.specs.Waiting.{TaskFramed}
use Rattle.aud_framed.specs.Calls.{AgainFits, RequeueFits}
use Rattle.aud_framed.specs.Enabled.{ComingTells}
use Rattle.aud_framed.specs.Ways.{LeadsTo, LeavesConstruct, Pends, StandsAtStep}
use Rattle.aud_framed.specs.Stepping.{AskedBy, HasWays}
use Rattle.aud_framed.proofs.Exceptions.{left_framed}
use Rattle.aud_framed.proofs.Steps.{here, led}
use Rattle.aud_framed.proofs.Stepping.AcceptEnds.{accept_ended_good, accept_left_good}
use Rattle.aud_framed.proofs.Stepping.AgainEnds.{accept_again_good}
use Rattle.aud_framed.proofs.Stepping.Blocks.{block_ended}
use Rattle.aud_framed.proofs.Stepping.Ending.{Good}
use Rattle.aud_framed.proofs.Stepping.Ends.{left_by_exception, procedure_ended}
use Rattle.aud_framed.proofs.Stepping.Finishing.{body_ended, body_left_by}
use Rattle.aud_framed.proofs.Stepping.Finished.{ended_operation, left_operation}
use Rattle.aud_framed.proofs.Stepping.Served.{ended_entry, left_entry}
use Rattle.aud_framed.proofs.Stepping.Leaves.{block_left_with}
use Rattle.aud_framed.proofs.Stepping.Lone.{at_step, begins_there, end_found, spot_of}
use Rattle.aud_framed.proofs.Stepping.Parts.{framed_at, own_got}
use Rattle.aud_framed.proofs.Stepping.Refusing.{orders}
use Rattle.aud_framed.proofs.Stepping.Tasks.{no_loops}

-- what its end tells of its frame
abbrev KindOf : Construct → Purpose → List Opened → Type 0
KindOf construct.Unit for_body os = os ≡ []
KindOf construct.Unit for_block os = ⊥
KindOf construct.Unit for_loop os = ⊥
KindOf construct.Unit (for_procedure r) os = Unit {0}
KindOf construct.Unit (for_operation n r) os = Unit {0}
KindOf construct.Unit (for_entry n id served back) os = Unit {0}
KindOf construct.Unit (for_accept id) os = ⊥
KindOf construct.Block p os = p ≡ for_block
KindOf construct.Accept p os = (id : ℕ) × (p ≡ for_accept id)

block_only : (last : Last) (p : Purpose) → OpensBlock last → OpenedBy last p → p ≡ for_block
block_only last for_body b h = absurd h
block_only last for_block b h = refl
block_only last for_loop b h = absurd (subst OpensBlock h.1 b)
block_only last (for_procedure r) b h = absurd h
block_only last (for_operation n r) b h = absurd h
block_only last (for_entry n id served back) b h = absurd h
block_only last (for_accept id) b (inl h) = absurd (subst OpensBlock h.2 b)
block_only last (for_accept id) b (inr h) = absurd (subst OpensBlock h.1 b)

accept_only : (last : Last) (p : Purpose) → OpensAccept last → OpenedBy last p → (id : ℕ) × (p ≡ for_accept id)
accept_only last for_body b h = absurd h
accept_only last for_block b h = absurd (subst OpensAccept h.1 b)
accept_only last for_loop b h = absurd (subst OpensAccept h.1 b)
accept_only last (for_procedure r) b h = absurd h
accept_only last (for_operation n r) b h = absurd h
accept_only last (for_entry n id served back) b h = absurd h
accept_only last (for_accept id) b h = (id, refl)

outermost : (returns : List ℕ) (os : List Opened) → IsOutermost returns os → os ≡ []
outermost [] [] h = refl
outermost [] (o ∷ os) h = absurd h
outermost (r ∷ rs) os h = absurd h

module _ (lines : Flat) (seen : List ℕ) where
  entered_kind : (p : Purpose) (returns saved : List ℕ) (os : List Opened) → Entered lines.lines seen (λ w rs. Holds lines.lines seen w rs os) p returns saved os → KindOf construct.Unit p os
  entered_kind for_body returns saved os h = outermost returns os h
  entered_kind for_block returns saved os h = absurd h
  entered_kind for_loop returns saved os h = absurd h
  entered_kind (for_procedure r) returns saved os h = tt
  entered_kind (for_operation n r) returns saved os h = tt
  entered_kind (for_entry n id served back) returns saved os h = tt
  entered_kind (for_accept id) returns saved os h = absurd h

  by_opener : (P : Last → Type 0) (Q : Option ℕ → Type 0) (R : Type 0) (returns : List ℕ) (o : Opened) (os : List Opened) (w : Option ℕ) → Found (opener lines.lines w) (λ b. P b.last × Q b.within) → Holds lines.lines seen w returns (o ∷ os) → ((last : Last) → P last → OpenedBy last o.purpose → R) → R
  by_opener P Q R returns o os None f h go = absurd f
  by_opener P Q R returns o os (Some m) f h go = by (found lines.lines m) f h
    where
      by : (x : Option EndLine) → Found x (λ b. P b.last × Q b.within) → Found x (λ b. OpenedBy b.last o.purpose × (IsOpenAt lines.lines seen m (length o.saved) × Holds lines.lines seen b.within returns os × IsStart lines.lines m)) → R
      by None f h = absurd f
      by (Some b) f h = go b.last f.0 h.0

  -- a task's body is the outermost
  last_body : (w : Option ℕ) (returns : List ℕ) (os : List Opened) (own : Own) (o : Opened) (ps : List Opened) → Holds lines.lines seen w returns os → own.opened ≡ os → (out_of_loops_by os own).opened ≡ o ∷ ps → o.purpose ≡ for_body → ps ≡ []
  last_body w returns [] own o ps h same e body = absurd h
  last_body w returns (x ∷ xs) own o ps h same e body = by (is_loop x.purpose) refl e (λ v k. last_body v returns xs (record own { display = x.saved; opened = xs }) o ps k refl)
    where
      head : List Opened → Purpose
      head [] = for_body
      head (y ∷ ys) = y.purpose

      tail : List Opened → List Opened
      tail [] = []
      tail (y ∷ ys) = ys

      inside : (v : Option ℕ) → Holds lines.lines seen v returns (x ∷ xs) → ((u : Option ℕ) → Holds lines.lines seen u returns xs → (out_of_loops_by xs (record own { display = x.saved; opened = xs })).opened ≡ o ∷ ps → o.purpose ≡ for_body → ps ≡ []) → is_loop x.purpose ≡ true → (out_of_loops_by xs (record own { display = x.saved; opened = xs })).opened ≡ o ∷ ps → ps ≡ []
      inside None k on loop q = absurd (none x.purpose loop (entered_kind x.purpose returns x.saved xs k))
        where
          none : (p : Purpose) → is_loop p ≡ true → KindOf construct.Unit p xs → ⊥
          none for_body l k = absurd cc
          none for_block l k = k
          none for_loop l k = k
          none (for_procedure r) l k = absurd cc
          none (for_operation n r) l k = absurd cc
          none (for_entry n id served back) l k = absurd cc
          none (for_accept id) l k = k
      inside (Some m) k on loop q = at (found lines.lines m) k
        where
          at : (y : Option EndLine) → Found y (λ b. OpenedBy b.last x.purpose × (IsOpenAt lines.lines seen m (length x.saved) × Holds lines.lines seen b.within returns xs × IsStart lines.lines m)) → ps ≡ []
          at None k = absurd k
          at (Some b) k = on b.within k.1.1 q body

      here_it : (v : Option ℕ) → Holds lines.lines seen v returns (x ∷ xs) → x ∷ xs ≡ o ∷ ps → ps ≡ []
      here_it None k q =
          ap tail (sym q)
          ∙ subst (λ p. KindOf construct.Unit p xs) (ap head q ∙ body) (entered_kind x.purpose returns x.saved xs k)
      here_it (Some m) k q = at (found lines.lines m) k
        where
          at : (y : Option EndLine) → Found y (λ b. OpenedBy b.last x.purpose × (IsOpenAt lines.lines seen m (length x.saved) × Holds lines.lines seen b.within returns xs × IsStart lines.lines m)) → ps ≡ []
          at None k = absurd k
          at (Some b) k = absurd (subst (λ p. OpenedBy b.last p) (ap head q ∙ body) k.0)

      by : (b : Bool) → is_loop x.purpose ≡ b → (if b then out_of_loops_by xs (record own { display = x.saved; opened = xs }) else own).opened ≡ o ∷ ps → ((u : Option ℕ) → Holds lines.lines seen u returns xs → (out_of_loops_by xs (record own { display = x.saved; opened = xs })).opened ≡ o ∷ ps → o.purpose ≡ for_body → ps ≡ []) → ps ≡ []
      by true l q on = inside w h on l q
      by false l q on = here_it w h (sym same ∙ q)

-- A master that is left is closable.

abbrev IsMaster : Purpose → Type 0
IsMaster p = (p ≡ for_block) ⊎ ((r : Returning) × (p ≡ for_procedure r))

closable_of : (n : ℕ) (c : All Spot) (own : Own) (o : Opened) (os : List Opened) → own_of n c ≡ own → (out_of_loops own).opened ≡ o ∷ os → IsMaster o.purpose → ComingTells n c ending → Closable o.frame c ≡ true
closable_of n c own o os own_is inner master tells =
    tells
    (ap (λ (x : Own). again_left x.pending x.again (construct_left x)) own_is ∙ (ap (λ ps. again_left own.pending own.again ps) inner ∙ quiet own.pending master)) o.frame
    (ap (λ (x : Own). master_left_by (construct_left x)) own_is ∙ (ap (λ ps. master_left_by ps) inner ∙ its master))
  where
    quiet : (p : Option Pending) → IsMaster o.purpose → again_left p own.again (o ∷ os) ≡ None
    quiet (Some p) h = refl
    quiet None (inl e) = subst (λ q. again_left None own.again (record o { purpose = q } ∷ os) ≡ None) (sym e) refl
    quiet None (inr e) = subst (λ q. again_left None own.again (record o { purpose = q } ∷ os) ≡ None) (sym e.1) refl

    its : IsMaster o.purpose → master_left_by (o ∷ os) ≡ Some o.frame
    its (inl e) = subst (λ q. master_left_by (record o { purpose = q } ∷ os) ≡ Some o.frame) (sym e) refl
    its (inr e) = subst (λ q. master_left_by (record o { purpose = q } ∷ os) ≡ Some o.frame) (sym e.1) refl

module _ (plan : Plan) (code : Flat) (table : List Counts) (tasks barriers seen : List ℕ) (sound : IsSound code) (fits : IsSeen code table tasks barriers seen) (ways : HasWays code) where
  abbrev Kept : All Spot → Type 0
  Kept c = Good plan code table tasks barriers seen sound fits ways c

  end_kind : (place next : ℕ) (returns display : List ℕ) (o : Opened) (os : List Opened) (l : EndLine) (c : Construct) → StandsAtStep code seen place l returns display (o ∷ os) → l.last ≡ Ends c next → KindOf c o.purpose os
  end_kind place next returns display o os l c s line = by c line
    where
      held : Holds code.lines seen l.within returns (o ∷ os)
      held = (here code table tasks barriers seen sound fits place returns display (o ∷ os) l s).1

      fit : LastFits code.lines l.last place l
      fit = led code table tasks barriers seen sound fits place returns display (o ∷ os) l s

      by : (c : Construct) → l.last ≡ Ends c next → KindOf c o.purpose os
      by construct.Unit e =
          let outside : l.within ≡ None = subst (λ last. LastFits code.lines last place l) e fit in
          entered_kind code seen o.purpose returns o.saved os (subst (λ w. Holds code.lines seen w returns (o ∷ os)) outside held)
      by construct.Block e = by_opener code seen OpensBlock _ (o.purpose ≡ for_block) returns o os l.within (subst (λ last. LastFits code.lines last place l) e fit) held (λ last p q. block_only last o.purpose p q)
      by construct.Accept e =
          by_opener code seen OpensAccept _ ((id : ℕ) × (o.purpose ≡ for_accept id)) returns o os l.within (subst (λ last. LastFits code.lines last place l) e fit) held
          (λ last p q. accept_only last o.purpose p q)

  module _ (limits : Limits) (alternative : Option ℕ) (n : ℕ) (c : All Spot) (t : TaskAt Spot) (w : Kept c) (is : slice_get c.tasks n ≡ Some t) (running : t.own.status ≡ Running) (unserving : t.own.serving ≡ None) (unmade : t.own.restart ≡ None) (tells : ComingTells n c ending) where
    own_is : own_of n c ≡ t.own
    own_is = own_got n c.tasks t is

    -- one in a procedure's or operation's body makes no call again
    makes_none : (o : Opened) (os : List Opened) → t.own.opened ≡ o ∷ os → ((x : Again) → RequeueFits plan c x (o ∷ os) → ⊥) → t.own.again ≡ None
    makes_none o os e body = by t.own.again refl
      where
        mine : (x : Again) → t.own.again ≡ Some x → AgainFits plan c x t.own
        mine x q =
            subst (λ (y : Own). AgainFits plan c x y) own_is
            ((w.framed.serves n (ap (λ (y : Own). is_over y.status) own_is ∙ ap is_over running)).again x (ap (λ (y : Own). y.again) own_is ∙ q))

        by : (x : Option Again) → t.own.again ≡ x → x ≡ None
        by None q = refl
        by (Some x) q = absurd (body x (subst (λ ps. RequeueFits plan c x ps) e (mine x q).0))

    no_again : (o : Opened) (os : List Opened) (r : Returning) → t.own.opened ≡ o ∷ os → o.purpose ≡ for_procedure r → t.own.again ≡ None
    no_again o os r e body = makes_none o os e (λ x k. subst (λ p. RequeueFits plan c x (record o { purpose = p } ∷ os)) body k)

    in_operation : (o : Opened) (os : List Opened) (m : ℕ) (r : Returning) → t.own.opened ≡ o ∷ os → o.purpose ≡ for_operation m r → t.own.again ≡ None
    in_operation o os m r e body = makes_none o os e (λ x k. subst (λ p. RequeueFits plan c x (record o { purpose = p } ∷ os)) body k)

    -- The leaving step at an end.

    unit_ended : (o : Opened) (os : List Opened) (next : ℕ) → t.own.pending ≡ None → t.own.opened ≡ o ∷ os → (end_at code t.control.place).last ≡ Ends construct.Unit next → (p : Purpose) → o.purpose ≡ p → KindOf construct.Unit p os → Kept (done (orders plan code table tasks barriers seen sound fits ways) plan (flat_controls plan code).barrier limits alternative (ends 0) n c)
    unit_ended o os next none opened line for_body e kind =
        body_ended plan code table tasks barriers seen sound fits ways limits alternative n c t o w is running
        (ap (λ (x : Own). x.opened) (no_loops t.own o os opened (ap is_loop e)) ∙ (opened ∙ ap (λ ps. o ∷ ps) kind)) e
    unit_ended o os next none opened line for_block e kind = absurd kind
    unit_ended o os next none opened line for_loop e kind = absurd kind
    unit_ended o os next none opened line (for_procedure r) e kind =
        procedure_ended plan code table tasks barriers seen sound fits ways limits alternative n c t o os r next w is running none (no_again o os r opened e) opened e line
        (closable_of n c t.own o os own_is (ap (λ (x : Own). x.opened) (no_loops t.own o os opened (ap is_loop e)) ∙ opened) (inr (r, e)) tells)
    unit_ended o os next none opened line (for_operation m r) e kind =
        ended_operation plan code table tasks barriers seen sound fits ways limits alternative n c t o os m r next w is running none (in_operation o os m r opened e) unserving unmade opened e line
    unit_ended o os next none opened line (for_entry m id served back) e kind =
        ended_entry plan code table tasks barriers seen sound fits ways limits alternative n c t o os m id served back next w is running none unserving unmade opened e line
    unit_ended o os next none opened line (for_accept id) e kind = absurd kind

    ended : (c' : Construct) (o : Opened) (os : List Opened) (next : ℕ) → t.own.pending ≡ None → t.own.opened ≡ o ∷ os → (end_at code t.control.place).last ≡ Ends c' next → KindOf c' o.purpose os → Kept (done (orders plan code table tasks barriers seen sound fits ways) plan (flat_controls plan code).barrier limits alternative (ends 0) n c)
    ended construct.Unit o os next none opened line kind = unit_ended o os next none opened line o.purpose refl kind
    ended construct.Block o os next none opened line kind =
        block_ended plan code table tasks barriers seen sound fits ways limits alternative n c t o os next w is running none opened kind line
        (closable_of n c t.own o os own_is (ap (λ (x : Own). x.opened) (no_loops t.own o os opened (ap is_loop kind)) ∙ opened) (inl kind) tells)
    ended construct.Accept o os next none opened line kind = by t.own.again refl
      where
        by : (x : Option Again) → t.own.again ≡ x → Kept (done (orders plan code table tasks barriers seen sound fits ways) plan (flat_controls plan code).barrier limits alternative (ends 0) n c)
        by None e = accept_ended_good plan code table tasks barriers seen sound fits ways limits alternative n c t o os kind.0 next w is running none e opened kind.1 line
        by (Some r) e = accept_again_good plan code table tasks barriers seen sound fits ways limits alternative n c t o os kind.0 next r w is running none e opened kind.1 line

    abbrev Innermost : List Opened → Type 0
    Innermost [] = ⊥
    Innermost (o ∷ os) = Unit {0}

    pub ends_good : (loops : ℕ) → t.own.pending ≡ None → AskedBy (end_at code t.control.place).last (loops_of (end_at code t.control.place).exit) (ends loops) → Kept (done (orders plan code table tasks barriers seen sound fits ways) plan (flat_controls plan code).barrier limits alternative (ends loops) n c)
    ends_good loops none asked = by t.own.opened refl asked
      where
        s : StandsAtStep code seen t.control.place (end_at code t.control.place) t.control.returns t.own.display t.own.opened
        s = at_step plan code seen n c t w.spots is running none w.framed

        block_kind : (o : Opened) (os : List Opened) → t.own.opened ≡ o ∷ os → (next : ℕ) × ((end_at code t.control.place).last ≡ Leaves loops next) → o.purpose ≡ for_block
        block_kind o os e a =
            let x : StandsAtStep code seen t.control.place (end_at code t.control.place) t.control.returns t.own.display (o ∷ os) = subst (λ ps. StandsAtStep code seen t.control.place (end_at code t.control.place) t.control.returns t.own.display ps) e s in
            by_opener code seen OpensBlock _ (o.purpose ≡ for_block) t.control.returns o os (end_at code t.control.place).within
            (subst (λ last. LastFits code.lines last t.control.place (end_at code t.control.place)) a.1 (led code table tasks barriers seen sound fits t.control.place t.control.returns t.own.display (o ∷ os) (end_at code t.control.place) x))
            (here code table tasks barriers seen sound fits t.control.place t.control.returns t.own.display (o ∷ os) (end_at code t.control.place) x).1 (λ last p q. block_only last o.purpose p q)

        by : (os : List Opened) → t.own.opened ≡ os → AskedBy (end_at code t.control.place).last (loops_of (end_at code t.control.place).exit) (ends loops) → Kept (done (orders plan code table tasks barriers seen sound fits ways) plan (flat_controls plan code).barrier limits alternative (ends loops) n c)
        by [] e a = absurd (here code table tasks barriers seen sound fits t.control.place t.control.returns t.own.display [] (end_at code t.control.place) (subst (λ ps. StandsAtStep code seen t.control.place (end_at code t.control.place) t.control.returns t.own.display ps) e s)).1
        by (o ∷ os) e (inl a) =
            let kind : KindOf a.0 o.purpose os =
            end_kind t.control.place a.1.0 t.control.returns t.own.display o os (end_at code t.control.place) a.0 (subst (λ ps. StandsAtStep code seen t.control.place (end_at code t.control.place) t.control.returns t.own.display ps) e s) a.1.1.0 in
            subst (λ k. Kept (done (orders plan code table tasks barriers seen sound fits ways) plan (flat_controls plan code).barrier limits alternative (ends k) n c)) (sym a.1.1.1)
            (ended a.0 o os a.1.0 none e a.1.1.0 kind)
        by (o ∷ os) e (inr a) =
            block_left_with plan code table tasks barriers seen sound fits ways limits alternative n c t o os loops a.0 w is running none e a.1
            (closable_of n c t.own o os own_is (ap (λ (x : Own). x.opened) (no_loops t.own o os e (ap is_loop (block_kind o os e a))) ∙ e) (inl (block_kind o os e a)) tells)

    -- An exception leaves it.
    pub left_good : (p : Pending) → t.own.pending ≡ Some p → t.own.again ≡ None → Kept (done (orders plan code table tasks barriers seen sound fits ways) plan (flat_controls plan code).barrier limits alternative (is_left_by p) n c)
    left_good p pending still = by out.o.purpose refl
      where
        stands : StandsAt code.lines seen (Some p) t.control t.own.display t.own.opened
        stands =
            subst (λ q. StandsAt code.lines seen q t.control t.own.display t.own.opened) pending
            (subst (λ st. TaskFramed plan code seen st t) running (framed_at plan code seen n c.tasks t is w.framed.tasks))

        pends : Pends code seen t.control.place (end_at code t.control.place) t.control.returns t.own.display t.own.opened p
        pends = record { begins = begins_there code.lines t.control.place _ stands (spot_of code.lines n c.tasks t is w.spots).place; is = end_found code t.control.place _ stands; stands = stands }

        out : LeavesConstruct code seen (left_by code (end_at code t.control.place).out t.control) t.own
        out = left_framed code table tasks barriers seen sound fits t.control.place t.control.returns t.own (end_at code t.control.place) p pends

        go : Option ℕ → Type 0
        go = λ v. Holds code.lines seen v t.control.returns t.own.opened

        some_holds : (x : Option EndLine) → Found x (λ l. MayPend (Some p) l.last × StandsBy code.lines seen (λ v. Holds code.lines seen v t.control.returns t.own.opened) (has_left (Some p) l.last) l t.control.place t.own.display) → (v : Option ℕ) × Holds code.lines seen v t.control.returns t.own.opened
        some_holds None h = absurd h
        some_holds (Some l) h = at (has_left (Some p) l.last) h.1
          where
            at : (b : Bool) → StandsBy code.lines seen (λ v. Holds code.lines seen v t.control.returns t.own.opened) b l t.control.place t.own.display → (v : Option ℕ) × Holds code.lines seen v t.control.returns t.own.opened
            at false k = (l.within, k.1)
            at true k = around (opener code.lines l.within) k.1
              where
                around : (y : Option EndLine) → Found y (λ o. Holds code.lines seen o.within t.control.returns t.own.opened) → (v : Option ℕ) × Holds code.lines seen v t.control.returns t.own.opened
                around None k = absurd k
                around (Some o) k = (o.within, k)

        by : (q : Purpose) → out.o.purpose ≡ q → Kept (done (orders plan code table tasks barriers seen sound fits ways) plan (flat_controls plan code).barrier limits alternative (is_left_by p) n c)
        by for_body e =
            let held = some_holds (found code.lines t.control.place) stands in
            let last : out.os ≡ [] = last_body code seen held.0 t.control.returns t.own.opened t.own out.o out.os held.1 refl out.opened e in
            body_left_by plan code table tasks barriers seen sound fits ways limits alternative n c t out.o p w is running (out.opened ∙ ap (λ ps. out.o ∷ ps) last) e
        by for_block e =
            left_by_exception plan code table tasks barriers seen sound fits ways limits alternative n c t out.o out.os p w is running pending still out.opened (inl e)
            (closable_of n c t.own out.o out.os own_is out.opened (inl e) tells)
        by for_loop e = absurd (subst (λ x. LeadsTo code seen ((r : Pending) → StandsAt code.lines seen (Some r) (left_by code (end_at code t.control.place).out t.control) out.o.saved out.os) x (left_by code (end_at code t.control.place).out t.control) out.o.saved out.os) e out.leads)
        by (for_procedure r) e =
            left_by_exception plan code table tasks barriers seen sound fits ways limits alternative n c t out.o out.os p w is running pending still out.opened (inr (r, e))
            (closable_of n c t.own out.o out.os own_is out.opened (inr (r, e)) tells)
        by (for_operation m r) e =
            left_operation plan code table tasks barriers seen sound fits ways limits alternative n c t out.o out.os m r p w is running pending still unserving unmade out.opened e
        by (for_entry m id served back) e =
            left_entry plan code table tasks barriers seen sound fits ways limits alternative n c t out.o out.os m id served back p w is running pending unserving unmade out.opened e
        by (for_accept id) e = accept_left_good plan code table tasks barriers seen sound fits ways limits alternative n c t out.o out.os id p w is running pending out.opened e
