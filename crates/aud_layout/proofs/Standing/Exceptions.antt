-- Where exceptions go.
use Rattle.std.proofs.Common.{◌≡◌, ℕ, suc, ◌+◌, List, [], ◌∷◌, inl, inr, refl, sym, ap, ◌∙◌, subst, Option, Some, None, Bool, true, false, ◌||◌, if◌then◌else◌}
use Rattle.aud_text.specs.declared.place.Pos.{Pos}
use Rattle.aud_typed.specs.declared.program.Exception.{Exception}
use Rattle.aud_typed.specs.Tree.{Statement, Part, nothing, some, Handlers, no_handlers, handler}
use Rattle.aud_meaning.specs.declared.state.Construct.{Construct}
use Rattle.aud_meaning.specs.declared.state.Construct.TheVariants as construct
use Rattle.aud_meaning.specs.Configuration.{Item, Do, InLoop, InFor, Begin, Ends, Leaving}
use Rattle.aud_meaning.specs.Items.{entered, place, nowhere, names_it, handler_for, Reached, reached, reached_behind, reached_at, is_some_part, handling_by, left_from}
use Rattle.aud_layout.specs.Layout.{ends, guards_of, handler_by, end_by, out_of_end, left_by, Line, Around, around_out, ways_count, statement_size, end_line, stub_line, guard_line, statement_code, handlers_code, Code, no_line, line_at, back_to}
use Rattle.aud_code.specs.Places.{guarded, is_there, Way, Spot, goes, goes_there}
use Rattle.aud_layout.specs.Shows.{HasAt, IsSettled, HandlersAt, EndsAt, Stands, ShowsControl}
use Rattle.aud_layout.proofs.Standing.Places.{has_front, has_back, has_tail, line_is, length-statement}
use Rattle.aud_layout.proofs.Standing.Orders.{step_line}
use Rattle.aud_layout.proofs.Standing.Items.{end_is, for_is, callers_shown}
use Rattle.aud_layout.proofs.Standing.Control.{first, at_place, shown_none, enters}

module _ (code : Code) where
  -- from the line where a construct ends, and from the line before its handlers
  left_end : (c : Construct) (end : Pos) (next to : ℕ) (within : Option ℕ) (out : ℕ) (s : Spot) → line_at code out ≡ end_line c end next to within → left_by code out s ≡ out_of_end code (ends c next) out s
  left_end c end next to within out s e =
      ap (λ (l : Line). out_of_end code (line_at code (end_by code l.what out)).what (end_by code l.what out) s) e ∙ ap (λ (l : Line). out_of_end code l.what out s) e

  left_stub : (m to place : ℕ) (end : Pos) (within : Option ℕ) (s : Spot) → line_at code place ≡ stub_line m to end within place → left_by code place s ≡ goes place s
  left_stub m to place end within s e =
      ap (λ (l : Line). out_of_end code (line_at code (end_by code l.what place)).what (end_by code l.what place) s) e ∙ ap (λ (l : Line). out_of_end code l.what place s) e

  left_guard : (c : Construct) (end : Pos) (next to guard handling last e : ℕ) (within : Option ℕ) (h : Handlers) (s : Spot) → line_at code guard ≡ guard_line h end handling last e within → line_at code last ≡ end_line c end next to within → left_by code guard s ≡ out_of_end code (ends c next) last s
  left_guard c end next to guard handling last e within h s g l =
      ap (λ (l : Line). out_of_end code (line_at code (end_by code l.what guard)).what (end_by code l.what guard) s) g
      ∙ ap (λ (l : Line). out_of_end code (line_at code l.out).what l.out s) g
      ∙ ap (λ (l : Line). out_of_end code l.what last s) l

  module _ (returns : List ℕ) where
    -- the handler, and where it stands
    abbrev pub Catches : Part → Option ℕ → List Item → Type 0
    Catches nothing None from = Unit {0}
    Catches nothing (Some to) from = ⊥
    Catches (some s) None from = ⊥
    Catches (some s) (Some to) from = ShowsControl code (at_place code to returns) (entered s from)

    -- exceptions that go to this place
    pub record LeadsOut (out : ℕ) (x : Exception) (r : Reached) : Type 0 where
      pub catches : Catches r.handler (handler_by (line_at code out).what x) r.from
      pub left : (p : ℕ) → ShowsControl code (left_by code out (at_place code p returns)) (left_from r.from)

    catches_if : (b : Bool) (s : Statement) (at : ℕ) (p : Part) (w : Option ℕ) (from : List Item) → Catches (some s) (Some at) from → Catches p w from → Catches (if b then some s else p) (if b then Some at else w) from
    catches_if true s at p w from g h = g
    catches_if false s at p w from g h = h

    catches_in : (x : Exception) (h : Handlers) (around : Around) (at last : ℕ) (from : List Item) → HasAt code.lines at (handlers_code h at last around) → Stands code around last returns from → Catches (handler_for x h) (guarded x (guards_of h at (ways_count around))) from
    catches_in x no_handlers around at last from has st = tt
    catches_in x (handler others choices s more) around at last from has st =
        let size = statement_size s (ways_count around) in
        let cs = statement_code s at last around in
        let cm = handlers_code more (at + size) last around in
        catches_if (others || names_it x choices) s at (handler_for x more) (guarded x (guards_of more (at + size) (ways_count around))) from
        (enters code returns s around at last from (has_front code.lines at cs cm has) st)
        (catches_in x more around (at + size) last from (has_back code.lines at size cs cm (length-statement s at last around) has) st)

    -- out of a construct
    end_shown : (c : Construct) (end : Pos) (exits : List Way) (back : Way) (within : Option ℕ) (next place : ℕ) (rest : List Item) (p : ℕ) → EndsAt c (λ a p rs. Stands code a p rs rest) code end exits back within place returns rest → ShowsControl code (out_of_end code (ends c next) place (at_place code p returns)) (left_from (Ends c no_handlers end ∷ rest))
    end_shown construct.Block end exits back within next place rest p es = record { around = record { out = place; within = within; exits = exits; back = back }; stands = (inl (refl, refl), es); settled = tt }
    end_shown construct.Accept end exits back within next place rest p es = record { around = record { out = place; within = within; exits = exits; back = back }; stands = (inl (refl, refl), es); settled = tt }
    end_shown construct.Unit end exits back within next place rest p es = callers_shown code returns rest returns es.3

    -- where there is no handler
    none_caught : (w : Option ℕ) (from : List Item) → w ≡ None → Catches nothing w from
    none_caught w from e = subst (λ v. Catches nothing v from) (sym e) tt

    leads_end : (x : Exception) (c : Construct) (end : Pos) (exits : List Way) (back : Way) (within : Option ℕ) (place : ℕ) (rest : List Item) → EndsAt c (λ a p rs. Stands code a p rs rest) code end exits back within place returns rest → LeadsOut place x (record { handler = nothing; from = Ends c no_handlers end ∷ rest })
    leads_end x c end exits back within place rest es =
        let l = end_is code returns c end exits back within place rest es in
        record {
          catches = none_caught (handler_by (line_at code place).what x) (Ends c no_handlers end ∷ rest) (ap (λ (l : Line). handler_by l.what x) l.2);
          left = λ p. subst (λ s. ShowsControl code s (left_from (Ends c no_handlers end ∷ rest))) (sym (left_end c end l.0 l.1 within place (at_place code p returns) l.2)) (end_shown c end exits back within l.0 place rest p es);
        }

    leads_guard : (x : Exception) (c : Construct) (h : Handlers) (end : Pos) (around : Around) (place : ℕ) (rest : List Item) → HandlersAt code around place end h → EndsAt c (λ a p rs. Stands code a p rs rest) code end around.exits around.back around.within place returns rest → LeadsOut around.out x (record { handler = handler_for x h; from = Ends c no_handlers end ∷ rest })
    leads_guard x c h end around place rest (inl none) es =
        let at_end = leads_end x c end around.exits around.back around.within place rest es in
        let from = Ends c no_handlers end ∷ rest in
        let one = subst (λ o. LeadsOut o x (record { handler = nothing; from = from })) (sym none.1) at_end in
        subst (λ g. LeadsOut around.out x (record { handler = handler_for x g; from = from })) (sym none.0) one
    leads_guard x c h end around place rest (inr has) es =
        let from = Ends c no_handlers end ∷ rest in
        let e = ways_count around in
        let g = line_is code around.out _ _ has in
        let l = end_is code returns c end around.exits around.back around.within place rest es in
        let at_end : Stands code (around_out place around) place returns from = (inl (refl, refl), es) in
        let caught = catches_in x h (around_out place around) (suc around.out) place from (has_tail code.lines around.out _ _ has) at_end in
        record {
          catches = subst (λ (l : Line). Catches (handler_for x h) (handler_by l.what x) from) (sym g) caught;
          left = λ p. subst (λ s. ShowsControl code s (left_from from)) (sym (left_guard c end l.0 l.1 around.out (suc around.out) place e around.within h (at_place code p returns) g l.2)) (end_shown c end around.exits around.back around.within l.0 place rest p es);
        }

    -- nothing is left to do
    leads_none : (x : Exception) (place : ℕ) → line_at code place ≡ no_line place → returns ≡ [] → LeadsOut place x (record { handler = nothing; from = [] })
    leads_none x place e r =
        let shown : ShowsControl code (back_to code returns) [] = subst (λ rs. ShowsControl code (back_to code rs) []) (sym r) (shown_none code) in
        record {
          catches = none_caught (handler_by (line_at code place).what x) [] (ap (λ (l : Line). handler_by l.what x) e);
          left = λ p. subst (λ s. ShowsControl code s []) (sym (left_end construct.Unit nowhere 0 place None place (at_place code p returns) e)) shown;
        }

    -- a block on the way out
    leads_leaving : (x : Exception) (m : ℕ) (end : Pos) (rest : List Item) (around : Around) (place : ℕ) → Stands code around place returns (Leaving m end ∷ rest) → LeadsOut place x (record { handler = nothing; from = Leaving m end ∷ rest })
    leads_leaving x m end rest around place st =
        let l = line_is code place _ _ st.3 in
        record {
          catches = none_caught (handler_by (line_at code place).what x) (Leaving m end ∷ rest) (ap (λ (l : Line). handler_by l.what x) l);
          left = λ p. subst (λ s. ShowsControl code s (Leaving m end ∷ rest)) (sym (left_stub m st.0 place end around.within (at_place code p returns) l)) (record { around = around; stands = st; settled = tt });
        }

    leads : (x : Exception) (items : List Item) (around : Around) (place : ℕ) → Stands code around place returns items → LeadsOut around.out x (reached x items)
    leads x [] around place st = subst (λ (a : Around). LeadsOut a.out x (record { handler = nothing; from = [] })) (sym st.2) (leads_none x place st.0 st.1)
    leads x (Do s ∷ rest) around place st = leads x rest around st.0 st.2
    leads x (InLoop s ∷ rest) around place st = subst (λ (a : Around). LeadsOut a.out x (reached x rest)) (sym st.2) (leads x rest st.1 st.0 st.4)
    leads x (InFor s ∷ rest) around place st = subst (λ (a : Around). LeadsOut a.out x (reached x rest)) (sym st.4) (leads x rest st.1 st.0 st.7)
    leads x (Begin c s h end ∷ rest) around place st = leads_end x c end around.exits around.back around.within around.out rest st.4
    leads x (Ends c h end ∷ rest) around place st = leads_guard x c h end around place rest st.0 st.1
    leads x (Leaving m end ∷ rest) around place st = subst (λ (a : Around). LeadsOut a.out x (record { handler = nothing; from = Leaving m end ∷ rest })) (sym st.2) (leads_leaving x m end rest around place st)

    leads_behind : (x : Exception) (c : Construct) (h : Handlers) (end : Pos) (exits : List Way) (back : Way) (within : Option ℕ) (place : ℕ) (rest : List Item) → EndsAt c (λ a p rs. Stands code a p rs rest) code end exits back within place returns rest → LeadsOut (line_at code place).out x (reached_behind c end x rest)
    leads_behind x construct.Block h end exits back within place rest es = subst (λ (l : Line). LeadsOut l.out x (reached x rest)) (sym (line_is code place _ _ es.4)) (leads x rest es.1 es.0 es.5)
    leads_behind x construct.Accept h end exits back within place rest es = subst (λ (l : Line). LeadsOut l.out x (reached x rest)) (sym (line_is code place _ _ es.4)) (leads x rest es.1 es.0 es.5)
    leads_behind x construct.Unit h end exits back within place rest es =
        subst (λ (l : Line). LeadsOut l.out x (record { handler = nothing; from = Ends construct.Unit no_handlers end ∷ rest })) (sym (line_is code place _ _ es.2)) (leads_end x construct.Unit end exits back within place rest es)

    -- from where a task stands
    pub leads_at : (x : Exception) (items : List Item) (around : Around) (place : ℕ) → Stands code around place returns items → IsSettled items → LeadsOut (line_at code place).out x (reached_at x items)
    leads_at x [] around place st is = subst (λ (l : Line). LeadsOut l.out x (record { handler = nothing; from = [] })) (sym st.0) (leads_none x place st.0 st.1)
    leads_at x (Do s ∷ rest) around place st is =
        subst (λ (l : Line). LeadsOut l.out x (reached x rest)) (sym (step_line code s around place st.0 is st.1 (first s place st.0 around is))) (leads x rest around st.0 st.2)
    leads_at x (InLoop s ∷ rest) around place st is = absurd is
    leads_at x (InFor s ∷ rest) around place st is =
        let l = for_is code s st.2 st.0 st.1 st.5 st.6 in
        subst (λ (l : Line). LeadsOut l.out x (reached x rest)) (sym (ap (line_at code) st.3 ∙ l.1)) (leads x rest st.1 st.0 st.7)
    leads_at x (Begin c s h end ∷ rest) around place st is = absurd is
    leads_at x (Ends c h end ∷ rest) around place st is = leads_behind x c h end around.exits around.back around.within place rest st.1
    leads_at x (Leaving m end ∷ rest) around place st is =
        subst (λ (l : Line). LeadsOut l.out x (record { handler = nothing; from = Leaving m end ∷ rest })) (sym (line_is code place _ _ st.3)) (leads_leaving x m end rest around place st)

    pub reads_handles : (p : Part) (w : Option ℕ) (from : List Item) → Catches p w from → is_there w ≡ is_some_part p
    reads_handles nothing None from h = refl
    reads_handles nothing (Some to) from h = absurd h
    reads_handles (some s) None from h = absurd h
    reads_handles (some s) (Some to) from h = refl

    pub handling_shown : (p : Part) (w : Option ℕ) (from items : List Item) (place : ℕ) → Catches p w from → ShowsControl code (at_place code place returns) items → ShowsControl code (goes_there w (at_place code place returns)) (handling_by p from items)
    handling_shown nothing None from items place h all = all
    handling_shown nothing (Some to) from items place h all = absurd h
    handling_shown (some s) None from items place h all = absurd h
    handling_shown (some s) (Some to) from items place h all = h
