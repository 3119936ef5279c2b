-- Where tasks go on.
use Rattle.std.proofs.Common.{◌≡◌, ℕ, ◌+◌, List, [], ◌∷◌, ◌++◌, length, le_refl, inr, refl, sym, subst, arith, Option, Some, None}
use Rattle.std.proofs.lemmas.List.{get_or_past}
use Rattle.aud_text.specs.declared.place.Pos.{Pos}
use Rattle.aud_typed.specs.Tree.{Statement, sequence, plain_loop, Part, nothing, some, Handlers, Body, body, Doing, without_do, with_do}
use Rattle.aud_meaning.specs.declared.state.Construct.{Construct}
use Rattle.aud_meaning.specs.declared.state.Construct.TheVariants as construct
use Rattle.aud_meaning.specs.Configuration.{Item, Do, InLoop, InFor, Begin, Ends, Leaving}
use Rattle.aud_meaning.specs.Items.{entered, resumed, before, body_before, doing_by}
use Rattle.aud_code.specs.Places.{Way, Spot}
use Rattle.aud_layout.specs.Layout.{Line, Around, in_loop, in_call, around_out, ways_count, statement_size, main_size, end_place, end_line, line, statement_code, part_code, part_place, doing_place, body_code, main_code, doing_code, Code, no_line}
use Rattle.aud_layout.specs.Shows.{HasAt, IsStep, EndsAt, Stands, ShowsControl}
use Rattle.aud_layout.proofs.Standing.Places.{has_front, has_back, has_moved, has_all, main_at, body_at, length-statement}

-- the line of a step says what it is and where its exceptions go
pub record First (s : Statement) (place next : ℕ) (a : Around) : Type 0 where
  pub ways : List ℕ
  pub bodies : List ℕ
  pub out : Option Way
  pub more : List Line
  pub is : statement_code s place next a ≡ line s ways bodies out a ∷ more

pub first : (s : Statement) (place next : ℕ) (a : Around) → IsStep s → First s place next a
first (sequence x y) place next a is = absurd is
first (plain_loop x) place next a is = absurd is
first s place next a is = record { ways = _; bodies = _; out = _; more = _; is = refl }

module _ (code : Code) where
  abbrev pub at_place : ℕ → List ℕ → Spot
  at_place place returns = record { place = place; returns = returns }

  -- nothing is left to do
  pub shown_none : ShowsControl code (at_place (length code.lines) []) []
  shown_none = record { around = in_call None (length code.lines); stands = (get_or_past code.lines (length code.lines) (no_line (length code.lines)) (le_refl (length code.lines)), refl, refl); settled = tt }

  module _ (returns : List ℕ) where
    comes_first : (s : Statement) (around : Around) (place next : ℕ) (rest : List Item) → IsStep s → HasAt code.lines place (statement_code s place next around) → Stands code around next returns rest → ShowsControl code (at_place place returns) (Do s ∷ rest)
    comes_first s around place next rest is has st = record { around = around; stands = (next, has, st); settled = is }

    -- a statement is entered without a step
    pub enters : (s : Statement) (around : Around) (place next : ℕ) (rest : List Item) → HasAt code.lines place (statement_code s place next around) → Stands code around next returns rest → ShowsControl code (at_place place returns) (entered s rest)
    enters (sequence x y) around place next rest has st =
        let size = statement_size x (ways_count around) in
        let middle = place + size in
        let cx = statement_code x place middle around in
        let cy = statement_code y middle next around in
        enters x around place middle (Do y ∷ rest) (has_front code.lines place cx cy has) (next, has_back code.lines place size cx cy (length-statement x place middle around) has, st)
    enters (plain_loop x) around place next rest has st = enters x (in_loop next around) place place (InLoop (plain_loop x) ∷ rest) has (next, around, refl, has, st)
    enters s around place next rest has st = comes_first s around place next rest tt has st

    -- the statements of a construct, whose end stands behind them
    pub main_stands : (c : Construct) (s : Statement) (h : Handlers) (end : Pos) (around : Around) (place next out : ℕ) (rest : List Item) → HasAt code.lines place (main_code c s h end place next out around) → EndsAt c (λ a p rs. Stands code a p rs rest) code end around.exits around.back around.within (place + main_size s h (ways_count around)) returns rest → ShowsControl code (at_place place returns) (entered s (Ends c h end ∷ rest))
    main_stands c s h end around place next out rest has ends =
        let it = main_at code.lines c s h end place next out around [] (has_all code.lines place _ has) in
        enters s _ place _ (Ends c h end ∷ rest) it.statements (inr it.guarding, ends)

    -- what is no step is passed
    pub resumes : (items : List Item) (around : Around) (place : ℕ) → Stands code around place returns items → ShowsControl code (at_place place returns) (resumed items)
    resumes [] around place st = record { around = around; stands = st; settled = tt }
    resumes (Do s ∷ rest) around place st = enters s around place st.0 rest st.1 st.2
    resumes (InLoop s ∷ rest) around place st = enters s st.1 place st.0 rest st.3 st.4
    resumes (InFor s ∷ rest) around place st = record { around = around; stands = st; settled = tt }
    resumes (Begin c s h end ∷ rest) around place st =
        main_stands c s h end around place st.0 st.1 rest st.3 (subst (λ p. EndsAt c (λ a p rs. Stands code a p rs rest) code end around.exits around.back around.within p returns rest) st.2 st.4)
    resumes (Ends c h end ∷ rest) around place st = record { around = around; stands = st; settled = tt }
    resumes (Leaving m end ∷ rest) around place st = record { around = around; stands = st; settled = tt }

    abbrev pub end_of : Body → Pos
    end_of (body d begin s h end) = end

    -- a construct from its declarations on
    pub body_stands : (c : Construct) (b : Body) (around : Around) (place next out : ℕ) (rest : List Item) → HasAt code.lines place (body_code c b place next out around) → EndsAt c (λ a p rs. Stands code a p rs rest) code (end_of b) around.exits around.back around.within (end_place b place (ways_count around)) returns rest → ShowsControl code (at_place place returns) (body_before c b rest)
    body_stands c (body nothing begin s h end) around place next out rest has ends =
        let zero_more : place + 0 ≡ place = omega arith in
        let moved = has_moved code.lines place (place + 0) (main_code c s h end (place + 0) next out around) (sym zero_more) has in
        subst (λ p. ShowsControl code (at_place p returns) (entered s (Ends c h end ∷ rest))) zero_more (main_stands c s h end around (place + 0) next out rest moved ends)
    body_stands c (body (some d) begin s h end) around place next out rest has ends =
        let e = ways_count around in
        let size = statement_size d e in
        let middle = place + size in
        let last = middle + main_size s h e in
        let cd = statement_code d place middle (around_out last around) in
        let cm = main_code c s h end middle next out around in
        enters d (around_out last around) place middle (Begin c s h end ∷ rest) (has_front code.lines place cd cm has)
        (next, out, refl, has_back code.lines place size cd cm (length-statement d place middle (around_out last around)) has, ends)

    -- a part that may be missing, and what follows
    pub before_stands : (p : Part) (around : Around) (place next : ℕ) (rest : List Item) → HasAt code.lines place (part_code p place next around) → Stands code around next returns rest → Stands code around (part_place p place next) returns (before p rest)
    before_stands nothing around place next rest has st = st
    before_stands (some s) around place next rest has st = (next, has, st)

    pub part_stands : (p : Part) (around : Around) (place next : ℕ) (rest : List Item) → HasAt code.lines place (part_code p place next around) → Stands code around next returns rest → ShowsControl code (at_place (part_place p place next) returns) (resumed (before p rest))
    part_stands p around place next rest has st = resumes (before p rest) around (part_place p place next) (before_stands p around place next rest has st)

  -- the end of a construct, and what stands behind it
  pub has_end : (c : Construct) (d : Part) (begin : Pos) (s : Statement) (h : Handlers) (end : Pos) (place next out : ℕ) (a : Around) (more : List Line) → HasAt code.lines place (body_code c (body d begin s h end) place next out a ++ more) → HasAt code.lines (end_place (body d begin s h end) place (ways_count a)) (end_line c end next out a.within ∷ more)
  has_end c d begin s h end place next out a more has = let it = body_at code.lines c d begin s h end place next out a more has in it.main.ended

  module _ (returns : List ℕ) where
    -- what an accept does
    pub doing_stands : (d : Doing) (outer : Around) (opener place next : ℕ) (rest : List Item) → HasAt code.lines place (doing_code d opener place next outer.out) → Stands code outer next returns rest → ShowsControl code (at_place (doing_place d place next) returns) (doing_by d rest)
    doing_stands without_do outer opener place next rest has st = resumes returns rest outer next st
    doing_stands (with_do n (body d begin s h end)) outer opener place next rest has st =
        let b = body d begin s h end in
        let inner = in_call (Some opener) (end_place b place 1) in
        body_stands returns construct.Accept b inner place next outer.out rest has (next, outer, refl, refl, has_end construct.Accept d begin s h end place next outer.out inner [] (has_all code.lines place _ has), st)
