-- What is read and ordered at each item.
use Rattle.std.proofs.Common.{◌≡◌, ℕ, zero, suc, List, [], ◌∷◌, refl, sym, ap, ◌∙◌, subst, Option, Some, None, false}
use Rattle.aud_text.specs.declared.place.Pos.{Pos}
use Rattle.aud_typed.specs.Tree.{IntegerExpression, For, Statement, sequence, plain_loop, for_loop, accept, select, Handlers, Program}
use Rattle.aud_meaning.specs.declared.state.Construct.{Construct}
use Rattle.aud_meaning.specs.declared.state.Construct.TheVariants as construct
use Rattle.aud_meaning.specs.Configuration.{Item, Do, InLoop, InFor, Begin, Ends, Leaving}
use Rattle.aud_meaning.specs.Evaluation.{Sight}
use Rattle.aud_meaning.specs.Control.{Scene, next_of_loop}
use Rattle.aud_meaning.specs.Items.{entered, resumed, doing_by, ended, takes, takes_next, accepts, accepts_by, accepts_offer, offer_at, place, nowhere, next_at, loops_out, out_from}
use Rattle.aud_meaning.specs.Statements.{asked_statement, next_asked, asked_item, coming_item}
use Rattle.aud_layout.specs.Layout.{continues, asked_by, coming_by, Line, Around, in_for, end_line, statement_code, offered_code, Code, line_at, back_to, ended_by}
use Rattle.aud_code.specs.Places.{Way}
use Rattle.aud_layout.specs.Shows.{HasAt, IsStep, IsSettled, IsFor, Callers, EndsAt, Stands, ShowsControl}
use Rattle.aud_layout.proofs.Standing.Places.{has_front, has_tail, line_is}
use Rattle.aud_layout.proofs.Standing.Orders.{step_line, Leads, offers, takes_do}
use Rattle.aud_layout.proofs.Standing.Control.{first, at_place, shown_none, enters, resumes, doing_stands}

-- the end of a for loop's statements is that of a for loop
pub for_by : (P : Statement → Type 0) → ((f : For) (x y : IntegerExpression) (b : Statement) → P (for_loop f x y b)) → (s : Statement) → IsFor s → P s
for_by P go (for_loop f x y b) is = go f x y b
for_by P go s is = absurd is

abbrev pub no_for : For
no_for = record { at = nowhere; next_at = nowhere; region = 0; backward = false }

abbrev pub for_of : Statement → For
for_of (for_loop f x y b) = f
for_of s = no_for

next_asked_is : (s : Statement) → IsFor s → next_asked s ≡ next_of_loop (for_of s)
next_asked_is s is = for_by (λ s. next_asked s ≡ next_of_loop (for_of s)) (λ f x y b. refl) s is

next_at_is : (s : Statement) → IsFor s → next_at s ≡ (for_of s).next_at
next_at_is s is = for_by (λ s. next_at s ≡ (for_of s).next_at) (λ f x y b. refl) s is

module _ (code : Code) where
  -- the line where the next value of a for loop is taken
  abbrev pub next_line : For → ℕ → ℕ → Around → Line
  next_line f at next outer = record { what = continues f; at = f.next_at; out = outer.out; within = Some at; ways = next ∷ suc (suc at) ∷ []; bodies = []; exit = None }

  pub for_is : (s : Statement) (at next : ℕ) (outer : Around) → IsFor s → HasAt code.lines at (statement_code s at next outer) → (f : For) × (line_at code (suc at) ≡ next_line f at next outer) × (f ≡ for_of s)
  for_is s at next outer is has =
      for_by (λ s. HasAt code.lines at (statement_code s at next outer) → (f : For) × (line_at code (suc at) ≡ next_line f at next outer) × (f ≡ for_of s))
      (λ f x y b h. (f, line_is code (suc at) _ _ (has_tail code.lines at _ _ h), refl)) s is has

  module _ (returns : List ℕ) where
    with_line : (P : Line → Type 0) (place : ℕ) (l : Line) → line_at code place ≡ l → P l → P (line_at code place)
    with_line P place l e h = subst P (sym e) h

    takes_for : (f : For) (x y : IntegerExpression) (b : Statement) (at next : ℕ) (outer : Around) (rest : List Item) → HasAt code.lines at (statement_code (for_loop f x y b) at next outer) → Stands code outer next returns rest → (n : ℕ) → Leads code returns (suc at) (line_at code (suc at)).ways n (takes_next (for_loop f x y b) n rest)
    takes_for f x y b at next outer rest has st zero =
        with_line (λ l. Leads code returns (suc at) l.ways zero (resumed rest)) (suc at) _ (line_is code (suc at) _ _ (has_tail code.lines at _ _ has)) (resumes code returns rest outer next st)
    takes_for f x y b at next outer rest has st (suc zero) =
        with_line (λ l. Leads code returns (suc at) l.ways 1 (entered b (InFor (for_loop f x y b) ∷ rest))) (suc at) _ (line_is code (suc at) _ _ (has_tail code.lines at _ _ has))
        (enters code returns b (in_for at next outer) (suc (suc at)) (suc at) (InFor (for_loop f x y b) ∷ rest) (has_tail code.lines (suc at) _ _ (has_tail code.lines at _ _ has)) (next, outer, at, refl, refl, tt, has, st))
    takes_for f x y b at next outer rest has st (suc (suc n)) =
        with_line (λ l. Leads code returns (suc at) l.ways (suc (suc n)) (InFor (for_loop f x y b) ∷ rest)) (suc at) _ (line_is code (suc at) _ _ (has_tail code.lines at _ _ has))
        (record { around = in_for at next outer; stands = (next, outer, at, refl, refl, tt, has, st); settled = tt })

    -- the line where a construct ends
    pub end_is : (c : Construct) (end : Pos) (exits : List Way) (back : Way) (within : Option ℕ) (place : ℕ) (rest : List Item) → EndsAt c (λ a p rs. Stands code a p rs rest) code end exits back within place returns rest → (next : ℕ) × (out : ℕ) × (line_at code place ≡ end_line c end next out within)
    end_is construct.Block end exits back within place rest es = (es.0, es.1.out, line_is code place _ _ es.4)
    end_is construct.Accept end exits back within place rest es = (es.0, es.1.out, line_is code place _ _ es.4)
    end_is construct.Unit end exits back within place rest es = (0, place, line_is code place _ _ es.2)

    pub takes_at : (items : List Item) (around : Around) (place : ℕ) → Stands code around place returns items → IsSettled items → (n : ℕ) → Leads code returns place (line_at code place).ways n (takes n items)
    takes_at [] around place st is n = with_line (λ l. Leads code returns place l.ways n []) place _ st.0 (record { around = around; stands = st; settled = tt })
    takes_at (Do s ∷ rest) around place st is n = takes_do code returns s around place st.0 rest is st.1 st.2 n
    takes_at (InLoop s ∷ rest) around place st is n = absurd is
    takes_at (InFor s ∷ rest) around place st is n =
        for_by (λ s. HasAt code.lines st.2 (statement_code s st.2 st.0 st.1) → Leads code returns place (line_at code place).ways n (takes_next s n rest))
        (λ f x y b has. subst (λ p. Leads code returns p (line_at code p).ways n (takes_next (for_loop f x y b) n rest)) (sym st.3) (takes_for f x y b st.2 st.0 st.1 rest has st.7 n)) s st.5 st.6
    takes_at (Begin c s h end ∷ rest) around place st is n = absurd is
    takes_at (Ends c h end ∷ rest) around place st is n =
        let l = end_is c end around.exits around.back around.within place rest st.1 in
        with_line (λ l. Leads code returns place l.ways n (Ends c h end ∷ rest)) place _ l.2 (record { around = around; stands = st; settled = tt })
    takes_at (Leaving m end ∷ rest) around place st is n = with_line (λ l. Leads code returns place l.ways n (Leaving m end ∷ rest)) place _ (line_is code place _ _ st.3) (record { around = around; stands = st; settled = tt })

    accepts_do : (s : Statement) (around : Around) (place next : ℕ) (rest : List Item) → IsStep s → HasAt code.lines place (statement_code s place next around) → Stands code around next returns rest → (k : ℕ) → Leads code returns place (line_at code place).bodies k (accepts_by s k rest)
    accepts_do (sequence x y) around place next rest is has st k = absurd is
    accepts_do (plain_loop x) around place next rest is has st k = absurd is
    accepts_do (accept pos m d) around place next rest is has st zero = with_line (λ l. Leads code returns place l.bodies zero (doing_by d rest)) place _ (line_is code place _ _ has) (doing_stands code returns d around place (suc place) next rest (has_tail code.lines place _ _ has) st)
    accepts_do (select pos offered p) around place next rest is has st (suc k) =
        let all : ShowsControl code (at_place code place returns) (Do (select pos offered p) ∷ rest) = record { around = around; stands = (next, has, st); settled = tt } in
        let it = offers code returns offered (select pos offered p) around place (suc place) next rest all (has_front code.lines (suc place) (offered_code offered place (suc place) next around) _ (has_tail code.lines place _ _ has)) st k in
        with_line (λ l. Leads code returns place l.bodies (suc k) (accepts_offer (offer_at offered k) (select pos offered p) rest)) place _ (line_is code place _ _ has) it.1
    accepts_do s around place next rest is has st k = with_line (λ l. Leads code returns place l.bodies k (Do s ∷ rest)) place _ (line_is code place _ _ has) (record { around = around; stands = (next, has, st); settled = tt })

    pub accepts_at : (items : List Item) (around : Around) (place : ℕ) → Stands code around place returns items → IsSettled items → (n : ℕ) → Leads code returns place (line_at code place).bodies n (accepts n items)
    accepts_at [] around place st is n = with_line (λ l. Leads code returns place l.bodies n []) place _ st.0 (record { around = around; stands = st; settled = tt })
    accepts_at (Do s ∷ rest) around place st is n = accepts_do s around place st.0 rest is st.1 st.2 n
    accepts_at (InLoop s ∷ rest) around place st is n = absurd is
    accepts_at (InFor s ∷ rest) around place st is n =
        let whole : ShowsControl code (at_place code place returns) (InFor s ∷ rest) = record { around = around; stands = st; settled = tt } in
        let l = for_is s st.2 st.0 st.1 st.5 st.6 in
        with_line (λ l. Leads code returns place l.bodies n (InFor s ∷ rest)) place _ (ap (line_at code) st.3 ∙ l.1) whole
    accepts_at (Begin c s h end ∷ rest) around place st is n = absurd is
    accepts_at (Ends c h end ∷ rest) around place st is n =
        let l = end_is c end around.exits around.back around.within place rest st.1 in
        with_line (λ l. Leads code returns place l.bodies n (Ends c h end ∷ rest)) place _ l.2 (record { around = around; stands = st; settled = tt })
    accepts_at (Leaving m end ∷ rest) around place st is n = with_line (λ l. Leads code returns place l.bodies n (Leaving m end ∷ rest)) place _ (line_is code place _ _ st.3) (record { around = around; stands = st; settled = tt })

    -- behind the end of a construct, or out of a body
    pub callers_shown : (rest : List Item) (rs : List ℕ) → Callers (λ a p rs. Stands code a p rs rest) rs rest → ShowsControl code (back_to code rs) rest
    callers_shown rest [] e = subst (ShowsControl code (back_to code [])) (sym e) (shown_none code)
    callers_shown rest (r ∷ rs) cs = record { around = cs.0; stands = cs.1; settled = cs.2 }

    behind_end : (c : Construct) (h : Handlers) (end : Pos) (exits : List Way) (back : Way) (within : Option ℕ) (place : ℕ) (rest : List Item) → EndsAt c (λ a p rs. Stands code a p rs rest) code end exits back within place returns rest → ShowsControl code (ended_by code (line_at code place).what (at_place code place returns)) (ended (Ends c h end ∷ rest))
    behind_end construct.Block h end exits back within place rest es =
        with_line (λ l. ShowsControl code (ended_by code l.what (at_place code place returns)) (resumed rest)) place _ (line_is code place _ _ es.4) (resumes code returns rest es.1 es.0 es.5)
    behind_end construct.Accept h end exits back within place rest es =
        with_line (λ l. ShowsControl code (ended_by code l.what (at_place code place returns)) (resumed rest)) place _ (line_is code place _ _ es.4) (resumes code returns rest es.1 es.0 es.5)
    behind_end construct.Unit h end exits back within place rest es =
        with_line (λ l. ShowsControl code (ended_by code l.what (at_place code place returns)) rest) place _ (line_is code place _ _ es.2) (callers_shown rest returns es.3)

    pub behind_at : (items : List Item) (around : Around) (place : ℕ) → Stands code around place returns items → IsSettled items → ShowsControl code (ended_by code (line_at code place).what (at_place code place returns)) (ended items)
    behind_at [] around place st is =
        with_line (λ l. ShowsControl code (ended_by code l.what (at_place code place returns)) []) place _ st.0 (subst (λ rs. ShowsControl code (back_to code rs) []) (sym st.1) (shown_none code))
    behind_at (Do s ∷ rest) around place st is =
        with_line (λ l. ShowsControl code (ended_by code l.what (at_place code place returns)) (Do s ∷ rest)) place _ (step_line code s around place st.0 is st.1 (first s place st.0 around is)) (record { around = around; stands = st; settled = is })
    behind_at (InLoop s ∷ rest) around place st is = absurd is
    behind_at (InFor s ∷ rest) around place st is =
        let l = for_is s st.2 st.0 st.1 st.5 st.6 in
        with_line (λ l. ShowsControl code (ended_by code l.what (at_place code place returns)) (InFor s ∷ rest)) place _ (ap (line_at code) st.3 ∙ l.1) (record { around = around; stands = st; settled = tt })
    behind_at (Begin c s h end ∷ rest) around place st is = absurd is
    behind_at (Ends c h end ∷ rest) around place st is = behind_end c h end around.exits around.back around.within place rest st.1
    behind_at (Leaving m end ∷ rest) around place st is =
        with_line (λ l. ShowsControl code (ended_by code l.what (at_place code place returns)) (resumed rest)) place _ (line_is code place _ _ st.3) (resumes code returns rest st.1 st.0 st.4)

    -- What is read.

    pub reads_coming : (program : Program) (s : Sight) (items : List Item) (around : Around) (place : ℕ) → Stands code around place returns items → IsSettled items → coming_by program (line_at code place).what s ≡ coming_item program.plan items s
    reads_coming program s [] around place st is = ap (λ (l : Line). coming_by program l.what s) st.0
    reads_coming program s (Do a ∷ rest) around place st is = ap (λ (l : Line). coming_by program l.what s) (step_line code a around place st.0 is st.1 (first a place st.0 around is))
    reads_coming program s (InLoop a ∷ rest) around place st is = absurd is
    reads_coming program s (InFor a ∷ rest) around place st is = let l = for_is a st.2 st.0 st.1 st.5 st.6 in ap (λ (l : Line). coming_by program l.what s) (ap (line_at code) st.3 ∙ l.1)
    reads_coming program s (Begin c a h end ∷ rest) around place st is = absurd is
    reads_coming program s (Ends c h end ∷ rest) around place st is = let l = end_is c end around.exits around.back around.within place rest st.1 in ap (λ (l : Line). coming_by program l.what s) l.2
    reads_coming program s (Leaving m end ∷ rest) around place st is = ap (λ (l : Line). coming_by program l.what s) (line_is code place _ _ st.3)

    -- with the loops that are left at once
    pub reads_asked : (s : Scene) (n : ℕ) (items : List Item) (around : Around) (place : ℕ) → Stands code around place returns items → IsSettled items → n ≡ loops_out (out_from items) → asked_by (line_at code place).what n s ≡ asked_item items s
    reads_asked s n [] around place st is e = ap (λ (l : Line). asked_by l.what n s) st.0
    reads_asked s n (Do a ∷ rest) around place st is e =
        ap (λ (l : Line). asked_by l.what n s) (step_line code a around place st.0 is st.1 (first a place st.0 around is)) ∙ ap (λ k. asked_statement a k s) e
    reads_asked s n (InLoop a ∷ rest) around place st is e = absurd is
    reads_asked s n (InFor a ∷ rest) around place st is e =
        let l = for_is a st.2 st.0 st.1 st.5 st.6 in
        ap (λ (l : Line). asked_by l.what n s) (ap (line_at code) st.3 ∙ l.1) ∙ ap next_of_loop l.2 ∙ sym (next_asked_is a st.5)
    reads_asked s n (Begin c a h end ∷ rest) around place st is e = absurd is
    reads_asked s n (Ends c h end ∷ rest) around place st is e = let l = end_is c end around.exits around.back around.within place rest st.1 in ap (λ (l : Line). asked_by l.what n s) l.2
    reads_asked s n (Leaving m end ∷ rest) around place st is e = ap (λ (l : Line). asked_by l.what n s) (line_is code place _ _ st.3)

    pub reads_place : (items : List Item) (around : Around) (spot : ℕ) → Stands code around spot returns items → IsSettled items → (line_at code spot).at ≡ place items
    reads_place [] around spot st is = ap (λ l. l.at) st.0
    reads_place (Do s ∷ rest) around spot st is = ap (λ l. l.at) (step_line code s around spot st.0 is st.1 (first s spot st.0 around is))
    reads_place (InLoop s ∷ rest) around spot st is = absurd is
    reads_place (InFor s ∷ rest) around spot st is = let l = for_is s st.2 st.0 st.1 st.5 st.6 in ap (λ l. l.at) (ap (line_at code) st.3 ∙ l.1) ∙ ap (λ (f : For). f.next_at) l.2 ∙ sym (next_at_is s st.5)
    reads_place (Begin c s h end ∷ rest) around spot st is = absurd is
    reads_place (Ends c h end ∷ rest) around spot st is = let l = end_is c end around.exits around.back around.within spot rest st.1 in ap (λ l. l.at) l.2
    reads_place (Leaving m end ∷ rest) around spot st is = ap (λ l. l.at) (line_is code spot _ _ st.3)
