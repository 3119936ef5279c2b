-- Code as a list of lines, one for each step: what its expressions become is left out here. A task's control is a place, and the
-- places of the statements that entered the bodies under way.
use Rattle.std.specs.Prelude.{true, ℕ, suc, ◌+◌, List, [], ◌∷◌, ◌++◌, length, map, Option, Some, None, slice_get, slice_index_or}
use Rattle.aud_text.specs.declared.place.Pos.{Pos}
use Rattle.aud_typed.specs.declared.program.Exception.{Exception}
use Rattle.aud_typed.specs.Tree.{For, truth, Statement, sequence, declare, if_then, plain_loop, while_loop, for_loop, exit, return, return_value, requeue, block, entry_call, accept, select, Part, nothing, some, Handlers, no_handlers, handler, Body, body, Doing, without_do, with_do, Alternatives, no_alternatives, accepting, delaying, terminating, Program}
use Rattle.aud_meaning.specs.declared.state.Construct.{Construct}
use Rattle.aud_meaning.specs.declared.state.Construct.TheVariants as construct
use Rattle.aud_meaning.specs.Evaluation.{decided}
use Rattle.aud_meaning.specs.Items.{no_body, statement_at}
use Rattle.aud_meaning.specs.Statements.{asked_statement, coming_statement, coming_raised, handled_or_left}
use Rattle.aud_meaning.specs.declared.state.Pending.{Pending}
use Rattle.aud_meaning.specs.Evaluation.{Sight}
use Rattle.aud_meaning.specs.Control.{Coming, simply, ending, Asked, goes_on, next_of_loop, Scene, Controls}
use Rattle.aud_meaning.specs.Control as asked
use Rattle.aud_meaning.specs.declared.state.StepKind.TheVariants as kind
use Rattle.aud_code.specs.Places.{Way, Guard, Spot, goes, goes_there, goes_way, loops_of, guarded, is_there}

pub data What : Type 0 where
  -- a statement's step; here its expressions stand for the code that they become
  does : Statement → What
  -- the step next
  continues : For → What
  -- where exceptions go that are pending in guarded statements
  guards : List Guard → What
  -- before a place; for a body there is none
  ends : Construct → ℕ → What
  -- leaves a block and n loops around it, before a place
  leaves : ℕ → ℕ → What

pub record Line : Type 0 where
  pub what : What
  pub at : Pos
  -- where an exception goes that is pending here
  pub out : ℕ
  -- the place of the line whose step opened the innermost frame that is open here; directly in a body there is none
  pub within : Option ℕ
  -- the places of its parts, by their numbers
  pub ways : List ℕ
  -- those of what accepts do, by the alternatives' numbers
  pub bodies : List ℕ
  -- for exit and return
  pub exit : Option Way

-- what surrounds a statement
pub record Around : Type 0 where
  pub out : ℕ
  pub within : Option ℕ
  pub exits : List Way
  pub back : Way

abbrev pub one_more : Way → Way
one_more w = record w { loops = suc w.loops }

abbrev pub in_loop : ℕ → Around → Around
in_loop next a = record a { exits = record { to = next; loops = 0 } ∷ a.exits }

-- the loop has a frame, which the step at the place opens
abbrev pub in_for : ℕ → ℕ → Around → Around
in_for place next a = record a { within = Some place; exits = record { to = next; loops = 1 } ∷ map one_more a.exits; back = one_more a.back }

pub record Code : Type 0 where
  pub lines : List Line
  pub starts : List ℕ
  pub spare : ℕ

abbrev pub ways_count : Around → ℕ
ways_count a = suc (length a.exits)

-- where a part begins that is laid out at a place, before the place next
abbrev pub part_place : Part → ℕ → ℕ → ℕ
part_place nothing place next = next
part_place (some s) place next = place

abbrev pub doing_place : Doing → ℕ → ℕ → ℕ
doing_place without_do place next = next
doing_place (with_do n b) place next = place

abbrev pub line : Statement → List ℕ → List ℕ → Option Way → Around → Line
line s ways bodies w a = record { what = does s; at = statement_at s; out = a.out; within = a.within; ways = ways; bodies = bodies; exit = w }

-- a block is left on the way out, and n loops around it; nothing is raised there
abbrev pub stub_line : ℕ → ℕ → Pos → Option ℕ → ℕ → Line
stub_line loops to end within place = record { what = leaves loops to; at = end; out = place; within = within; ways = []; bodies = []; exit = None }

abbrev pub stubs : List Way → Pos → Option ℕ → ℕ → List Line
stubs [] end within place = []
stubs (w ∷ ws) end within place = stub_line w.loops w.to end within place ∷ stubs ws end within (suc place)

abbrev pub stub_ways : List Way → ℕ → List Way
stub_ways [] place = []
stub_ways (w ∷ ws) place = record { to = place; loops = 0 } ∷ stub_ways ws (suc place)

-- a block that the step at the place opens, with its end at the place last, behind which it is left on other ways
abbrev pub in_block : ℕ → ℕ → Around → Around
in_block place last a = record { out = last; within = Some place; exits = stub_ways a.exits (suc last); back = record { to = suc last + length a.exits; loops = 0 } }

-- a body with its end at the place last; what an accept does is within its step
abbrev pub in_call : Option ℕ → ℕ → Around
in_call within last = record { out = last; within = within; exits = []; back = record { to = last; loops = 0 } }

abbrev pub end_line : Construct → Pos → ℕ → ℕ → Option ℕ → Line
end_line c end next out within = record { what = ends c next; at = end; out = out; within = within; ways = []; bodies = []; exit = None }

abbrev pub around_out : ℕ → Around → Around
around_out out a = record a { out = out }

abbrev pub stubs_of : Body → List Way → Option ℕ → ℕ → List Line
stubs_of (body d begin s h end) ws within place = stubs ws end within place

-- What follows is laid out by what place is behind a statement's own step, counted from a number on.
module _ (behind : Statement → ℕ → ℕ) where
  -- How many lines; e ways lead out.

  abbrev mutual
    pub statement_size_by : Statement → ℕ → ℕ
    statement_size_by (sequence a b) e = statement_size_by a e + statement_size_by b e
    statement_size_by (plain_loop a) e = statement_size_by a (suc e)
    statement_size_by (if_then at c a p) e = behind (if_then at c a p) (statement_size_by a e + part_size_by p e)
    statement_size_by (while_loop at c a) e = behind (while_loop at c a) (statement_size_by a (suc e))
    statement_size_by (for_loop f x y a) e = behind (for_loop f x y a) (suc (statement_size_by a (suc e)))
    statement_size_by (block at n b) e = behind (block at n b) (body_size_by b e + e)
    statement_size_by (entry_call at c p q) e = behind (entry_call at c p q) (part_size_by p e + part_size_by q e)
    statement_size_by (accept at n d) e = behind (accept at n d) (doing_size_by d)
    statement_size_by (select at offered p) e = behind (select at offered p) (offered_size_by offered e + part_size_by p e)
    statement_size_by s e = behind s 0

    pub part_size_by : Part → ℕ → ℕ
    part_size_by nothing e = 0
    part_size_by (some s) e = statement_size_by s e

    pub handlers_size_by : Handlers → ℕ → ℕ
    handlers_size_by no_handlers e = 0
    handlers_size_by (handler others choices s more) e = statement_size_by s e + handlers_size_by more e

    -- declarations, statements, the line that guards them, handlers, end
    pub body_size_by : Body → ℕ → ℕ
    body_size_by (body d begin s h end) e = part_size_by d e + (statement_size_by s e + suc (handlers_size_by h e + 1))

    pub doing_size_by : Doing → ℕ
    doing_size_by without_do = 0
    doing_size_by (with_do n b) = body_size_by b 1

    pub offered_size_by : Alternatives → ℕ → ℕ
    offered_size_by no_alternatives e = 0
    offered_size_by (accepting g at n d p more) e = doing_size_by d + (part_size_by p e + offered_size_by more e)
    offered_size_by (delaying g x p more) e = part_size_by p e + offered_size_by more e
    offered_size_by (terminating g more) e = offered_size_by more e

  abbrev pub guards_of_by : Handlers → ℕ → ℕ → List Guard
  guards_of_by no_handlers place e = []
  guards_of_by (handler others choices s more) place e = record { others = others; choices = choices; to = place } ∷ guards_of_by more (place + statement_size_by s e) e

  -- the places of what follows the alternatives, and of what their accepts do
  abbrev pub parts_from_by : Alternatives → ℕ → ℕ → ℕ → List ℕ
  parts_from_by no_alternatives place next e = []
  parts_from_by (accepting g pos n d p more) place next e =
      part_place p (place + doing_size_by d) next ∷ parts_from_by more (place + doing_size_by d + part_size_by p e) next e
  parts_from_by (delaying g x p more) place next e = part_place p place next ∷ parts_from_by more (place + part_size_by p e) next e
  parts_from_by (terminating g more) place next e = next ∷ parts_from_by more place next e

  abbrev pub bodies_from_by : Alternatives → ℕ → ℕ → ℕ → List ℕ
  bodies_from_by no_alternatives place next e = []
  bodies_from_by (accepting g pos n d p more) place next e =
      doing_place d place (part_place p (place + doing_size_by d) next) ∷ bodies_from_by more (place + doing_size_by d + part_size_by p e) next e
  bodies_from_by (delaying g x p more) place next e = part_place p place next ∷ bodies_from_by more (place + part_size_by p e) next e
  bodies_from_by (terminating g more) place next e = next ∷ bodies_from_by more place next e

  abbrev pub guard_line_by : Handlers → Pos → ℕ → ℕ → ℕ → Option ℕ → Line
  guard_line_by h end handling last e within = record { what = guards (guards_of_by h handling e); at = end; out = last; within = within; ways = []; bodies = []; exit = None }

  -- statements, the line that guards them, handlers
  abbrev pub main_size_by : Statement → Handlers → ℕ → ℕ
  main_size_by s h e = statement_size_by s e + suc (handlers_size_by h e)

  abbrev pub end_place_by : Body → ℕ → ℕ → ℕ
  end_place_by (body d begin s h end) place e = place + part_size_by d e + main_size_by s h e

  abbrev mutual
    -- a statement from the place at on, before the place next
    pub statement_code_by : Statement → ℕ → ℕ → Around → List Line
    statement_code_by (sequence x y) place next a =
        let middle = place + statement_size_by x (ways_count a) in
        statement_code_by x place middle a ++ statement_code_by y middle next a
    statement_code_by (plain_loop x) place next a = statement_code_by x place place (in_loop next a)
    statement_code_by (declare pos n e) place next a = line (declare pos n e) (next ∷ place ∷ []) [] None a ∷ []
    statement_code_by (if_then pos c x p) place next a =
        let second = (behind (if_then pos c x p) place) + statement_size_by x (ways_count a) in
        line (if_then pos c x p) (part_place p second next ∷ (behind (if_then pos c x p) place) ∷ []) [] None a ∷ (statement_code_by x (behind (if_then pos c x p) place) next a ++ part_code_by p second next a)
    statement_code_by (while_loop pos c x) place next a =
        line (while_loop pos c x) (next ∷ (behind (while_loop pos c x) place) ∷ []) [] None a ∷ statement_code_by x (behind (while_loop pos c x) place) place (in_loop next a)
    statement_code_by (for_loop f x y s) place next a =
        line (for_loop f x y s) (next ∷ (suc (behind (for_loop f x y s) place)) ∷ []) [] None a
        ∷ record { what = continues f; at = f.next_at; out = a.out; within = Some place; ways = next ∷ (suc (behind (for_loop f x y s) place)) ∷ []; bodies = []; exit = None }
        ∷ statement_code_by s (suc (behind (for_loop f x y s) place)) (behind (for_loop f x y s) place) (in_for place next a)
    statement_code_by (exit pos n c) place next a = line (exit pos n c) (next ∷ []) [] (Some (slice_index_or a.exits n (record { to = next; loops = 0 }))) a ∷ []
    statement_code_by (return pos) place next a = line (return pos) (next ∷ []) [] (Some a.back) a ∷ []
    statement_code_by (return_value pos x) place next a = line (return_value pos x) (next ∷ []) [] (Some a.back) a ∷ []
    statement_code_by (requeue pos r) place next a = line (requeue pos r) (next ∷ []) [] (Some a.back) a ∷ []
    statement_code_by (block pos n b) place next a =
        let end = end_place_by b (behind (block pos n b) place) (ways_count a) in
        line (block pos n b) (next ∷ (behind (block pos n b) place) ∷ []) [] None a
        ∷ (body_code_by construct.Block b (behind (block pos n b) place) next a.out (in_block place end a) ++ stubs_of b (a.exits ++ a.back ∷ []) (Some place) (suc end))
    statement_code_by (entry_call pos c p q) place next a =
        let second = (behind (entry_call pos c p q) place) + part_size_by p (ways_count a) in
        line (entry_call pos c p q) (part_place p (behind (entry_call pos c p q) place) next ∷ part_place q second next ∷ []) [] None a
        ∷ (part_code_by p (behind (entry_call pos c p q) place) next a ++ part_code_by q second next a)
    statement_code_by (accept pos n d) place next a = line (accept pos n d) (next ∷ []) (doing_place d (behind (accept pos n d) place) next ∷ []) None a ∷ doing_code_by d place (behind (accept pos n d) place) next a.out
    statement_code_by (select pos offered p) place next a =
        let second = (behind (select pos offered p) place) + offered_size_by offered (ways_count a) in
        line (select pos offered p) (part_place p second next ∷ parts_from_by offered (behind (select pos offered p) place) next (ways_count a)) (place ∷ bodies_from_by offered (behind (select pos offered p) place) next (ways_count a)) None a
        ∷ (offered_code_by offered place (behind (select pos offered p) place) next a ++ part_code_by p second next a)
    statement_code_by s place next a = line s (next ∷ []) [] None a ∷ []

    pub part_code_by : Part → ℕ → ℕ → Around → List Line
    part_code_by nothing place next a = []
    part_code_by (some s) place next a = statement_code_by s place next a

    pub handlers_code_by : Handlers → ℕ → ℕ → Around → List Line
    handlers_code_by no_handlers place next a = []
    handlers_code_by (handler others choices s more) place next a =
        statement_code_by s place next a ++ handlers_code_by more (place + statement_size_by s (ways_count a)) next a

    -- The last place is its end, whose exceptions go to out.
    pub body_code_by : Construct → Body → ℕ → ℕ → ℕ → Around → List Line
    body_code_by c (body d begin s h end) place next out a =
        let first = place + part_size_by d (ways_count a) in
        let guard = first + statement_size_by s (ways_count a) in
        let last = first + main_size_by s h (ways_count a) in
        part_code_by d place first (around_out last a)
        ++ (statement_code_by s first last (around_out guard a)
        ++ (guard_line_by h end (suc guard) last (ways_count a) a.within ∷ (handlers_code_by h (suc guard) last (around_out last a) ++ end_line c end next out a.within ∷ [])))

    -- what an accept does, whose step stands at the place opener
    pub doing_code_by : Doing → ℕ → ℕ → ℕ → ℕ → List Line
    doing_code_by without_do opener place next out = []
    doing_code_by (with_do n b) opener place next out =
        let end = end_place_by b place 1 in
        body_code_by construct.Accept b place next out (in_call (Some opener) end)

    pub offered_code_by : Alternatives → ℕ → ℕ → ℕ → Around → List Line
    offered_code_by no_alternatives opener place next a = []
    offered_code_by (accepting g pos n d p more) opener place next a =
        let after = place + doing_size_by d in
        doing_code_by d opener place (part_place p after next) a.out
        ++ (part_code_by p after next a ++ offered_code_by more opener (after + part_size_by p (ways_count a)) next a)
    offered_code_by (delaying g x p more) opener place next a = part_code_by p place next a ++ offered_code_by more opener (place + part_size_by p (ways_count a)) next a
    offered_code_by (terminating g more) opener place next a = offered_code_by more opener place next a

  -- of a body, from the place first of its statements on
  abbrev pub main_code_by : Construct → Statement → Handlers → Pos → ℕ → ℕ → ℕ → Around → List Line
  main_code_by c s h end first next out a =
      let guard = first + statement_size_by s (ways_count a) in
      let last = first + main_size_by s h (ways_count a) in
      statement_code_by s first last (around_out guard a)
      ++ (guard_line_by h end (suc guard) last (ways_count a) a.within ∷ (handlers_code_by h (suc guard) last (around_out last a) ++ end_line c end next out a.within ∷ []))

  -- A program: its bodies one after the other.

  abbrev pub unit_code_by : Body → ℕ → List Line
  unit_code_by b place = let end = end_place_by b place 1 in body_code_by construct.Unit b place 0 end (in_call None end)

  -- and at last one that no program has, for numbers that no body has
  abbrev pub units_code_by : List Body → ℕ → List Line
  units_code_by [] place = unit_code_by no_body place
  units_code_by (b ∷ bs) place = unit_code_by b place ++ units_code_by bs (place + body_size_by b 1)

  abbrev pub starts_from_by : List Body → ℕ → List ℕ
  starts_from_by [] place = []
  starts_from_by (b ∷ bs) place = place ∷ starts_from_by bs (place + body_size_by b 1)

  abbrev pub spare_from_by : List Body → ℕ → ℕ
  spare_from_by [] place = place
  spare_from_by (b ∷ bs) place = spare_from_by bs (place + body_size_by b 1)

  abbrev pub code_of_by : Program → Code
  code_of_by program = record { lines = units_code_by program.bodies 0; starts = starts_from_by program.bodies 0; spare = spare_from_by program.bodies 0 }

-- One line a step.

abbrev pub one_line : Statement → ℕ → ℕ
one_line s n = suc n

abbrev pub statement_size : Statement → ℕ → ℕ
statement_size = statement_size_by one_line

abbrev pub part_size : Part → ℕ → ℕ
part_size = part_size_by one_line

abbrev pub handlers_size : Handlers → ℕ → ℕ
handlers_size = handlers_size_by one_line

abbrev pub body_size : Body → ℕ → ℕ
body_size = body_size_by one_line

abbrev pub doing_size : Doing → ℕ
doing_size = doing_size_by one_line

abbrev pub offered_size : Alternatives → ℕ → ℕ
offered_size = offered_size_by one_line

abbrev pub guards_of : Handlers → ℕ → ℕ → List Guard
guards_of = guards_of_by one_line

abbrev pub parts_from : Alternatives → ℕ → ℕ → ℕ → List ℕ
parts_from = parts_from_by one_line

abbrev pub bodies_from : Alternatives → ℕ → ℕ → ℕ → List ℕ
bodies_from = bodies_from_by one_line

abbrev pub main_size : Statement → Handlers → ℕ → ℕ
main_size = main_size_by one_line

abbrev pub end_place : Body → ℕ → ℕ → ℕ
end_place = end_place_by one_line

abbrev pub guard_line : Handlers → Pos → ℕ → ℕ → ℕ → Option ℕ → Line
guard_line = guard_line_by one_line

abbrev pub statement_code : Statement → ℕ → ℕ → Around → List Line
statement_code = statement_code_by one_line

abbrev pub part_code : Part → ℕ → ℕ → Around → List Line
part_code = part_code_by one_line

abbrev pub handlers_code : Handlers → ℕ → ℕ → Around → List Line
handlers_code = handlers_code_by one_line

abbrev pub body_code : Construct → Body → ℕ → ℕ → ℕ → Around → List Line
body_code = body_code_by one_line

abbrev pub doing_code : Doing → ℕ → ℕ → ℕ → ℕ → List Line
doing_code = doing_code_by one_line

abbrev pub offered_code : Alternatives → ℕ → ℕ → ℕ → Around → List Line
offered_code = offered_code_by one_line

abbrev pub main_code : Construct → Statement → Handlers → Pos → ℕ → ℕ → ℕ → Around → List Line
main_code = main_code_by one_line

abbrev pub unit_code : Body → ℕ → List Line
unit_code = unit_code_by one_line

abbrev pub units_code : List Body → ℕ → List Line
units_code = units_code_by one_line

abbrev pub starts_from : List Body → ℕ → List ℕ
starts_from = starts_from_by one_line

abbrev pub spare_from : List Body → ℕ → ℕ
spare_from = spare_from_by one_line

abbrev pub code_of : Program → Code
code_of = code_of_by one_line

-- Control.

-- a place behind all lines is that of a task that has nothing left to do
abbrev pub no_line : ℕ → Line
no_line n = record { what = ends construct.Unit 0; at = record { line = 0; col = 0 }; out = n; within = None; ways = []; bodies = []; exit = None }

abbrev pub line_at : Code → ℕ → Line
line_at code n = slice_index_or code.lines n (no_line n)

abbrev pub start_of : Code → ℕ → ℕ
start_of code n = slice_index_or code.starts n code.spare

abbrev pub asked_by : What → ℕ → Scene → Asked
asked_by (does a) loops s = asked_statement a loops s
asked_by (continues f) loops s = next_of_loop f
asked_by (guards gs) loops s = goes_on 0
asked_by (ends c next) loops s = asked.ends 0
asked_by (leaves n next) loops s = asked.ends n

abbrev pub coming_by : Program → What → Sight → Coming
coming_by program (does a) s = coming_statement program.plan a s
coming_by program (continues f) s = simply kind.Next
coming_by program (guards gs) s = ending
coming_by program (ends c next) s = ending
coming_by program (leaves n next) s = ending

abbrev pub handler_by : What → Exception → Option ℕ
handler_by (does a) x = None
handler_by (continues f) x = None
handler_by (guards gs) x = guarded x gs
handler_by (ends c next) x = None
handler_by (leaves n next) x = None

module _ (code : Code) where
  abbrev pub back_to : List ℕ → Spot
  back_to [] = record { place = length code.lines; returns = [] }
  back_to (r ∷ rs) = record { place = r; returns = rs }

  abbrev pub ended_by : What → Spot → Spot
  ended_by (does a) s = s
  ended_by (continues f) s = s
  ended_by (guards gs) s = s
  ended_by (ends construct.Unit next) s = back_to s.returns
  ended_by (ends construct.Block next) s = goes next s
  ended_by (ends construct.Accept next) s = goes next s
  ended_by (leaves n next) s = goes next s

  -- out of the construct whose end is at the place, with an exception pending
  abbrev pub out_of_end : What → ℕ → Spot → Spot
  out_of_end (does a) end s = s
  out_of_end (continues f) end s = s
  out_of_end (guards gs) end s = s
  out_of_end (ends construct.Unit next) end s = back_to s.returns
  out_of_end (ends construct.Block next) end s = goes end s
  out_of_end (ends construct.Accept next) end s = goes end s
  out_of_end (leaves n next) end s = goes end s

  -- the end of the innermost construct, from where its exceptions go
  abbrev pub end_by : What → ℕ → ℕ
  end_by (does a) out = out
  end_by (continues f) out = out
  end_by (guards gs) out = (line_at code out).out
  end_by (ends c next) out = out
  end_by (leaves n next) out = out

  -- out of the construct whose exceptions go to the place out
  abbrev pub left_by : ℕ → Spot → Spot
  left_by out s =
      let end = end_by (line_at code out).what out in
      out_of_end (line_at code end).what end s

module _ (program : Program) (code : Code) where
  abbrev pub handler_at : Exception → Spot → Option ℕ
  handler_at x s = handler_by (line_at code (line_at code s.place).out).what x

  abbrev pub coming_at : Option Pending → Sight → Spot → Coming
  coming_at None s t = coming_by program (line_at code t.place).what s
  coming_at (Some p) s t = coming_raised (is_there (handler_at p.exception t))

  abbrev pub asked_at : Option Pending → Scene → Spot → Asked
  asked_at None s t = asked_by (line_at code t.place).what (loops_of (line_at code t.place).exit) s
  asked_at (Some p) s t = handled_or_left (is_there (handler_at p.exception t)) p

abbrev pub code_controls : Program → Code → Controls Spot
code_controls program code = record {
  coming = coming_at program code;
  asks = asked_at program code;
  place = λ s. (line_at code s.place).at;
  takes = λ n s. goes_there (slice_get (line_at code s.place).ways n) s;
  accepts = λ n s. goes_there (slice_get (line_at code s.place).bodies n) s;
  enters = λ n s. record { place = start_of code n; returns = s.place ∷ s.returns };
  begins = λ n. record { place = start_of code n; returns = [] };
  out = λ s. goes_way (line_at code s.place).exit s;
  behind = λ s. ended_by code (line_at code s.place).what s;
  handling = λ x s. goes_there (handler_by (line_at code (line_at code s.place).out).what x) s;
  left = λ x s. left_by code (line_at code s.place).out s;
  barrier = λ n s. decided (slice_index_or program.barriers n (truth true)) s;
}
