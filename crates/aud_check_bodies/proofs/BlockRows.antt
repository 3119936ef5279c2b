-- Blocks, handlers and loops with parameters in small, and what is said of them.
use Rattle.std.specs.Prelude.{ℕ, pos, true, false, List, [], ◌∷◌, codes, Some, None}
use Rattle.std.proofs.Common.{◌≡◌, refl}
use Rattle.aud_text.specs.declared.place.Pos.{Pos}
use Rattle.aud_text.specs.declared.raise.Raise.TheVariants.{Constraint, Program}
use Rattle.aud_text.specs.declared.refusal.Refusal.{Refusal}
use Rattle.aud_text.specs.declared.refusal.Refusal.TheVariants.{NameNotDeclared, WrongKindOfName, WrongType, NotAVariable, WrongNameAtEnd, ExitWithoutLoop, RaiseWithoutHandler, BadHandlerChoice}
use Rattle.aud_syntax.specs.declared.tree.Ident.{Ident}
use Rattle.aud_syntax.specs.Plain.{Simple, simple, no_addeds, Primary, no_expression, object, Declaration, Statement, null, assign, loop, exit, block, raise, forever, for, Body, body, Handlers, no_handlers, more_handlers, exceptions, others}
use Rattle.aud_syntax.specs.Why.Shorthand.{at, id, one, var, var_at, num, only, statements, declarations}
use Rattle.aud_typed.specs.declared.program.Exception.TheVariants.{Predefined}
use Rattle.aud_typed.specs.declared.program.Subtype.TheVariants.{Integer}
use Rattle.aud_typed.specs.Tree as tree
use Rattle.aud_fault.specs.declared.fault.Fault.{Fault}
use Rattle.aud_names.specs.Names.{main_place}
use Rattle.aud_check_bodies.specs.Tables.{Tables, Outcome, no_body}
use Rattle.aud_check_bodies.specs.Statements.{nothing_around, checked_statement}

abbrev fault : Pos → Refusal → Fault
fault p refusal = record { at = p; refusal = refusal }

-- in the main procedure, whose region is the first and empty
abbrev main_tables : Tables
main_tables = record { regions = [] ∷ []; exceptions = []; profiles = [] ∷ []; units = no_body ∷ []; tasks = []; objects = []; entries = []; entry_profiles = [] }

abbrev checked_in_main : Statement → Outcome tree.Statement
checked_in_main s = checked_statement s nothing_around (main_place (codes "P")) main_tables

abbrev faults_of : Statement → List Fault
faults_of s = (checked_in_main s).faults

abbrev typed_of : Statement → tree.Statement
typed_of s = (checked_in_main s).made

abbrev regions_of : Statement → List (List tree.Named)
regions_of s = (checked_in_main s).tables.regions

abbrev ident : List ℕ → Pos → Ident
ident spelling place = id spelling place

abbrev simply : Primary → Simple
simply p = simple None (one p) no_addeds

-- begin .. end; with these handlers
abbrev handled : Statement → Handlers → Body
handled s hs = body (at 3 1) (statements s []) hs (at 9 1) None (at 9 4)

-- X : Integer;
abbrev an_x : List Declaration
an_x = object (ident (codes "X") (at 2 1)) [] (ident (codes "INTEGER") (at 2 5)) no_expression ∷ []

abbrev plain_block : List Declaration → Statement → Handlers → Statement
plain_block ds s hs = block None (at 1 1) true (declarations ds) (handled s hs)

abbrev x_of : ℕ → tree.Reference
x_of level = tree.scalar (record { level = level; index = 0 }) Integer

abbrev named_x : tree.Named
named_x = record { name = codes "X"; shown = tree.as_whole }

-- X := 1;
abbrev set_x : Pos → Statement
set_x p = assign (var_at (codes "X") p) (only (num 1 (at 4 6)))

abbrev x_is_set : ℕ → Pos → tree.Statement
x_is_set level p = tree.assign p (x_of level) (tree.whole Integer (tree.number (pos 1)))

abbrev x_starts : tree.Part
x_starts = tree.some (tree.declare (at 2 1) 1 (tree.whole Integer (tree.number (pos 0))))

-- declare X : Integer; begin X := 1; end;
block_row : typed_of (plain_block an_x (set_x (at 4 1)) no_handlers) ≡ tree.block (at 1 1) 1 (tree.body x_starts (at 3 1) (x_is_set 1 (at 4 1)) tree.no_handlers (at 9 1))
block_row = refl

region_row : regions_of (plain_block an_x (set_x (at 4 1)) no_handlers) ≡ [] ∷ (named_x ∷ []) ∷ []
region_row = refl

-- a block within it sees the outer X at its level, and has the next number
inner_block_row : typed_of (plain_block an_x (plain_block [] (set_x (at 4 1)) no_handlers) no_handlers) ≡ tree.block (at 1 1) 1 (tree.body x_starts (at 3 1) (tree.block (at 1 1) 2 (tree.body tree.nothing (at 3 1) (x_is_set 1 (at 4 1)) tree.no_handlers (at 9 1))) tree.no_handlers (at 9 1))
inner_block_row = refl

-- an X further in hides it
hiding_block_row : typed_of (plain_block an_x (plain_block an_x (set_x (at 4 1)) no_handlers) no_handlers) ≡ tree.block (at 1 1) 1 (tree.body x_starts (at 3 1) (tree.block (at 1 1) 2 (tree.body x_starts (at 3 1) (x_is_set 2 (at 4 1)) tree.no_handlers (at 9 1))) tree.no_handlers (at 9 1))
hiding_block_row = refl

-- behind its block a variable is not seen: B : declare .. end B; and the end's name
end_row : faults_of (block (Some (ident (codes "B") (at 1 1))) (at 1 5) false (declarations []) (handled (null (at 4 1)) no_handlers)) ≡ fault (at 9 4) WrongNameAtEnd ∷ []
end_row = refl

-- loop begin exit; end; end loop;
exit_row : typed_of (loop None (at 1 1) forever (statements (plain_block [] (exit (at 4 1) None no_expression) no_handlers) []) None (at 9 9)) ≡ tree.plain_loop (tree.block (at 1 1) 1 (tree.body tree.nothing (at 3 1) (tree.exit (at 4 1) 0 (tree.truth true)) tree.no_handlers (at 9 1)))
exit_row = refl

-- B : begin exit B; end B;
block_exit_row : faults_of (block (Some (ident (codes "B") (at 1 1))) (at 1 5) false (declarations []) (body (at 3 1) (statements (exit (at 4 1) (Some (ident (codes "B") (at 4 6))) no_expression) []) no_handlers (at 9 1) (Some (ident (codes "B") (at 9 5))) (at 9 6))) ≡ fault (at 4 1) ExitWithoutLoop ∷ []
block_exit_row = refl

-- for I in reverse 1 .. 2 loop I := 1; end loop;
abbrev over : List ℕ → Primary → Statement → Statement
over spelling low s = loop None (at 1 1) (for (ident spelling (at 1 5)) true (simply low) (simply (num 2 (at 1 23)))) (statements s []) None (at 9 9)

for_row : typed_of (over (codes "X") (num 1 (at 1 18)) (null (at 4 1))) ≡ tree.for_loop (record { at = at 1 1; next_at = at 1 1; region = 1; backward = true }) (tree.number (pos 1)) (tree.number (pos 2)) (tree.null (at 4 1))
for_row = refl

parameter_row : regions_of (over (codes "X") (num 1 (at 1 18)) (null (at 4 1))) ≡ [] ∷ (named_x ∷ []) ∷ []
parameter_row = refl

-- a parameter is a constant, and is not visible in its bounds
constant_row : faults_of (over (codes "X") (num 1 (at 1 18)) (set_x (at 4 1))) ≡ fault (at 4 1) NotAVariable ∷ []
constant_row = refl

own_bound_row : faults_of (over (codes "X") (var (codes "X") (at 1 18)) (null (at 4 1))) ≡ fault (at 1 18) NameNotDeclared ∷ []
own_bound_row = refl

true_bound_row : faults_of (over (codes "X") (var (codes "TRUE") (at 1 18)) (null (at 4 1))) ≡ fault (at 1 18) WrongType ∷ []
true_bound_row = refl

-- handlers

abbrev when_named : List ℕ → Pos → Statement → Handlers → Handlers
when_named spelling p s hs = more_handlers (exceptions (ident spelling p) []) (statements s []) hs

abbrev when_others : Pos → Statement → Handlers → Handlers
when_others p s hs = more_handlers (others p) (statements s []) hs

-- when Program_Error => raise; when others => raise Constraint_Error;
handlers_row : typed_of (plain_block [] (null (at 4 1)) (when_named (codes "PROGRAM_ERROR") (at 5 6) (raise (at 6 1) None) (when_others (at 7 6) (raise (at 8 1) (Some (ident (codes "CONSTRAINT_ERROR") (at 8 7)))) no_handlers))) ≡ tree.block (at 1 1) 1 (tree.body tree.nothing (at 3 1) (tree.null (at 4 1)) (tree.handler false (Predefined Program ∷ []) (tree.raising_again (at 6 1)) (tree.handler true [] (tree.raising (at 8 1) (Predefined Constraint)) tree.no_handlers)) (at 9 1))
handlers_row = refl

-- an exception twice, and `others` before another handler and twice
twice_row : faults_of (plain_block [] (null (at 4 1)) (when_named (codes "PROGRAM_ERROR") (at 5 6) (null (at 5 9)) (when_named (codes "PROGRAM_ERROR") (at 6 6) (null (at 6 9)) no_handlers))) ≡ fault (at 6 6) BadHandlerChoice ∷ []
twice_row = refl

others_row : faults_of (plain_block [] (null (at 4 1)) (when_others (at 5 6) (null (at 5 9)) (when_others (at 6 6) (null (at 6 9)) no_handlers))) ≡ fault (at 5 6) BadHandlerChoice ∷ fault (at 6 6) BadHandlerChoice ∷ []
others_row = refl

-- what is no exception
kind_row : faults_of (plain_block [] (raise (at 4 1) (Some (ident (codes "INTEGER") (at 4 7)))) (when_named (codes "E") (at 5 6) (null (at 5 9)) no_handlers)) ≡ fault (at 4 7) WrongKindOfName ∷ fault (at 5 6) NameNotDeclared ∷ []
kind_row = refl

-- raise; outside of a handler, and in a block within one
raise_row : faults_of (raise (at 4 1) None) ≡ fault (at 4 1) RaiseWithoutHandler ∷ []
raise_row = refl

inner_raise_row : faults_of (plain_block [] (null (at 4 1)) (when_others (at 5 6) (plain_block [] (raise (at 6 1) None) no_handlers) no_handlers)) ≡ []
inner_raise_row = refl
