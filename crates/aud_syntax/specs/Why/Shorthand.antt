-- Syntax trees, written shortly.
use Rattle.std.specs.Prelude.{ℕ, pos, List, [], ◌∷◌, Some, None}
use Rattle.aud_text.specs.declared.place.Pos.{Pos}
use Rattle.aud_syntax.specs.declared.tree.Ident.{Ident}
use Rattle.aud_syntax.specs.declared.tree.Sign.TheVariants as sign
use Rattle.aud_syntax.specs.declared.tree.Adding.{Adding}
use Rattle.aud_syntax.specs.declared.tree.Multiplying.{Multiplying}
use Rattle.aud_syntax.specs.declared.tree.Highest.TheVariants as highest
use Rattle.aud_syntax.specs.Plain.{Expression, alone, unrelated, simple, Addeds, no_addeds, more_addeds, Added, added, Term, term, Multiplieds, no_multiplieds, more_multiplieds, Multiplied, multiplied, Factor, factor, Primary, integer, text, name, Name, named, no_parts, part, no_args, more_args, Declaration, Declarations, no_declarations, more_declarations, Statement, call, Statements, in_order, MoreStatements, no_statements, more_statements}

abbrev pub at : ℕ → ℕ → Pos
at line col = record { line = line; col = col }

abbrev pub id : List ℕ → Pos → Ident
id spelling place = record { name = spelling; at = place }

-- names, without and with an argument

abbrev pub named_as : Ident → Name
named_as i = named (part i no_args) no_parts

abbrev pub var_at : List ℕ → Pos → Name
var_at spelling place = named_as (id spelling place)

abbrev pub called : Ident → Expression → Statement
called i e = call (named (part i (more_args e no_args)) no_parts)

-- primaries

abbrev pub num : ℕ → Pos → Primary
num n place = integer (record { value = Some (pos n); at = place })

-- a number larger than any Integer
abbrev pub too_large : Pos → Primary
too_large place = integer (record { value = None; at = place })

abbrev pub str : List ℕ → Pos → Primary
str characters place = text (record { text = characters; at = place })

abbrev pub var : List ℕ → Pos → Primary
var spelling place = name (var_at spelling place)

-- factors: without an operator, and behind `abs` and `not`

abbrev pub just : Primary → Factor
just p = factor None p

abbrev pub magnitude : Pos → Primary → Factor
magnitude place p = factor (Some (record { highest = highest.Magnitude; at = place })) p

abbrev pub opposite : Pos → Primary → Factor
opposite place p = factor (Some (record { highest = highest.Not; at = place })) p

-- terms: a factor, and each further one behind its operator

abbrev pub multiplieds : List Multiplied → Multiplieds
multiplieds [] = no_multiplieds
multiplieds (x ∷ xs) = more_multiplieds x (multiplieds xs)

abbrev pub product : Factor → List Multiplied → Term
product first further = term first (multiplieds further)

abbrev pub multiplying : Multiplying → Primary → Multiplied
multiplying operator p = multiplied operator (just p)

abbrev pub one : Primary → Term
one p = product (just p) []

-- expressions: a term without or behind a sign, and each further one behind its operator

abbrev pub addeds : List Added → Addeds
addeds [] = no_addeds
addeds (x ∷ xs) = more_addeds x (addeds xs)

abbrev pub sum : Term → List Added → Expression
sum first further = alone (unrelated (simple None first (addeds further)))

abbrev pub adding : Adding → Primary → Added
adding operator p = added operator (one p)

abbrev pub only_term : Term → Expression
only_term t = sum t []

abbrev pub only : Primary → Expression
only p = only_term (one p)

abbrev pub positive : Pos → Term → List Added → Expression
positive place first further = alone (unrelated (simple (Some (record { sign = sign.Plus; at = place })) first (addeds further)))

abbrev pub negative : Pos → Term → List Added → Expression
negative place first further = alone (unrelated (simple (Some (record { sign = sign.Minus; at = place })) first (addeds further)))

-- lists

abbrev pub declarations : List Declaration → Declarations
declarations [] = no_declarations
declarations (x ∷ xs) = more_declarations x (declarations xs)

abbrev pub more : List Statement → MoreStatements
more [] = no_statements
more (x ∷ xs) = more_statements x (more xs)

abbrev pub statements : Statement → List Statement → Statements
statements first others = in_order first (more others)
