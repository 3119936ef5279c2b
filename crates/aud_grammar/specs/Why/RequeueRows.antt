-- Small texts with requeue statements: the trees of some, and the tokens at which others go wrong.
use Rattle.std.specs.Prelude.{◌+◌, [], ◌∷◌, true, false, codes, Err}
use Rattle.aud_syntax.specs.Plain as m
use Rattle.aud_syntax.specs.Why.Shorthand.{num}
use Rattle.aud_grammar.specs.Parsed.{deep_at}
use Rattle.aud_grammar.specs.Why.Rows.{IsReadWithin, StatementsAre, StatementsStop, DeclarationsStop, ProgramStops, col, with_statements, the_name, a_part}
use Rattle.aud_grammar.specs.Why.RendezvousRows.{StatementIs}

-- RM 9.5.4
abbrev pub TreesOfRequeue : Type 0
TreesOfRequeue =
    StatementIs (codes "requeue A;")
    (m.requeue (col 1) (the_name (a_part (codes "A") 9 []) []) false)
    × StatementIs (codes "REQUEUE t.e (1) With Abort;")
    (m.requeue (col 1) (the_name (a_part (codes "T") 9 []) (a_part (codes "E") 11 (num 1 (col 14) ∷ []) ∷ [])) true)
    × StatementIs (codes "requeue A (1).E with abort;")
    (m.requeue (col 1) (the_name (a_part (codes "A") 9 (num 1 (col 12) ∷ [])) (a_part (codes "E") 15 [] ∷ [])) true)
    × StatementsAre (codes "requeue A; null;")
    (m.requeue (col 1) (the_name (a_part (codes "A") 9 []) []) false) (m.null (col 12) ∷ [])

abbrev pub FaultsOfRequeue : Type 0
FaultsOfRequeue =
    StatementsStop (codes "requeue;") 1
    × StatementsStop (codes "requeue A with;") 3
    × StatementsStop (codes "requeue A with X;") 3
    × StatementsStop (codes "requeue A with abort, B;") 4
    × StatementsStop (codes "requeue A abort;") 2
    × StatementsStop (codes "requeue A, B;") 2
    × StatementsStop (codes "requeue A'Count;") 2
    × StatementsStop (codes "requeue (A);") 1
    × StatementsStop (codes "requeue A ();") 3
    × StatementsStop (codes "requeue A.;") 3
    × StatementsStop (codes "requeue A when X;") 2
    × StatementsStop (codes "requeue with abort;") 1
    × StatementsStop (codes "X : requeue A;") 2
    × DeclarationsStop (codes "requeue A;") 0
    × ProgramStops (codes "procedure P is begin requeue A") 6

-- what stands in parentheses lies one level deeper
abbrev pub LevelsOfRequeue : Type 0
LevelsOfRequeue =
    IsReadWithin 1 (with_statements (codes "requeue A (1);")) (Err (deep_at (4 + 2)))
    × IsReadWithin 1 (with_statements (codes "requeue T.E (1);")) (Err (deep_at (4 + 4)))
