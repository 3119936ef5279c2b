-- Small texts with abort statements: the trees of some, and the tokens at which others go wrong.
use Rattle.std.specs.Prelude.{◌+◌, [], ◌∷◌, codes, Err}
use Rattle.aud_syntax.specs.Plain as m
use Rattle.aud_syntax.specs.Why.Shorthand.{num}
use Rattle.aud_grammar.specs.Parsed.{deep_at}
use Rattle.aud_grammar.specs.Why.Rows.{IsReadWithin, StatementsAre, StatementsStop, DeclarationsStop, ProgramStops, col, with_statements, the_name, a_part}
use Rattle.aud_grammar.specs.Why.RendezvousRows.{StatementIs}

-- RM 9.8
abbrev pub TreesOfAbort : Type 0
TreesOfAbort =
    StatementIs (codes "abort T;")
    (m.abort (col 1) (the_name (a_part (codes "T") 7 []) []) m.no_names)
    × StatementIs (codes "ABORT t, A (1), P;")
    (m.abort (col 1) (the_name (a_part (codes "T") 7 []) []) (m.more_names (the_name (a_part (codes "A") 10 (num 1 (col 13) ∷ [])) []) (m.more_names (the_name (a_part (codes "P") 17 []) []) m.no_names)))
    × StatementIs (codes "abort T (1), Q.R;")
    (m.abort (col 1) (the_name (a_part (codes "T") 7 (num 1 (col 10) ∷ [])) []) (m.more_names (the_name (a_part (codes "Q") 14 []) (a_part (codes "R") 16 [] ∷ [])) m.no_names))
    × StatementsAre (codes "abort T; null;")
    (m.abort (col 1) (the_name (a_part (codes "T") 7 []) []) m.no_names) (m.null (col 10) ∷ [])

abbrev pub FaultsOfAbort : Type 0
FaultsOfAbort =
    StatementsStop (codes "abort;") 1
    × StatementsStop (codes "abort T,;") 3
    × StatementsStop (codes "abort T, 1;") 3
    × StatementsStop (codes "abort T A;") 2
    × StatementsStop (codes "abort T; , A;") 3
    × StatementsStop (codes "abort 'T;") 1
    × StatementsStop (codes "abort T'Callable;") 2
    × StatementsStop (codes "abort (T);") 1
    × StatementsStop (codes "abort T ();") 3
    × StatementsStop (codes "abort T.;") 3
    × StatementsStop (codes "abort T and A;") 2
    × StatementsStop (codes "abort when X;") 1
    × StatementsStop (codes "abort task T;") 1
    × StatementsStop (codes "X : abort T;") 2
    × DeclarationsStop (codes "abort T;") 0
    × ProgramStops (codes "procedure P is begin abort T") 6

-- what stands in parentheses lies one level deeper
abbrev pub LevelsOfAbort : Type 0
LevelsOfAbort =
    IsReadWithin 1 (with_statements (codes "abort T (1);")) (Err (deep_at (4 + 2)))
    × IsReadWithin 1 (with_statements (codes "abort T, U (1);")) (Err (deep_at (4 + 4)))
