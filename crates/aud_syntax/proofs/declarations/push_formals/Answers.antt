use Rattle.std.proofs.lemmas.List.{nil_from_length}
use Rattle.std.proofs.lemmas.Option.{MatchOption-at_none}
use Rattle.aud_syntax.proofs.Written.{nothing_written, formals_written}
use Rattle.aud_syntax.proofs.declarations.push_formals.Goals as goal

pub returns-in_default : goal.returns-in_default
returns-in_default c = rw (nil_from_length c.args.formals.now (MatchOption-at_none _ _ c.in_default.is c.split_first.ensures.cases)) nothing_written

pub returns : goal.returns
returns c =
    formals_written c.in-Some.first.now c.in-Some.others.now c.args.formals.now c.in-Some.ensures.cases.0 c.push_word.ensures c.push_formal.ensures c.push_more_formals.ensures c.push_word-2.ensures
