use Rattle.aud_syntax.proofs.words.push_ident.Goals as goal

pub returns : goal.returns
returns c = rw c.as_bytes.ensures at c.push_word.ensures
