use Rattle.std.proofs.Common.{◌∷◌, sym, ap, arith}
use Rattle.aud_parse.specs.Ties.Items.{declaration_item}
use Rattle.aud_cursor.proofs.Passing.{to, exit}
use Rattle.aud_parse.proofs.declaration.named_declaration.Goals as goal

pub returns-in_err-declaration : goal.returns-in_err-declaration
returns-in_err-declaration c = exit _ _ _ c.from_residual.ensures.1 c.in_err-declaration.ensures.reads (λ k ds v o. o)

pub returns : goal.returns
returns c = record { reads = λ k ds v o. to (c.in_ok-declaration.ensures.reads _ _ _ o) (ap (λ z. declaration_item z ∷ ds) (sym c.in_ok-boxed.ensures)); shorter = omega (arith, c.in_ok-declaration.ensures.shorter) }
