use Rattle.std.proofs.Common.{◌≡◌, ◌∷◌, [], ◌++◌, ap, sym, ◌∙◌, codes, lit≤, lit<}
use Rattle.std.specs.Fmt.{decimal}
use Rattle.std.proofs.lemmas.Fmt.{decimal_step, decimal_digit}
use Rattle.aud_lines.specs.Text.{line_end}
use Rattle.aud_solo.proofs.serving.out_of_memory.Goals as goal

pub returns : goal.returns
returns c =
    let ninety : decimal 90 ≡ 57 ∷ 48 ∷ [] = decimal_step 90 (lit≤ tt) (lit< tt) ∙ ap (λ ds. ds ++ 48 ∷ []) (decimal_digit 9 (lit< tt)) in
    sym (ap (λ ds. codes "- E" ++ ds ++ codes " " ++ codes "out of memory" ++ line_end) ninety)
