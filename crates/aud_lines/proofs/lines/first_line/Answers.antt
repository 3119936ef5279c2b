use Rattle.std.proofs.Common.{◌+◌, ◌∷◌, ◌++◌, take, ap, ◌∙◌, sym, add-one}
use Rattle.std.proofs.Common.{drop}
use Rattle.std.proofs.lemmas.List.{take_rest}
use Rattle.aud_lines.specs.Lines.{lines_of}
use Rattle.aud_lines.proofs.LineLaws.{lines_none, lines_first}
use Rattle.aud_lines.proofs.lines.first_line.Goals as goal

pub returns-in_default-clause-line : goal.returns-in_default-clause-line
returns-in_default-clause-line c = lines_none c.args.bytes.now c.in_default.ensures

pub returns-clause-line : goal.returns-clause-line
returns-clause-line c =
    let end = c.in-Some.end in
    let bytes = c.args.bytes.now in
    let found = c.in-Some.ensures in
    λ more.
    lines_first bytes more end found.0.high found.0.before found.1
    ∙ (ap (λ n. take end bytes ∷ lines_of (drop n bytes ++ more)) (sym (add-one end))
    ∙ ap (λ rest. take end bytes ∷ lines_of (rest ++ more)) (sym (take_rest bytes (end + 1))))
