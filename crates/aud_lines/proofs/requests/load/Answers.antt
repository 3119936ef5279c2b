use Rattle.std.proofs.Common.{◌++◌, ◌∷◌, ap, sym, ◌∙◌, arith}
use Rattle.aud_lines.specs.Requests.{requests}
use Rattle.aud_lines.proofs.RequestLaws.{load_none, load_all}
use Rattle.aud_lines.proofs.requests.load.Goals as goal

pub returns-then-missing-gt0-clause-first : goal.returns-then-missing-gt0-clause-first
returns-then-missing-gt0-clause-first c =
    let load = c.in_ok-load.field-0.load in
    load_none c.args.lines load.missing load.source.items load.fault c.args.bytes.now c.in_ok-load.field-0.rest.now c.in_ok-load.ensures.whole c.if-missing-gt0.true (c.in_ok-load.ensures.ended c.if-missing-gt0.true)

pub returns-clause-first : goal.returns-clause-first
returns-clause-first c =
    let load = c.in_ok-load.field-0.load in
    let rest = c.in_ok-load.field-0.rest.now in
    λ more.
    load_all c.args.lines load.missing load.source.items load.fault c.args.bytes.now rest c.in_ok-load.ensures.whole (omega (arith, c.if-missing-gt0.false)) more
    ∙ ap (λ r. r ∷ requests (rest ++ more)) (sym c.load_of.ensures)
