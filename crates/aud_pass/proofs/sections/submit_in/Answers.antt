use Rattle.std.proofs.Common.{List, Some, None, ◌++◌, ◌∷◌, [], ◌∙◌, sym, ap, subst}
use Rattle.aud_bench.specs.declared.request.Request.{Request}
use Rattle.aud_pass.specs.Passed.{IsGot}
use Rattle.aud_pass.proofs.Overs.{got_more}
use Rattle.aud_pass.proofs.Fitting.{fits_as}
use Rattle.aud_pass.proofs.sections.submit_in.Goals as goal

pub invariant_of-pass-2 : goal.invariant_of-pass-2
invariant_of-pass-2 c =
    let inside = c.pass.inside in
    let sent = c.add.ensures ∙ ap (λ (rs : List Request). rs ++ c.in_ok-kept.kept ∷ []) c.prepare.ensures.items in
    subst (λ (rs : List Request). IsGot inside.limits rs inside.got.items) (sym sent) (got_more inside.limits inside.sent.items (c.in_ok-kept.kept ∷ []) inside.got.items c.pass.invariant)

pub returns-in-Some-clause-fits : goal.returns-in-Some-clause-fits
returns-in-Some-clause-fits c = fits_as c.args.pass.now c.args.request c.args.hall.now (Some c.in-Some.fault) (sym c.in-Some.is ∙ c.submit_fault.ensures)

pub returns-clause-fits : goal.returns-clause-fits
returns-clause-fits c = fits_as c.args.pass.now c.args.request c.args.hall.now None (sym c.in_default.is ∙ c.submit_fault.ensures)
