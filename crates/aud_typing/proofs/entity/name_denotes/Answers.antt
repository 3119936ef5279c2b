use Rattle.std.proofs.Common.{◌≡◌, ap, ◌∙◌}
use Rattle.aud_syntax.specs.Plain.{Args}
use Rattle.aud_syntax.specs.Ties.View.{plain_name, plain_expressions}
use Rattle.aud_names.specs.declared.resolution.Denoted.{Denoted}
use Rattle.aud_fault.specs.Least.{noted}
use Rattle.aud_names.specs.Resolution.{Resolved, resolved, last_args}
use Rattle.aud_typing.specs.Expressions.{Indexed, indexed}
use Rattle.aud_typing.specs.Ties.Typing.{plain_typed}
use Rattle.aud_typing.proofs.Notes.{noted_then}
use Rattle.aud_typing.proofs.entity.name_denotes.Goals as goal

pub returns : goal.returns
returns c =
    let n = plain_name c.args.name.now in
    let r : Resolved = resolved n c.args.scope.now in
    let last = plain_typed c.args.last.value in
    let given = plain_typed c.into_inner-last.result in
    let same : indexed c.resolve-denoted.result.meaning (plain_expressions c.last_args.result.now) c.resolve-denoted.result.at given ≡ indexed r.denoted.meaning (last_args n) r.denoted.at last =
    ap (λ (d : Denoted). indexed d.meaning (plain_expressions c.last_args.result.now) d.at given) c.resolve-denoted.ensures.denoted
    ∙ ap (λ (xs : Args). indexed r.denoted.meaning xs r.denoted.at given) c.last_args.ensures
    ∙ ap (λ x. indexed r.denoted.meaning (last_args n) r.denoted.at (plain_typed x)) c.into_inner-last.ensures in
    record {
      entity = c.indexed-entity.ensures.entity ∙ ap (λ (x : Indexed). x.entity) same;
      at = ap (λ (d : Denoted). d.at) c.resolve-denoted.ensures.denoted;
      noted = noted_then c.args.faults.now c.resolve-denoted.new.faults c.indexed-entity.new.faults r.faults _ c.resolve-denoted.ensures.noted (c.indexed-entity.ensures.noted ∙ ap (λ (x : Indexed). noted c.resolve-denoted.new.faults x.faults) same);
    }
