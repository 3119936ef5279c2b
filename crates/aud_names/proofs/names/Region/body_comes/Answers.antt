use Rattle.std.proofs.Common.{◌≡◌, ◌∙◌, ap, sym, subst, Some, None, arith}
use Rattle.std.proofs.lemmas.Option.{slice_get-get_or}
use Rattle.aud_names.specs.Ties.Regions.{plain_region}
use Rattle.aud_names.proofs.Waiting.{Answers, found_answers}
use Rattle.aud_names.proofs.names.Region.body_comes.Goals as goal

pub returns-in-None-clause-task : goal.returns-in-None-clause-task
returns-in-None-clause-task c =
    let name = c.args.name.now in
    let xs = c.args.self.now.awaited.items in
    let same : c.deref.result.now ≡ xs = c.deref.ensures.value in
    let h : Answers name xs None = subst (λ l. Answers name l None) same (found_answers name c.deref.result.now None (sym c.in-None.is ∙ c.index_of.ensures)) in
    sym h.1

pub returns-in-None-clause-region : goal.returns-in-None-clause-region
returns-in-None-clause-region c =
    let name = c.args.name.now in
    let xs = c.args.self.now.awaited.items in
    let same : c.deref.result.now ≡ xs = c.deref.ensures.value in
    let h : Answers name xs None = subst (λ l. Answers name l None) same (found_answers name c.deref.result.now None (sym c.in-None.is ∙ c.index_of.ensures)) in
    ap (λ l. record (plain_region c.args.self.now) { awaited = l }) (sym h.0)

pub remove-requires : goal.remove-requires
remove-requires c =
    let name = c.args.name.now in
    let xs = c.args.self.now.awaited.items in
    let same : c.deref.result.now ≡ xs = c.deref.ensures.value in
    let h : Answers name xs (Some c.in-Some.index) = subst (λ l. Answers name l (Some c.in-Some.index)) same (found_answers name c.deref.result.now (Some c.in-Some.index) (sym c.in-Some.is ∙ c.index_of.ensures)) in
    omega (arith, h.0, c.args.self.now.awaited.ok.0)

pub returns-in-Some-clause-task : goal.returns-in-Some-clause-task
returns-in-Some-clause-task c =
    let name = c.args.name.now in
    let xs = c.args.self.now.awaited.items in
    let same : c.deref.result.now ≡ xs = c.deref.ensures.value in
    let h : Answers name xs (Some c.in-Some.index) = subst (λ l. Answers name l (Some c.in-Some.index)) same (found_answers name c.deref.result.now (Some c.in-Some.index) (sym c.in-Some.is ∙ c.index_of.ensures)) in
    sym (h.2 ∙ slice_get-get_or xs c.in-Some.index c.remove.result h.0 ∙ ap (λ a. Some a) (sym c.remove.ensures.value))

pub returns-in-Some-clause-region : goal.returns-in-Some-clause-region
returns-in-Some-clause-region c =
    let name = c.args.name.now in
    let xs = c.args.self.now.awaited.items in
    let same : c.deref.result.now ≡ xs = c.deref.ensures.value in
    let h : Answers name xs (Some c.in-Some.index) = subst (λ l. Answers name l (Some c.in-Some.index)) same (found_answers name c.deref.result.now (Some c.in-Some.index) (sym c.in-Some.is ∙ c.index_of.ensures)) in
    ap (λ l. record (plain_region c.args.self.now) { awaited = l }) (c.remove.ensures.items ∙ sym h.1)
