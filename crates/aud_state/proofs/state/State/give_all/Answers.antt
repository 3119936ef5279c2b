use Rattle.std.proofs.Common.{ap, sym, ◌∙◌}
use Rattle.aud_meaning.specs.Effects.{copied_back, CopiedBack}
use Rattle.aud_meaning.specs.Parts.{with_frames}
use Rattle.aud_state.specs.Returning.{valued, valued_behind}
use Rattle.aud_state.proofs.state.State.give_all.Goals as goal

pub returns-in-None-clause-raised : goal.returns-in-None-clause-raised
returns-in-None-clause-raised c =
    let r = c.args.returns in
    let back : CopiedBack = copied_back c.args.values.now c.args.backs.now c.args.self.now.shared.frames in
    let none = sym c.in-None.is ∙ c.copy_back.ensures.raised in
    c.give_value.ensures.raised
    ∙ ap (λ s. (valued r.into r.value s.shared.frames).raised) c.copy_back.ensures.given
    ∙ ap (λ o. (valued_behind r.into r.value o (record back { raised = o })).raised) none

pub returns-in-None-clause-given : goal.returns-in-None-clause-given
returns-in-None-clause-given c =
    let r = c.args.returns in
    let back : CopiedBack = copied_back c.args.values.now c.args.backs.now c.args.self.now.shared.frames in
    let none = sym c.in-None.is ∙ c.copy_back.ensures.raised in
    c.give_value.ensures.given
    ∙ ap (λ s. with_frames (valued r.into r.value s.shared.frames).frames s) c.copy_back.ensures.given
    ∙ ap (λ o. with_frames (valued_behind r.into r.value o (record back { raised = o })).frames c.args.self.now) none

pub returns-in-Some-clause-raised : goal.returns-in-Some-clause-raised
returns-in-Some-clause-raised c =
    let r = c.args.returns in
    let back : CopiedBack = copied_back c.args.values.now c.args.backs.now c.args.self.now.shared.frames in
    let some = sym c.in-Some.is ∙ c.copy_back.ensures.raised in
    ap (λ o. (valued_behind r.into r.value o (record back { raised = o })).raised) some

pub returns-in-Some-clause-given : goal.returns-in-Some-clause-given
returns-in-Some-clause-given c =
    let r = c.args.returns in
    let back : CopiedBack = copied_back c.args.values.now c.args.backs.now c.args.self.now.shared.frames in
    let some = sym c.in-Some.is ∙ c.copy_back.ensures.raised in
    c.copy_back.ensures.given
    ∙ ap (λ o. with_frames (valued_behind r.into r.value o (record back { raised = o })).frames c.args.self.now) some
