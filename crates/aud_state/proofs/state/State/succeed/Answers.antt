use Rattle.std.proofs.Common.{ap, sym, ◌∙◌}
use Rattle.aud_typed.specs.declared.program.Exception.TheVariants.{Predefined}
use Rattle.aud_meaning.specs.Effects.{copied_back, CopiedBack}
use Rattle.aud_meaning.specs.Parts.{call_of, with_frames}
use Rattle.aud_meaning.specs.Tasks as effect
use Rattle.aud_code.specs.Control.{going}
use Rattle.aud_state.proofs.state.State.succeed.Goals as goal

pub returns-in-None : goal.returns-in-None
returns-in-None c = λ plan barrier.
    let go = going c.args.code.now in
    let old = c.args.self.now in
    let call = call_of c.args.id old in
    let back : CopiedBack = copied_back c.args.values.now call.backs old.shared.frames in
    c.caller_goes_on.ensures plan barrier
    ∙ ap (λ s. effect.caller_goes_on go plan barrier c.args.id (call_of c.args.id s) s) c.give_back.ensures.given
    ∙ ap (λ r. effect.ended_by go plan barrier r c.args.id call (with_frames back.frames old)) (sym c.in-None.is ∙ c.give_back.ensures.raised)

pub returns-in-Some : goal.returns-in-Some
returns-in-Some c = λ plan barrier.
    let go = going c.args.code.now in
    let old = c.args.self.now in
    let call = call_of c.args.id old in
    let back : CopiedBack = copied_back c.args.values.now call.backs old.shared.frames in
    c.caller_fails.ensures plan barrier
    ∙ ap (λ s. effect.caller_fails go plan barrier c.args.id (call_of c.args.id s) (Predefined c.in-Some.raise) s) c.give_back.ensures.given
    ∙ ap (λ r. effect.ended_by go plan barrier r c.args.id call (with_frames back.frames old)) (sym c.in-Some.is ∙ c.give_back.ensures.raised)
