use Rattle.std.proofs.Common.{ℕ, List, [], ◌∷◌, sym, ◌∙◌, subst}
use Rattle.std.proofs.lemmas.Result.{IfOk-weaker}
use Rattle.aud_solo.specs.Ties.Serving.{TellsNext}
use Rattle.aud_solo.specs.Ties.Sessions.{session_words}
use Rattle.aud_solo.proofs.SessionLaws.{said_next, text_one, text_none}
use Rattle.aud_solo.proofs.solo.SessionAttendant.reply.Goals as goal

pub returns-in-Some : goal.returns-in-Some
returns-in-Some c =
    let old = c.args.self.now in
    let next = c.answer.new.self in
    let r = c.args.request.now in
    let a = c.in-Some.answer in
    let given = rw c.in-Some.is at c.in_ok-answer.ensures.answer in
    let said = said_next old next r (a ∷ []) c.in_ok-answer.ensures.limits c.in_ok-answer.ensures.over given in
    IfOk-weaker c.answer_text.result _ _ (λ text is. subst (λ (t : List ℕ). TellsNext session_words r old t next) (text_one a ∙ sym is) said) c.answer_text.ensures

pub returns-in-None : goal.returns-in-None
returns-in-None c =
    let old = c.args.self.now in
    let next = c.answer.new.self in
    let r = c.args.request.now in
    let given = rw c.in-None.is at c.in_ok-answer.ensures.answer in
    subst (λ (t : List ℕ). TellsNext session_words r old t next) (text_none ∙ sym c.new.ensures.items)
    (said_next old next r [] c.in_ok-answer.ensures.limits c.in_ok-answer.ensures.over given)
