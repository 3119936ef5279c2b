use Rattle.std.proofs.Common.{◌≡◌, ◌++◌, ◌∙◌, ap, List, ℕ, append_assoc, codes}
use Rattle.std.proofs.lemmas.Result.{on_ok_weaker}
use Rattle.aud_lines.specs.Text.{head, ran_line, raised_name, line_end}
use Rattle.aud_lines.proofs.answers.push_raised.Goals as goal

regrouped : (o a b c d e : List ℕ) → ((((o ++ a) ++ b) ++ c) ++ d) ++ e ≡ o ++ ((((a ++ b) ++ c) ++ d) ++ e)
regrouped o a b c d e = simp append_assoc

pub returns : goal.returns
returns c =
    let ran = c.in_ok-push_ran_line.ensures ∙ ap (λ x. x ++ ran_line c.args.report.now) c.in_ok-push_head.ensures in
    let main = c.in_ok-extend_from_slice.ensures.items ∙ ap (λ x. x ++ codes "main raised ") ran in
    let name = c.in_ok-extend_from_slice-2.ensures.items ∙ (ap (λ n. c.extend_from_slice.new.self.items ++ n) c.raised_name.ensures ∙ ap (λ x. x ++ raised_name c.args.raised.now) main) in
    on_ok_weaker c.push_line_end.result
    (λ e. e ∙ (ap (λ x. x ++ line_end) name ∙ regrouped c.args.out.now.items (head 2) (ran_line c.args.report.now) (codes "main raised ") (raised_name c.args.raised.now) line_end))
    c.push_line_end.ensures
