use Rattle.std.proofs.Common.{◌≡◌, ◌<◌, ◌∷◌, length, take, drop, ap, subst, ◌∙◌, sym, rules, ℕ}
use Rattle.aud_lines.specs.Lines.{words_of}
use Rattle.aud_lines.proofs.LineLaws.{word_until}
use Rattle.aud_lines.proofs.lines.first_word.Goals as goal

pub returns : goal.returns
returns c =
    let rest = c.behind_spaces-rest.result.now in
    let some : 0 < length rest = search rules in
    let end = c.unwrap_or-end.result in
    let cut = subst (λ (n : ℕ). words_of rest ≡ take n rest ∷ words_of (drop n rest)) (sym c.unwrap_or-end.ensures) (word_until rest c.memchr.result c.memchr.ensures some (c.behind_spaces-rest.ensures.front some)) in
    sym c.behind_spaces-rest.ensures.words
    ∙ (cut
    ∙ (ap (λ w. w ∷ words_of (drop end rest)) (sym c.split_at.ensures.front)
    ∙ ap (λ w. c.split_at.result.0.now ∷ words_of w) (sym c.split_at.ensures.back)))
