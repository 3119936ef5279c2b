use Rattle.std.proofs.Common.{◌≡◌, ℕ, ◌-◌, List, ◌++◌, length, take, drop, min, sym, ap, ◌∙◌, length-drop}
use Rattle.std.proofs.lemmas.List.{take_at, drop_min}
use Rattle.aud_bench.specs.declared.request.Answer.{Answer}
use Rattle.aud_bench.proofs.bench.drop_first.Goals as goal

-- the first ones, turned behind the others, are cut off
cut_off : (xs : List Answer) (count least left : ℕ) → least ≡ min count (length xs) → left ≡ length xs - least → take left (drop least xs ++ take least xs) ≡ drop count xs
cut_off xs count least left least_is left_is =
    take_at (drop least xs) (take least xs) left (length-drop least xs ∙ sym left_is) ∙ ap (λ n. drop n xs) least_is ∙ drop_min count xs

pub returns-clause-items : goal.returns-clause-items
returns-clause-items c =
    let xs = c.args.answers.now.items in
    let least : c.min-count.result ≡ min c.args.count (length xs) = c.min-count.ensures ∙ ap (min c.args.count) (c.len.ensures ∙ c.args.answers.now.ok.0) in
    let left : c.len-2.result - c.min-count.result ≡ length xs - c.min-count.result = ap (λ n. n - c.min-count.result) (c.len-2.ensures ∙ c.args.answers.now.ok.0) in
    c.truncate.ensures.items ∙ ap (take (c.len-2.result - c.min-count.result)) c.rotate_left.ensures.items ∙ cut_off xs c.args.count c.min-count.result (c.len-2.result - c.min-count.result) least left
