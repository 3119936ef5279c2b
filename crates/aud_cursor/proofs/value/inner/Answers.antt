use Rattle.std.proofs.Common.{◌++◌, ap, sym, ◌∙◌, append_assoc, add-one}
use Rattle.aud_grammar.proofs.Literals.{inner_keep, inner_skip}
use Rattle.aud_cursor.proofs.value.inner.Goals.{then-not-behind_quote+in_ok-push, else-not-behind_quote}
use Rattle.aud_cursor.proofs.value.inner.Goals as goal

pub loop-byte-preserved : goal.loop-byte-preserved
loop-byte-preserved c = elim c.if-not-behind_quote.branch [
  | then-not-behind_quote+in_ok-push w ↦
      rw (add-one, w.kept-is, w.in_ok-push.ensures.items, w.if-not-behind_quote.true)
      (append_assoc c.loop-byte.kept.items _ _
      ∙ ap (λ z. c.loop-byte.kept.items ++ z) (sym (inner_keep c.args.bytes.now c.loop-byte.byte-index c.loop-byte.behind_quote c.loop-byte-test.true (sym c.is_left_out-behind_quote.ensures ∙ w.if-not-behind_quote.true)))
      ∙ c.loop-byte.invariant)
  | else-not-behind_quote w ↦
      rw (add-one, w.kept-is, w.if-not-behind_quote.false)
      (ap (λ z. c.loop-byte.kept.items ++ z) (sym (inner_skip c.args.bytes.now c.loop-byte.byte-index c.loop-byte.behind_quote c.loop-byte-test.true (sym c.is_left_out-behind_quote.ensures ∙ w.if-not-behind_quote.false)))
      ∙ c.loop-byte.invariant)
]
