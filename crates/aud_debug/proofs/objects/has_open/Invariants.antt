use Rattle.std.proofs.Common.{◌≡◌, drop}
use Rattle.std.specs.Prelude.{nat_eq}
use Rattle.aud_meaning.specs.Parts.{any}
use Rattle.aud_store.specs.declared.stack.Open.{Open}
use Rattle.aud_debug.proofs.objects.has_open.Given as goal

abbrev pub invariant-loop-open : goal.invariant-loop-open
invariant-loop-open l = any (λ (o : Open). nat_eq o.frame l.frame) (drop l.open-index l.opened) ≡ any (λ (o : Open). nat_eq o.frame l.frame) l.opened
