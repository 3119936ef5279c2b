use Rattle.std.proofs.Common.{◌≡◌, ◌-◌, length, reverse}
use Rattle.aud_store.specs.Ties.Stored.{valued}
use Rattle.aud_store.proofs.Valued.{looked}
use Rattle.aud_store.proofs.stack.give_value.Given as goal

abbrev pub invariant-loop-inner : goal.invariant-loop-inner
invariant-loop-inner l =
    (l.opened.items ≡ l.fn.opened.items) × (looked l.value l.opened.items (length l.opened.items - l.inner) ≡ valued l.value (reverse l.fn.opened.items))
