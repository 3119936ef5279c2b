use Rattle.std.proofs.Common.{◌≡◌, ◌++◌, take}
use Rattle.aud_store.proofs.Names.{names_in}
use Rattle.aud_store.proofs.stack.Stack.names.Given as goal

abbrev pub invariant-loop-open : goal.invariant-loop-open
invariant-loop-open l = l.into.items ≡ l.initial.into.items ++ names_in (take l.open-index l.open-items)
