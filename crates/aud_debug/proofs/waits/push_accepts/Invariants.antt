use Rattle.std.proofs.Common.{◌≡◌, ◌++◌, drop}
use Rattle.aud_typed.specs.Ties.View.{plain_program}
use Rattle.aud_meaning.specs.Listings.Waits.{accept_words}
use Rattle.aud_debug.proofs.waits.push_accepts.Given as goal

abbrev pub invariant-loop-accept : goal.invariant-loop-accept
invariant-loop-accept l =
    let plan = (plain_program l.compiled.program.now).plan in
    l.out.items ++ accept_words plan (drop l.accept-index l.accepts) ≡ l.initial.out.items ++ accept_words plan l.accepts
