use Rattle.std.proofs.Common.{◌≡◌, suc, List, [], ◌∷◌, ◌++◌, length, map, ap, sym, ◌∙◌, arith}
use Rattle.std.specs.Prelude.{None}
use Rattle.aud_typed.specs.Ties.View.{handlers_in}
use Rattle.aud_code.specs.Flat.{end, Guards}
use Rattle.aud_layout.specs.Layout.{guards_of_by, ways_count}
use Rattle.aud_layout.specs.Leading.{around}
use Rattle.aud_code.specs.Places.{Guard}
use Rattle.aud_code.specs.View.{plain_guard}
use Rattle.aud_layout.specs.Assembly.{within_moved}
use Rattle.aud_layout.specs.Written.{flat_step}
use Rattle.aud_gen.proofs.Constructs.{guards_moved}
use Rattle.aud_gen.proofs.writer.Writer.write_guards.Goals as goal

pub returns-in-Ok : goal.returns-in-Ok
returns-in-Ok c = record {
  unless_refused = λ e.
      let old = c.args.self.now.lines in
      let h = handlers_in c.args.handlers.now in
      let many = ways_count (around 0 c.args.ways.now) in
      let line = λ (gs : List Guard). end (record { last = Guards gs; at = c.args.end; out = c.args.last; within = within_moved (λ n. n) c.args.ways.now.within; ways = []; bodies = []; exit = None }) ∷ [] in
      let ended = c.end.ensures.unless_refused e in
      let found = c.behind-first.ensures.unless_refused ended.0 in
      let first : c.behind-first.result ≡ suc (length old) = omega (arith, found.1.0, c.place.ensures) in
      (found.0, ended.1 ∙ ap (λ ls. ls ++ line (map plain_guard c.in-Ok.guards.items)) c.behind-first.ensures.same ∙ ap (λ gs. old ++ line gs) (c.in-Ok.ensures ∙ ap (λ n. guards_of_by flat_step h n many) first ∙ sym (guards_moved (guards_of_by flat_step h (suc (length old)) many))));
}

pub returns-in-Err : goal.returns-in-Err
returns-in-Err c = c.refuse.ensures _ _
