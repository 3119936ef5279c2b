use Rattle.std.proofs.Common.{◌≡◌, ◌++◌, ◌∷◌, [], false, map, ap, sym, ◌∙◌}
use Rattle.std.specs.Prelude.{Result, Ok, Err, is_err, is_ok, if◌then◌else◌}
use Rattle.std.proofs.lemmas.List.{map-append}
use Rattle.aud_code.specs.View.{plain_line}
use Rattle.aud_gen.proofs.Writing.{contradiction}
use Rattle.aud_gen.proofs.writer.Writer.write.Goals as goal

-- what a vector has after a push
pushed : {T E X : Type 0} (r : Result T E) (now longer same : X) → now ≡ (if is_ok r then longer else same) → is_err r ≡ false → now ≡ longer
pushed (Ok x) now longer same h e = h
pushed (Err x) now longer same h e = cc

pub returns-then-self : goal.returns-then-self
returns-then-self c = record { unless_refused = λ e. let not : c.self.inside.refused ≡ false = cc in contradiction c.if-self.true not }

pub returns : goal.returns
returns c = record {
  unless_refused = λ e.
      let before : c.args.self.now.refused ≡ false = cc in
      let lines : map plain_line c.self.inside.lines.items ≡ c.args.self.now.lines = cc in
      let items = pushed c.push.result _ (c.self.inside.lines.items ++ c.args.line ∷ []) c.self.inside.lines.items c.push.ensures.items (sym c.is_err-self-inside.ensures.value ∙ e) in
      (before, ap (map plain_line) items ∙ map-append plain_line c.self.inside.lines.items (c.args.line ∷ []) ∙ ap (λ ls. ls ++ plain_line c.args.line ∷ []) lines);
}
