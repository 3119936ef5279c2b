use Rattle.std.proofs.Common.{List, refl, ap}
use Rattle.aud_meaning.specs.Configuration.{Opened}
use Rattle.aud_meaning.specs.Ties.Stack.{Stack}
use Rattle.aud_store.specs.Ties.Display.{seen}
use Rattle.aud_store.proofs.Opened.{IsLast, placed_turned, opened_turned, none_changed}
use Rattle.aud_store.proofs.stack.Stack.set_elaborated.Goals as goal
use Rattle.aud_store.proofs.stack.Stack.set_elaborated.Goals.{in-Some, in_default}

pub invariant_of-self : goal.invariant_of-self
invariant_of-self c = elim c.match-last_mut.branch [
  | in-Some w ↦ rw w.self-inside-is (
      let opened = c.self.inside.opened in
      let old = w.in-Some.open.now in
      let last : IsLast opened.items opened.len old = record { counted = opened.ok.0; some = w.in-Some.ensures.variant.0 refl; at = w.in-Some.ensures.value } in
      placed_turned c.self.inside.display opened.items opened.len old (record old { elaborated = c.args.elaborated }) last (record { frame = refl; purpose = refl; replaced = refl }) c.self.invariant)
  | in_default w ↦ rw w.self-inside-is c.self.invariant
]

pub returns : goal.returns
returns c =
    let opened = c.self.inside.opened in
    let with : List Opened → Stack = λ os. record { display = seen c.self.inside.display; opened = os } in
    let changed : Opened → Opened = λ o. record o { elaborated = c.args.elaborated } in
    elim c.match-last_mut.branch [
      | in-Some w ↦ rw (w.self-inside-is, ← c.self.view_is) (
          let old = w.in-Some.open.now in
          let last : IsLast opened.items opened.len old = record { counted = opened.ok.0; some = w.in-Some.ensures.variant.0 refl; at = w.in-Some.ensures.value } in
          ap with (opened_turned changed c.self.inside.display opened.items c.self.inside.backs.items opened.len old (record old { elaborated = c.args.elaborated }) last (record { frame = refl; purpose = refl; replaced = refl }) (λ saved own. refl)))
      | in_default w ↦ rw (w.self-inside-is, ← c.self.view_is) (ap with (none_changed changed c.self.inside.display opened.items c.self.inside.backs.items w.in_default.ensures.item.3))
    ]
