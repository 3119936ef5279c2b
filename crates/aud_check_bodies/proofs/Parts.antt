-- Arms, handlers, accepts and alternatives in memory, and what holds them, by their parts.
use Rattle.std.specs.Prelude.{ℕ, Bool, true, false, List, [], ◌∷◌, ◌++◌, Option, Some, Vec, Box, map}
use Rattle.std.specs.Global.{Global}
use Rattle.std.proofs.Common.{◌≡◌, refl, sym, ap, ◌∙◌}
use Rattle.aud_text.specs.declared.place.Pos.{Pos}
use Rattle.aud_typed.specs.declared.program.Arm.{Arm}
use Rattle.aud_typed.specs.declared.program.Handler.{Handler}
use Rattle.aud_typed.specs.declared.program.Statement.{Statement}
use Rattle.aud_typed.specs.declared.program.Statements.{Statements, roll-Statements}
use Rattle.aud_typed.specs.declared.program.IfStatement.{roll-IfStatement, out-roll-IfStatement}
use Rattle.aud_typed.specs.declared.program.Body.{roll-Body, out-roll-Body}
use Rattle.aud_typed.specs.declared.program.AcceptStatement.{AcceptStatement, AcceptStatement', roll-AcceptStatement, out-roll-AcceptStatement}
use Rattle.aud_typed.specs.declared.program.Doing.{Doing, roll-Doing, out-roll-Doing}
use Rattle.aud_typed.specs.declared.program.BooleanExpression.{BooleanExpression}
use Rattle.aud_typed.specs.declared.program.DelayExpression.{DelayExpression}
use Rattle.aud_typed.specs.declared.program.Alternative as alternative
use Rattle.aud_typed.specs.declared.program.Alternative.{Alternative}
use Rattle.aud_typed.specs.declared.program.Alternative.TheVariants as variant
use Rattle.aud_typed.specs.declared.program.Body as memory_body
use Rattle.aud_typed.specs.Tree as tree
use Rattle.aud_typed.specs.Ties.View.{plain_boolean, plain_delay, plain_statement, plain_statements, plain_body, plain_accept, plain_alternative as plain_offered, statements_in, part_of_arms, handlers_in, if_in, doing_in, alternatives_in}
use Rattle.aud_typed.proofs.Opened.{body_open, accept_open, accept_alternative_open, delay_alternative_open}
use Rattle.aud_check_bodies.specs.Accepts.{TypedAccept}
use Rattle.aud_check_bodies.specs.Selects.{TypedAlternative, accepts, delays, terminates, alternative_then, alternatives_of}
use Rattle.aud_check_bodies.specs.Statements.{arm_then, arms_then, handlers_of}
use Rattle.aud_check_bodies.specs.Ties.Arms.{plain_arm, plain_handler, plain_accepted, plain_accepted_parts, plain_alternative}

pub arms_parts : (xs : List Arm) (p : tree.Part) → part_of_arms xs p ≡ arms_then (map plain_arm xs) p
arms_parts [] p = refl
arms_parts (x ∷ xs) p = ap (λ z. tree.some (arm_then (plain_arm x) z)) (arms_parts xs p)

pub handlers_parts : (hs : List Handler) → handlers_in hs ≡ handlers_of (map plain_handler hs)
handlers_parts [] = refl
handlers_parts (h ∷ hs) = ap (tree.handler h.others h.choices.items (statements_in h.statements)) (handlers_parts hs)

-- an if statement in memory, by its parts
pub if_parts : (first : Arm) (others : Vec Arm Global) (otherwise : Vec Statement Global) → if_in (roll-IfStatement (record { first = first; others = others; otherwise = otherwise })) ≡ arm_then (plain_arm first) (arms_then (map plain_arm others.items) (tree.part_of (plain_statements otherwise.items)))
if_parts first others otherwise = rw out-roll-IfStatement (ap (arm_then (plain_arm first)) (arms_parts others.items (tree.part_of (plain_statements otherwise.items))))

-- a body
pub body_parts : (declarations : Vec Statement Global) (begin : Pos) (activates : Bool) (statements : Statements) (handlers : Vec Handler Global) (end : Pos) → plain_body (roll-Body (record { declarations = declarations; begin = begin; activates = activates; statements = statements; handlers = handlers; end = end })) ≡ tree.body (tree.part_of (plain_statements declarations.items ++ tree.activation activates begin)) begin (statements_in statements) (handlers_in handlers.items) end
body_parts declarations begin activates statements handlers end =
    body_open (roll-Body (record { declarations = declarations; begin = begin; activates = activates; statements = statements; handlers = handlers; end = end })) ∙ rw out-roll-Body refl

-- one in which there is nothing
pub empty_body : (at : Pos) (first : Box Statement Global) (declarations others : Vec Statement Global) (handlers : Vec Handler Global) → plain_statement first.value ≡ tree.null at → declarations.items ≡ [] → others.items ≡ [] → handlers.items ≡ []
    → plain_body (roll-Body (record { declarations = declarations; begin = at; activates = false; statements = roll-Statements (record { first = first; others = others }); handlers = handlers; end = at })) ≡ tree.body tree.nothing at (tree.null at) tree.no_handlers at
empty_body at first declarations others handlers f d o h =
    let made : tree.Statement → List Statement → List Statement → List Handler → tree.Body = λ s ds ss hs. tree.body (tree.part_of (plain_statements ds ++ [])) at (tree.before s (plain_statements ss)) (handlers_in hs) at in
    body_parts declarations at false (roll-Statements (record { first = first; others = others })) handlers at
    ∙ ap (λ s. made s declarations.items others.items handlers.items) f ∙ ap (λ ds. made (tree.null at) ds others.items handlers.items) d
    ∙ ap (λ ss. made (tree.null at) [] ss handlers.items) o ∙ ap (made (tree.null at) [] []) h

-- accepts

pub accepted_statement : (s : AcceptStatement) → plain_accept s ≡ tree.accept (plain_accepted s).at (plain_accepted s).entry (plain_accepted s).doing
accepted_statement (AcceptStatement' at entry doing) = refl

abbrev accept_part : tree.Statement → TypedAccept
accept_part (tree.accept at entry doing) = record { at = at; entry = entry; doing = doing }
accept_part _ = record { at = record { line = 0; col = 0 }; entry = 0; doing = tree.without_do }

accepted_part : (s : AcceptStatement) → plain_accepted s ≡ accept_part (plain_accept s)
accepted_part (AcceptStatement' at entry doing) = refl

pub accepted_open : (s : AcceptStatement) → plain_accepted s ≡ plain_accepted_parts s
accepted_open s = accepted_part s ∙ ap accept_part (accept_open s)

pub accepted_roll : (at : Pos) (entry : ℕ) (doing : Option Doing) → plain_accepted (roll-AcceptStatement (record { at = at; entry = entry; doing = doing })) ≡ record { at = at; entry = entry; doing = doing_in doing }
accepted_roll at entry doing = accepted_open (roll-AcceptStatement (record { at = at; entry = entry; doing = doing })) ∙ rw out-roll-AcceptStatement refl

pub done_roll : (region : ℕ) (b : memory_body.Body) → doing_in (Some (roll-Doing (record { region = region; body = b }))) ≡ tree.with_do region (plain_body b)
done_roll region b = rw out-roll-Doing (ap (tree.with_do region) (sym (body_open b)))

-- alternatives

alternative_parts : (a : Alternative) (rest : tree.Alternatives) → plain_offered a rest ≡ alternative_then (plain_alternative a) rest
alternative_parts (alternative.Accept' guard (AcceptStatement' at entry doing) shape after) rest = refl
alternative_parts (alternative.Delay' guard e shape after) rest = refl
alternative_parts (alternative.Terminate guard) rest = refl

pub alternatives_parts : (xs : List Alternative) → alternatives_in xs ≡ alternatives_of (map plain_alternative xs)
alternatives_parts [] = refl
alternatives_parts (x ∷ xs) = alternative_parts x (alternatives_in xs) ∙ ap (alternative_then (plain_alternative x)) (alternatives_parts xs)

abbrev first_alternative : tree.Alternatives → TypedAlternative
first_alternative (tree.accepting guard at entry doing behind more) = accepts guard (record { at = at; entry = entry; doing = doing }) behind
first_alternative (tree.delaying guard e behind more) = delays guard e behind
first_alternative (tree.terminating guard more) = terminates guard
first_alternative tree.no_alternatives = terminates (tree.truth true)

alternative_first : (a : Alternative) → plain_alternative a ≡ first_alternative (plain_offered a tree.no_alternatives)
alternative_first (alternative.Accept' guard (AcceptStatement' at entry doing) shape after) = refl
alternative_first (alternative.Delay' guard e shape after) = refl
alternative_first (alternative.Terminate guard) = refl

pub accepts_parts : (guard : BooleanExpression) (x : AcceptStatement) (after : Vec Statement Global) → plain_alternative (variant.Accept guard x after) ≡ accepts (plain_boolean guard) (plain_accepted x) (tree.part_of (plain_statements after.items))
accepts_parts guard x after =
    alternative_first (variant.Accept guard x after) ∙ ap first_alternative (accept_alternative_open guard x after tree.no_alternatives)
    ∙ ap (λ z. accepts (plain_boolean guard) z (tree.part_of (plain_statements after.items))) (sym (accepted_open x))

pub delays_parts : (guard : BooleanExpression) (e : DelayExpression) (after : Vec Statement Global) → plain_alternative (variant.Delay guard e after) ≡ delays (plain_boolean guard) (plain_delay e) (tree.part_of (plain_statements after.items))
delays_parts guard e after = alternative_first (variant.Delay guard e after) ∙ ap first_alternative (delay_alternative_open guard e after tree.no_alternatives)
