-- The alternatives of a selective accept, read one by one.
use Rattle.std.specs.Prelude.{◌≡◌, ℕ, List, [], ◌∷◌, true, false, Result, IfOk}
use Rattle.aud_lex.specs.Element.{Element}
use Rattle.aud_lex.specs.declared.token.Kind.TheVariants as kind
use Rattle.aud_syntax.specs.Plain as m
use Rattle.aud_grammar.specs.Grammar as g
use Rattle.aud_grammar.specs.Grammar.{Phrase, Symbol, T, N, Opt, Rep}
use Rattle.aud_grammar.specs.First.{next_in}
use Rattle.aud_grammar.specs.Actions.{Item, further, the_alternatives, with_guarded, first_alternative, other_alternatives, else_part, opt_expression, top, pop}
use Rattle.aud_cursor.specs.Ties.Reads.{Completing, NoMore}
use Rattle.aud_cursor.specs.declared.cursor.Rest.{Rest}
use Rattle.aud_cursor.specs.declared.cursor.Fault.{Fault}
use Rattle.aud_parse.specs.declared.select.Form.{Form}
use Rattle.aud_parse.specs.declared.select.Form.TheVariants as form
use Rattle.aud_parse.specs.declared.select.Seen.{Seen}
use Rattle.aud_parse.specs.declared.select.Seen.TheVariants as seen

-- the phrase of an alternative
abbrev pub alternative_of : Form → Phrase
alternative_of form.Accept = g.AcceptAlternative
alternative_of form.Delay = g.DelayAlternative
alternative_of form.Terminate = g.TerminateAlternative

-- the symbols that read what follows
abbrev pub remaining : Seen → List Symbol
remaining seen.Accepts = Opt g.AfterAccept ∷ []
remaining seen.Delays = T kind.Or ∷ Opt g.Guard ∷ N g.NeedAccept ∷ []
remaining seen.AcceptsAndDelays = Rep g.OrEither ∷ []
remaining seen.Terminate = N g.OrAccept ∷ Rep g.OrAccept ∷ []
remaining seen.AcceptsAndTerminate = Rep g.OrAccept ∷ []

-- what these symbols read, as one item
abbrev pub followed : Seen → List Item → List Item
followed seen.Accepts st = further (other_alternatives (top st)) (else_part (top st)) ∷ pop st
followed seen.Delays st = further (m.more_alternatives (opt_expression (top st)) (first_alternative (top (pop st))) (other_alternatives (top (pop st)))) (else_part (top (pop st))) ∷ pop (pop st)
followed seen.AcceptsAndDelays st = further (the_alternatives (top st)) m.no_statements ∷ pop st
followed seen.Terminate st = further (with_guarded (top st) (the_alternatives (top (pop st)))) m.no_statements ∷ pop (pop st)
followed seen.AcceptsAndTerminate st = further (the_alternatives (top st)) m.no_statements ∷ pop st

-- with which alternative a selective accept begins
pub data Begins : List Element → Form → Seen → Type 0 where
  b_accept : {ts : List Element} → next_in (kind.Accept ∷ []) ts ≡ true → Begins ts form.Accept seen.Accepts
  b_delay : {ts : List Element} → next_in (kind.Accept ∷ []) ts ≡ false → next_in (kind.Delay ∷ []) ts ≡ true → Begins ts form.Delay seen.Delays
  b_terminate : {ts : List Element} → next_in (kind.Accept ∷ []) ts ≡ false → next_in (kind.Delay ∷ []) ts ≡ false → Begins ts form.Terminate seen.Terminate

-- which alternative is read next, by what stands there already, and what stands there then
pub data Goes : Seen → List Element → Form → Seen → Type 0 where
  g_accept : {ts : List Element} → next_in (kind.Accept ∷ []) ts ≡ true → Goes seen.Accepts ts form.Accept seen.Accepts
  g_delay : {ts : List Element} → next_in (kind.Accept ∷ []) ts ≡ false → next_in (kind.Delay ∷ []) ts ≡ true → Goes seen.Accepts ts form.Delay seen.AcceptsAndDelays
  g_terminate : {ts : List Element} → next_in (kind.Accept ∷ []) ts ≡ false → next_in (kind.Delay ∷ []) ts ≡ false → Goes seen.Accepts ts form.Terminate seen.AcceptsAndTerminate
  g_delays : {ts : List Element} → next_in (kind.Delay ∷ []) ts ≡ true → Goes seen.Delays ts form.Delay seen.Delays
  g_needed : {ts : List Element} → next_in (kind.Delay ∷ []) ts ≡ false → Goes seen.Delays ts form.Accept seen.AcceptsAndDelays
  g_either : {ts : List Element} → next_in (kind.Accept ∷ []) ts ≡ true → Goes seen.AcceptsAndDelays ts form.Accept seen.AcceptsAndDelays
  g_or : {ts : List Element} → next_in (kind.Accept ∷ []) ts ≡ false → Goes seen.AcceptsAndDelays ts form.Delay seen.AcceptsAndDelays
  g_first : {ts : List Element} → Goes seen.Terminate ts form.Accept seen.AcceptsAndTerminate
  g_more : {ts : List Element} → Goes seen.AcceptsAndTerminate ts form.Accept seen.AcceptsAndTerminate

-- what the symbols read is made into a tree, of no tokens perhaps
pub record MayComplete {X : Type 0} (make : List Item → List Item) (f : X → Item) (s : List Symbol) (room : ℕ) (start : Rest) (result : Result (X × Rest) Fault) : Type 0 where
  pub reads : Completing make f s room start result
  pub shorter : IfOk result (λ p. NoMore p.1 start)
