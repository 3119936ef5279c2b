-- Tokens that differ in their places alone, or are spelled otherwise.
use Rattle.std.specs.Prelude.{◌≡◌, List, [], ◌∷◌, Result, Ok, Err}
use Rattle.aud_text.specs.Name.{capitals}
use Rattle.aud_lex.specs.Element.{Element}
use Rattle.aud_lex.specs.Kinds.{kind_number}
use Rattle.aud_lex.specs.declared.token.Kind.TheVariants as token
use Rattle.aud_syntax.specs.Plain as m
use Rattle.aud_syntax.specs.Why.Bare.{bare}
use Rattle.aud_grammar.specs.Values.{number_value, whole_part, decimals, unquoted}
use Rattle.aud_grammar.specs.Parsed.{Fault}

-- two tokens of one kind, and of one meaning where the tree keeps it (RM 2.3(5), 2.4.1, 2.6)
pub record Alike (t u : Element) : Type 0 where
  pub kind : kind_number t.kind ≡ kind_number u.kind
  pub name : kind_number t.kind ≡ kind_number token.Identifier → capitals t.text ≡ capitals u.text
  pub number : kind_number t.kind ≡ kind_number token.Integer → number_value t.text ≡ number_value u.text
  pub whole : kind_number t.kind ≡ kind_number token.Real → whole_part t.text ≡ whole_part u.text
  pub fraction : kind_number t.kind ≡ kind_number token.Real → decimals t.text ≡ decimals u.text
  pub literal : kind_number t.kind ≡ kind_number token.Text → unquoted t.text ≡ unquoted u.text

-- one by one
abbrev pub AllAlike : List Element → List Element → Type 0
AllAlike [] [] = Unit {0}
AllAlike [] (u ∷ us) = ⊥
AllAlike (t ∷ ts) [] = ⊥
AllAlike (t ∷ ts) (u ∷ us) = Alike t u × AllAlike ts us

-- what is read, but for the places in a tree
abbrev pub stripped : Result m.Unit Fault → Result m.Unit Fault
stripped (Ok u) = Ok (bare u)
stripped (Err f) = Err f
