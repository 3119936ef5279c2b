-- The set of the names that a declaration hides, as it is made.
use denote.Ref.{Bor}
use Rattle.std.proofs.Common.{◌≡◌, ℕ, Bool, true, false, cond, ◌||◌, List, [], ◌∷◌, refl, ◌∙◌, ap}
use Rattle.std.proofs.lemmas.Cmp.{nat_list_eq_equiv}
use Rattle.std.specs.Str.{bytes_eq}
use Rattle.aud_syntax.specs.declared.tree.Ident.{Ident}
use Rattle.aud_names.specs.Names.{is_hidden}
use Rattle.aud_names.specs.Ties.Hidden.{is_among, IsSetOf}

-- a name is in the set, or still to come, where one of all the identifiers has it
abbrev pub IsSetAhead : List (Bor (List ℕ)) → List Ident → List Ident → Type 0
IsSetAhead names rest all = (name : Bor (List ℕ)) → (is_among name.now names || is_hidden name.now rest) ≡ is_hidden name.now all

either : (a b c : Bool) → (cond b true a || c) ≡ (a || (b || c))
either true true c = refl
either true false c = refl
either false true c = refl
either false false c = refl

-- the next identifier's name goes into the set
pub one_ahead : (old new : List (Bor (List ℕ))) (next : Ident) (rest all : List Ident)
    → ((name : Bor (List ℕ)) → is_among name.now new ≡ cond (bytes_eq next.name name.now) true (is_among name.now old))
    → IsSetAhead old (next ∷ rest) all → IsSetAhead new rest all
one_ahead old new next rest all grown h name =
    ap (λ b. b || is_hidden name.now rest) (grown name)
    ∙ ap (λ b. cond b true (is_among name.now old) || is_hidden name.now rest) (nat_list_eq_equiv.symm next.name name.now)
    ∙ either (is_among name.now old) (bytes_eq name.now next.name) (is_hidden name.now rest)
    ∙ h name

or_false : (b : Bool) → b ≡ (b || false)
or_false true = refl
or_false false = refl

-- where none is to come, the set has all
pub none_ahead : (names : List (Bor (List ℕ))) (all : List Ident) → IsSetAhead names [] all → IsSetOf all names
none_ahead names all h name = or_false (is_among name.now names) ∙ h name
