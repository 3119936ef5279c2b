-- Arguments and formals one after the other.
use Rattle.std.specs.Prelude.{ℕ, nat_eq, false, List, [], ◌∷◌, ◌++◌, length, slice_get, Option, Some, None}
use Rattle.std.proofs.Math.Dec.{eqb-zero-suc, eqb-suc-zero, eqb-suc-suc}
use Rattle.std.proofs.Common.{◌≡◌, ◌+◌, ◌<◌, add-one, drop, get_or, refl, sym, ◌∙◌, ap, append_assoc, append-nil}
use Rattle.std.proofs.Math.Seq.{drop-cons}
use Rattle.aud_syntax.specs.declared.tree.Expression.{Expression}
use Rattle.aud_syntax.specs.declared.tree.Term.{Term, out-Term}
use Rattle.aud_syntax.specs.declared.tree.Multiplied.{Multiplied}
use Rattle.aud_syntax.specs.declared.tree.Simple.{Simple, out-Simple}
use Rattle.aud_syntax.specs.declared.tree.Added.{Added}
use Rattle.aud_syntax.specs.Plain as m
use Rattle.aud_syntax.specs.Ties.View.{plain_expressions, plain_simple, plain_term, plain_factor}
use Rattle.aud_syntax.proofs.Opened.{multiplied_list, added_list, term_open, simple_open}
use Rattle.aud_typed.specs.Tree.{Argument}
use Rattle.aud_fault.specs.declared.fault.Fault.{Fault}
use Rattle.aud_names.specs.declared.names.NamedParameter.{NamedParameter}
use Rattle.aud_fault.specs.Least.{noted}
use Rattle.aud_names.specs.Names.{Region, Place}
use Rattle.aud_check_bodies.specs.Arguments.{factor_name, term_name, unsigned_name, are_as_many, passed, passed_faults, with_passed, all_passed, all_passed_faults}
use Rattle.aud_check_bodies.specs.Formals.{Formals, checked_formal, checked_formals}
use Rattle.aud_check_bodies.specs.Ties.Passed.{one_more_passed}
use Rattle.aud_typing.proofs.Notes.{noted_append}

-- the name that a term is, and a sum: none where there is more than one factor or term

no_first : {A : Type 0} (xs : List A) → None ≡ slice_get xs 0 → xs ≡ []
no_first [] e = refl
no_first (x ∷ xs) e = cc

pub one_factor : (t : Term) (xs : List Multiplied) → xs ≡ (out-Term t).rest.items → None ≡ slice_get xs 0 → term_name (plain_term t) ≡ factor_name (plain_factor (out-Term t).first)
one_factor t xs p e = ap term_name (term_open t) ∙ ap (λ l. term_name (m.term (plain_factor (out-Term t).first) (multiplied_list l))) (sym p ∙ no_first xs e)

multiplied_named : (f : m.Factor) (xs : List Multiplied) (x : Multiplied) → Some x ≡ slice_get xs 0 → term_name (m.term f (multiplied_list xs)) ≡ None
multiplied_named f [] x e = cc
multiplied_named f (y ∷ ys) x e = refl

pub more_factors : (t : Term) (xs : List Multiplied) (x : Multiplied) → xs ≡ (out-Term t).rest.items → Some x ≡ slice_get xs 0 → term_name (plain_term t) ≡ None
more_factors t xs x p e = ap term_name (term_open t) ∙ multiplied_named (plain_factor (out-Term t).first) (out-Term t).rest.items x (e ∙ ap (λ l. slice_get l 0) p)

pub one_term : (s : Simple) (xs : List Added) → xs ≡ (out-Simple s).rest.items → None ≡ slice_get xs 0 → unsigned_name (plain_simple s) ≡ term_name (plain_term (out-Simple s).first)
one_term s xs p e = ap unsigned_name (simple_open s) ∙ ap (λ l. unsigned_name (m.simple (out-Simple s).sign (plain_term (out-Simple s).first) (added_list l))) (sym p ∙ no_first xs e)

added_named : (s : Simple) (xs : List Added) (x : Added) → Some x ≡ slice_get xs 0 → unsigned_name (m.simple (out-Simple s).sign (plain_term (out-Simple s).first) (added_list xs)) ≡ None
added_named s [] x e = cc
added_named s (y ∷ ys) x e = refl

pub more_terms : (s : Simple) (xs : List Added) (x : Added) → xs ≡ (out-Simple s).rest.items → Some x ≡ slice_get xs 0 → unsigned_name (plain_simple s) ≡ None
more_terms s xs x p e = ap unsigned_name (simple_open s) ∙ added_named s (out-Simple s).rest.items x (e ∙ ap (λ l. slice_get l 0) p)

-- as many as formals

pub counted : (fs : List NamedParameter) (xs : List Expression) → are_as_many fs (plain_expressions xs) ≡ nat_eq (length fs) (length xs)
counted [] [] = refl
counted [] (x ∷ xs) = sym (eqb-zero-suc (length xs))
counted (f ∷ fs) [] = sym (eqb-suc-zero (length fs))
counted (f ∷ fs) (x ∷ xs) = counted fs xs ∙ sym (eqb-suc-suc (length fs) (length xs))

with_none : (a : Option Argument) → with_passed a None ≡ None
with_none None = refl
with_none (Some a) = refl

-- where there are more or fewer nothing is passed
pub none_passed : (fs : List NamedParameter) (es : m.Args) (place : Place) → are_as_many fs es ≡ false → all_passed fs es place ≡ None
none_passed [] m.no_args place e = cc
none_passed [] (m.more_args x xs) place e = refl
none_passed (f ∷ fs) m.no_args place e = refl
none_passed (f ∷ fs) (m.more_args x xs) place e = ap (with_passed (passed f.parameter x place)) (none_passed fs xs place e) ∙ with_none (passed f.parameter x place)

-- what a loop over formals has before it
pub formals_dropped : (xs : List NamedParameter) (i : ℕ) (d : NamedParameter) → i < length xs → drop i xs ≡ get_or xs i d ∷ drop (i + 1) xs
formals_dropped xs i d h = rw add-one (drop-cons xs i d h)

-- arguments that are still to be checked, behind those that were

abbrev pub joined_passed : Option (List Argument) → Option (List Argument) → Option (List Argument)
joined_passed (Some xs) (Some ys) = Some (xs ++ ys)
joined_passed (Some xs) None = None
joined_passed None _ = None

pub record PassedAhead (now : Option Fault) (all : Option (List Argument)) (fs : List NamedParameter) (es : m.Args) (place : Place) (old : Option Fault) (fs0 : List NamedParameter) (es0 : m.Args) : Type 0 where
  pub faults : noted now (all_passed_faults fs es place) ≡ noted old (all_passed_faults fs0 es0 place)
  pub made : joined_passed all (all_passed fs es place) ≡ all_passed fs0 es0 place

none_before : (rest : Option (List Argument)) → joined_passed (Some []) rest ≡ rest
none_before None = refl
none_before (Some ys) = refl

pub passed_begins : (old : Option Fault) (fs : List NamedParameter) (es : m.Args) (place : Place) → PassedAhead old (Some []) fs es place old fs es
passed_begins old fs es place = record { faults = refl; made = none_before (all_passed fs es place) }

one_joined : (all : Option (List Argument)) (a : Option Argument) (rest : Option (List Argument)) → joined_passed (one_more_passed all a) rest ≡ joined_passed all (with_passed a rest)
one_joined None a rest = refl
one_joined (Some xs) None rest = refl
one_joined (Some xs) (Some a) None = refl
one_joined (Some xs) (Some a) (Some ys) = ap Some (append_assoc xs (a ∷ []) ys)

-- one argument more is checked
pub passed_ahead : (place : Place) (old mid new : Option Fault) (all next : Option (List Argument)) (f : NamedParameter) (fs gs fs0 : List NamedParameter) (x : m.Expression) (es : m.Args) (es0 : m.Args) → gs ≡ f ∷ fs
    → PassedAhead mid all gs (m.more_args x es) place old fs0 es0
    → new ≡ noted mid (passed_faults f.parameter x place)
    → next ≡ one_more_passed all (passed f.parameter x place)
    → PassedAhead new next fs es place old fs0 es0
passed_ahead place old mid new all next f fs gs fs0 x es es0 p a q e = record {
  faults = ap (λ z. noted z (all_passed_faults fs es place)) q ∙ sym (noted_append mid (passed_faults f.parameter x place) (all_passed_faults fs es place)) ∙ sym (ap (λ l. noted mid (all_passed_faults l (m.more_args x es) place)) p) ∙ a.faults;
  made = ap (λ z. joined_passed z (all_passed fs es place)) e ∙ one_joined all (passed f.parameter x place) (all_passed fs es place) ∙ sym (ap (λ l. joined_passed all (all_passed l (m.more_args x es) place)) p) ∙ a.made;
}

none_joined : (all : Option (List Argument)) → joined_passed all None ≡ None
none_joined None = refl
none_joined (Some xs) = refl

-- there are fewer arguments than formals, or more
pub passed_short : (place : Place) (old now : Option Fault) (all : Option (List Argument)) (f : NamedParameter) (fs gs fs0 : List NamedParameter) (es0 : m.Args) → gs ≡ f ∷ fs → PassedAhead now all gs m.no_args place old fs0 es0 → (now ≡ noted old (all_passed_faults fs0 es0 place)) × (None ≡ all_passed fs0 es0 place)
passed_short place old now all f fs gs fs0 es0 p a = (
  sym (ap (λ l. noted now (all_passed_faults l m.no_args place)) p) ∙ a.faults,
  sym (none_joined all) ∙ sym (ap (λ l. joined_passed all (all_passed l m.no_args place)) p) ∙ a.made,
)

pub passed_long : (place : Place) (old now : Option Fault) (all : Option (List Argument)) (fs fs0 : List NamedParameter) (x : m.Expression) (es es0 : m.Args) → fs ≡ [] → PassedAhead now all fs (m.more_args x es) place old fs0 es0 → (now ≡ noted old (all_passed_faults fs0 es0 place)) × (None ≡ all_passed fs0 es0 place)
passed_long place old now all fs fs0 x es es0 p a = (
  sym (ap (λ l. noted now (all_passed_faults l (m.more_args x es) place)) p) ∙ a.faults,
  sym (none_joined all) ∙ sym (ap (λ l. joined_passed all (all_passed l (m.more_args x es) place)) p) ∙ a.made,
)

all_joined : (all : Option (List Argument)) → joined_passed all (Some []) ≡ all
all_joined None = refl
all_joined (Some xs) = ap Some (append-nil xs)

-- all are checked
pub passed_ends : (place : Place) (old now : Option Fault) (all : Option (List Argument)) (fs fs0 : List NamedParameter) (es0 : m.Args) → fs ≡ [] → PassedAhead now all fs m.no_args place old fs0 es0 → (now ≡ noted old (all_passed_faults fs0 es0 place)) × (all ≡ all_passed fs0 es0 place)
passed_ends place old now all fs fs0 es0 p a = (
  sym (ap (λ l. noted now (all_passed_faults l m.no_args place)) p) ∙ a.faults,
  sym (all_joined all) ∙ sym (ap (λ l. joined_passed all (all_passed l m.no_args place)) p) ∙ a.made,
)

-- formals that are still to be declared, behind those that were

pub record FormalsAhead (now : Option Fault) (r : Region) (before : List NamedParameter) (fs : List m.Formal) (outer : List Region) (old : Option Fault) (all : Formals) : Type 0 where
  pub faults : noted now (checked_formals fs r outer).faults ≡ noted old all.faults
  pub region : (checked_formals fs r outer).region ≡ all.region
  pub profile : before ++ (checked_formals fs r outer).profile ≡ all.profile

pub formals_begin : (old : Option Fault) (r : Region) (profile : List NamedParameter) (fs : List m.Formal) (outer : List Region) → profile ≡ [] → FormalsAhead old r profile fs outer old (checked_formals fs r outer)
formals_begin old r profile fs outer e = record { faults = refl; region = refl; profile = ap (λ l. l ++ (checked_formals fs r outer).profile) e }

-- one more is declared
pub formals_ahead : (outer : List Region) (old mid new : Option Fault) (r s : Region) (before profile : List NamedParameter) (all : Formals) (f : m.Formal) (fs gs : List m.Formal) → gs ≡ f ∷ fs
    → FormalsAhead mid r before gs outer old all
    → (new ≡ noted mid (checked_formal f r outer).faults) × (s ≡ (checked_formal f r outer).region) × (profile ≡ before ++ (checked_formal f r outer).profile)
    → FormalsAhead new s profile fs outer old all
formals_ahead outer old mid new r s before profile all f fs gs p a d =
    let one : Formals = checked_formal f r outer in
    let rest : Region → Formals = λ z. checked_formals fs z outer in
    let same : rest s ≡ rest one.region = ap rest d.1 in
    let whole : checked_formals gs r outer ≡ checked_formals (f ∷ fs) r outer = ap (λ l. checked_formals l r outer) p in
    record {
      faults = ap (λ (z : Formals). noted new z.faults) same ∙ ap (λ o. noted o (rest one.region).faults) d.0 ∙ sym (noted_append mid one.faults (rest one.region).faults) ∙ sym (ap (λ (z : Formals). noted mid z.faults) whole) ∙ a.faults;
      region = ap (λ (z : Formals). z.region) same ∙ sym (ap (λ (z : Formals). z.region) whole) ∙ a.region;
      profile = ap (λ l. l ++ (rest s).profile) d.2 ∙ ap (λ (z : Formals). (before ++ one.profile) ++ z.profile) same ∙ append_assoc before one.profile (rest one.region).profile ∙ sym (ap (λ (z : Formals). before ++ z.profile) whole) ∙ a.profile;
    }

-- all are declared
pub formals_end : (outer : List Region) (old now : Option Fault) (r : Region) (profile : List NamedParameter) (all : Formals) (fs : List m.Formal) → fs ≡ [] → FormalsAhead now r profile fs outer old all → (now ≡ noted old all.faults) × (r ≡ all.region) × (profile ≡ [] ++ all.profile)
formals_end outer old now r profile all fs p a =
    let end : checked_formals fs r outer ≡ checked_formals [] r outer = ap (λ l. checked_formals l r outer) p in (
      sym (ap (λ (z : Formals). noted now z.faults) end) ∙ a.faults,
      sym (ap (λ (z : Formals). z.region) end) ∙ a.region,
      sym (append-nil profile) ∙ sym (ap (λ (z : Formals). profile ++ z.profile) end) ∙ a.profile,
    )
