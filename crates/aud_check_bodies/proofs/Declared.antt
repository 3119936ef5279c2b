-- Declarations that are still to be checked.
use denote.Ref.{Bor}
use Rattle.std.specs.Prelude.{ℕ, Bool, true, false, not, List, [], ◌∷◌, ◌++◌, Option, Vec, Result, Ok, Err, IfOk, OnOk}
use Rattle.std.specs.Global.{Global}
use Rattle.std.specs.declared.alloc.AllocError.{AllocError}
use Rattle.std.proofs.Common.{◌≡◌, refl, sym, ◌∙◌, ap, append_assoc, append-nil}
use Rattle.aud_text.specs.declared.place.Pos.{Pos}
use Rattle.aud_syntax.specs.declared.tree.Ident.{Ident}
use Rattle.aud_syntax.specs.Plain.{TaskDefinition, Operation, PrivateItem}
use Rattle.aud_typed.specs.Tree.{declare_object}
use Rattle.aud_typed.specs.Ties.View.{plain_statements as plain_typed_statements}
use Rattle.aud_syntax.specs.declared.tree.Declaration.{Declaration}
use Rattle.aud_syntax.specs.Ties.View.{plain_declarations, plain_declaration}
use Rattle.aud_names.specs.Names as names
use Rattle.aud_names.specs.Names.{Place, place_in, is_declared}
use Rattle.aud_names.specs.Rules.{declared_once, right_name_at_end}
use Rattle.aud_names.specs.declared.names.NamedParameter.{NamedParameter}
use Rattle.aud_names.specs.declared.names.Region.{Region}
use Rattle.aud_names.specs.Ties.Regions.{plain_region, plain_regions, plain_place}
use Rattle.aud_check_bodies.specs.declared.declaration.DeclarativePart.{DeclarativePart}
use Rattle.aud_fault.specs.declared.fault.Fault.{Fault}
use Rattle.aud_fault.specs.Least.{noted}
use Rattle.aud_check_bodies.specs.Regions.{shown_names}
use Rattle.aud_check_bodies.specs.Tables.{Tables, Outcome, fine, no_tables, next_task, next_unit, task_kept, next_object, object_kept}
use Rattle.aud_check_bodies.specs.Entries.{entry_numbers, naming}
use Rattle.aud_check_bodies.specs.Tasks.{name_behind, with_task, created_by, place_named, task_entries, task_entries_faults, checked_task}
use Rattle.aud_check_bodies.specs.Declarations.{Declared, Objects, nothing_declared, leaving, Exceptions, declared_exceptions, exceptions_twice, checked_exceptions}
use Rattle.aud_check_bodies.specs.Objects.{ObjectDeclared, parts_declared, parts_faults, with_object_parts, with_object, object_of_parts, checked_protected}
use Rattle.aud_check_bodies.specs.Statements.{checked_declaration, checked_declarations}
use Rattle.aud_check_bodies.specs.Ties.DeclarativePart.{Declares, DeclaresFormals, plain_exceptions}
use Rattle.aud_check_bodies.specs.Ties.Entries.{plain_formals}
use Rattle.aud_check_bodies.specs.Formals.{Formals}
use Rattle.aud_typing.specs.Ties.Typing.{Leaves}
use Rattle.aud_typing.proofs.Notes.{noted_append}

-- what is still to be declared, from some faults and a part on, amounts to what was asked
pub record DeclaresAhead (now_faults : Option Fault) (now : DeclarativePart) (rest : Outcome Declared) (old_faults : Option Fault) (old : DeclarativePart) (all : Outcome Declared) : Type 0 where
  pub noted : noted now_faults rest.faults ≡ noted old_faults all.faults
  pub place : rest.made.place ≡ all.made.place
  pub elaborations : plain_typed_statements now.elaborations.items ++ rest.made.elaborations ≡ plain_typed_statements old.elaborations.items ++ all.made.elaborations
  pub tables : rest.tables ≡ all.tables

pub declares_all : (old : Option Fault) (first : DeclarativePart) (all : Outcome Declared) → DeclaresAhead old first all old first all
declares_all old first all = record { noted = refl; place = refl; elaborations = refl; tables = refl }

-- one declaration more is checked
pub declarations_ahead : (outer : List (Bor Region)) (old mid new : Option Fault) (first now next : DeclarativePart) (t u : Tables) (all : Outcome Declared) (x : Declaration) (xs ys : List Declaration) → xs ≡ x ∷ ys
    → DeclaresAhead mid now (checked_declarations (plain_declarations xs) (plain_place now.region outer) t) old first all
    → Declares mid new outer now next u (checked_declaration (plain_declaration x) (plain_place now.region outer) t)
    → DeclaresAhead new next (checked_declarations (plain_declarations ys) (plain_place next.region outer) u) old first all
declarations_ahead outer old mid new first now next t u all x xs ys p a d =
    let here : Place = plain_place now.region outer in
    let one : Outcome Declared = checked_declaration (plain_declaration x) here t in
    let rest : Place → Tables → Outcome Declared = λ s v. checked_declarations (plain_declarations ys) s v in
    let last : Outcome Declared = rest one.made.place one.tables in
    let same : rest (plain_place next.region outer) u ≡ last = ap (λ s. rest s u) d.1 ∙ ap (λ v. rest one.made.place v) d.3 in
    let before : checked_declarations (plain_declarations xs) here t ≡ checked_declarations (plain_declarations (x ∷ ys)) here t = ap (λ l. checked_declarations (plain_declarations l) here t) p in
    record {
      noted = ap (λ (r : Outcome Declared). noted new r.faults) same ∙ ap (λ o. noted o last.faults) d.0 ∙ sym (noted_append mid one.faults last.faults) ∙ ap (λ l. noted mid (one.faults ++ l)) (sym (append-nil last.faults)) ∙ sym (ap (λ (r : Outcome Declared). noted mid r.faults) before) ∙ a.noted;
      place = ap (λ (r : Outcome Declared). r.made.place) same ∙ sym (ap (λ (r : Outcome Declared). r.made.place) before) ∙ a.place;
      elaborations = ap (λ l. l ++ (rest (plain_place next.region outer) u).made.elaborations) d.2 ∙ ap (λ (r : Outcome Declared). (plain_typed_statements now.elaborations.items ++ one.made.elaborations) ++ r.made.elaborations) same ∙ append_assoc (plain_typed_statements now.elaborations.items) one.made.elaborations last.made.elaborations ∙ sym (ap (λ (r : Outcome Declared). plain_typed_statements now.elaborations.items ++ r.made.elaborations) before) ∙ a.elaborations;
      tables = ap (λ (r : Outcome Declared). r.tables) same ∙ sym (ap (λ (r : Outcome Declared). r.tables) before) ∙ a.tables;
    }

-- all are checked
pub all_declared : (outer : List (Bor Region)) (old now : Option Fault) (first last : DeclarativePart) (t : Tables) (all : Outcome Declared) (xs : List Declaration) → xs ≡ []
    → DeclaresAhead now last (checked_declarations (plain_declarations xs) (plain_place last.region outer) t) old first all
    → Declares old now outer first last t all
all_declared outer old now first last t all xs p a =
    let rest : List Declaration → Outcome Declared = λ l. checked_declarations (plain_declarations l) (plain_place last.region outer) t in
    let end : rest xs ≡ rest [] = ap rest p in (
      sym (ap (λ (r : Outcome Declared). noted now r.faults) end) ∙ a.noted,
      sym (ap (λ (r : Outcome Declared). r.made.place) end) ∙ a.place,
      sym (append-nil _) ∙ sym (ap (λ (r : Outcome Declared). plain_typed_statements last.elaborations.items ++ r.made.elaborations) end) ∙ a.elaborations,
      sym (ap (λ (r : Outcome Declared). r.tables) end) ∙ a.tables,
    )

-- a declaration by which nothing is declared
pub declares_nothing : (old : Option Fault) (outer : List (Bor Region)) (part : DeclarativePart) (t : Tables) → Declares old old outer part part t (fine (nothing_declared (plain_place part.region outer)) t)
declares_nothing old outer part t = (refl, refl, sym (append-nil _), refl)

-- a declaration of objects leaves the tables as they are
pub keeps_tables : {T E : Type 0} (r : Result T E) (old new : Option Fault) (outer : List (Bor Region)) (first next : DeclarativePart) (t : Tables) (o : Objects)
    → OnOk r (Declares old new outer first next no_tables (leaving no_tables o)) → OnOk r (Declares old new outer first next t (leaving t o))
keeps_tables (Ok x) old new outer first next t o h = (h.0, h.1, h.2, refl)
keeps_tables (Err e) old new outer first next t o h = tt

-- a declaration of exceptions elaborates nothing
pub declares_exceptions : {T E : Type 0} (r : Result T E) (old new : Option Fault) (outer : List (Bor Region)) (first next : DeclarativePart) (names named : Vec (List ℕ) Global) (t u : Tables) (identifiers : List Ident)
    → next.elaborations ≡ first.elaborations
    → names.items ≡ t.exceptions
    → u ≡ record t { exceptions = named.items }
    → OnOk r (plain_exceptions next.region named ≡ declared_exceptions identifiers (plain_exceptions first.region names))
    → OnOk r (new ≡ noted old (exceptions_twice identifiers (plain_exceptions first.region names)))
    → OnOk r (Declares old new outer first next u (checked_exceptions identifiers (plain_place first.region outer) t))
declares_exceptions (Ok x) old new outer first next names named t u identifiers same before behind h k =
    let from : List (List ℕ) → Exceptions = λ xs. record { region = (plain_exceptions first.region names).region; names = xs } in
    let known : plain_exceptions next.region named ≡ declared_exceptions identifiers (from t.exceptions) = h ∙ ap (λ xs. declared_exceptions identifiers (from xs)) before in (
      k ∙ ap (λ xs. noted old (exceptions_twice identifiers (from xs))) before,
      ap (λ (e : Exceptions). place_in e.region (plain_regions outer)) known,
      ap (λ z. plain_typed_statements z.items) same ∙ sym (append-nil _),
      behind ∙ ap (λ (e : Exceptions). record t { exceptions = e.names }) known,
    )
declares_exceptions (Err e) old new outer first next names named t u identifiers same before behind h k = tt

-- a task, behind its entries
pub declares_task : {T E : Type 0} (r : Result T E) (old new : Option Fault) (outer : List (Bor Region)) (first next : DeclarativePart) (t u : Tables) (at : Pos) (is_type : Bool) (i : Ident) (d : Option TaskDefinition)
    → new ≡ noted old (declared_once i.name i.at first.region.symbols.entries ++ (task_entries_faults d (place_named is_type i (plain_place first.region outer) t) t ++ right_name_at_end i.name (name_behind d)))
    → plain_region next.region ≡ naming (task_entries d (place_named is_type i (plain_place first.region outer) t) t).names (with_task is_type i (next_task t) (next_unit t) (plain_region first.region))
    → plain_typed_statements next.elaborations.items ≡ plain_typed_statements first.elaborations.items ++ created_by is_type i at (next_task t)
    → OnOk r (u ≡ task_kept (entry_numbers (task_entries d (place_named is_type i (plain_place first.region outer) t) t).names) (task_entries d (place_named is_type i (plain_place first.region outer) t) t).tables)
    → OnOk r (Declares old new outer first next u (checked_task at is_type i d (plain_place first.region outer) t))
declares_task (Ok x) old new outer first next t u at is_type i d h p q k =
    let all : List Fault = declared_once i.name i.at first.region.symbols.entries ++ (task_entries_faults d (place_named is_type i (plain_place first.region outer) t) t ++ right_name_at_end i.name (name_behind d)) in
    (h ∙ ap (noted old) (sym (append-nil all)), ap (λ z. place_in z (plain_regions outer)) p, q, k)
declares_task (Err e) old new outer first next t u at is_type i d h p q k = tt

-- a protected object, with what it declares
pub declares_object : {T E : Type 0} (r : Result T E) (old new : Option Fault) (outer : List (Bor Region)) (first next : DeclarativePart) (t u : Tables) (at : Pos) (i : Ident) (operations : List Operation) (hidden : Option (List PrivateItem)) (last : Option Ident) (x : ObjectDeclared)
    → x ≡ parts_declared i.name operations hidden (plain_place first.region outer) t
    → new ≡ noted old (declared_once i.name i.at first.region.symbols.entries ++ (parts_faults i.name operations hidden (plain_place first.region outer) t ++ right_name_at_end i.name last))
    → plain_region next.region ≡ with_object_parts x.around.parts (with_object i (next_object t) (plain_region first.region))
    → plain_typed_statements next.elaborations.items ≡ plain_typed_statements first.elaborations.items ++ declare_object at (next_object t) x.values ∷ []
    → OnOk r (u ≡ object_kept i.name x.own.level (shown_names x.own.symbols) x.entries x.tables)
    → OnOk r (Declares old new outer first next u (checked_protected at i operations hidden last (plain_place first.region outer) t))
declares_object (Ok y) old new outer first next t u at i operations hidden last x e h p q k =
    let place : Place = plain_place first.region outer in
    let all : List Fault = declared_once i.name i.at first.region.symbols.entries ++ (parts_faults i.name operations hidden place t ++ right_name_at_end i.name last) in
    let made : ObjectDeclared → Outcome Declared = λ z. object_of_parts z at i (next_object t) place in (
      h ∙ ap (noted old) (sym (append-nil all)),
      ap (λ z. place_in z (plain_regions outer)) p ∙ ap (λ (z : ObjectDeclared). (made z).made.place) e,
      q ∙ ap (λ (z : ObjectDeclared). plain_typed_statements first.elaborations.items ++ (made z).made.elaborations) e,
      k ∙ ap (λ (z : ObjectDeclared). (made z).tables) e,
    )
declares_object (Err y) old new outer first next t u at i operations hidden last x e h p q k = tt

pub not_declared_yet : (once declared : Bool) → once ≡ not declared → once ≡ true → declared ≡ false
not_declared_yet true true p q = cc
not_declared_yet true false p q = refl
not_declared_yet false declared p q = cc

already_declared : (once declared : Bool) → once ≡ not declared → once ≡ false → declared ≡ true
already_declared false true p q = refl
already_declared false false p q = cc
already_declared true declared p q = cc

-- a name that is declared already stays what it was
pub stays_declared : (once : Bool) (i : Ident) (number : ℕ) (r : names.Region) → once ≡ not (is_declared i.name r.symbols) → once ≡ false → r ≡ with_object i number r
stays_declared once i number r p q = rw (already_declared once (is_declared i.name r.symbols) p q) refl

-- formals in a region of their own
pub formals_left : (r : Result (Vec NamedParameter Global) AllocError) (old new : Option Fault) (region : Region) (f g : Formals) → f ≡ g → IfOk r (λ p. DeclaresFormals old new region [] p.items f) → Leaves plain_formals r old new g.faults g.profile
formals_left (Ok p) old new region f g e h = (h.0 ∙ ap (λ (x : Formals). noted old x.faults) e, h.2 ∙ ap (λ (x : Formals). x.profile) e)
formals_left (Err x) old new region f g e h = tt
