-- Accepts and select statements whose parts are checked.
use Rattle.std.specs.Prelude.{ℕ, nat_eq, List, [], ◌∷◌, ◌++◌, Option, Box, Result, IfOk, if◌then◌else◌}
use Rattle.std.specs.Global.{Global}
use Rattle.std.specs.declared.alloc.AllocError.{AllocError}
use Rattle.std.proofs.Common.{◌≡◌, refl, ◌∙◌, subst}
use Rattle.aud_text.specs.declared.place.Pos.{Pos}
use Rattle.aud_syntax.specs.declared.tree.Ident.{Ident}
use Rattle.aud_syntax.specs.Plain as m
use Rattle.aud_typed.specs.declared.program.AcceptStatement as memory_accept
use Rattle.aud_typed.specs.declared.program.Alternative as memory_alternative
use Rattle.aud_typed.specs.declared.program.Statement as memory
use Rattle.aud_typed.specs.Tree as tree
use Rattle.aud_typed.specs.Ties.View.{plain_statement}
use Rattle.aud_fault.specs.declared.fault.Fault.{Fault}
use Rattle.aud_fault.specs.Least.{noted}
use Rattle.aud_names.specs.declared.entries.EntryName.{EntryName}
use Rattle.aud_names.specs.Names as names
use Rattle.aud_names.specs.Names.{Region, Place, place_in}
use Rattle.aud_names.specs.Rules.{right_name_at_end}
use Rattle.aud_typing.specs.Conditions.{maybe_condition_faults, maybe_condition}
use Rattle.aud_check_bodies.specs.Regions.{shown_names}
use Rattle.aud_check_bodies.specs.Accepts.{accept_formals, accept_faults, accepted, number_of, TypedAccept}
use Rattle.aud_check_bodies.specs.Calls.{entry_call_of, selected_call_faults, selected_call}
use Rattle.aud_check_bodies.specs.Delays.{delay_faults, typed_delay}
use Rattle.aud_check_bodies.specs.Selects.{TypedAlternative, accepts, delays, terminates, alternatives_of, form_faults, form_of}
use Rattle.aud_check_bodies.specs.Tables.{Tables, Outcome, fine, after, and_then, next_region, with_region}
use Rattle.aud_check_bodies.specs.Statements.{Around, in_accept, end_name, body_with, TypedBody, TypedStatements, checked_statement, checked_statements, checked_others, checked_body, checked_accept, checked_alternative, checked_alternatives, checked_otherwise}
use Rattle.aud_check_bodies.specs.Ties.Arms.{plain_accepted, plain_alternative}
use Rattle.aud_check_bodies.specs.Ties.Within.{Checks}
use Rattle.aud_typing.specs.Ties.Typing.{in_box}
use Rattle.aud_typing.proofs.Notes.{noted_then}
use Rattle.aud_check_bodies.proofs.Walked.{Is, is_fine, is_after, is_then, checks}
use Rattle.aud_check_bodies.proofs.Scoping.Names.{either}

-- entries do not change at which level a region is

entry_level : (name : List ℕ) (number : ℕ) (r : Region) → (names.with_entry name number r).level ≡ r.level
entry_level name number r = either (λ (z : Region). z.level ≡ r.level) (names.is_declared name r.symbols) r _ refl refl

pub entries_level : (task_type : ℕ) (xs : List EntryName) (r : Region) → (names.with_entries task_type xs r).level ≡ r.level
entries_level task_type [] r = refl
entries_level task_type (x ∷ xs) r =
    let one : Region = if nat_eq task_type x.task_type then names.with_entry x.name x.number r else r in
    entries_level task_type xs one ∙ either (λ (z : Region). z.level ≡ r.level) (nat_eq task_type x.task_type) (names.with_entry x.name x.number r) r (entry_level x.name x.number r) refl

-- an accept as a statement
pub accepting_left : (r : Result (Box memory.Statement Global) AllocError) (old new : Option Fault) (t u : Tables) (x : m.Accept) (around : Around) (place : Place) (made : TypedAccept)
    → Is old new u made (checked_accept x around place t)
    → IfOk r (λ s. plain_statement s.value ≡ tree.accept made.at made.entry made.doing)
    → Checks (in_box plain_statement) r old new u (checked_statement (m.accepting x) around place t)
accepting_left r old new t u x around place made h g =
    let o : Outcome TypedAccept = checked_accept x around place t in
    let next : TypedAccept → Tables → Outcome tree.Statement = λ a t1. fine (tree.accept a.at a.entry a.doing) t1 in
    let y : tree.Statement = tree.accept made.at made.entry made.doing in
    checks (in_box plain_statement) r old new u y (checked_statement (m.accepting x) around place t) (is_then old new new u u made y o next h (is_fine new u y y refl)) g

-- one that does nothing
pub accept_alone_left : (r : Result (Box memory_accept.AcceptStatement Global) AllocError) (old new : Option Fault) (t : Tables) (at : Pos) (i : Ident) (fs : List m.Formal) (around : Around) (place : Place) (made : TypedAccept)
    → new ≡ noted old (accept_faults i fs around.accepting place t)
    → made ≡ record { at = at; entry = number_of (accepted i place); doing = tree.without_do }
    → IfOk r (λ a. plain_accepted a.value ≡ made)
    → Checks (in_box plain_accepted) r old new t (checked_accept (m.accept at i fs m.without_do) around place t)
accept_alone_left r old new t at i fs around place made h f g =
    let nothing : Outcome tree.Doing = fine tree.without_do t in
    let next : tree.Doing → Tables → Outcome TypedAccept = λ x v. fine (record { at = at; entry = number_of (accepted i place); doing = x }) v in
    let z : TypedAccept = record { at = at; entry = number_of (accepted i place); doing = tree.without_do } in
    checks (in_box plain_accepted) r old new t made (checked_accept (m.accept at i fs m.without_do) around place t)
    (is_after old new new t made (accept_faults i fs around.accepting place t) (and_then nothing next) h (is_then new new new t t tree.without_do made nothing next (refl, refl, refl) (is_fine new t made z f))) g

-- one that does something
pub accept_doing_left : (r : Result (Box memory_accept.AcceptStatement Global) AllocError) (old headed stated new : Option Fault) (t entry u : Tables) (at : Pos) (i : Ident) (fs : List m.Formal) (b : m.Body) (around within : Around) (place inner : Place) (x : TypedBody) (made : TypedAccept)
    → headed ≡ noted old (accept_faults i fs around.accepting place t)
    → within ≡ in_accept (accepted i place) (accept_formals fs place).profile around
    → inner ≡ place_in (accept_formals fs place).region place.regions
    → entry ≡ with_region (shown_names (accept_formals fs place).region.symbols) t
    → Is headed stated u x (checked_body b within inner entry)
    → new ≡ noted stated (right_name_at_end i.name (end_name b))
    → made ≡ record { at = at; entry = number_of (accepted i place); doing = tree.with_do (next_region t) (body_with [] b x) }
    → IfOk r (λ a. plain_accepted a.value ≡ made)
    → Checks (in_box plain_accepted) r old new u (checked_accept (m.accept at i fs (m.with_do b)) around place t)
accept_doing_left r old headed stated new t entry u at i fs b around within place inner x made h w p k s q f g =
    let own : Around → Place → Tables → Outcome TypedBody = λ a z v. checked_body b a z v in
    let there : Place = place_in (accept_formals fs place).region place.regions in
    let begun : Tables = with_region (shown_names (accept_formals fs place).region.symbols) t in
    let whole : Outcome TypedBody = own (in_accept (accepted i place) (accept_formals fs place).profile around) there begun in
    let checked : Is headed stated u x whole =
    subst (λ a. Is headed stated u x (own a there begun)) w (subst (λ z. Is headed stated u x (own within z begun)) p (subst (λ v. Is headed stated u x (own within inner v)) k s)) in
    let ends : List Fault = right_name_at_end i.name (end_name b) in
    let doing : TypedBody → Tables → Outcome tree.Doing = λ y v. after ends (fine (tree.with_do (next_region t) (body_with [] b y)) v) in
    let d : tree.Doing = tree.with_do (next_region t) (body_with [] b x) in
    let done : Is headed new u d (and_then whole doing) = is_then headed stated new u u x d whole doing checked (is_after stated new new u d ends (fine d u) q (is_fine new u d d refl)) in
    let next : tree.Doing → Tables → Outcome TypedAccept = λ y v. fine (record { at = at; entry = number_of (accepted i place); doing = y }) v in
    let z : TypedAccept = record { at = at; entry = number_of (accepted i place); doing = d } in
    checks (in_box plain_accepted) r old new u made (checked_accept (m.accept at i fs (m.with_do b)) around place t)
    (is_after old headed new u made (accept_faults i fs around.accepting place t) (and_then (and_then whole doing) next) h (is_then headed new new u u d made (and_then whole doing) next done (is_fine new u made z f))) g

-- alternatives behind their guards

pub accept_alternative_left : (r : Result (Box memory_alternative.Alternative Global) AllocError) (old guarded headed new : Option Fault) (t v u : Tables) (guard : m.MaybeExpression) (x : m.Accept) (ss : m.MoreStatements) (around : Around) (place : Place) (made : TypedAccept) (xs : List tree.Statement) (y : TypedAlternative)
    → guarded ≡ noted old (maybe_condition_faults guard place)
    → Is guarded headed v made (checked_accept x around place t)
    → Is headed new u xs (checked_others ss around place v)
    → y ≡ accepts (maybe_condition guard place) made (tree.part_of xs)
    → IfOk r (λ a. plain_alternative a.value ≡ y)
    → Checks (in_box plain_alternative) r old new u (checked_alternative (m.accept_alternative x ss) guard around place t)
accept_alternative_left r old guarded headed new t v u guard x ss around place made xs y p h s f g =
    let first : Outcome TypedAccept = checked_accept x around place t in
    let behind : TypedAccept → List tree.Statement → Tables → Outcome TypedAlternative = λ a l w. fine (accepts (maybe_condition guard place) a (tree.part_of l)) w in
    let next : TypedAccept → Tables → Outcome TypedAlternative = λ a w. and_then (checked_others ss around place w) (behind a) in
    checks (in_box plain_alternative) r old new u y (checked_alternative (m.accept_alternative x ss) guard around place t)
    (is_after old guarded new u y (maybe_condition_faults guard place) (and_then first next) p
    (is_then guarded headed new v u made y first next h (is_then headed new new u u xs y (checked_others ss around place v) (behind made) s (is_fine new u y (accepts (maybe_condition guard place) made (tree.part_of xs)) f)))) g

pub delay_alternative_left : (r : Result (Box memory_alternative.Alternative Global) AllocError) (old guarded waited new : Option Fault) (t u : Tables) (guard : m.MaybeExpression) (d : m.Delay) (ss : m.MoreStatements) (around : Around) (place : Place) (xs : List tree.Statement) (y : TypedAlternative)
    → guarded ≡ noted old (maybe_condition_faults guard place)
    → waited ≡ noted guarded (delay_faults d place)
    → Is waited new u xs (checked_others ss around place t)
    → y ≡ delays (maybe_condition guard place) (typed_delay d place) (tree.part_of xs)
    → IfOk r (λ a. plain_alternative a.value ≡ y)
    → Checks (in_box plain_alternative) r old new u (checked_alternative (m.delay_alternative d ss) guard around place t)
delay_alternative_left r old guarded waited new t u guard d ss around place xs y p q s f g =
    let o : Outcome (List tree.Statement) = checked_others ss around place t in
    let next : List tree.Statement → Tables → Outcome TypedAlternative = λ l w. fine (delays (maybe_condition guard place) (typed_delay d place) (tree.part_of l)) w in
    checks (in_box plain_alternative) r old new u y (checked_alternative (m.delay_alternative d ss) guard around place t)
    (is_after old waited new u y (maybe_condition_faults guard place ++ delay_faults d place) (and_then o next) (noted_then old guarded waited (maybe_condition_faults guard place) (delay_faults d place) p q)
    (is_then waited new new u u xs y o next s (is_fine new u y (delays (maybe_condition guard place) (typed_delay d place) (tree.part_of xs)) f))) g

pub terminate_left : (r : Result (Box memory_alternative.Alternative Global) AllocError) (old new : Option Fault) (t : Tables) (guard : m.MaybeExpression) (around : Around) (place : Place) (y : TypedAlternative)
    → new ≡ noted old (maybe_condition_faults guard place)
    → y ≡ terminates (maybe_condition guard place)
    → IfOk r (λ a. plain_alternative a.value ≡ y)
    → Checks (in_box plain_alternative) r old new t (checked_alternative m.terminate_alternative guard around place t)
terminate_left r old new t guard around place y p f g =
    checks (in_box plain_alternative) r old new t y (checked_alternative m.terminate_alternative guard around place t)
    (is_after old new new t y (maybe_condition_faults guard place) (fine (terminates (maybe_condition guard place)) t) p (is_fine new t y (terminates (maybe_condition guard place)) f)) g

-- a selective accept
pub select_left : (r : Result (Box memory.Statement Global) AllocError) (old one all new : Option Fault) (t v w u : Tables) (at : Pos) (guard : m.MaybeExpression) (x : m.Alternative) (xs : m.Alternatives) (otherwise : m.MoreStatements) (around : Around) (place : Place) (a : TypedAlternative) (more : List TypedAlternative) (rest : List tree.Statement) (y : tree.Statement)
    → Is old one v a (checked_alternative x guard around place t)
    → Is one all w more (checked_alternatives xs around place v)
    → Is all new u rest (checked_others otherwise around place w)
    → y ≡ tree.select at (alternatives_of (a ∷ more)) (tree.part_of rest)
    → IfOk r (λ s. plain_statement s.value ≡ y)
    → Checks (in_box plain_statement) r old new u (checked_statement (m.select_accept at guard x xs otherwise) around place t)
select_left r old one all new t v w u at guard x xs otherwise around place a more rest y h i j f g =
    let o1 : Outcome TypedAlternative = checked_alternative x guard around place t in
    let o2 : Outcome (List TypedAlternative) = checked_alternatives xs around place v in
    let o3 : Outcome (List tree.Statement) = checked_others otherwise around place w in
    let n3 : TypedAlternative → List TypedAlternative → List tree.Statement → Tables → Outcome tree.Statement = λ b bs l t1. fine (tree.select at (alternatives_of (b ∷ bs)) (tree.part_of l)) t1 in
    let n2 : TypedAlternative → List TypedAlternative → Tables → Outcome tree.Statement = λ b bs t1. and_then (checked_others otherwise around place t1) (n3 b bs) in
    let n1 : TypedAlternative → Tables → Outcome tree.Statement = λ b t1. and_then (checked_alternatives xs around place t1) (n2 b) in
    let z : tree.Statement = tree.select at (alternatives_of (a ∷ more)) (tree.part_of rest) in
    checks (in_box plain_statement) r old new u y (checked_statement (m.select_accept at guard x xs otherwise) around place t)
    (is_then old one new v u a y o1 n1 h (is_then one all new w u more y o2 (n2 a) i (is_then all new new u u rest y o3 (n3 a more) j (is_fine new u y z f)))) g

-- a timed or a conditional call
pub selected_call_left : (r : Result (Box memory.Statement Global) AllocError) (old headed behind new : Option Fault) (t v u : Tables) (at : Pos) (x : m.Name) (ss : m.MoreStatements) (otherwise : m.Otherwise) (around : Around) (place : Place) (xs rest : List tree.Statement) (y : tree.Statement)
    → headed ≡ noted old (form_faults otherwise place ++ selected_call_faults x place t)
    → Is headed behind v xs (checked_others ss around place t)
    → Is behind new u rest (checked_otherwise otherwise around place v)
    → y ≡ entry_call_of at (form_of otherwise place) (tree.part_of xs) (tree.part_of rest) (selected_call x place t)
    → IfOk r (λ s. plain_statement s.value ≡ y)
    → Checks (in_box plain_statement) r old new u (checked_statement (m.select_call at x ss otherwise) around place t)
selected_call_left r old headed behind new t v u at x ss otherwise around place xs rest y p h i f g =
    let o1 : Outcome (List tree.Statement) = checked_others ss around place t in
    let o2 : Outcome (List tree.Statement) = checked_otherwise otherwise around place v in
    let n2 : List tree.Statement → List tree.Statement → Tables → Outcome tree.Statement = λ l k t1. fine (entry_call_of at (form_of otherwise place) (tree.part_of l) (tree.part_of k) (selected_call x place t)) t1 in
    let n1 : List tree.Statement → Tables → Outcome tree.Statement = λ l t1. and_then (checked_otherwise otherwise around place t1) (n2 l) in
    let z : tree.Statement = entry_call_of at (form_of otherwise place) (tree.part_of xs) (tree.part_of rest) (selected_call x place t) in
    checks (in_box plain_statement) r old new u y (checked_statement (m.select_call at x ss otherwise) around place t)
    (is_after old headed new u y (form_faults otherwise place ++ selected_call_faults x place t) (and_then o1 n1) p
    (is_then headed behind new v u xs y o1 n1 h (is_then behind new new u u rest y o2 (n2 xs) i (is_fine new u y z f)))) g

-- the statements behind `else`
pub or_else_left : (old new : Option Fault) (t u : Tables) (ss : m.Statements) (around : Around) (place : Place) (x : TypedStatements) → Is old new u x (checked_statements ss around place t) → Is old new u (x.first ∷ x.others) (checked_otherwise (m.or_else ss) around place t)
or_else_left old new t u ss around place x h =
    let next : TypedStatements → Tables → Outcome (List tree.Statement) = λ y v. fine (y.first ∷ y.others) v in
    is_then old new new u u x (x.first ∷ x.others) (checked_statements ss around place t) next h (is_fine new u (x.first ∷ x.others) (x.first ∷ x.others) refl)
