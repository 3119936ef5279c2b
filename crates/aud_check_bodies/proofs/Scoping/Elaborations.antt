-- Elaborations one after the other.
use Rattle.std.specs.List.{AllByRecursion}
use Rattle.std.proofs.Common.{◌≡◌, Bool, true, false, List, [], ◌∷◌, ◌++◌, refl, sym, subst}
use Rattle.aud_text.specs.declared.place.Pos.{Pos}
use Rattle.aud_typed.specs.Tree as tree
use Rattle.aud_typed.specs.Why.Scoped.{Scope, scope_after, scope_behind, StatementScoped, PartScoped, CreatedScoped, AllCreatedScoped}
use Rattle.aud_names.specs.declared.names.NamedParameter.{NamedParameter}
use Rattle.aud_check_bodies.specs.Tasks as tasks
use Rattle.aud_check_bodies.proofs.Scoping.Names.{Known}

-- from one scope to another
abbrev pub Elaborates : Known → Scope → List tree.Statement → Scope → Type 0
Elaborates known scope [] after = scope ≡ after
Elaborates known scope (x ∷ xs) after = StatementScoped known.plan known.entries x scope × Elaborates known (scope_after x scope) xs after

pub elaborates_append : (known : Known) (xs ys : List tree.Statement) (first mid last : Scope) → Elaborates known first xs mid → Elaborates known mid ys last → Elaborates known first (xs ++ ys) last
elaborates_append known [] ys first mid last h i = subst (λ z. Elaborates known z ys last) (sym h) i
elaborates_append known (x ∷ xs) ys first mid last h i = (h.0, elaborates_append known xs ys (scope_after x first) mid last h.1 i)

pub before_elaborates : (known : Known) (x : tree.Statement) (xs : List tree.Statement) (scope last : Scope) → Elaborates known scope (x ∷ xs) last → StatementScoped known.plan known.entries (tree.before x xs) scope × (scope_after (tree.before x xs) scope ≡ last)
before_elaborates known x [] scope last h = (h.0, h.1)
before_elaborates known x (y ∷ ys) scope last h =
    let more = before_elaborates known y ys (scope_after x scope) last h.1 in
    ((h.0, more.0), more.1)

pub part_elaborates : (known : Known) (xs : List tree.Statement) (scope last : Scope) → Elaborates known scope xs last → PartScoped known.plan known.entries (tree.part_of xs) scope × (scope_behind (tree.part_of xs) scope ≡ last)
part_elaborates known [] scope last h = (tt, h)
part_elaborates known (x ∷ xs) scope last h = before_elaborates known x xs scope last h

-- what is created begins behind all of them
pub AllCreated : Known → Scope → List tree.Statement → Type 0
AllCreated known scope xs = AllByRecursion (λ x. CreatedScoped known.plan known.entries x scope) xs

pub none_created : (known : Known) (scope : Scope) → AllCreated known scope []
unfolding AllCreated
none_created known scope = tt

pub one_created : (known : Known) (scope : Scope) (x : tree.Statement) (xs : List tree.Statement) → CreatedScoped known.plan known.entries x scope → AllCreated known scope xs → AllCreated known scope (x ∷ xs)
unfolding AllCreated
one_created known scope x xs h i = (h, i)

pub created_append : (known : Known) (scope : Scope) (xs ys : List tree.Statement) → AllCreated known scope xs → AllCreated known scope ys → AllCreated known scope (xs ++ ys)
unfolding AllCreated
created_append known scope [] ys h i = i
created_append known scope (x ∷ xs) ys h i = (h.0, created_append known scope xs ys h.1 i)

-- whatever procedures and entries are known
pub created_with : (known : Known) (of_units of_entries : List (List NamedParameter)) (scope : Scope) (xs : List tree.Statement) → AllCreated known scope xs → AllCreated (record known { profiles = of_units; entry_profiles = of_entries }) scope xs
unfolding AllCreated
created_with known of_units of_entries scope xs h = h

pub before_created : (known : Known) (scope : Scope) (x : tree.Statement) (xs : List tree.Statement) → AllCreated known scope (x ∷ xs) → CreatedScoped known.plan known.entries (tree.before x xs) scope
unfolding AllCreated
before_created known scope x [] h = h.0
before_created known scope x (y ∷ ys) h = (h.0, before_created known scope y ys h.1)

pub part_created : (known : Known) (scope : Scope) (xs : List tree.Statement) → AllCreated known scope xs → AllCreatedScoped known.plan known.entries (tree.part_of xs) scope
part_created known scope [] h = tt
part_created known scope (x ∷ xs) h = before_created known scope x xs h

-- activations elaborate and create nothing

activation_elaborates : (known : Known) (creates : Bool) (begin : Pos) (scope : Scope) → Elaborates known scope (tree.activation creates begin) scope
activation_elaborates known true begin scope = (tt, refl)
activation_elaborates known false begin scope = refl

activation_creates : (known : Known) (creates : Bool) (begin : Pos) (scope : Scope) → AllCreated known scope (tree.activation creates begin)
activation_creates known true begin scope = one_created known scope (tree.activate begin) [] tt (none_created known scope)
activation_creates known false begin scope = none_created known scope

pub with_activation_elaborates : (known : Known) (of_task : Bool) (begin : Pos) (xs : List tree.Statement) (first last : Scope) → Elaborates known first xs last → Elaborates known first (tasks.with_activation of_task begin xs) last
with_activation_elaborates known true begin xs first last h =
    elaborates_append known xs (tree.activated begin ∷ tree.activation (tasks.create_tasks xs) begin) first last last h (tt, activation_elaborates known (tasks.create_tasks xs) begin last)
with_activation_elaborates known false begin xs first last h = elaborates_append known xs (tree.activation (tasks.create_tasks xs) begin) first last last h (activation_elaborates known (tasks.create_tasks xs) begin last)

pub with_activation_creates : (known : Known) (of_task : Bool) (begin : Pos) (xs : List tree.Statement) (scope : Scope) → AllCreated known scope xs → AllCreated known scope (tasks.with_activation of_task begin xs)
with_activation_creates known true begin xs scope h =
    created_append known scope xs (tree.activated begin ∷ tree.activation (tasks.create_tasks xs) begin) h (one_created known scope (tree.activated begin) (tree.activation (tasks.create_tasks xs) begin) tt (activation_creates known (tasks.create_tasks xs) begin scope))
with_activation_creates known false begin xs scope h = created_append known scope xs (tree.activation (tasks.create_tasks xs) begin) h (activation_creates known (tasks.create_tasks xs) begin scope)
