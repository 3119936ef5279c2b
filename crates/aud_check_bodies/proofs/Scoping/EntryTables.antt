-- What a task's entries enter into the tables.
use Rattle.std.proofs.Common.{◌≡◌, ◌<◌, ℕ, List, [], ◌∷◌, ◌++◌, length, slice_index_or, arith, refl, sym, ◌∙◌, ap}
use Rattle.std.specs.List.{AllByRecursion}
use Rattle.std.proofs.lemmas.List.{length_push, length-append, get_or_push, get_or_append_left}
use Rattle.aud_syntax.specs.Plain as plain
use Rattle.aud_typed.specs.Tree as tree
use Rattle.aud_names.specs.declared.entries.EntryName.{EntryName}
use Rattle.aud_names.specs.Names as names
use Rattle.aud_names.specs.Names.{Region}
use Rattle.aud_check_bodies.specs.Tables.{Tables, entry_at, entry_profile_of}
use Rattle.aud_check_bodies.specs.Entries as entries
use Rattle.aud_check_bodies.proofs.Scoping.Names.{either}
use Rattle.aud_check_bodies.proofs.Scoping.Tables.{Grows, same, further, entry_grows}

one_entry_grows : (number : ℕ) (x : plain.EntryDeclaration) (outer : List Region) (es : entries.Entries) → Grows es.tables (entries.one_entry number x outer es).tables
one_entry_grows number x outer es =
    let profile = (entries.entry_formals x es.own outer).profile in
    either (λ (z : entries.Entries). Grows es.tables z.tables) (names.is_declared x.name.name es.own.symbols) es (entries.entry_added number x.name.name profile es) (same es.tables) (entry_grows x.name.name profile es.tables)

pub entries_grow : (number : ℕ) (xs : List plain.EntryDeclaration) (outer : List Region) (es : entries.Entries) → Grows es.tables (entries.declared_entries number xs outer es).tables
entries_grow number [] outer es = same es.tables
entries_grow number (x ∷ xs) outer es = let one = entries.one_entry number x outer es in further {u = one.tables} (one_entry_grows number x outer es) (entries_grow number xs outer one)

-- the units and tasks stay what they are

one_entry_units : (number : ℕ) (x : plain.EntryDeclaration) (outer : List Region) (es : entries.Entries) → (entries.one_entry number x outer es).tables.units ≡ es.tables.units
one_entry_units number x outer es =
    either (λ (z : entries.Entries). z.tables.units ≡ es.tables.units) (names.is_declared x.name.name es.own.symbols) es (entries.entry_added number x.name.name (entries.entry_formals x es.own outer).profile es) refl refl

pub entries_units : (number : ℕ) (xs : List plain.EntryDeclaration) (outer : List Region) (es : entries.Entries) → (entries.declared_entries number xs outer es).tables.units ≡ es.tables.units
entries_units number [] outer es = refl
entries_units number (x ∷ xs) outer es = entries_units number xs outer (entries.one_entry number x outer es) ∙ one_entry_units number x outer es

one_entry_tasks : (number : ℕ) (x : plain.EntryDeclaration) (outer : List Region) (es : entries.Entries) → (entries.one_entry number x outer es).tables.tasks ≡ es.tables.tasks
one_entry_tasks number x outer es =
    either (λ (z : entries.Entries). z.tables.tasks ≡ es.tables.tasks) (names.is_declared x.name.name es.own.symbols) es (entries.entry_added number x.name.name (entries.entry_formals x es.own outer).profile es) refl refl

pub entries_tasks : (number : ℕ) (xs : List plain.EntryDeclaration) (outer : List Region) (es : entries.Entries) → (entries.declared_entries number xs outer es).tables.tasks ≡ es.tables.tasks
entries_tasks number [] outer es = refl
entries_tasks number (x ∷ xs) outer es = entries_tasks number xs outer (entries.one_entry number x outer es) ∙ one_entry_tasks number x outer es

-- each of them has a number in the tables, its formals, and no body

abbrev pub IsNumbered : ℕ → Tables → Type 0
IsNumbered n t = (n < length t.entries) × ((entry_at n t).unit ≡ 0) × (n < length t.entry_profiles) × (length (entry_profile_of n t) ≡ (entry_at n t).formals)

abbrev pub Numbered : List EntryName → Tables → Type 0
Numbered xs t = AllByRecursion (λ x. IsNumbered x.number t) xs

number_more : (n : ℕ) (t u : Tables) → Grows t u → IsNumbered n t → IsNumbered n u
number_more n t u g h =
    let same_profile : length (entry_profile_of n u) ≡ length (entry_profile_of n t) = ap (λ l. length (slice_index_or l n [])) g.entry_profiles ∙ ap length (get_or_append_left t.entry_profiles g.more_entry_profiles [] n h.2) in (
      omega (arith, g.entries, h.0),
      ap (λ (z : tree.EntryPlan). z.unit) (g.planned n h.0) ∙ h.1,
      omega (arith, h.2, ap length g.entry_profiles, length-append t.entry_profiles g.more_entry_profiles),
      same_profile ∙ h.3 ∙ sym (ap (λ (z : tree.EntryPlan). z.formals) (g.planned n h.0)),
    )

numbered_more : (xs : List EntryName) (t u : Tables) → Grows t u → Numbered xs t → Numbered xs u
numbered_more [] t u g h = tt
numbered_more (x ∷ xs) t u g h = (number_more x.number t u g h.0, numbered_more xs t u g h.1)

numbered_last : (xs : List EntryName) (x : EntryName) (t : Tables) → Numbered xs t → IsNumbered x.number t → Numbered (xs ++ x ∷ []) t
numbered_last [] x t h i = (i, tt)
numbered_last (y ∷ ys) x t h i = (h.0, numbered_last ys x t h.1 i)

-- each entry has its formals in the tables
abbrev pub AreEven : Tables → Type 0
AreEven t = length t.entry_profiles ≡ length t.entries

one_entry_even : (number : ℕ) (x : plain.EntryDeclaration) (outer : List Region) (es : entries.Entries) → AreEven es.tables → AreEven (entries.one_entry number x outer es).tables
one_entry_even number x outer es h =
    let profile = (entries.entry_formals x es.own outer).profile in
    let made = entries.entry_added number x.name.name profile es in
    either (λ (z : entries.Entries). AreEven z.tables) (names.is_declared x.name.name es.own.symbols) es made h (omega (arith, h, length_push es.tables.entry_profiles profile, length_push es.tables.entries (tree.task_entry x.name.name (length profile))))

one_entry_numbered : (number : ℕ) (x : plain.EntryDeclaration) (outer : List Region) (es : entries.Entries) → AreEven es.tables → Numbered es.names es.tables → Numbered (entries.one_entry number x outer es).names (entries.one_entry number x outer es).tables
one_entry_numbered number x outer es even h =
    let profile = (entries.entry_formals x es.own outer).profile in
    let made = entries.entry_added number x.name.name profile es in
    let n = length es.tables.entries in
    let own : tree.EntryBody = tree.task_entry x.name.name (length profile) in
    let last : entry_at n made.tables ≡ own = get_or_push es.tables.entries own (tree.task_entry [] 0) n refl in
    let its : entry_profile_of n made.tables ≡ profile = get_or_push es.tables.entry_profiles profile [] n even in
    let new : IsNumbered n made.tables = (
      omega (arith, length_push es.tables.entries own),
      ap (λ (z : tree.EntryBody). z.unit) last,
      omega (arith, even, length_push es.tables.entry_profiles profile),
      ap length its ∙ sym (ap (λ (z : tree.EntryBody). z.formals) last),
    ) in
    either (λ (z : entries.Entries). Numbered z.names z.tables) (names.is_declared x.name.name es.own.symbols) es made h (numbered_last es.names (record { task_type = number; name = x.name.name; number = n }) made.tables (numbered_more es.names es.tables made.tables (entry_grows x.name.name profile es.tables) h) new)

pub entries_numbered : (number : ℕ) (xs : List plain.EntryDeclaration) (outer : List Region) (es : entries.Entries) → AreEven es.tables → Numbered es.names es.tables → Numbered (entries.declared_entries number xs outer es).names (entries.declared_entries number xs outer es).tables
entries_numbered number [] outer es even h = h
entries_numbered number (x ∷ xs) outer es even h = entries_numbered number xs outer (entries.one_entry number x outer es) (one_entry_even number x outer es even) (one_entry_numbered number x outer es even h)
