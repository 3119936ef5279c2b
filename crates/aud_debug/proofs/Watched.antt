-- The lines of protected objects, one by one.
use Rattle.std.proofs.Common.{◌≡◌, ◌<◌, ◌≤◌, ◌+◌, ℕ, zero, suc, ℤ, List, [], ◌∷◌, ◌++◌, length, take, drop, map, reverse, get_or, slice_index_or, Bool, true, false, cond, add-one, refl, ap, sym, subst, ◌∙◌, arith, append_assoc, append-nil}
use Rattle.std.specs.Prelude.{◌||◌, nat_eq}
use Rattle.std.specs.Fmt.{decimal}
use Rattle.std.proofs.lemmas.List.{at_drop_all, at_drop_more, drop_more, reverse-append}
use Rattle.aud_typed.specs.declared.program.Named as declared
use Rattle.aud_typed.specs.Tree.{Named, Plan}
use Rattle.aud_typed.specs.Ties.View.{plain_named}
use Rattle.aud_meaning.specs.declared.state.Action.{Action}
use Rattle.aud_meaning.specs.Configuration.{All, Object, Opened, Own, TaskAt}
use Rattle.aud_meaning.specs.Parts.{any, no_object, nobody, object_of, object_plan, own_of, owns}
use Rattle.aud_meaning.specs.Listings.Objects.{barrier_lines, is_open, lines_if_open, object_lines, part_around, within}
use Rattle.aud_meaning.specs.Listings.Values.{cells_of, frame_lines, is_hidden, numbered}
use Rattle.aud_code.specs.Places.{Spot}
use Rattle.aud_code.specs.Flat.{Flat, barrier_at}
use Rattle.aud_store.specs.Ties.Extents.{Extent, extent}
use Rattle.aud_debug.specs.declared.page.Page.{Page}
use Rattle.aud_debug.specs.Listed.{ended}
use Rattle.aud_debug.specs.Ties.Watched.{barrier_line, component_line, declared_in, object_lines_of, tasks_of}

-- these lines stand behind those that were there
abbrev pub Added : Page → Page → List (List ℕ) → Type 0
Added start page lines = (page.bytes.items ≡ start.bytes.items ++ ended lines) × (page.count ≡ start.count + length lines)

pub added_as : (start page : Page) (xs ys : List (List ℕ)) → xs ≡ ys → Added start page xs → Added start page ys
added_as start page xs ys is added = subst (Added start page) is added

-- no line is added
pub none_added : (page : Page) → Added page page []
none_added page = (sym (append-nil page.bytes.items), omega arith)

module _ (plan : Plan) (code : Flat) (c : All Spot) where
  -- One object after the other.

  abbrev lines_by : ℕ → Object → List (List ℕ)
  lines_by n o = let d = object_plan plan o.declaration in lines_if_open plan (barrier_at code) (is_open (part_around d o) c) n d o c

  next_by : (n : ℕ) (os : List Object) (i : ℕ) → i < length os → object_lines plan (barrier_at code) n (drop i os) c ≡ lines_by n (slice_index_or os i no_object) ++ object_lines plan (barrier_at code) (suc n) (drop (suc i) os) c
  next_by n [] i within = absurd (omega (arith, within))
  next_by n (o ∷ os) zero within = refl
  next_by n (o ∷ os) (suc i) within = next_by n os i (omega (arith, within))

  abbrev pub shown_from : ℕ → List (List ℕ)
  shown_from n = object_lines plan (barrier_at code) n (drop n c.shared.objects) c

  pub shown_next : (n : ℕ) → n < length c.shared.objects → shown_from n ≡ object_lines_of plan code n c ++ shown_from (n + 1)
  shown_next n within =
      next_by n c.shared.objects n within
      ∙ ap (λ k. lines_by n (object_of n c) ++ object_lines plan (barrier_at code) k (drop k c.shared.objects) c) (sym (add-one n))

  pub shown_past : (n : ℕ) → length c.shared.objects ≤ n → shown_from n ≡ []
  shown_past n past = at_drop_all (λ os. object_lines plan (barrier_at code) n os c) c.shared.objects n past

  -- One barrier after the other.

  pub next_barrier : (n : ℕ) (es : List ℕ) (i : ℕ) → i < length es →
      barrier_lines plan (barrier_at code) n (declared_in plan n c) (drop i es) c ≡ (barrier_line plan code n (get_or es i 0) c ∷ []) ++ barrier_lines plan (barrier_at code) n (declared_in plan n c) (drop (i + 1) es) c
  next_barrier n es i within = at_drop_more (λ l. barrier_lines plan (barrier_at code) n (declared_in plan n c) l c) es i 0 within

  pub no_barrier : (n : ℕ) (es : List ℕ) (i : ℕ) → length es ≤ i → barrier_lines plan (barrier_at code) n (declared_in plan n c) (drop i es) c ≡ []
  no_barrier n es i past = at_drop_all (λ l. barrier_lines plan (barrier_at code) n (declared_in plan n c) l c) es i past

-- Tasks that act, one after the other.

pub next_number : (out mid new whole : List ℕ) (number n d : ℕ) (ns : List ℕ) (i : ℕ) → i < length ns → mid ≡ out ++ 32 ∷ [] → new ≡ mid ++ decimal number → number ≡ suc n → n ≡ get_or ns i d →
    out ++ numbered (drop i ns) ≡ whole → new ++ numbered (drop (i + 1) ns) ≡ whole
next_number out mid new whole number n d ns i within space written counted is left =
    let rest = numbered (drop (i + 1) ns) in
    ap (λ l. l ++ rest) (written ∙ ap (λ l. l ++ decimal number) space ∙ ap (λ k. (out ++ 32 ∷ []) ++ decimal k) (counted ∙ ap suc is))
    ∙ append_assoc (out ++ 32 ∷ []) (decimal (suc (get_or ns i d))) rest
    ∙ append_assoc out (32 ∷ []) (decimal (suc (get_or ns i d)) ++ rest)
    ∙ ap (λ l. out ++ l) (sym (at_drop_more numbered ns i d within))
    ∙ left

pub no_number : (out whole : List ℕ) (ns : List ℕ) (i : ℕ) → length ns ≤ i → out ++ numbered (drop i ns) ≡ whole → out ≡ whole
no_number out whole ns i past left = sym (append-nil out) ∙ ap (λ l. out ++ l) (sym (at_drop_all numbered ns i past)) ∙ left

pub tasks_at : (actions : List Action) (i : ℕ) (a : Action) → get_or (tasks_of actions) i a.task ≡ (get_or actions i a).task
tasks_at [] i a = refl
tasks_at (x ∷ actions) zero a = refl
tasks_at (x ∷ actions) (suc i) a = tasks_at actions i a

pub tasks_many : (actions : List Action) → length (tasks_of actions) ≡ length actions
tasks_many [] = refl
tasks_many (a ∷ actions) = ap suc (tasks_many actions)

-- One component after the other.

abbrev pub cells_lines : ℕ → List ℕ → List declared.Named → List ℤ → List (List ℕ)
cells_lines number name names cells = frame_lines number (length names) (map (within name) (map plain_named names)) cells

by_hidden : (b : Bool) (line : List ℕ) (rest : List (List ℕ)) → cond b rest (line ∷ rest) ≡ cond b [] (line ∷ []) ++ rest
by_hidden true line rest = refl
by_hidden false line rest = refl

first_lines : (number : ℕ) (name : List ℕ) (v : declared.Named) (vs : List declared.Named) (cells : List ℤ) →
    cells_lines number name (v ∷ vs) cells ≡ component_line number name (plain_named v) (take (cells_of (plain_named v).shown) cells) ++ cells_lines number name vs (drop (cells_of (plain_named v).shown) cells)
first_lines number name v vs cells = by_hidden (is_hidden (plain_named v).shown) _ (cells_lines number name vs (drop (cells_of (plain_named v).shown) cells))

pub next_component : (number : ℕ) (name : List ℕ) (vs : List declared.Named) (i : ℕ) (v : declared.Named) (cells own behind : List ℤ) → i < length vs → v ≡ get_or vs i v →
    own ≡ take (cells_of (plain_named v).shown) cells → behind ≡ drop (cells_of (plain_named v).shown) cells →
    cells_lines number name (drop i vs) cells ≡ component_line number name (plain_named v) own ++ cells_lines number name (drop (i + 1) vs) behind
next_component number name vs i v cells own behind within at is left =
    ap (λ l. cells_lines number name l cells) (drop_more vs i v within ∙ ap (λ x. x ∷ drop (i + 1) vs) (sym at))
    ∙ first_lines number name v (drop (i + 1) vs) cells
    ∙ ap (λ l. component_line number name (plain_named v) l ++ cells_lines number name (drop (i + 1) vs) (drop (cells_of (plain_named v).shown) cells)) (sym is)
    ∙ ap (λ l. component_line number name (plain_named v) own ++ cells_lines number name (drop (i + 1) vs) l) (sym left)

-- the components of a declaration are those of its object
pub components_shown : (number n : ℕ) (name : List ℕ) (names : List declared.Named) (all : List Named) (cells : List ℤ) → number ≡ suc n → map plain_named names ≡ all →
    cells_lines number name names cells ≡ frame_lines (suc n) (length all) (map (within name) all) cells
components_shown number n name names all cells counted are =
    ap (λ k. cells_lines k name names cells) counted
    ∙ ap (λ k. frame_lines (suc n) k (map (within name) (map plain_named names)) cells) (sym (many names))
    ∙ ap (λ l. frame_lines (suc n) (length l) (map (within name) l) cells) are
  where
    many : (xs : List declared.Named) → length (map plain_named xs) ≡ length xs
    many [] = refl
    many (x ∷ xs) = ap suc (many xs)

-- Frames that are open.

abbrev pub is_frame : ℕ → Extent → Bool
is_frame frame e = nat_eq e.frame frame

any_append : {A : Type 0} (f : A → Bool) (xs ys : List A) → any f (xs ++ ys) ≡ any f xs || any f ys
any_append f [] ys = refl
any_append f (x ∷ xs) ys = ap (λ b. f x || b) (any_append f xs ys) ∙ or_assoc (f x) (any f xs) (any f ys)
  where
    or_assoc : (a b d : Bool) → a || (b || d) ≡ (a || b) || d
    or_assoc true b d = refl
    or_assoc false b d = refl

or_comm : (a b : Bool) → a || b ≡ b || a
or_comm true true = refl
or_comm true false = refl
or_comm false true = refl
or_comm false false = refl

or_false : (a : Bool) → a || false ≡ a
or_false true = refl
or_false false = refl

any_reverse : {A : Type 0} (f : A → Bool) (xs : List A) → any f (reverse xs) ≡ any f xs
any_reverse f [] = refl
any_reverse f (x ∷ xs) =
    ap (any f) (reverse-append (x ∷ []) xs)
    ∙ any_append f (reverse xs) (x ∷ [])
    ∙ ap (λ b. b || any f (x ∷ [])) (any_reverse f xs)
    ∙ or_comm (any f xs) (any f (x ∷ []))
    ∙ ap (λ b. b || any f xs) (or_false (f x))

any_extent : (frame : ℕ) (os : List Opened) → any (is_frame frame) (map extent os) ≡ any (λ (o : Opened). nat_eq o.frame frame) os
any_extent frame [] = refl
any_extent frame (o ∷ os) = ap (λ b. nat_eq o.frame frame || b) (any_extent frame os)

-- whether a task has the frame open
abbrev pub opens : ℕ → Own → Bool
opens frame own = any (λ (o : Opened). nat_eq o.frame frame) own.opened

pub opens_as : (frame : ℕ) (own : Own) (is : Bool) (es : List Extent) → is ≡ any (is_frame frame) es → es ≡ map extent (reverse own.opened) → is ≡ opens frame own
opens_as frame own is es found are = found ∙ ap (any (is_frame frame)) are ∙ any_extent frame (reverse own.opened) ∙ any_reverse (λ (o : Opened). nat_eq o.frame frame) own.opened

abbrev pub open_from : ℕ → ℕ → All Spot → Bool
open_from frame n c = any (λ (t : TaskAt Spot). opens frame t.own) (drop n c.tasks)

open_by : (frame : ℕ) (ts : List (TaskAt Spot)) (n : ℕ) → n < length ts → any (λ (t : TaskAt Spot). opens frame t.own) (drop n ts) ≡ opens frame (slice_index_or (owns ts) n nobody) || any (λ (t : TaskAt Spot). opens frame t.own) (drop (suc n) ts)
open_by frame [] n within = absurd (omega (arith, within))
open_by frame (t ∷ ts) zero within = refl
open_by frame (t ∷ ts) (suc n) within = open_by frame ts n (omega (arith, within))

pub open_next : (frame n : ℕ) (c : All Spot) → n < length c.tasks → open_from frame n c ≡ opens frame (own_of n c) || open_from frame (n + 1) c
open_next frame n c within = open_by frame c.tasks n within ∙ ap (λ k. opens frame (own_of n c) || open_from frame k c) (sym (add-one n))

pub open_past : (frame n : ℕ) (c : All Spot) → length c.tasks ≤ n → open_from frame n c ≡ false
open_past frame n c past = at_drop_all (any (λ (t : TaskAt Spot). opens frame t.own)) c.tasks n past

pub found_there : (a b : Bool) → a ≡ true → a || b ≡ true
found_there true b is = refl
found_there false b is = absurd cc

pub not_there : (a b : Bool) → a ≡ false → a || b ≡ b
not_there true b is = absurd cc
not_there false b is = refl

-- A line with parts one after the other.

pub head_told : (o n name words : List ℕ) → (((o ++ n) ++ 32 ∷ []) ++ name) ++ words ≡ o ++ (n ++ 32 ∷ (name ++ words))
head_told o n name words = simp append_assoc

pub decision_told : (o n name entry word : List ℕ) → ((((((o ++ n) ++ 32 ∷ []) ++ name) ++ 46 ∷ []) ++ entry) ++ 32 ∷ []) ++ word ≡ o ++ (n ++ 32 ∷ ((name ++ 46 ∷ entry) ++ 32 ∷ word))
decision_told o n name entry word = simp append_assoc

pub component_told : (o n name component values : List ℕ) → ((((((o ++ n) ++ 32 ∷ []) ++ name) ++ 46 ∷ []) ++ component) ++ (32 ∷ 61 ∷ [])) ++ values ≡ o ++ (n ++ 32 ∷ ((name ++ 46 ∷ component) ++ 32 ∷ 61 ∷ values))
component_told o n name component values = simp append_assoc
