-- A line is written and ended, and a page is handed out.
use Rattle.std.proofs.Common.{◌≡◌, ℕ, suc, ◌+◌, List, [], ◌∷◌, ◌++◌, length, Option, Some, None, IfOk, ap, sym, subst, ◌∙◌, arith, append_assoc}
use Rattle.std.proofs.lemmas.Option.{same_Some}
use Rattle.std.specs.Option.{ok_or}
use Rattle.aud_typed.specs.declared.program.Program.{Program}
use Rattle.aud_typed.specs.Ties.View.{plain_program}
use Rattle.aud_meaning.specs.Configuration.{All, Configuration}
use Rattle.aud_meaning.specs.Listings.{View, view, view_at}
use Rattle.aud_code.specs.Places.{Spot}
use Rattle.aud_code.specs.Flat.{Flat, flat_controls}
use Rattle.aud_machine.specs.Shown.{Shown, program_in}
use Rattle.aud_machine.specs.Shows.{IfShows}
use Rattle.aud_debug.specs.declared.lines.Lines.{Lines}
use Rattle.aud_debug.specs.declared.page.Page.{Page}
use Rattle.aud_debug.specs.Listed.{as_lines, ended}
use Rattle.aud_debug.proofs.Pages.{Comes, comes_all}

pub line_ended : (before bytes after line : List ℕ) (count many : ℕ) → bytes ≡ before ++ line → after ≡ bytes ++ 10 ∷ [] → many ≡ suc count → (after ≡ before ++ ended (line ∷ [])) × (many ≡ count + length (line ∷ []))
line_ended before bytes after line count many adds ends counts =
    (ends ∙ ap (λ l. l ++ 10 ∷ []) adds ∙ append_assoc before line (10 ∷ []), omega (arith, counts))

-- nothing is left, and what has come is what was asked for
pub all_come : (page start : Page) (left told all : List (List ℕ)) → left ≡ [] → told ≡ all → Comes page start left told → (page.bytes.items ≡ start.bytes.items ++ ended all) × (page.count ≡ start.count + length all)
all_come page start left told all none is comes =
    comes_all page start all (subst (λ l. Comes page start [] l) is (subst (λ l. Comes page start l told) none comes))

abbrev lines_with : ℕ → List ℕ → Lines
lines_with count text = record { count = count; text = text }

pub page_shown : (start text : List ℕ) (first count : ℕ) (told all : List (List ℕ)) → start ≡ [] → first ≡ 0 → (text ≡ start ++ ended told) × (count ≡ first + length told) → told ≡ all → lines_with count text ≡ as_lines all
page_shown start text first count told all empty none adds is =
    let many : count ≡ length told = omega (arith, adds.1, none) in
    ap (λ n. lines_with n text) many
    ∙ ap (lines_with (length told)) (adds.0 ∙ ap (λ l. l ++ ended told) empty)
    ∙ ap as_lines is

pub nothing_shown : (text : List ℕ) (count : ℕ) (all : List (List ℕ)) → text ≡ [] → count ≡ 0 → all ≡ [] → lines_with count text ≡ as_lines all
nothing_shown text count all empty none is = ap (λ n. lines_with n text) none ∙ ap (lines_with 0) empty ∙ ap as_lines (sym is)

-- a part of what is shown of a machine's state is that of what it shows
pub viewed : (part : View → List (List ℕ)) (m : Shown) (c : Configuration) (p : Program) (code : Flat) (s : All Spot) → p ≡ m.program → code ≡ m.code →
    view_at (program_in m).plan (flat_controls (program_in m).plan m.code) s ≡ view (program_in m) c →
    part (view_at (plain_program p).plan (flat_controls (plain_program p).plan code) s) ≡ part (view (program_in m) c)
viewed part m c p code s program same told =
    ap (λ x. part (view_at (plain_program x).plan (flat_controls (plain_program x).plan code) s)) program
    ∙ ap (λ x. part (view_at (program_in m).plan (flat_controls (program_in m).plan x) s)) same
    ∙ ap part told

-- lines that are there are what is shown
pub lines_told : {E : Type 0} (m : Shown) (part : Configuration → Lines) (found : Option Lines) (e : E) → IfShows m (λ c. found ≡ Some (part c)) → IfOk (ok_or found e) (λ lines. IfShows m (λ c. lines ≡ part c))
lines_told m part None e told = tt
lines_told m part (Some x) e told = λ c h. same_Some x (part c) (told c h)
