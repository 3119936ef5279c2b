use Rattle.std.proofs.Common.{◌≡◌, ap, refl, sym, ◌∙◌, subst}
use Rattle.std.specs.Prelude.{ℕ, List, map, Result, Ok, Err, IfOk}
use Rattle.std.proofs.lemmas.Bool.{false≢true}
use Rattle.aud_typed.specs.declared.program.Program.{Program}
use Rattle.aud_typed.specs.Why.Scoped.{IsScoped}
use Rattle.aud_typed.specs.Ties.View.{plain_program}
use Rattle.aud_scoped.specs.Declares.{DeclaresInParts}
use Rattle.aud_code.specs.declared.line.Code.{Code}
use Rattle.aud_code.specs.Flat.{Flat}
use Rattle.aud_code.specs.Seen.{IsSeen}
use Rattle.aud_code.specs.Sound.{Counts, IsSound}
use Rattle.aud_code.specs.Tabled.{counts, table_of, AllDecided, IsTabled, IsVerified}
use Rattle.aud_code.specs.View.{frames_in, plain_code}
use Rattle.aud_layout.specs.Assembly.{flat_program}
use Rattle.aud_layout.specs.Opened.{task_bodies, BodiesCount}
use Rattle.aud_layout.specs.Written.{written_bodies}
use Rattle.aud_layout.proofs.Flat.Sound.{code_is_sound}
use Rattle.aud_layout.proofs.Flat.Tabling.{code_is_tabled}
use Rattle.aud_layout.proofs.Flat.Written.{written_law}
use Rattle.aud_layout.proofs.Flat.SeeingLaw.{code_is_seen}
use Rattle.aud_gen.specs.Opening.{body_in_type, frames_before, level_in}
use Rattle.aud_gen.specs.Writes.{barriers_in, units_code}
use Rattle.aud_gen.proofs.Activations.{program_activates}
use Rattle.aud_gen.proofs.Openings.{frames_open, levels_open, types_open}
use Rattle.aud_gen.proofs.Units.{bodies_open}
use Rattle.aud_gen.proofs.program.generate.Goals as goal

its_code : (p : Program) → units_code p.units.items p.entries.items ≡ flat_program (plain_program p)
its_code p = ap (λ bs. written_bodies bs (barriers_in p.entries.items)) (bodies_open p.units.items) ∙ sym (written_law (plain_program p))

abbrev CountsOf : List ℕ → List ℕ → Flat → Type 0
CountsOf seen levels f = BodiesCount f.lines seen levels f.starts f.spare

-- what was written is sound, since it is the program's code, and its tables fit
verified : (p : Program) (code : Code) → IsScoped (plain_program p) → DeclaresInParts (plain_program p) → plain_code code ≡ units_code p.units.items p.entries.items → map counts code.operands.items ≡ table_of (plain_code code).lines → CountsOf code.seen.items (map level_in p.units.items) (plain_code code) → code.tasks.items ≡ map body_in_type p.tasks.items → AllDecided code.barriers.items → frames_in code.barriers.items ≡ map (frames_before p.units.items) p.entries.items → IsVerified code
verified p code scoped declares is table counts tasks decided barriers =
    let same = is ∙ its_code p in
    let counted = subst (λ ls. CountsOf code.seen.items ls (flat_program (plain_program p))) (levels_open p.units.items) (subst (CountsOf code.seen.items (map level_in p.units.items)) same counts) in
    let bodies = tasks ∙ types_open p.tasks.items in
    let frames = barriers ∙ frames_open (plain_program p).plan p.units.items p.entries.items refl in
    let F = flat_program (plain_program p) in
    let all = code_is_seen (plain_program p) code.seen.items scoped declares counted in
    let framed = subst (λ ns. IsSeen F (table_of F.lines) (task_bodies (plain_program p)) ns code.seen.items) (sym frames) all in
    let begun = subst (λ ts. IsSeen F (table_of F.lines) ts (frames_in code.barriers.items) code.seen.items) (sym bodies) framed in
    let placed = subst (λ (f : Flat). IsSeen f (table_of f.lines) code.tasks.items (frames_in code.barriers.items) code.seen.items) (sym same) begun in
    record {
      seen = subst (λ (cs : List Counts). IsSeen (plain_code code) cs code.tasks.items (frames_in code.barriers.items) code.seen.items) (sym table) placed;
      decided = decided;
      tabled = subst (λ (cs : List Counts). IsTabled (plain_code code).lines cs) (sym table) (subst (λ (f : Flat). IsTabled f.lines (table_of f.lines)) (sym same) (code_is_tabled (plain_program p)));
      sound = subst IsSound (sym same) (code_is_sound (plain_program p) (program_activates p));
    }

pub unreachable-requires : goal.unreachable-requires
unreachable-requires c =
    let p = c.program-program.result.now in
    let is = c.in_ok-code.ensures.code ∙ ap (λ us. units_code us c.deref-3.result.now) c.deref.ensures.value ∙ ap (units_code p.units.items) c.deref-3.ensures.value in
    let counts = subst (λ us. CountsOf c.in_ok-code.code.seen.items (map level_in us) (plain_code c.in_ok-code.code)) c.deref.ensures.value c.in_ok-code.ensures.frames in
    let tasks = c.in_ok-code.ensures.tasks ∙ ap (map body_in_type) c.deref-2.ensures.value in
    let barriers = c.in_ok-code.ensures.barriers ∙ ap (λ us. map (frames_before us) c.deref-3.result.now) c.deref.ensures.value ∙ ap (map (frames_before p.units.items)) c.deref-3.ensures.value in
    false≢true ((rw c.in-None.is at c.verify.ensures.exact).1 (verified p c.in_ok-code.code c.program-program.ensures.scoped c.program-program.ensures.declares is c.in_ok-code.ensures.table counts tasks c.in_ok-code.ensures.decided barriers))

-- the same code, with what can be done at once
fused : {T E : Type 0} (r : Result T E) (a b : T) → a ≡ b → IfOk r (λ code. code ≡ a) → IfOk r (λ code. code ≡ b)
fused (Ok x) a b is h = h ∙ is
fused (Err e) a b is h = tt

pub returns : goal.returns
returns c =
    let same = (rw c.in-Some.is at c.verify.ensures.same) ∙ c.in_ok-code.ensures.code ∙ ap (λ us. units_code us c.deref-3.result.now) c.deref.ensures.value ∙ ap (units_code c.program-program.result.now.units.items) c.deref-3.ensures.value ∙ (its_code c.program-program.result.now ∙ ap (λ p. flat_program (plain_program p)) c.program-program.ensures.value) in
    fused c.fuse.result c.in-Some.sound (flat_program (plain_program c.args.program.now)) same c.fuse.ensures
