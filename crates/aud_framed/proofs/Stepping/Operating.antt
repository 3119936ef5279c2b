-- An operation that is called is on the object of which the enabled move tells that nothing is in the way.
use Rattle.std.proofs.Common.{◌≡◌, ℕ, Option, None, true, false, ap, subst}
use Rattle.aud_text.specs.declared.place.Pos.{Pos}
use Rattle.aud_typed.specs.declared.program.Variable.{Variable}
use Rattle.aud_typed.specs.Tree.{Plan}
use Rattle.aud_meaning.specs.Configuration.{Target, All}
use Rattle.aud_meaning.specs.Control.{Asked, Scene, calls_operation}
use Rattle.aud_meaning.specs.Evaluation.{Passed, number_in}
use Rattle.aud_meaning.specs.Parts.{in_the_way, object_of, sight_of, unit_of}
use Rattle.aud_meaning.specs.Run.{scene_of}
use Rattle.aud_code.specs.Places.{Spot, loops_of}
use Rattle.aud_code.specs.Eval.{asked_ended, eval}
use Rattle.aud_code.specs.Flat.{Does, Flat, asked_at, asked_last, coming_at, coming_last, end_at, flat_controls, instructions_at, no_scene}
use Rattle.aud_code.specs.Instruction.{Operation, Ended, Reached, Marked, Raised, Lost, no_operands}
use Rattle.aud_framed.specs.Enabled.{ComingTells}

abbrev object_in : Asked → ℕ
object_in (calls_operation at object unit p into) = object
object_in a = 0

its_object : (v : Variable) (called loops : ℕ) (place at : Pos) (s : Scene) (x : Ended) (object unit : ℕ) (p : Passed) (into : Option Target) → asked_ended (Operation v called) loops place s x ≡ calls_operation at object unit p into → number_in v s.sight ≡ object
its_object v called loops place at s (Reached o) object unit p into e = ap object_in e
its_object v called loops place at s (Marked o) object unit p into e = absurd cc
its_object v called loops place at s (Raised raise) object unit p into e = absurd cc
its_object v called loops place at s Lost object unit p into e = absurd cc

pub nothing_there : (plan : Plan) (code : Flat) (n : ℕ) (c : All Spot) (t : Spot) (at : Pos) (object unit : ℕ) (p : Passed) (into : Option Target) (v : Variable) → (end_at code t.place).last ≡ Does (Operation v unit) → asked_at code None (scene_of plan (flat_controls plan code) n c) t ≡ calls_operation at object unit p into → ComingTells n c (coming_at code plan None (sight_of n c) t) → in_the_way n (unit_of plan unit).is_function (object_of object c) ≡ false
nothing_there plan code n c t at object unit p into v line asks tells =
    let s : Scene = scene_of plan (flat_controls plan code) n c in
    let loops : ℕ = loops_of (end_at code t.place).exit in
    let same : number_in v s.sight ≡ object =
    its_object v unit loops (end_at code t.place).at at s (eval false s (instructions_at code t.place) 0 no_operands) object unit p into
    (subst (λ last. asked_last last loops (end_at code t.place).at s (eval false s (instructions_at code t.place) 0 no_operands) ≡ calls_operation at object unit p into) line asks) in
    subst (λ k. in_the_way n (unit_of plan unit).is_function (object_of k c) ≡ false) same
    (subst (λ last. ComingTells n c (coming_last plan last (sight_of n c) (eval true (no_scene (sight_of n c)) (instructions_at code t.place) 0 no_operands))) line tells)
