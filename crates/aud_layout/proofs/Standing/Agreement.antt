-- Code agrees with the statements that it was made of.
use Rattle.aud_typed.specs.declared.program.Exception.{Exception}
use Rattle.aud_typed.specs.Tree.{Body, body, Program}
use Rattle.aud_meaning.specs.declared.state.Construct.TheVariants as construct
use Rattle.std.proofs.Common.{◌≡◌, ℕ, List, [], ◌∷◌, Option, Some, None, refl, sym, ap, append-nil}
use Rattle.aud_meaning.specs.declared.state.Pending.{Pending}
use Rattle.aud_meaning.specs.Configuration.{Item}
use Rattle.aud_meaning.specs.Evaluation.{Sight}
use Rattle.aud_meaning.specs.Control.{Scene}
use Rattle.aud_meaning.specs.Items.{body_before, body_of, reached_at, is_some_part, out_from}
use Rattle.aud_meaning.specs.Statements.{coming, coming_raised, asks, handled_or_left}
use Rattle.aud_layout.specs.Layout.{in_call, end_place, unit_code, body_code, Code, line_at, start_of, handler_by, handler_at, coming_at, asked_at}
use Rattle.aud_code.specs.Places.{Spot, is_there, loops_of}
use Rattle.aud_layout.specs.Shows.{HasAt, Callers, Stands, ShowsControl}
use Rattle.aud_layout.specs.Law.{LayoutAgreementLaw}
use Rattle.aud_layout.proofs.Standing.Places.{has_same}
use Rattle.aud_layout.proofs.Standing.Control.{at_place, body_stands, has_end}
use Rattle.aud_layout.proofs.Standing.Items.{takes_at, accepts_at, behind_at, reads_coming, reads_asked, reads_place}
use Rattle.aud_layout.proofs.Standing.Ways.{out_found, out_shown, reads_loops}
use Rattle.aud_layout.proofs.Standing.Exceptions.{leads_at, reads_handles, handling_shown}

-- a body from its beginning, before what its caller has left to do
unit_stands : (code : Code) (b : Body) (place : ℕ) (returns : List ℕ) (rest : List Item) → HasAt code.lines place (unit_code b place) → Callers (λ a p rs. Stands code a p rs rest) returns rest → ShowsControl code (at_place code place returns) (body_before construct.Unit b rest)
unit_stands code (body d begin s h end) place returns rest has callers =
    let b = body d begin s h end in
    let last = end_place b place 1 in
    let all = has_same code.lines place _ _ (sym (append-nil (body_code construct.Unit b place 0 last (in_call None last)))) has in
    body_stands code returns construct.Unit b (in_call None last) place 0 last rest has (refl, refl, has_end code construct.Unit d begin s h end place 0 last (in_call None last) [] all, callers)

same_handled : (program : Program) (code : Code) (x : Exception) (m : Spot) (c : List Item) → ShowsControl code m c → is_there (handler_at program code x m) ≡ is_some_part (reached_at x c).handler
same_handled program code x m c h =
    let l = leads_at code m.returns x c h.around m.place h.stands h.settled in
    reads_handles code m.returns (reached_at x c).handler (handler_by (line_at code (line_at code m.place).out).what x) (reached_at x c).from l.catches

same_coming : (program : Program) (code : Code) (p : Option Pending) (s : Sight) (m : Spot) (c : List Item) → ShowsControl code m c → coming_at program code p s m ≡ coming program.plan p s c
same_coming program code None s m c h = reads_coming code m.returns program s c h.around m.place h.stands h.settled
same_coming program code (Some p) s m c h = ap coming_raised (same_handled program code p.exception m c h)

same_asked : (program : Program) (code : Code) (p : Option Pending) (s : Scene) (m : Spot) (c : List Item) → ShowsControl code m c → asked_at program code p s m ≡ asks p s c
same_asked program code None s m c h =
    let loops = reads_loops code m.returns (out_from c) (line_at code m.place).exit (out_found code m.returns c h.around m.place h.stands h.settled) in
    reads_asked code m.returns s (loops_of (line_at code m.place).exit) c h.around m.place h.stands h.settled loops
same_asked program code (Some p) s m c h = ap (λ b. handled_or_left b p) (same_handled program code p.exception m c h)

pub layout_agreement_law : LayoutAgreementLaw
layout_agreement_law program code units = record {
  coming = λ p s m c h. same_coming program code p s m c h;
  asks = λ p s m c h. same_asked program code p s m c h;
  place = λ m c h. reads_place code m.returns c h.around m.place h.stands h.settled;
  takes = λ n m c h. takes_at code m.returns c h.around m.place h.stands h.settled n;
  accepts = λ n m c h. accepts_at code m.returns c h.around m.place h.stands h.settled n;
  enters = λ n m c h. unit_stands code (body_of program n) (start_of code n) (m.place ∷ m.returns) c (units n) (h.around, h.stands, h.settled);
  begins = λ n. unit_stands code (body_of program n) (start_of code n) [] [] (units n) refl;
  out = λ m c h. out_shown code m.returns (out_from c) (line_at code m.place).exit c m.place (out_found code m.returns c h.around m.place h.stands h.settled) h;
  behind = λ m c h. behind_at code m.returns c h.around m.place h.stands h.settled;
  handling = λ x m c h. let l = leads_at code m.returns x c h.around m.place h.stands h.settled in handling_shown code m.returns (reached_at x c).handler (handler_by (line_at code (line_at code m.place).out).what x) (reached_at x c).from c m.place l.catches h;
  left = λ x m c h. let l = leads_at code m.returns x c h.around m.place h.stands h.settled in l.left m.place;
  barrier = refl;
}
