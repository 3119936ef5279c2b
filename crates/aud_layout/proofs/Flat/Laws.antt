-- The laws.
use Rattle.std.proofs.Common.{◌≡◌, ℕ, List, [], ◌∷◌, map, ap, sym, subst, ◌∙◌, slice_get, arith}
use Rattle.aud_typed.specs.Tree.{Program, BooleanExpression}
use Rattle.aud_meaning.specs.Configuration.{Item}
use Rattle.aud_meaning.specs.Control.{Controls}
use Rattle.aud_meaning.specs.Statements.{controls}
use Rattle.aud_layout.specs.Layout.{Code, line_at, code_of, code_controls}
use Rattle.aud_code.specs.Places.{Spot, goes_there, goes_way}
use Rattle.aud_layout.specs.Layout as layout
use Rattle.aud_layout.specs.Shows.{ShowsControl}
use Rattle.aud_meaning.specs.Why.Agree.{Agrees}
use Rattle.aud_layout.proofs.Standing.Places.{units_stand}
use Rattle.aud_layout.proofs.Standing.Agreement.{layout_agreement_law}
use Rattle.aud_meaning.proofs.Runs.{same_seen, ordered_shown, moves_same, state_same, step_shown, run_shown, supplied_shown, advanced_shown, opening_shown, raised_same}
use Rattle.aud_layout.proofs.Standing.Ranges.{place_law}
use Rattle.aud_layout.proofs.Flat.Beginning.{places_within, begins}
use Rattle.aud_code.specs.Sound.{IsStart}
use Rattle.aud_code.specs.Flat.{EndLine, end_at, ended_in, left_by}
use Rattle.aud_layout.specs.Assembly.{offset, flat_program}
use Rattle.aud_layout.specs.Law.{spot_at, ShowsFlat, flat, AgreementLaw, SeenLaw, OrderLaw, MovesLaw, StateLaw, StepLaw, RunLaw, SupplyLaw, AdvanceLaw, OpeningLaw, RaisedLaw, StartLaw}
use Rattle.aud_layout.proofs.Flat.Places.{goes_number, goes_out, end_is, goes_behind, goes_left, handles_at, asked_same, coming_same, start_is, barrier_is}

module _ (program : Program) where
  abbrev C : Code
  C = code_of program

  abbrev B : List BooleanExpression
  B = program.barriers

  abbrev F : ℕ → ℕ
  F = offset (code_of program).lines

  abbrev K : Controls Spot
  K = flat program

  abbrev L : Controls Spot
  L = code_controls program (code_of program)

  -- an order on instructions is that on lines
  kept : (k l : Spot → Spot) → ((c : Spot) → k (spot_at F c) ≡ spot_at F (l c)) → (m : Spot) (items after : List Item) → ShowsFlat program m items → ((c : Spot) → ShowsControl C c items → ShowsControl C (l c) after) → ShowsFlat program (k m) after
  kept k l same m items after h keeps = (l h.0, ap k h.1 ∙ same h.0, keeps h.0 h.2)

  takes_same : (n : ℕ) (c : Spot) → K.takes n (spot_at F c) ≡ spot_at F (L.takes n c)
  takes_same n c = ap (λ (l : EndLine). goes_there (slice_get l.ways n) (spot_at F c)) (end_is C B c.place) ∙ goes_number F (line_at C c.place).ways n c

  accepts_same : (n : ℕ) (c : Spot) → K.accepts n (spot_at F c) ≡ spot_at F (L.accepts n c)
  accepts_same n c = ap (λ (l : EndLine). goes_there (slice_get l.bodies n) (spot_at F c)) (end_is C B c.place) ∙ goes_number F (line_at C c.place).bodies n c

  out_same : (c : Spot) → K.out (spot_at F c) ≡ spot_at F (L.out c)
  out_same c = ap (λ (l : EndLine). goes_way l.exit (spot_at F c)) (end_is C B c.place) ∙ goes_out F (line_at C c.place).exit c

  behind_same : (c : Spot) → K.behind (spot_at F c) ≡ spot_at F (L.behind c)
  behind_same c = ap (λ (l : EndLine). ended_in (flat_program program) l.last (spot_at F c)) (end_is C B c.place) ∙ goes_behind C B (line_at C c.place).what c

  left_same : (c : Spot) → left_by (flat_program program) (end_at (flat_program program) (F c.place)).out (spot_at F c) ≡ spot_at F (layout.left_by C (line_at C c.place).out c)
  left_same c = ap (λ (l : EndLine). left_by (flat_program program) l.out (spot_at F c)) (end_is C B c.place) ∙ goes_left C B (line_at C c.place).out c

  pub agrees : Agrees Spot (List Item) (ShowsFlat program) K (controls program)
  agrees =
      let old = layout_agreement_law program C (units_stand program) in
      record {
        coming = λ p s m c h. ap (K.coming p s) h.1 ∙ coming_same C B program p s h.0 ∙ old.coming p s h.0 c h.2;
        asks = λ p s m c h. ap (K.asks p s) h.1 ∙ asked_same C B program _ (places_within program) p s h.0 ∙ old.asks p s h.0 c h.2;
        place = λ m c h. ap K.place h.1 ∙ ap (λ (l : EndLine). l.at) (end_is C B h.0.place) ∙ old.place h.0 c h.2;
        takes = λ n m c h. kept (K.takes n) (L.takes n) (takes_same n) m c ((controls program).takes n c) h (λ d k. old.takes n d c k);
        accepts = λ n m c h. kept (K.accepts n) (L.accepts n) (accepts_same n) m c ((controls program).accepts n c) h (λ d k. old.accepts n d c k);
        enters = λ n m c h. kept (K.enters n) (L.enters n) (λ d. ap (λ p. record { place = p; returns = F d.place ∷ map F d.returns }) (start_is C B n)) m c ((controls program).enters n c) h (λ d k. old.enters n d c k);
        begins = λ n. (L.begins n, ap (λ p. record { place = p; returns = [] }) (start_is C B n), old.begins n);
        out = λ m c h. kept K.out L.out out_same m c ((controls program).out c) h (λ d k. old.out d c k);
        behind = λ m c h. kept K.behind L.behind behind_same m c ((controls program).behind c) h (λ d k. old.behind d c k);
        handling = λ x m c h. kept (K.handling x) (L.handling x) (λ d. handles_at C B x d) m c ((controls program).handling x c) h (λ d k. old.handling x d c k);
        left = λ x m c h. kept (K.left x) (L.left x) left_same m c ((controls program).left x c) h (λ d k. old.left x d c k);
        barrier = λ i n s. barrier_is C B n s i;
      }

pub agreement_law : AgreementLaw
agreement_law program = agrees program

pub seen_law : SeenLaw
seen_law program m c h = same_seen (ShowsFlat program) (flat program) (controls program) (agrees program) program.plan m c h

pub order_law : OrderLaw
order_law program m c orders h = ordered_shown (ShowsFlat program) (flat program) (controls program) (agrees program) m c orders h

pub moves_law : MovesLaw
moves_law program m c h = moves_same (ShowsFlat program) (flat program) (controls program) (agrees program) program.plan m c h

pub state_law : StateLaw
state_law program m c h = state_same (ShowsFlat program) (flat program) (controls program) (agrees program) program.plan m c h

pub step_law : StepLaw
step_law limits program m c move h = step_shown (ShowsFlat program) (flat program) (controls program) (agrees program) program.plan limits m c move h

pub run_law : RunLaw
run_law limits program n m c h = run_shown (ShowsFlat program) (flat program) (controls program) (agrees program) program.plan limits n m c h

pub supply_law : SupplyLaw
supply_law program choices m c h = supplied_shown (ShowsFlat program) (flat program) (controls program) (agrees program) choices m c h

pub advance_law : AdvanceLaw
advance_law program milliseconds m c h = advanced_shown (ShowsFlat program) (flat program) (controls program) (agrees program) milliseconds m c h

pub opening_law : OpeningLaw
opening_law program = opening_shown (ShowsFlat program) (flat program) (controls program) (agrees program) program.plan program.name

pub raised_law : RaisedLaw
raised_law program m c h = raised_same (ShowsFlat program) (flat program) (controls program) (agrees program) m.tasks c.tasks h.tasks

pub start_law : StartLaw
start_law program m items h some =
    let lines = (code_of program).lines in
    let within = place_law (code_of program) h.0 items h.2 some in
    subst (λ s. IsStart (flat_program program).lines s.place) (sym h.1) (begins (offset lines) lines h.0.place (omega (arith, within)))
