-- At the beginning the main procedure holds its own frame.
use Rattle.std.proofs.Common.{◌≡◌, ℕ, zero, suc, List, [], ◌∷◌, None, false, refl, sym, ap, slice_get}
use Rattle.aud_typed.specs.Tree.{Plan}
use Rattle.aud_meaning.specs.Configuration.{for_body, All}
use Rattle.aud_meaning.specs.Parts.{is_over, own_of, unit_of}
use Rattle.aud_meaning.specs.Run.{opening_with}
use Rattle.aud_code.specs.Places.{Spot}
use Rattle.aud_code.specs.Flat.{Flat, flat_controls, start_at}
use Rattle.aud_code.specs.Seen.{IsSeen}
use Rattle.aud_code.specs.Sound.{Counts, IsSound}
use Rattle.aud_over.specs.Over.{is_call_over}
use Rattle.aud_over.proofs.Calls.{true_is_not_false}
use Rattle.aud_framed.specs.Calls.{Serves}
use Rattle.aud_framed.specs.Framed.{IsFramed}
use Rattle.aud_framed.proofs.Steps.{one_seen}
use Rattle.aud_framed.proofs.Bodies.{begins_framed}

pub opening_framed : (plan : Plan) (code : Flat) (table : List Counts) (tasks barriers seen : List ℕ) (name : List ℕ) → IsSound code → IsSeen code table tasks barriers seen → IsFramed plan code seen (opening_with plan name ((flat_controls plan code).begins 0))
opening_framed plan code table tasks barriers seen name sound fits = record {
  tasks = (begins_framed code table tasks barriers seen sound fits 0 0 (0 ∷ []) (record { frame = 0; region = (unit_of plan 0).region; elaborated = 0; handling = None; saved = []; at = (unit_of plan 0).at; purpose = for_body }) (one_seen (slice_get seen (start_at code 0)) fits.main) refl refl, tt {0});
  objects = tt {0};
  calls = λ id live. true_is_not_false live;
  stays = λ id is. true_is_not_false (ap is_call_over is);
  queued = λ id is. true_is_not_false (ap is_call_over is);
  serves = serves;
  alone = λ object n m h g. true_is_not_false (sym h);
}
  where
    start : All Spot
    start = opening_with plan name ((flat_controls plan code).begins 0)

    serves : (n : ℕ) → is_over (own_of n start).status ≡ false → Serves plan start n (own_of n start)
    serves zero h = record {
      opened = (tt {0}, tt {0});
      calls = tt {0};
      objects = tt {0};
      serving = λ s e. absurd cc;
      again = λ r e. absurd cc;
      restart = λ r e. absurd cc;
      withdraw = λ object e. absurd cc;
    }
    serves (suc n) h = true_is_not_false h
