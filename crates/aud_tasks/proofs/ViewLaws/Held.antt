-- What keeps a task from going on, by what is read of it.
use Rattle.std.proofs.Common.{◌≡◌, ℕ, Option, sym, ap, ◌∙◌}
use Rattle.aud_typed.specs.Tree.{Plan}
use Rattle.aud_meaning.specs.Configuration.{Own, All}
use Rattle.aud_meaning.specs.Control.{Coming, simply, ending, selecting, calling, starting}
use Rattle.aud_meaning.specs.Listings.Waits.{acting_hold, hold_by, leaving_hold}
use Rattle.aud_meaning.specs.Parts.{own_of}
use Rattle.aud_code.specs.Places.{Spot}
use Rattle.aud_code.specs.Flat.{Flat}
use Rattle.aud_state.specs.Reads.{LeavesBy}
use Rattle.aud_tasks.specs.declared.turn.Turn.{Turn}
use Rattle.aud_tasks.specs.Choices.{IsNoStart}
use Rattle.aud_tasks.specs.Held.{hold_in}
use Rattle.aud_tasks.specs.Turning.{turned, turn_in}
use Rattle.aud_tasks.proofs.ViewLaws.Shown.{turn_is}

-- one that leaves this master, if it leaves one
pub leaves_held : (n : ℕ) (o : Own) (c : All Spot) (m : Option ℕ) (x : Coming) → LeavesBy o m x → IsNoStart x → leaving_hold m c ≡ acting_hold x n o c
leaves_held n o c m (simply w) h no_start = ap (λ k. leaving_hold k c) h
leaves_held n o c m ending h no_start = ap (λ k. leaving_hold k c) h
leaves_held n o c m (selecting ones) h no_start = ap (λ k. leaving_hold k c) h
leaves_held n o c m (calling task entry) h no_start = ap (λ k. leaving_hold k c) h
leaves_held n o c m (starting object reading) h no_start = absurd no_start

-- by its turn
pub hold_told : (plan : Plan) (code : Flat) (n : ℕ) (c : All Spot) (x y : Turn) → turn_in plan code n c ≡ turned plan code n c x → x ≡ y → hold_by (turned plan code n c y) n (own_of n c) c ≡ hold_in plan code n c
hold_told plan code n c x y h is = ap (λ u. hold_by u n (own_of n c) c) (sym (ap (turned plan code n c) is) ∙ turn_is plan code n c x h)
