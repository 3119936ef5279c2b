-- One call is changed.
use Rattle.std.proofs.Common.{◌≡◌, ◌<◌, ◌≤◌, ℕ, List, length, map, get_or, set, ap, sym, ◌∙◌}
use Rattle.aud_meaning.specs.Configuration as meaning
use Rattle.aud_meaning.specs.Parts.{changed}
use Rattle.aud_calls.specs.declared.slot.Slot.{Slot}
use Rattle.aud_calls.specs.View.{Kept, plain_slot}
use Rattle.aud_calls.proofs.Lists.{changed_at, unchanged}

abbrev pub kept_of : List Slot → ℕ → Kept
kept_of calls k = record { calls = map plain_slot calls; arrivals = k }

pub call_changed : (f : meaning.Call → meaning.Call) (calls : List Slot) (k n : ℕ) (x y : Slot) (c : Kept) → n < length calls → x ≡ get_or calls n x → plain_slot y ≡ f (plain_slot x) → kept_of calls k ≡ c → kept_of (set calls n y) k ≡ record c { calls = changed n f c.calls }
call_changed f calls k n x y c within at new is =
    ap (λ cs. record (kept_of calls k) { calls = cs }) (changed_at plain_slot f calls n x y within (new ∙ ap (λ z. f (plain_slot z)) at))
    ∙ ap (λ (w : Kept). record w { calls = changed n f w.calls }) is

pub no_call_there : (f : meaning.Call → meaning.Call) (calls : List Slot) (k n : ℕ) (c : Kept) → length calls ≤ n → kept_of calls k ≡ c → c ≡ record c { calls = changed n f c.calls }
no_call_there f calls k n c past is =
    sym is ∙ ap (λ cs. record (kept_of calls k) { calls = cs }) (unchanged plain_slot f calls n past) ∙ ap (λ (w : Kept). record w { calls = changed n f w.calls }) is
