-- Queues of entries.
use Rattle.std.specs.Prelude.{◌≡◌, ◌<◌, ℕ, zero, suc, List, [], ◌∷◌, map, filter, Option, Some, None, Bool, true, false, ◌&&◌, not, nat_eq, if◌then◌else◌}
use Rattle.aud_meaning.specs.Configuration.{Call}
use Rattle.aud_meaning.specs.Parts.{Waiting, is_queued, numbers, owner_number, queue}
use Rattle.aud_calls.specs.declared.queues.Queue.{Queue}
use Rattle.aud_calls.specs.declared.queues.Queues.{Queues}

-- the call that waits for longest, by its number
abbrev pub oldest : List Waiting → Option ℕ
oldest [] = None
oldest (w ∷ ws) = Some w.call

-- it is queued on this entry of this owner
abbrev pub is_at : ℕ → ℕ → Call → Bool
is_at owner entry c = is_queued c.state && nat_eq c.entry entry && nat_eq (owner_number c.owner) owner

-- those that a task has made and that are queued, but for those that stay
abbrev pub calls_by : ℕ → List Call → List ℕ
calls_by caller calls = numbers (λ (c : Call). is_queued c.state && nat_eq c.caller caller && not c.stays) 0 calls

-- it is the queue of this entry
abbrev pub is_of : ℕ → ℕ → Queue → Bool
is_of owner entry q = nat_eq q.entry entry && nat_eq q.owner owner

-- the calls in the first queue of this entry; none where there is no such queue
abbrev pub line : ℕ → ℕ → List Queue → List ℕ
line owner entry [] = []
line owner entry (q ∷ qs) = if is_of owner entry q then q.calls.items else line owner entry qs

abbrev pub waiting : ℕ → ℕ → Queues → List ℕ
waiting owner entry qs = line owner entry qs.queues.items

-- each entry has the same calls
abbrev pub IsSame : Queues → Queues → Type 0
IsSame old new = (o e : ℕ) → waiting o e new ≡ waiting o e old

-- this entry has the calls that its own lead to, and each other one its own
abbrev pub Changes : ℕ → ℕ → (List ℕ → List ℕ) → Queues → Queues → Type 0
Changes owner entry to old new = (o e : ℕ) → waiting o e new ≡ (if nat_eq entry e && nat_eq owner o then to (waiting o e old) else waiting o e old)

-- all but the call of this number
abbrev pub without : ℕ → List ℕ → List ℕ
without id calls = filter (λ n. not (nat_eq n id)) calls

-- none is the queue of this entry
abbrev pub AreOthers : ℕ → ℕ → List Queue → Type 0
AreOthers owner entry [] = Unit {0}
AreOthers owner entry (q ∷ qs) = (is_of owner entry q ≡ false) × AreOthers owner entry qs

-- the one at this place is the first that is
abbrev pub IsFirst : ℕ → ℕ → List Queue → ℕ → Type 0
IsFirst owner entry [] at = ⊥
IsFirst owner entry (q ∷ qs) zero = is_of owner entry q ≡ true
IsFirst owner entry (q ∷ qs) (suc at) = (is_of owner entry q ≡ false) × IsFirst owner entry qs at

-- calls that are queued came before so many arrivals
abbrev pub AreQueuedBefore : ℕ → List Call → Type 0
AreQueuedBefore k [] = Unit {0}
AreQueuedBefore k (c ∷ cs) = (is_queued c.state ≡ true → c.arrival < k) × AreQueuedBefore k cs

-- each entry has the calls that are queued on it, in order of their arrival
pub record AreInLine (calls : List Call) (arrivals : ℕ) (queues : Queues) : Type 0 where
  pub lines : (o e : ℕ) → waiting o e queues ≡ map (λ (w : Waiting). w.call) (queue o e calls)
  pub before : AreQueuedBefore arrivals calls
