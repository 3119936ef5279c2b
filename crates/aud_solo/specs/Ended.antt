-- With which status a program ends that has served one stream of requests.
use Rattle.std.specs.Prelude.{◌≡◌, ℕ, Result, Ok, Err}
use Rattle.aud_solo.specs.declared.serving.ServeFault.{ServeFault}
use Rattle.aud_solo.specs.declared.serving.ServeFault.TheVariants as fault

-- where its session ended before its end
abbrev pub fault_status : ServeFault → ℕ
fault_status fault.Read = 1
fault_status fault.Write = 1
fault_status fault.Memory = 4

-- 0 where the session was served to its end
abbrev pub ended_status : Result Unit ServeFault → ℕ
ended_status (Ok _) = 0
ended_status (Err fault) = fault_status fault

-- the status is that of how the session ended, of which this holds
abbrev pub EndsAs : ℕ → (Result Unit ServeFault → Type 0) → Type 0
EndsAs status holds = (served : Result Unit ServeFault) × (status ≡ ended_status served) × holds served
