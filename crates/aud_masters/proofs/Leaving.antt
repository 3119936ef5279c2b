-- Masters that tasks leave, by what is read of these.
use Rattle.std.proofs.Common.{◌≡◌, ℕ, Option, ap}
use Rattle.aud_meaning.specs.Configuration.{Own, All}
use Rattle.aud_meaning.specs.Control.{Coming, simply, ending, selecting, calling, starting}
use Rattle.aud_code.specs.Places.{Spot}
use Rattle.aud_state.specs.Reads.{LeavesBy}
use Rattle.aud_masters.specs.Leaving.{may_leave, leaves_freely}

pub freely_by : (own : Own) (master : Option ℕ) (next : Coming) (c : All Spot) → LeavesBy own master next → may_leave master c ≡ leaves_freely own next c
freely_by own master (simply w) c h = ap (λ m. may_leave m c) h
freely_by own master ending c h = ap (λ m. may_leave m c) h
freely_by own master (selecting ones) c h = ap (λ m. may_leave m c) h
freely_by own master (calling task entry) c h = ap (λ m. may_leave m c) h
freely_by own master (starting object reading) c h = ap (λ m. may_leave m c) h
