-- Small texts with entries, accept, delay and select statements are read by computing.
use Rattle.std.proofs.Common.{refl}
use Rattle.aud_grammar.specs.Why.RendezvousRows.{Definitions, Delays, Accepts, CallsInSelect, SelectiveAccepts, WrongDefinitions, WrongDelays, WrongAccepts, WrongSelects, LevelsOfRendezvous}

pub definitions : Definitions
definitions = (refl, refl)

pub delays : Delays
delays = (refl, refl, refl, refl, refl, refl, refl, refl)

pub accepts : Accepts
accepts = (refl, refl, refl, refl)

pub calls_in_select : CallsInSelect
calls_in_select = (refl, refl, refl, refl)

pub selective_accepts : SelectiveAccepts
selective_accepts = (refl, refl, refl, refl, refl, refl, refl)

pub wrong_definitions : WrongDefinitions
wrong_definitions = (refl, refl, refl, refl, refl, refl, refl, refl)

pub wrong_delays : WrongDelays
wrong_delays = (refl, refl, refl, refl, refl, refl, refl, refl, refl, refl, refl, refl)

pub wrong_accepts : WrongAccepts
wrong_accepts = (refl, refl, refl, refl, refl, refl, refl, refl, refl)

pub wrong_selects : WrongSelects
wrong_selects = (refl, refl, refl, refl, refl, refl, refl, refl, refl, refl, refl, refl, refl, refl, refl, refl, refl, refl, refl, refl, refl, refl, refl, refl, refl, refl, refl, refl, refl, refl, refl)

pub levels_of_rendezvous : LevelsOfRendezvous
levels_of_rendezvous = (refl, refl, refl, refl, refl, refl, refl, refl)
