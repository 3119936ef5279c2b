use Rattle.aud_framed.proofs.Fitting.{held_fits}
use Rattle.aud_framed.proofs.laws.fits_law.Goals as goal

pub returns : goal.returns
returns c = record { fits = held_fits }
