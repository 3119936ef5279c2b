use Rattle.aud_framed.proofs.Running.Fitting.{framed_fits}
use Rattle.aud_framed.proofs.runs.fits_framed_law.Goals as goal

pub returns : goal.returns
returns c = record { fits = framed_fits }
