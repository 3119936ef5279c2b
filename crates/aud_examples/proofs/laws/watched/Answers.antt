use Rattle.std.proofs.Common.{refl}
use Rattle.std.specs.Fmt.{digits}
use Rattle.aud_examples.proofs.laws.watched.Goals as goal

pub returns : goal.returns
unfolding digits
returns c = (record { statements = refl; code = refl }, (record { statements = refl; code = refl }, (record { statements = refl; code = refl }, (record { statements = refl; code = refl }, (record { statements = refl; code = refl }, (record { statements = refl; code = refl }, (record { statements = refl; code = refl }, (record { statements = refl; code = refl }, (record { statements = refl; code = refl }, (record { statements = refl; code = refl }, tt))))))))))
