use Rattle.std.proofs.Common.{refl}
use Rattle.std.specs.Fmt.{digits}
use Rattle.aud_bench.specs.Alone.{alone}
use Rattle.aud_lines.specs.Requests.{requests}
use Rattle.aud_lines.specs.Text.{text}
use Rattle.aud_examples.specs.Sessions.{answers_to}
use Rattle.aud_examples.proofs.laws.signs.Goals as goal

pub returns : goal.returns
unfolding answers_to alone requests text digits
returns c = refl
