use Rattle.aud_over.proofs.Memory.{memory}
use Rattle.aud_over.proofs.laws.memory_law.Goals as goal

pub returns-clause-statements : goal.returns-clause-statements
returns-clause-statements c = λ pins plan k limits x y m through same stands fits enabled. memory pins plan k limits x y m through same stands fits enabled

pub returns-clause-code : goal.returns-clause-code
returns-clause-code c = λ pins plan k limits x y m through same stands fits enabled. memory pins plan k limits x y m through same stands fits enabled
