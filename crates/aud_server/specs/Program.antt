-- What the program is asked for, and how it ends.
use Rattle.std.specs.Prelude.{◌≡◌, ℕ, List, [], ◌∷◌, codes}
use Rattle.clap.specs.declared.error.ErrorKind.{ErrorKind}
use Rattle.clap.specs.declared.error.ErrorKind.TheVariants.{OutOfMemory}
use Rattle.aud_solo.specs.declared.serving.ServeFault.TheVariants as server
use Rattle.aud_solo.specs.Ended.{fault_status}
use Rattle.aud_server.specs.declared.program.ProgramFault.{ProgramFault}
use Rattle.aud_server.specs.declared.program.ProgramFault.TheVariants.{Arguments, Listen, Server}

-- the words of a command line, the first of which is the program's own name, ask for the server: there is one more, and it is
-- `--solo` in full
abbrev pub AsksSolo : List (List ℕ) → Type 0
AsksSolo (name ∷ word ∷ []) = word ≡ codes "--solo"
AsksSolo _ = ⊥

-- the status with which it ends
abbrev pub status : ProgramFault → ℕ
status Arguments = 2
status Listen = 3
status (Server fault) = fault_status fault

-- of an error that was met while the words were read
abbrev pub of_kind : ErrorKind → ProgramFault
of_kind OutOfMemory = Server server.Memory
of_kind _ = Arguments
