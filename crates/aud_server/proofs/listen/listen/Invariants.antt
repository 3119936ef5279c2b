use Rattle.aud_hall.specs.Halls.{limits_of}
use Rattle.aud_server.proofs.listen.listen.Given as goal

abbrev pub ghosts-listen_at : goal.ghosts-listen_at
ghosts-listen_at g a = record { limits = limits_of a.hall }
