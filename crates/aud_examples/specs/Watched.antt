-- What OBJECTS and WAITS tell of programs under way, as worked out by hand.
use Rattle.std.specs.Prelude.{List, [], ◌∷◌, true, false, codes}
use Rattle.aud_examples.specs.Asking.{Ran, Stepped, Chosen, Advanced, Objects, Waits, Row, AllHold}
use Rattle.aud_examples.specs.Programs.BarrierRaises.{program as raising}
use Rattle.aud_examples.specs.Programs.BarrierWithCount.{program as counting}
use Rattle.aud_examples.specs.Programs.FailedActivation.{program as failing}
use Rattle.aud_examples.specs.Programs.RequeueToObject.{program as requeuing}
use Rattle.aud_examples.specs.Programs.RequeueToTask.{program as passing_on}
use Rattle.aud_examples.specs.Programs.Stuck.{program as locked}
use Rattle.aud_examples.specs.Programs.TerminateAlternative.{program as serving}
use Rattle.aud_examples.specs.Programs.TimedCall.{program as calling}

-- a barrier that counts: idle, then an action at its barrier, then in the body of the oldest call, then left
abbrev pub counts : Row
counts = record {
  program = counting;
  asked = (Ran 10 ∷ Objects ∷ Waits ∷ Ran 1 ∷ Objects ∷ Waits ∷ Ran 1 ∷ Objects ∷ Waits ∷ Ran 100 ∷ Objects ∷ Waits ∷ []);
  told =
      (codes "ran 10 more" ∷ [])
      ∷ (codes "1 G idle" ∷ codes "1 G.RELEASED = FALSE" ∷ codes "1 G.WAIT FALSE" ∷ [])
      ∷ (codes "1 M master 2 3 4" ∷ codes "2 A(1) call object 1 G.WAIT" ∷ codes "3 A(2) call object 1 G.WAIT" ∷ [])
      ∷ (codes "ran 1 more" ∷ [])
      ∷ (codes "1 G 4" ∷ codes "1 G.RELEASED = FALSE" ∷ codes "1 G.WAIT TRUE" ∷ [])
      ∷ (codes "1 M master 2 3 4" ∷ codes "2 A(1) call object 1 G.WAIT" ∷ codes "3 A(2) call object 1 G.WAIT" ∷ [])
      ∷ (codes "ran 1 more" ∷ [])
      ∷ (codes "1 G 4" ∷ codes "1 G.RELEASED = FALSE" ∷ codes "1 G.WAIT FALSE" ∷ [])
      ∷ (codes "1 M master 2 3 4" ∷ codes "2 A(1) selected object 1 G.WAIT" ∷ codes "3 A(2) call object 1 G.WAIT" ∷ [])
      ∷ (codes "ran 18 ended" ∷ [])
      ∷ []
      ∷ []
      ∷ [];
}

-- a barrier that raises, and so an exception in each caller
abbrev pub raises : Row
raises = record {
  program = raising;
  asked = (Ran 100 ∷ Objects ∷ Waits ∷ Advanced 1000 ∷ Ran 3 ∷ Objects ∷ Waits ∷ Ran 1 ∷ Objects ∷ Waits ∷ []);
  told =
      (codes "ran 9 waiting 1000" ∷ [])
      ∷ (codes "1 P idle" ∷ codes "1 P.Z = 1" ∷ codes "1 P.OPEN = FALSE" ∷ codes "1 P.A FALSE" ∷ codes "1 P.B FALSE" ∷ [])
      ∷ (codes "1 M delay 1000" ∷ codes "2 X call object 1 P.A" ∷ codes "3 Y call object 1 P.B" ∷ [])
      ∷ (codes "clock 1000" ∷ [])
      ∷ (codes "ran 3 more" ∷ [])
      ∷ (codes "1 P 1" ∷ codes "1 P.Z = 0" ∷ codes "1 P.OPEN = FALSE" ∷ codes "1 P.A CONSTRAINT_ERROR" ∷ codes "1 P.B FALSE" ∷ [])
      ∷ (codes "2 X call object 1 P.A" ∷ codes "3 Y call object 1 P.B" ∷ [])
      ∷ (codes "ran 1 more" ∷ [])
      ∷ (codes "1 P idle" ∷ codes "1 P.Z = 0" ∷ codes "1 P.OPEN = FALSE" ∷ codes "1 P.A CONSTRAINT_ERROR" ∷ codes "1 P.B FALSE" ∷ [])
      ∷ (codes "2 X raised PROGRAM_ERROR" ∷ codes "3 Y raised PROGRAM_ERROR" ∷ [])
      ∷ [];
}

-- an action of the main procedure is in the way of both tasks
abbrev pub in_the_way : Row
in_the_way = record {
  program = raising;
  asked = (Ran 5 ∷ Chosen (1 ∷ 0 ∷ []) ∷ Ran 2 ∷ Advanced 1000 ∷ Ran 2 ∷ Objects ∷ Waits ∷ []);
  told =
      (codes "ran 5 more" ∷ [])
      ∷ (codes "choices 2" ∷ [])
      ∷ (codes "ran 2 more" ∷ [])
      ∷ (codes "clock 1000" ∷ [])
      ∷ (codes "ran 2 more" ∷ [])
      ∷ (codes "1 P 1" ∷ codes "1 P.Z = 1" ∷ codes "1 P.OPEN = FALSE" ∷ codes "1 P.A FALSE" ∷ codes "1 P.B FALSE" ∷ [])
      ∷ (codes "2 X object 1 P" ∷ codes "3 Y object 1 P" ∷ [])
      ∷ [];
}

-- two tasks are queued on each other
abbrev pub circle : Row
circle = record {
  program = locked;
  asked = (Ran 100 ∷ Waits ∷ []);
  told =
      (codes "ran 9 stuck" ∷ [])
      ∷ (codes "1 M master 2 3" ∷ codes "2 A call 3 B.E" ∷ codes "3 B call 2 A.E" ∷ [])
      ∷ [];
}

-- a server waits at an open terminate alternative, and its master for what depends on it
abbrev pub server : Row
server = record {
  program = serving;
  asked = (Ran 100 ∷ Waits ∷ Advanced 2000 ∷ Ran 5 ∷ Waits ∷ []);
  told =
      (codes "ran 9 waiting 2000" ∷ [])
      ∷ (codes "1 M master 2 3" ∷ codes "2 S accept E terminate" ∷ codes "3 D delay 2000" ∷ [])
      ∷ (codes "clock 2000" ∷ [])
      ∷ (codes "ran 5 more" ∷ [])
      ∷ (codes "2 S accept E terminate" ∷ [])
      ∷ [];
}

-- an activation that fails
abbrev pub activation : Row
activation = record {
  program = failing;
  asked = (Ran 3 ∷ Waits ∷ Ran 2 ∷ Waits ∷ Ran 1 ∷ Waits ∷ []);
  told =
      (codes "ran 3 more" ∷ [])
      ∷ (codes "1 M activation 2 3" ∷ [])
      ∷ (codes "ran 2 more" ∷ [])
      ∷ (codes "1 M activation 2 3" ∷ codes "2 A raised CONSTRAINT_ERROR" ∷ [])
      ∷ (codes "ran 1 more" ∷ [])
      ∷ (codes "1 M activation 3" ∷ [])
      ∷ [];
}

-- a timed call, whose time is told until it is accepted
abbrev pub timed : Row
timed = record {
  program = calling;
  asked = (Ran 100 ∷ Waits ∷ Advanced 250 ∷ Stepped 1 ∷ Waits ∷ Stepped 1 ∷ Waits ∷ []);
  told =
      (codes "ran 5 waiting 250" ∷ [])
      ∷ (codes "1 M call 2 S.E" ∷ codes "1 M delay 250" ∷ codes "2 S delay 250" ∷ [])
      ∷ (codes "clock 250" ∷ [])
      ∷ (codes "ran 1 more" ∷ [])
      ∷ (codes "1 M call 2 S.E" ∷ codes "1 M delay 250" ∷ [])
      ∷ (codes "ran 1 more" ∷ [])
      ∷ []
      ∷ [];
}

-- a timed call that is made again with abort
abbrev pub expires : Row
expires = record {
  program = requeuing true;
  asked = (Ran 100 ∷ Waits ∷ []);
  told = (codes "ran 4 waiting 500" ∷ []) ∷ (codes "1 M call object 1 P.B" ∷ codes "1 M delay 500" ∷ []) ∷ [];
}

-- and without: it stays
abbrev pub stays : Row
stays = record {
  program = requeuing false;
  asked = (Ran 100 ∷ Waits ∷ []);
  told = (codes "ran 4 stuck" ∷ []) ∷ (codes "1 M call object 1 P.B" ∷ []) ∷ [];
}

-- a call that is accepted, made again and accepted there
abbrev pub passes : Row
passes = record {
  program = passing_on;
  asked = (Ran 8 ∷ Waits ∷ Ran 1 ∷ Waits ∷ Ran 1 ∷ Waits ∷ []);
  told =
      (codes "ran 8 more" ∷ [])
      ∷ (codes "1 M selected 2 S.A" ∷ [])
      ∷ (codes "ran 1 more" ∷ [])
      ∷ (codes "1 M call 2 S.B" ∷ [])
      ∷ (codes "ran 1 more" ∷ [])
      ∷ (codes "1 M selected 2 S.B" ∷ [])
      ∷ [];
}

abbrev pub watched : List Row
watched = counts ∷ raises ∷ in_the_way ∷ circle ∷ server ∷ activation ∷ timed ∷ expires ∷ stays ∷ passes ∷ []

abbrev pub WatchedHold : Type 0
WatchedHold = AllHold watched
