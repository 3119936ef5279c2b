-- Small texts with blocks, exceptions, for loops and arrays are read by computing.
use Rattle.std.proofs.Common.{refl}
use Rattle.aud_grammar.specs.Why.ControlRows.{Declarations, Blocks, Exceptions, ForLoops, WrongDeclarations, WrongBlocks, WrongHandlers, WrongForLoops, LevelsOfControl}

pub declarations : Declarations
declarations = (refl, refl, refl)

pub blocks : Blocks
blocks = (refl, refl, refl, refl, refl)

pub exceptions : Exceptions
exceptions = (refl, refl, refl, refl)

pub for_loops : ForLoops
for_loops = (refl, refl, refl)

pub wrong_declarations : WrongDeclarations
wrong_declarations = (refl, refl, refl, refl, refl, refl, refl, refl, refl, refl)

pub wrong_blocks : WrongBlocks
wrong_blocks = (refl, refl, refl, refl, refl, refl)

pub wrong_handlers : WrongHandlers
wrong_handlers = (refl, refl, refl, refl, refl, refl, refl, refl, refl, refl, refl, refl, refl, refl, refl)

pub wrong_for_loops : WrongForLoops
wrong_for_loops = (refl, refl, refl, refl, refl, refl, refl, refl, refl)

pub levels_of_control : LevelsOfControl
levels_of_control = (refl, refl, refl, refl, refl, refl, refl, refl)
