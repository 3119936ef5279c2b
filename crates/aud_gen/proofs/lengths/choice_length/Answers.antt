use Rattle.std.proofs.Common.{◌∷◌, arith, length-append}
use Rattle.aud_typed.specs.Ties.View.{alternatives_in}
use Rattle.aud_code.specs.Instruction.{Mark}
use Rattle.aud_layout.specs.Instructions.{delays_code, guards_code}
use Rattle.aud_gen.proofs.lengths.choice_length.Goals as goal

pub returns : goal.returns
returns c =
    let offered = alternatives_in c.args.alternatives.now in
    omega (arith, c.guards_length.ensures, c.delays_length.ensures, length-append (guards_code 1 offered) (Mark ∷ delays_code 1 offered))
