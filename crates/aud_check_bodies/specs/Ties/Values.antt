-- The plain data of functions in memory that are called.
use Rattle.std.specs.Prelude.{Option, option_map}
use Rattle.aud_syntax.specs.Ties.View.{plain_name}
use Rattle.aud_check_bodies.specs.declared.value.FunctionCalled as memory
use Rattle.aud_check_bodies.specs.Values.{FunctionCalled}

abbrev pub plain_function : memory.FunctionCalled → FunctionCalled
plain_function f = record { name = plain_name f.name.now; operation = f.operation; at = f.at }

abbrev pub plain_maybe_function : Option memory.FunctionCalled → Option FunctionCalled
plain_maybe_function f = option_map plain_function f
