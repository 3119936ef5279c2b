-- What the end of a procedure or function gives back.
use Rattle.std.specs.Prelude.{ℤ, List, Option, Some, None}
use Rattle.aud_text.specs.declared.raise.Raise.{Raise}
use Rattle.aud_meaning.specs.Configuration.{Back, Frame, Target}
use Rattle.aud_meaning.specs.Effects.{CopiedBack, copied_back, with_result}
use Rattle.aud_store.specs.declared.purpose.Returns.{Returns}

-- a function's value is assigned, with no exception before
abbrev pub valued : Option Target → Option ℤ → List Frame → CopiedBack
valued into value frames = with_result into value (record { frames = frames; raised = None })

-- behind formals that were copied back, unless a check has failed
abbrev pub valued_behind : Option Target → Option ℤ → Option Raise → CopiedBack → CopiedBack
valued_behind into value None b = with_result into value b
valued_behind into value (Some raise) b = b

abbrev pub given_all : List ℤ → List Back → Returns → List Frame → CopiedBack
given_all values backs r frames = let b = copied_back values backs frames in valued_behind r.into r.value b.raised b
