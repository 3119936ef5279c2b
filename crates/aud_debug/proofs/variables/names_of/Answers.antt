use Rattle.std.proofs.Common.{◌∙◌, ap, sym, map}
use Rattle.aud_typed.specs.Ties.View.{plain_named}
use Rattle.aud_debug.proofs.Frames.{region_found}
use Rattle.aud_debug.proofs.variables.names_of.Goals as goal

pub returns-in-Some : goal.returns-in-Some
returns-in-Some c =
    ap (map plain_named) c.deref.ensures.value
    ∙ sym (region_found c.args.regions.now c.args.region c.in-Some.names.now c.in-Some.ensures.lookup.3.0 c.in-Some.ensures.lookup.1)
