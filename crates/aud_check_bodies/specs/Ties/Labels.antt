-- The labels around a statement in memory.
use Rattle.std.specs.Prelude.{List, map}
use Rattle.aud_check_bodies.specs.declared.labels.Label as memory
use Rattle.aud_check_bodies.specs.Labels.{Label, Labels}

abbrev pub plain_label : memory.Label → Label
plain_label l = record { is_loop = l.is_loop; name = l.name.now }

abbrev pub plain_labels : List memory.Label → Labels
plain_labels labels = map plain_label labels
