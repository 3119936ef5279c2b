use Rattle.std.proofs.Common.{◌≡◌, drop}
use Rattle.aud_meaning.specs.Effects.{copied_back}
use Rattle.aud_state.proofs.copies.copy_back.Given as goal

abbrev pub invariant-loop-back : goal.invariant-loop-back
invariant-loop-back l = record {
  others : l.progress ≡ record l.fn.progress { frames = l.progress.frames };
  same : copied_back l.values (drop l.back-index l.backs) l.progress.frames ≡ copied_back l.values l.backs l.fn.progress.frames;
}
