use Rattle.std.proofs.Common.{◌++◌, ap, ◌∙◌, codes}
use Rattle.aud_typed.specs.Ties.View.{plain_program}
use Rattle.aud_meaning.specs.Listings.Waits.{owner_words}
use Rattle.aud_meaning.specs.Parts.{entry_plan}
use Rattle.aud_debug.proofs.Waiting.{two_words}
use Rattle.aud_debug.proofs.waits.push_entry.Goals as goal

pub returns : goal.returns
returns c =
    let plan = (plain_program c.args.compiled.program.now).plan in
    let name = (entry_plan plan c.args.entry).name in
    let named = c.in_ok-extend_from_slice-2.ensures.items ∙ ap (λ w. c.extend_from_slice.new.self.items ++ w) c.entry_name.ensures in
    two_words _ _ _ (owner_words plan c.args.owner c.args.state.now) (codes "." ++ name) c.in_ok-push_owner.ensures (two_words _ _ _ (codes ".") name c.in_ok-extend_from_slice.ensures.items named)
