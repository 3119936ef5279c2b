use Rattle.std.proofs.Common.{Ok, sym, ap, ◌∙◌, subst}
use Rattle.aud_typed.specs.Ties.View.{plain_program}
use Rattle.aud_bench.specs.declared.request.Answer.TheVariants as answer
use Rattle.aud_bench.specs.Alone.{load_reply}
use Rattle.aud_bench.specs.Ties.Serving.{Replies}
use Rattle.aud_bench.proofs.service.begin.Goals as goal

pub returns : goal.returns
returns c =
    λ loaded before.
    subst (λ machine. Replies c.args.limits (answer.Loaded c.in_ok-name.name) machine (load_reply (Ok (plain_program c.args.program)) loaded)) (sym c.replace.ensures)
    (record {
      answer_is = ap answer.Loaded (c.in_ok-name.ensures ∙ ap (λ p. p.name) c.program.ensures.value);
      loaded = record {
        limits_are = c.in_ok-new.ensures.limits;
        program_is = ap plain_program c.in_ok-new.ensures.program;
        shows = c.in_ok-new.ensures.shows;
      };
    })
