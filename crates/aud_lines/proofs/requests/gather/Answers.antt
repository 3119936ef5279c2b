use Rattle.std.proofs.Common.{◌≡◌, ◌+◌, ◌-◌, [], ◌∷◌, ◌++◌, ap, sym, ◌∙◌, append_assoc, append-nil, arith}
use Rattle.std.specs.Option.{option_or}
use Rattle.aud_lines.specs.Lines.{lines_of, trimmed}
use Rattle.aud_lines.specs.Requests.{line_fault, gathered, requests_from}
use Rattle.aud_lines.proofs.RequestLaws.{gathered_more}
use Rattle.aud_lines.proofs.requests.gather.Goals as goal

pub loop-done-init : goal.loop-done-init
loop-done-init c = record {
  rest =
      λ before more.
      let all : c.args.lines - 0 ≡ c.args.lines = omega arith in
      ap (λ k. gathered k (before ++ c.new-source.result.items) c.args.fault (requests_from (lines_of (c.args.bytes.now ++ more)))) all
      ∙ ap (λ s. gathered c.args.lines s c.args.fault (requests_from (lines_of (c.args.bytes.now ++ more)))) (ap (λ s. before ++ s) c.new-source.ensures.items ∙ append-nil before);
  shorter = omega arith;
}

pub loop-done-preserved : goal.loop-done-preserved
loop-done-preserved c =
    let n = c.args.lines - c.loop-done.done in
    let m = c.args.lines - (c.loop-done.done + 1) in
    let line = c.in-Some.line.now in
    let behind = c.in-Some.behind.now in
    let source = c.loop-done.source.items in
    let items : c.push.new.self.items ≡ source ++ (trimmed line ++ 10 ∷ []) =
    c.in_ok-push.ensures.items
    ∙ (ap (λ xs. xs ++ 10 ∷ []) (c.in_ok-extend_from_slice.ensures.items ∙ ap (λ t. source ++ t) c.trimmed.ensures)
    ∙ append_assoc source (trimmed line) (10 ∷ [])) in
    let fault : c.or-fault.result ≡ option_or c.loop-done.fault (line_fault line) = c.or-fault.ensures ∙ ap (λ f. option_or c.loop-done.fault f) c.line_fault.ensures in
    record {
      rest =
          λ before more.
          ap (λ s. gathered m (before ++ s) c.or-fault.result (requests_from (lines_of (behind ++ more)))) items
          ∙ (ap (λ f. gathered m (before ++ (source ++ (trimmed line ++ 10 ∷ []))) f (requests_from (lines_of (behind ++ more)))) fault
          ∙ (sym (gathered_more n m before source c.loop-done.fault (c.loop-done.rest.now ++ more) line (behind ++ more) (omega arith) (c.in-Some.ensures.line more))
          ∙ c.loop-done.invariant.rest before more));
      shorter = omega (arith, c.in-Some.ensures.shorter);
    }
