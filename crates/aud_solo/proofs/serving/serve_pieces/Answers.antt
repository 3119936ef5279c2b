use Rattle.std.proofs.Common.{rules, inr, ◌∙◌, arith}
use Rattle.aud_solo.proofs.ServingLaws.{served_start, stops_here, wrote_all, ended_known, goes_of}
use Rattle.aud_solo.proofs.serving.serve_pieces.Goals as goal

pub loop-init : goal.loop-init
loop-init g c = let words = g.A.Attendant.words in record {
  served = λ before told. served_start words (g.S.Source.remaining c.args.reader.now) before (g.T.Sink.contents c.args.writer.now) (g.S.Source.pieces c.args.reader.now) c.args.feed.now c.args.attendant.now c.requires.feed told;
  going = c.requires.going;
  calls = omega arith;
  read = search rules;
  written = search rules;
}

pub returns-clause-serves : goal.returns-clause-serves
returns-clause-serves g c =
    let words = g.A.Attendant.words in
    let left = g.S.Source.remaining c.args.reader.now in
    let middle = g.S.Source.remaining c.loop.reader in
    let now = g.T.Sink.contents c.loop.writer in
    let old = g.S.Source.pieces c.args.reader.now in
    let new = g.S.Source.pieces c.loop.reader in
    λ before told.
    let h = c.loop.invariant.served before told in
    record {
      all = tt;
      ended = tt;
      read = λ e. (h.input, h.taken, wrote_all words left middle before now old new c.loop.feed c.loop.attendant h);
      memory = search rules;
      write = search rules;
    }

pub returns-clause-stops : goal.returns-clause-stops
returns-clause-stops g c =
    λ before told.
    stops_here g.A.Attendant.words (g.S.Source.remaining c.args.reader.now) (g.S.Source.remaining c.loop.reader) before (g.T.Sink.contents c.loop.writer) (g.S.Source.pieces c.args.reader.now) (g.S.Source.pieces c.loop.reader) c.loop.feed c.loop.attendant (c.loop.invariant.served before told) c.loop.invariant.going

pub returns-clause-reads : goal.returns-clause-reads
returns-clause-reads g c = (omega arith, omega arith)

pub returns-clause-read : goal.returns-clause-read
returns-clause-read g c = inr (c.loop.invariant.read, omega arith)

-- ---- a turn more

pub loop-preserved : goal.loop-preserved
loop-preserved g c =
    let words = g.A.Attendant.words in
    let left = g.S.Source.remaining c.args.reader.now in
    let old = g.S.Source.pieces c.args.reader.now in
    record {
      served = λ before told. (c.in_ok-turn.ensures.serves left before old (c.loop.invariant.served before told)).served;
      going = goes_of words c.in_ok-turn.field-0 c.turn.new.attendant (g.S.Source.remaining c.turn.new.reader) c.in_ok-turn.ensures.goes_on c.if-not-branch.false;
      calls = omega arith;
      read = c.in_ok-turn.ensures.read ∙ c.loop.invariant.read;
      written = c.in_ok-turn.ensures.write ∙ c.loop.invariant.written;
    }

pub returns-in_err-turn-clause-serves : goal.returns-in_err-turn-clause-serves
returns-in_err-turn-clause-serves g c =
    let words = g.A.Attendant.words in
    let left = g.S.Source.remaining c.args.reader.now in
    let rest = g.S.Source.remaining c.turn.new.reader in
    let now = g.T.Sink.contents c.turn.new.writer in
    let old = g.S.Source.pieces c.args.reader.now in
    let new = g.S.Source.pieces c.turn.new.reader in
    λ before told.
    let t = c.turn.ensures.serves left before old (c.loop.invariant.served before told) in
    record {
      all = search rules;
      ended = search rules;
      read = λ e. let h = t.read (search rules) in (h.input, h.taken, wrote_all words left rest before now old new c.turn.new.feed c.turn.new.attendant h);
      memory = λ e. t.memory (search rules);
      write = λ e. t.write (search rules);
    }

pub returns-then-not-branch-clause-serves : goal.returns-then-not-branch-clause-serves
returns-then-not-branch-clause-serves g c =
    let words = g.A.Attendant.words in
    let left = g.S.Source.remaining c.args.reader.now in
    let rest = g.S.Source.remaining c.turn.new.reader in
    let now = g.T.Sink.contents c.turn.new.writer in
    let old = g.S.Source.pieces c.args.reader.now in
    let new = g.S.Source.pieces c.turn.new.reader in
    λ before told.
    let h = (c.in_ok-turn.ensures.serves left before old (c.loop.invariant.served before told)).served in
    record {
      all = ended_known words left rest before now old new c.turn.new.feed c.turn.new.attendant h c.in_ok-turn.field-0 c.in_ok-turn.ensures.goes_on c.if-not-branch.true;
      ended = (h.input, h.taken, wrote_all words left rest before now old new c.turn.new.feed c.turn.new.attendant h);
      read = search rules;
      memory = search rules;
      write = search rules;
    }

pub returns-in_err-turn-clause-stops : goal.returns-in_err-turn-clause-stops
returns-in_err-turn-clause-stops g c =
    λ before told.
    (c.turn.ensures.serves (g.S.Source.remaining c.args.reader.now) before (g.S.Source.pieces c.args.reader.now) (c.loop.invariant.served before told)).stops

pub returns-then-not-branch-clause-stops : goal.returns-then-not-branch-clause-stops
returns-then-not-branch-clause-stops g c =
    λ before told.
    (c.turn.ensures.serves (g.S.Source.remaining c.args.reader.now) before (g.S.Source.pieces c.args.reader.now) (c.loop.invariant.served before told)).stops

pub returns-in_err-turn-clause-reads : goal.returns-in_err-turn-clause-reads
returns-in_err-turn-clause-reads g c = (omega arith, omega arith)

pub returns-then-not-branch-clause-reads : goal.returns-then-not-branch-clause-reads
returns-then-not-branch-clause-reads g c = (omega arith, omega arith)
