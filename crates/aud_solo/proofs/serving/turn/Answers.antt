use Rattle.std.proofs.Common.{rules, ◌≡◌, ℕ, List, ◌++◌, [], ◌∷◌, take, ap, sym, subst, arith}
use Rattle.std.proofs.lemmas.List.{length-take}
use Rattle.std.specs.Io.KnownBytes.{Consumes}
use Rattle.aud_lines.specs.Ties.Splits.{Splits}
use Rattle.aud_solo.proofs.StreamLaws.{grows_none, consumes_more, keeps_consumes}
use Rattle.aud_solo.proofs.ServingLaws.{stops_behind, served_still, some_given, front_given, served_more, some_read, due}
use Rattle.aud_solo.proofs.serving.turn.Goals as goal

pub returns-in_default-clause-serves : goal.returns-in_default-clause-serves
returns-in_default-clause-serves g c =
    let words = g.A.Attendant.words in
    let middle = g.S.Source.remaining c.args.reader.now in
    let rest = g.S.Source.remaining c.pull.new.self in
    let now = g.T.Sink.contents c.args.writer.now in
    let was = g.S.Source.pieces c.args.reader.now in
    let pieces = g.S.Source.pieces c.pull.new.self in
    let feed = c.args.feed.now in
    let state = c.args.attendant.now in
    let none = keeps_consumes middle rest c.in_default.ensures.bytes in
    λ left before old h. record {
      served = tt;
      read = λ e. served_still words left middle before now old was feed state h rest pieces none c.in_default.ensures.pieces;
      memory = search rules;
      write = search rules;
      stops = stops_behind words left middle before now old was feed state h c.requires rest now pieces [] none c.in_default.ensures.pieces (grows_none now) (omega arith);
    }

pub returns-then-count-eq0-clause-serves : goal.returns-then-count-eq0-clause-serves
returns-then-count-eq0-clause-serves g c =
    let words = g.A.Attendant.words in
    let middle = g.S.Source.remaining c.args.reader.now in
    let rest = g.S.Source.remaining c.pull.new.self in
    let now = g.T.Sink.contents c.args.writer.now in
    let was = g.S.Source.pieces c.args.reader.now in
    let pieces = g.S.Source.pieces c.pull.new.self in
    let feed = c.args.feed.now in
    let state = c.args.attendant.now in
    let none : Consumes middle rest [] = subst (Consumes middle rest) (ap (λ n. take n c.pull.new.piece) c.if-count-eq0.true) c.in-Ok.ensures.bytes.0 in
    let read : pieces ≡ was ++ [] ∷ [] = subst (λ (t : List ℕ). pieces ≡ was ++ t ∷ []) (ap (λ n. take n c.pull.new.piece) c.if-count-eq0.true) c.in-Ok.ensures.pieces in
    λ left before old h. record {
      served = served_still words left middle before now old was feed state h rest pieces none read;
      read = search rules;
      memory = search rules;
      write = search rules;
      stops = stops_behind words left middle before now old was feed state h c.requires rest now pieces [] none read (grows_none now) (omega arith);
    }

pub returns-in_err-requests-clause-serves : goal.returns-in_err-requests-clause-serves
returns-in_err-requests-clause-serves g c =
    let words = g.A.Attendant.words in
    let middle = g.S.Source.remaining c.args.reader.now in
    let rest = g.S.Source.remaining c.pull.new.self in
    let now = g.T.Sink.contents c.args.writer.now in
    let was = g.S.Source.pieces c.args.reader.now in
    let pieces = g.S.Source.pieces c.pull.new.self in
    let feed = c.args.feed.now in
    let state = c.args.attendant.now in
    let piece = take c.in-Ok.count c.pull.new.piece in
    λ left before old h. record {
      served = search rules;
      read = search rules;
      memory =
          λ e. (h.input ++ piece, consumes_more left middle rest h.input piece h.taken c.in-Ok.ensures.bytes.0, some_read words left middle before now old was feed state h piece);
      write = search rules;
      stops = stops_behind words left middle before now old was feed state h c.requires rest now pieces piece c.in-Ok.ensures.bytes.0 c.in-Ok.ensures.pieces (grows_none now) (omega (arith, length-take c.in-Ok.count c.pull.new.piece));
    }

pub returns-in_err-attend_each-clause-serves : goal.returns-in_err-attend_each-clause-serves
returns-in_err-attend_each-clause-serves g c =
    let words = g.A.Attendant.words in
    let middle = g.S.Source.remaining c.args.reader.now in
    let rest = g.S.Source.remaining c.pull.new.self in
    let now = g.T.Sink.contents c.args.writer.now in
    let was = g.S.Source.pieces c.args.reader.now in
    let pieces = g.S.Source.pieces c.pull.new.self in
    let new = g.T.Sink.contents c.attend_each.new.writer in
    let feed = c.args.feed.now in
    let next = c.feed.new.self in
    let state = c.args.attendant.now in
    let piece = take c.in-Ok.count c.pull.new.piece in
    let given = c.deref.result.now in
    let split = subst (λ rs. Splits feed piece rs next) (sym c.deref.ensures.value) c.in_ok-requests.ensures.given in
    λ left before old h.
    let taken = consumes_more left middle rest h.input piece h.taken c.in-Ok.ensures.bytes.0 in
    let tells = c.attend_each.ensures.tells before h.asked h.told in
    record {
      served = search rules;
      read = search rules;
      memory = λ e. (h.input ++ piece, taken, some_given words left middle before now old was feed state h piece next given split new (tells.memory (search rules)));
      write = λ e. (h.input ++ piece, taken, front_given words left middle before now old was feed state h piece next given split new (tells.write (search rules)));
      stops = stops_behind words left middle before now old was feed state h c.requires rest new pieces piece c.in-Ok.ensures.bytes.0 c.in-Ok.ensures.pieces c.attend_each.ensures.grows (omega (arith, length-take c.in-Ok.count c.pull.new.piece));
    }

pub returns-clause-serves : goal.returns-clause-serves
returns-clause-serves g c =
    let words = g.A.Attendant.words in
    let middle = g.S.Source.remaining c.args.reader.now in
    let rest = g.S.Source.remaining c.pull.new.self in
    let now = g.T.Sink.contents c.args.writer.now in
    let was = g.S.Source.pieces c.args.reader.now in
    let pieces = g.S.Source.pieces c.pull.new.self in
    let new = g.T.Sink.contents c.attend_each.new.writer in
    let feed = c.args.feed.now in
    let next = c.feed.new.self in
    let state = c.args.attendant.now in
    let piece = take c.in-Ok.count c.pull.new.piece in
    let given = c.deref.result.now in
    let split = subst (λ rs. Splits feed piece rs next) (sym c.deref.ensures.value) c.in_ok-requests.ensures.given in
    λ left before old h.
    let told = (c.in_ok-attend_each.ensures.tells before h.asked h.told).all in
    record {
      served = served_more words left middle before now old was feed state h piece next given split rest new pieces c.attend_each.new.attendant c.in-Ok.ensures.bytes.0 c.in-Ok.ensures.pieces told;
      read = search rules;
      memory = search rules;
      write = search rules;
      stops = stops_behind words left middle before now old was feed state h c.requires rest new pieces piece c.in-Ok.ensures.bytes.0 c.in-Ok.ensures.pieces c.attend_each.ensures.grows (omega (arith, length-take c.in-Ok.count c.pull.new.piece));
    }

pub returns-clause-goes_on : goal.returns-clause-goes_on
returns-clause-goes_on g c = due g.A.Attendant.words c.is_over.result c.attend_each.new.attendant (g.S.Source.remaining c.pull.new.self) c.is_over.ensures.value c.is_over.ensures.none
