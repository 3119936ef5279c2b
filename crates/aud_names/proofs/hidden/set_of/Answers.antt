use Rattle.std.proofs.Common.{◌+◌, ◌||◌, drop, ap, subst, arith}
use Rattle.std.proofs.lemmas.List.{drop_all}
use Rattle.aud_syntax.proofs.Written.{dropped}
use Rattle.aud_names.specs.Names.{is_hidden}
use Rattle.aud_names.specs.Ties.Hidden.{is_among}
use Rattle.aud_names.proofs.Hiding.{IsSetAhead, one_ahead, none_ahead}
use Rattle.aud_names.proofs.hidden.set_of.Goals as goal

pub loop-ident-init : goal.loop-ident-init
loop-ident-init c = λ name. ap (λ names. is_among name.now names || is_hidden name.now c.args.identifiers.now) c.in_ok-names.ensures.empty

pub loop-ident-preserved : goal.loop-ident-preserved
loop-ident-preserved c =
    let all = c.args.identifiers.now in
    let rest = drop (c.loop-ident.ident-index + 1) all in
    let next = dropped all c.loop-ident.ident-index c.ident-item.result (omega arith) c.ident-item.is in
    one_ahead c.loop-ident.names.keys c.insert.new.self.keys c.ident-item.result rest all c.in_ok-insert.ensures.updates.0
    (subst (λ ahead. IsSetAhead c.loop-ident.names.keys ahead all) next c.loop-ident.invariant)

pub returns : goal.returns
returns c =
    let all = c.args.identifiers.now in
    none_ahead c.loop-ident.names.keys all
    (subst (λ ahead. IsSetAhead c.loop-ident.names.keys ahead all) (drop_all c.loop-ident.ident-index all (omega arith)) c.loop-ident.invariant)
