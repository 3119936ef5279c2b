use Rattle.std.proofs.Common.{rules, ap, subst, map, string_bytes, ◌≡◌, ◌∙◌}
use Rattle.std.proofs.lemmas.List.{length-map}
use Rattle.clap.specs.Words.{HasMatchesOf, app_of, kind_of, takes}
use Rattle.clap.specs.Simple.{app_of_fields}
use Rattle.aud_server.proofs.ArgumentLaws.{app, app_of_command, flag_told, memory_told, takes_asked}
use Rattle.aud_server.proofs.program.is_solo.Goals as goal

pub returns-in_err-matches-clause-memory : goal.returns-in_err-matches-clause-memory
returns-in_err-matches-clause-memory c asks =
    let app_is : app_of c.in_ok-command.command ≡ app =
    app_of_command c.new-2.result c.disable_help_flag.result c.disable_version_flag.result c.in_ok-command.command c.action-solo.result
    c.new-2.ensures.app (ap app_of_fields c.disable_help_flag.ensures) (ap app_of_fields c.disable_version_flag.ensures)
    (search rules) (search rules) c.in_ok-command.ensures in
    let words = map string_bytes c.args.words.now in
    let memory = c.in_err-matches.ensures.passes (ap (λ a. takes a words) app_is ∙ takes_asked words asks) in
    memory_told c.from_residual-in_err-matches.result (kind_of c.in_err-matches.field-0.0) c.from_residual-in_err-matches.ensures.1 memory

pub returns-clause-asked : goal.returns-clause-asked
returns-clause-asked c two =
    let app_is : app_of c.in_ok-command.command ≡ app =
    app_of_command c.new-2.result c.disable_help_flag.result c.disable_version_flag.result c.in_ok-command.command c.action-solo.result
    c.new-2.ensures.app (ap app_of_fields c.disable_help_flag.ensures) (ap app_of_fields c.disable_version_flag.ensures)
    (search rules) (search rules) c.in_ok-command.ensures in
    let words = map string_bytes c.args.words.now in
    let has = subst (λ a. HasMatchesOf a words c.in_ok-matches.matches) app_is c.in_ok-matches.ensures.matches in
    flag_told words c.in_ok-matches.matches c.get_flag.result (length-map c.args.words.now string_bytes ∙ two) has
    c.get_flag.ensures.value c.get_flag.ensures.other
