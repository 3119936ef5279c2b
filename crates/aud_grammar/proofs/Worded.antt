-- The words of a tree are the tokens that spell it, each written canonically, but for the ends of lines.
use Rattle.std.proofs.Common.{append-nil, ◌≡◌, ℕ, List, [], ◌∷◌, ◌++◌, map, refl, sym, ap, ◌∙◌, append_assoc}
use Rattle.std.specs.Prelude.{true, ◌==◌}
use Rattle.std.proofs.lemmas.Bool.{eqb-true}
use Rattle.aud_lex.specs.declared.token.Kind.TheVariants as kind
use Rattle.aud_lex.specs.Element.{Element}
use Rattle.aud_lex.specs.Kinds.{kind_number}
use Rattle.aud_lex.specs.Why.Spaced.{Word, word}
use Rattle.aud_text.specs.Name.{capitals}
use Rattle.aud_syntax.specs.Plain as m
use Rattle.aud_syntax.specs.Why.Printed as w
use Rattle.aud_grammar.specs.Grammar as g
use Rattle.aud_grammar.specs.Grammar.{Phrase, Symbol, N, A, Rep, rule}
use Rattle.aud_grammar.specs.First as f
use Rattle.aud_grammar.specs.Actions.{Item, made, listed, top, the_unit}
use Rattle.aud_grammar.specs.Why.Spells.{Spells}
use Rattle.aud_grammar.specs.Why.Derives.{Derives, d_end, d_word, d_token, d_spelled, d_rule, d_level, d_down, d_one, d_yes, d_no, d_more, d_stop}
use Rattle.aud_grammar.proofs.Canonical.{written_as, written}
use Rattle.aud_grammar.proofs.Choices.{and_in}
use Rattle.aud_grammar.proofs.Places.{is_code}
use Rattle.aud_grammar.proofs.Sorts.{sort}
use Rattle.aud_grammar.proofs.Told.{Says, says_unit, row_end, row_more, Told, t_end, t_word, t_token, t_spelled, t_part, t_level, t_down, t_one, t_some, t_none, t_row, so, of_sort}
use Rattle.aud_grammar.proofs.SameWords.{texts, Same}
use Rattle.aud_grammar.proofs.ProgramWords.{unit_told, with_clause_told, use_clause_told, library_told, declarations_told, declaration_list_told, named_declaration_told, array_rest_told, index_told, in_index_told, bound_told, negated_told, exception_rest_told, variable_told, constant_told, identifiers_told, more_identifiers_told, initial_told, procedure_told, formals_told, in_formals_told, more_formals_told, formal_told, in_mode_told, in_out_told, out_mode_told, task_told, task_declaration_told, task_type_told, task_body_told, body_told, handlers_told, handler_list_told, handler_told, others_told, named_choices_told, more_choices_told}
use Rattle.aud_grammar.proofs.StatementWords.{statements_told, statement_list_told, statement_told, null_statement_told, name_statement_told, labelled_told, named_statement_told, assignment_told, call_told, if_told, elsif_told, else_part_told, loop_told, while_told, for_told, reverse_told, block_told, declare_told, return_told, raise_told, exit_told, when_told}
use Rattle.aud_grammar.proofs.ExpressionWords.{expression_told, and_logic_told, and_then_told, and_only_told, more_and_then_told, more_and_told, or_logic_told, or_else_told, or_only_told, more_or_else_told, more_or_told, xor_logic_told, more_xor_told, relation_told, compared_told, equal_told, unequal_told, less_told, at_most_told, greater_told, at_least_told, simple_told, positive_told, negative_told, added_told, plus_told, minus_told, join_told, term_told, multiplied_told, times_told, divide_told, modulo_told, remainder_told, factor_told, magnitude_told, not_told, integer_told, string_told, named_told, attribute_told, group_told, parens_told, in_parens_told, name_told, name_part_told, selected_told, args_told, in_args_told, more_args_told, identifier_told, number_told, literal_told}
use Rattle.aud_grammar.proofs.TaskWords.{real_told, delay_statement_told, delay_told, seconds_told, duration_of_told, entry_declaration_told, task_definition_told, accept_statement_told, accept_told, do_told, without_do_told, select_told, call_select_told, or_delay_told, or_else_part_told, accept_select_told, guard_told, accepts_only_told, select_else_told, or_any_told, with_delays_told, or_either_told, with_terminate_told, or_accept_told, delays_first_told, delays_accept_told, terminate_first_told, accept_alternative_told, delay_alternative_told, terminate_alternative_told, abort_told, more_names_told, requeue_told, with_abort_told}
use Rattle.aud_grammar.proofs.ProtectedWords.{protected_told, protected_declaration_told, private_part_told, private_operation_told, components_told, entry_operation_told, procedure_operation_told, function_operation_told, protected_body_told, entry_body_told, procedure_body_told, function_body_told}

-- one of several phrases of a sort
choice_told : {p : Phrase} {ps : List Phrase} {k : List Symbol} {ds : List Item} {ws : List Word} → map sort ps ≡ map (λ q. sort p) ps → Told (A ps ∷ k) ds ws → Told (N p ∷ k) ds ws
choice_told e (t_one m s r) = t_part (of_sort m e s) r

-- the words of a phrase are those of its symbols
told_rule : (p : Phrase) {k : List Symbol} {ds : List Item} {ws : List Word} → Told (rule p ++ k) ds ws → Told (N p ∷ k) (made p ds) ws
told_rule g.Unit t = unit_told t
told_rule g.Clause t = choice_told refl t
told_rule g.WithClause t = with_clause_told t
told_rule g.UseClause t = use_clause_told t
told_rule g.Library t = library_told t
told_rule g.Declarations t = declarations_told t
told_rule g.DeclarationList t = declaration_list_told t
told_rule g.Declaration t = choice_told refl t
told_rule g.NamedDeclaration t = named_declaration_told t
told_rule g.DeclarationRest t = choice_told refl t
told_rule g.ArrayRest t = array_rest_told t
told_rule g.Index t = index_told t
told_rule g.InIndex t = in_index_told t
told_rule g.Bound t = bound_told t
told_rule g.Negated t = negated_told t
told_rule g.ExceptionRest t = exception_rest_told t
told_rule g.Variable t = variable_told t
told_rule g.Constant t = constant_told t
told_rule g.Identifiers t = identifiers_told t
told_rule g.MoreIdentifiers t = more_identifiers_told t
told_rule g.Initial t = initial_told t
told_rule g.Procedure t = procedure_told t
told_rule g.Formals t = formals_told t
told_rule g.InFormals t = in_formals_told t
told_rule g.MoreFormals t = more_formals_told t
told_rule g.Formal t = formal_told t
told_rule g.Mode t = choice_told refl t
told_rule g.InMode t = in_mode_told t
told_rule g.InOut t = in_out_told t
told_rule g.OutMode t = out_mode_told t
told_rule g.Task t = task_told t
told_rule g.TaskRest t = choice_told refl t
told_rule g.TaskDeclaration t = task_declaration_told t
told_rule g.TaskType t = task_type_told t
told_rule g.TaskDefinition t = task_definition_told t
told_rule g.TaskBody t = task_body_told t
told_rule g.Body t = body_told t
told_rule g.Handlers t = handlers_told t
told_rule g.HandlerList t = handler_list_told t
told_rule g.Handler t = handler_told t
told_rule g.Choices t = choice_told refl t
told_rule g.Others t = others_told t
told_rule g.NamedChoices t = named_choices_told t
told_rule g.MoreChoices t = more_choices_told t
told_rule g.Statements t = statements_told t
told_rule g.StatementList t = statement_list_told t
told_rule g.Statement t = statement_told t
told_rule g.NullStatement t = null_statement_told t
told_rule g.NameStatement t = name_statement_told t
told_rule g.NameRest t = choice_told refl t
told_rule g.Labelled t = labelled_told t
told_rule g.Labellable t = choice_told refl t
told_rule g.NamedStatement t = named_statement_told t
told_rule g.StatementRest t = choice_told refl t
told_rule g.Assignment t = assignment_told t
told_rule g.Call t = call_told t
told_rule g.If t = if_told t
told_rule g.Elsif t = elsif_told t
told_rule g.ElsePart t = else_part_told t
told_rule g.Loop t = loop_told t
told_rule g.Iteration t = choice_told refl t
told_rule g.While t = while_told t
told_rule g.For t = for_told t
told_rule g.Reverse t = reverse_told t
told_rule g.Block t = block_told t
told_rule g.Declare t = declare_told t
told_rule g.Return t = return_told t
told_rule g.Raise t = raise_told t
told_rule g.Exit t = exit_told t
told_rule g.When t = when_told t
told_rule g.Expression t = expression_told t
told_rule g.Logic t = choice_told refl t
told_rule g.AndLogic t = and_logic_told t
told_rule g.AndRest t = choice_told refl t
told_rule g.AndThen t = and_then_told t
told_rule g.AndOnly t = and_only_told t
told_rule g.MoreAndThen t = more_and_then_told t
told_rule g.MoreAnd t = more_and_told t
told_rule g.OrLogic t = or_logic_told t
told_rule g.OrRest t = choice_told refl t
told_rule g.OrElse t = or_else_told t
told_rule g.OrOnly t = or_only_told t
told_rule g.MoreOrElse t = more_or_else_told t
told_rule g.MoreOr t = more_or_told t
told_rule g.XorLogic t = xor_logic_told t
told_rule g.MoreXor t = more_xor_told t
told_rule g.Relation t = relation_told t
told_rule g.Compared t = compared_told t
told_rule g.RelationalOperator t = choice_told refl t
told_rule g.Equal t = equal_told t
told_rule g.Unequal t = unequal_told t
told_rule g.Less t = less_told t
told_rule g.AtMost t = at_most_told t
told_rule g.Greater t = greater_told t
told_rule g.AtLeast t = at_least_told t
told_rule g.Simple t = simple_told t
told_rule g.Sign t = choice_told refl t
told_rule g.Positive t = positive_told t
told_rule g.Negative t = negative_told t
told_rule g.Added t = added_told t
told_rule g.AddingOperator t = choice_told refl t
told_rule g.Plus t = plus_told t
told_rule g.Minus t = minus_told t
told_rule g.Join t = join_told t
told_rule g.Term t = term_told t
told_rule g.Multiplied t = multiplied_told t
told_rule g.MultiplyingOperator t = choice_told refl t
told_rule g.Times t = times_told t
told_rule g.Divide t = divide_told t
told_rule g.Modulo t = modulo_told t
told_rule g.Remainder t = remainder_told t
told_rule g.Factor t = factor_told t
told_rule g.Operator t = choice_told refl t
told_rule g.Magnitude t = magnitude_told t
told_rule g.Not t = not_told t
told_rule g.Primary t = choice_told refl t
told_rule g.Integer t = integer_told t
told_rule g.String t = string_told t
told_rule g.Named t = named_told t
told_rule g.Attribute t = attribute_told t
told_rule g.Group t = group_told t
told_rule g.Parens t = parens_told t
told_rule g.InParens t = in_parens_told t
told_rule g.Name t = name_told t
told_rule g.NamePart t = name_part_told t
told_rule g.Selected t = selected_told t
told_rule g.Args t = args_told t
told_rule g.InArgs t = in_args_told t
told_rule g.MoreArgs t = more_args_told t
told_rule g.Identifier t = identifier_told t
told_rule g.Number t = number_told t
told_rule g.Literal t = literal_told t
told_rule g.Real t = real_told t
told_rule g.DelayStatement t = delay_statement_told t
told_rule g.Delay t = delay_told t
told_rule g.DelayTime t = choice_told refl t
told_rule g.Seconds t = seconds_told t
told_rule g.DurationOf t = duration_of_told t
told_rule g.EntryDeclaration t = entry_declaration_told t
told_rule g.AcceptStatement t = accept_statement_told t
told_rule g.Accept t = accept_told t
told_rule g.AcceptRest t = choice_told refl t
told_rule g.Do t = do_told t
told_rule g.WithoutDo t = without_do_told t
told_rule g.Select t = select_told t
told_rule g.SelectRest t = choice_told refl t
told_rule g.CallSelect t = call_select_told t
told_rule g.Otherwise t = choice_told refl t
told_rule g.OrDelay t = or_delay_told t
told_rule g.OrElsePart t = or_else_part_told t
told_rule g.AcceptSelect t = accept_select_told t
told_rule g.Guard t = guard_told t
told_rule g.FirstAlternative t = choice_told refl t
told_rule g.AcceptsOnly t = accepts_only_told t
told_rule g.AfterAccept t = choice_told refl t
told_rule g.SelectElse t = select_else_told t
told_rule g.OrAny t = or_any_told t
told_rule g.AnyAlternative t = choice_told refl t
told_rule g.WithDelays t = with_delays_told t
told_rule g.OrEither t = or_either_told t
told_rule g.Either t = choice_told refl t
told_rule g.WithTerminate t = with_terminate_told t
told_rule g.OrAccept t = or_accept_told t
told_rule g.DelaysFirst t = delays_first_told t
told_rule g.NeedAccept t = choice_told refl t
told_rule g.DelaysAccept t = delays_accept_told t
told_rule g.TerminateFirst t = terminate_first_told t
told_rule g.AcceptAlternative t = accept_alternative_told t
told_rule g.DelayAlternative t = delay_alternative_told t
told_rule g.TerminateAlternative t = terminate_alternative_told t
told_rule g.Protected t = protected_told t
told_rule g.ProtectedRest t = choice_told refl t
told_rule g.ProtectedDeclaration t = protected_declaration_told t
told_rule g.PrivatePart t = private_part_told t
told_rule g.PrivateItem t = choice_told refl t
told_rule g.PrivateOperation t = private_operation_told t
told_rule g.Components t = components_told t
told_rule g.Operation t = choice_told refl t
told_rule g.EntryOperation t = entry_operation_told t
told_rule g.ProcedureOperation t = procedure_operation_told t
told_rule g.FunctionOperation t = function_operation_told t
told_rule g.ProtectedBody t = protected_body_told t
told_rule g.OperationBody t = choice_told refl t
told_rule g.EntryBody t = entry_body_told t
told_rule g.ProcedureBody t = procedure_body_told t
told_rule g.FunctionBody t = function_body_told t
told_rule g.Abort t = abort_told t
told_rule g.MoreNames t = more_names_told t
told_rule g.Requeue t = requeue_told t
told_rule g.WithAbort t = with_abort_told t

-- a phrase, as what stands for it elsewhere
told_as : {p : Phrase} {s k : List Symbol} {ds : List Item} {ws : List Word} → ((x : Item) (es : List Item) (us vs : List Word) → Says (sort p) x us → Told k es vs → Told s (x ∷ es) (us ++ vs)) → Told (N p ∷ k) ds ws → Told s ds ws
told_as f (t_part {x = x} {ds} {us} {ws} h r) = f x ds us ws h r

told_more : {p : Phrase} {k : List Symbol} {ds : List Item} {ws : List Word} → Told (N p ∷ Rep p ∷ k) ds ws → Told (Rep p ∷ k) (listed ds) ws
told_more (t_part {us = us} s (t_row {us = vs} {ws = ws} row r)) = so (t_row (row_more s row) r) (append_assoc us vs ws)

same_is : (xs ys : List ℕ) → f.same_text xs ys ≡ true → xs ≡ ys
same_is [] [] h = refl
same_is [] (y ∷ ys) h = cc
same_is (x ∷ xs) [] h = cc
same_is (x ∷ xs) (y ∷ ys) h = let b = and_in (x == y) (f.same_text xs ys) h in let e : x ≡ y = eqb-true x y b.0 in cc (e, same_is xs ys b.1)

spelled_written : (n : g.Word) (t : Element) → f.is_word n t ≡ true → written t ≡ word (f.spelling n)
spelled_written n t h =
    let b = and_in (f.among (kind.Identifier ∷ []) (kind_number t.kind)) (f.same_text (capitals t.text) (f.spelling n)) h in
    ap (λ c. written_as c t.text) (is_code kind.Identifier (kind_number t.kind) b.0) ∙ ap word (same_is _ _ b.1)

told : {s : List Symbol} {r : ℕ} {ds : List Item} {ts : List Element} → Derives s r ds ts → Told s ds (map written ts)
told d_end = t_end
told (d_word {c} {k} {r} {ds} {t} {ts} h d) = so (t_word t.text (told d)) (ap (λ n. written_as n t.text ∷ map written ts) (sym (is_code c (kind_number t.kind) h)))
told (d_token {c} {k} {r} {ds} {t} {ts} h d) = so (t_token t (told d)) (ap (λ n. written_as n t.text ∷ map written ts) (sym (is_code c (kind_number t.kind) h)))
told (d_spelled {w = n} {k} {r} {ds} {t} {ts} h d) = so (t_spelled t (told d)) (ap (λ z. z ∷ map written ts) (sym (spelled_written n t h)))
told (d_rule {p} d) = told_rule p (told d)
told (d_level d) = told_as (λ x es us vs. t_level) (told d)
told (d_down d) = t_down (told d)
told (d_one h d) = told_as (λ x es us vs. t_one h) (told d)
told (d_yes d) = told_as (λ x es us vs. t_some) (told d)
told (d_no d) = t_none (told d)
told (d_more d) = told_more (told d)
told (d_stop d) = t_row row_end (told d)

unit_says : {ds : List Item} {ws : List Word} → Told (N g.Unit ∷ []) ds ws → Same (w.unit_words (the_unit (top ds))) ws
unit_says (t_part (says_unit u us h) t_end) = sym h ∙ ap texts (sym (append-nil us))

-- the words of a program are its tokens, each written canonically
pub words_of : (ts : List Element) (u : m.Unit) → Spells ts u → Same (w.unit_words u) (map written ts)
words_of ts u s = ap (λ v. texts (w.unit_words v)) (sym s.2) ∙ unit_says (told s.1)
