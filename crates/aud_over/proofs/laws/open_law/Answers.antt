use Rattle.aud_over.proofs.Staying.{opening_stands, step_stands, always_stands, more_pins}
use Rattle.aud_over.proofs.Naming.{named_is_open, open_left, innermost_alone}
use Rattle.aud_over.proofs.laws.open_law.Goals as goal

pub returns-clause-statements_begin : goal.returns-clause-statements_begin
returns-clause-statements_begin c = λ plan name left. opening_stands plan name left

pub returns-clause-code_begin : goal.returns-clause-code_begin
returns-clause-code_begin c = λ plan name left. opening_stands plan name left

pub returns-clause-statements : goal.returns-clause-statements
returns-clause-statements c = λ pins plan k limits x m fits stands. step_stands pins plan k limits x m fits stands

pub returns-clause-code : goal.returns-clause-code
returns-clause-code c = λ pins plan k limits x m fits stands. step_stands pins plan k limits x m fits stands

pub returns-clause-statements_pins : goal.returns-clause-statements_pins
returns-clause-statements_pins c = λ pins more x stands. more_pins pins more x stands

pub returns-clause-code_pins : goal.returns-clause-code_pins
returns-clause-code_pins c = λ pins more x stands. more_pins pins more x stands

pub returns-clause-statements_named : goal.returns-clause-statements_named
returns-clause-statements_named c = λ pins x f stands named. named_is_open pins x f stands named

pub returns-clause-code_named : goal.returns-clause-code_named
returns-clause-code_named c = λ pins x f stands named. named_is_open pins x f stands named

pub returns-clause-statements_left : goal.returns-clause-statements_left
returns-clause-statements_left c = λ x stands. open_left x stands

pub returns-clause-code_left : goal.returns-clause-code_left
returns-clause-code_left c = λ x stands. open_left x stands

pub returns-clause-statements_innermost : goal.returns-clause-statements_innermost
returns-clause-statements_innermost c = λ pins x n o os stands is. innermost_alone pins x n o os stands is

pub returns-clause-code_innermost : goal.returns-clause-code_innermost
returns-clause-code_innermost c = λ pins x n o os stands is. innermost_alone pins x n o os stands is

pub returns-clause-statements_always : goal.returns-clause-statements_always
returns-clause-statements_always c = λ pins plan k limits x m stands. always_stands plan k limits pins x m stands

pub returns-clause-code_always : goal.returns-clause-code_always
returns-clause-code_always c = λ pins plan k limits x m stands. always_stands plan k limits pins x m stands
