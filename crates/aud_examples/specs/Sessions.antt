-- What is written to a user who sends some bytes and nothing else.
use Rattle.std.specs.Prelude.{◌≡◌, ℕ, List, codes}
use Rattle.aud_text.specs.declared.limits.TheConstants.{STANDARD}
use Rattle.aud_bench.specs.Alone.{alone}
use Rattle.aud_lines.specs.Requests.{requests}
use Rattle.aud_lines.specs.Text.{text}

unfoldable pub answers_to : List ℕ → List ℕ
answers_to bytes = text (alone STANDARD (requests bytes))

abbrev pub NullProgram : Type 0
NullProgram =
    answers_to (codes "LOAD 1\nprocedure M is begin null; end M;\nRUN 10\n") ≡ codes "+ 1\nloaded M\n+ 1\nran 3 ended\n"

abbrev pub NoProgram : Type 0
NoProgram = answers_to (codes "LOAD 0\nRUN 1\n") ≡ codes "- E21 1:1 syntax\n- E14 no program\n"

abbrev pub Sum : Type 0
Sum =
    answers_to (codes "LOAD 1\nprocedure M is X : Integer := 40; begin X := X + 2; Put_Line (\"x\" & X'Image); end M;\nRUN 100\nOUTPUT\n")
    ≡ codes "+ 1\nloaded M\n+ 1\nran 5 ended\n+ 2\nbytes 5\nx 42\n"

abbrev pub ZeroDivision : Type 0
ZeroDivision =
    answers_to (codes "LOAD 1\nprocedure M is begin Put_Line (Integer'Image (1 / 0)); end M;\nRUN 9\nOUTPUT\n")
    ≡ codes "+ 1\nloaded M\n+ 2\nran 3 ended\nmain raised CONSTRAINT_ERROR\n+ 1\nbytes 0\n"

abbrev pub Signs : Type 0
Signs =
    answers_to (codes "LOAD 1\nprocedure M is W, X, Y, Z : Integer := 7; begin W := (-W) mod 3; X := -X mod 3; Y := -Y / 2; Z := (-Z) rem 2; Put_Line (W'Image & X'Image & Y'Image & Z'Image); end M;\nRUN 100\nOUTPUT\n")
    ≡ codes "+ 1\nloaded M\n+ 1\nran 11 ended\n+ 2\nbytes 9\n 2-1-3-1\n"

abbrev pub Mixture : Type 0
Mixture =
    answers_to (codes "LOAD 1\nprocedure M is begin X := A and B or C; end M;\nLOAD 1\nprocedure M is begin X := 1; end M;\n")
    ≡ codes "- E21 1:35 syntax\n- E30 1:22 name not declared\n"

abbrev pub FailedActivation : Type 0
FailedActivation =
    answers_to (codes "LOAD 1\nprocedure M is task A; task B; task body A is Z : Integer := 0; X : Integer := 1 / Z; begin null; end A; task body B is begin Put_Line (\"b\"); end B; begin Put_Line (\"no\"); exception when Tasking_Error => Put_Line (\"te\"); end M;\nRUN 100\nOUTPUT\n")
    ≡ codes "+ 1\nloaded M\n+ 1\nran 15 ended\n+ 3\nbytes 5\nte\nb\n"
