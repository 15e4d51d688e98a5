-- The questions by name, and what a call that answers a result or a question says. Assumes nothing.
use Rattle.std.specs.Prelude.{ℕ, Result, Ok, Err}
use Rattle.ink_number.specs.declared.question.Question.{Question}
use Rattle.ink_number.specs.declared.question.Question.TheVariants.{Length, Contents, Definitions, Literals, Sheets, Sheet, Memory, Operator, Stack, Operands, Void, Mixed, Kind, Divisor, Left, Conversion}
use Rattle.ink_number.specs.Answer.{Answer, gives, refuses}

-- a question's number
abbrev pub number : Question → ℕ
number Length = 1
number Contents = 2
number Definitions = 3
number Literals = 4
number Sheets = 5
number Sheet = 6
number Memory = 7
number Operator = 8
number Stack = 9
number Operands = 10
number Void = 11
number Mixed = 12
number Kind = 13
number Divisor = 15
number Left = 17
number Conversion = 18

-- a result, or a question that was answered no
abbrev pub answer : {X : Type 0} → Result X Question → Answer X
answer (Ok x) = gives x
answer (Err q) = refuses (number q)
