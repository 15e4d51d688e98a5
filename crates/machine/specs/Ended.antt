-- The answer of a run or of vetting: a result, or where it stops. Assumes nothing.
use Rattle.std.specs.Prelude.{Result, Ok, Err}
use Rattle.ink_number.specs.Question.{number}
use Rattle.machine.specs.Machine.{End, ended, stopped}
use Rattle.machine.specs.declared.Stop.{Stop}

-- the end that it stands for
abbrev pub end_of : {X : Type 0} → Result X Stop → End X
end_of (Ok x) = ended x
end_of (Err s) = stopped (number s.question) s.index
