-- The words of the contracts of operators on numbers in words. Assumes nothing.
use Rattle.std.specs.Prelude.{◌≡◌, List, ℕ, ◌+◌, ◌*◌, ◌%◌, ◌^◌, ℤ, take, get_or, Result}
use Rattle.ink_number.specs.Int.{signed}
use Rattle.ink_number.specs.Question.{answer}
use Rattle.ink_number.specs.declared.question.Question.{Question}
use Rattle.binary32.specs.Real.{of_bits32}
use Rattle.slices.specs.Slices.{Slice, MutSlice}
use Rattle.list_definitions.specs.Defs.{ListDefinitions}
use Rattle.native_function_call.specs.Apply.{compute}
use Rattle.value_words.specs.Slices.{SaysIn}
use Rattle.ink_value.specs.Value.{placed}
use Rattle.ink_value.specs.declared.Kind.{Kind}
use Rattle.ink_value.specs.declared.Value.{Value}
use Rattle.ink_value.specs.declared.number_parts.NumberParts.{NumberParts}
use Rattle.word_kinds.specs.Operands.{kind_word, vals_at}

-- operand k as a number in parts: its kind is that of its first word, and its second is read as an Int and as a Float
abbrev pub number_at : List ℕ → ℕ → NumberParts
number_at ws k =
    record {
      kind = kind_word ws k;
      whole = signed (get_or ws (3 * k + 1) 0 % 2 ^ 32);
      real = of_bits32 (get_or ws (3 * k + 1) 0 % 2 ^ 32);
    }

-- an operator's result of a kind on n numbers, one or two: no slice and no definitions are looked at
abbrev pub NumberGives : ℕ → ℕ → Kind → Slice ℕ → Result Value Question → Type 0
NumberGives op n kind ws r =
    (u : ListDefinitions) (is : List ℕ) (vs : List ℤ) → answer r ≡ placed (compute u op (take n (vals_at is vs ws.entry.now)) kind)

-- the same as it is returned and written
abbrev pub NumberSays : ℕ → ℕ → Kind → Slice ℕ → ℕ → MutSlice ℕ → Type 0
NumberSays op n kind ws r out =
    (u : ListDefinitions) (is : List ℕ) (vs : List ℤ) → SaysIn (compute u op (take n (vals_at is vs ws.entry.now)) kind) r out
