-- Document 01's known points that have a star, as rows of one table: an operator, its operands, and what it answers; and those of
-- document 02's request 1. Assumes nothing.
use Rattle.std.specs.Prelude.{Bool, true, false, ◌&&◌, List, [], ◌∷◌, ℕ, eqb, ℤ, pos, negsuc}
use Rattle.std.specs.Bool.{beq}
use Rattle.ink_number.specs.Answer.{Answer, gives, refuses}
use Rattle.ink_number.specs.Int.{eq_z, lowest}
use Rattle.binary32.specs.Real.{of_bits32, to_bits32}
use Rattle.ink_value.specs.Val.{Val, bool, int, float, list, void}
use Rattle.op.specs.Op.{op_add, op_divide, op_mod, op_less, op_not, op_floor, op_ceiling, op_hasnt, op_float}
use Rattle.list_definitions.specs.Defs.{ListDefinitions}
use Rattle.native_function_call.specs.Apply.{apply_op}

-- the answer is this Bool, this Int, the Float with this bit pattern, or the refusal with this number
abbrev pub is_bool : Bool → Answer Val → Bool
is_bool b (gives (bool c)) = beq b c
is_bool b (gives (int z)) = false
is_bool b (gives (float x)) = false
is_bool b (gives (list o es)) = false
is_bool b (gives void) = false
is_bool b (refuses n) = false

abbrev pub is_int : ℤ → Answer Val → Bool
is_int z (gives (bool c)) = false
is_int z (gives (int y)) = eq_z z y
is_int z (gives (float x)) = false
is_int z (gives (list o es)) = false
is_int z (gives void) = false
is_int z (refuses n) = false

abbrev pub is_float : ℕ → Answer Val → Bool
is_float p (gives (bool c)) = false
is_float p (gives (int y)) = false
is_float p (gives (float x)) = eqb (to_bits32 x) p
is_float p (gives (list o es)) = false
is_float p (gives void) = false
is_float p (refuses n) = false

abbrev pub refused : ℕ → Answer Val → Bool
refused k (gives v) = false
refused k (refuses n) = eqb n k

-- one definition of one item, 1
abbrev pub one : ListDefinitions
one = record { ends = 1 ∷ []; defined = pos 1 ∷ []; limit = 256 }

abbrev pub empty : Val
empty = list 1 []

unfoldable pub points : List Bool
points =
    is_int (pos 2) (apply_op one op_add (bool true ∷ bool true ∷ []))  -- true + true: Int 2
    ∷ is_int (pos 1) (apply_op one op_not (empty ∷ []))  -- Not of an empty List: Int 1
    ∷ is_bool true (apply_op one op_not (int (pos 0) ∷ []))  -- Not of Int 0: Bool true
    ∷ is_bool false (apply_op one op_less (empty ∷ empty ∷ []))  -- empty < empty: no
    ∷ is_bool true (apply_op one op_less (empty ∷ list 1 ((0, pos 1) ∷ []) ∷ []))  -- empty < {item 0 = 1}: yes
    ∷ is_bool true (apply_op one op_hasnt (empty ∷ empty ∷ []))  -- Hasnt of two empties: yes
    ∷ is_int (negsuc 2) (apply_op one op_divide (int (negsuc 6) ∷ int (pos 2) ∷ []))  -- −7 / 2: −3
    ∷ is_int (negsuc 0) (apply_op one op_mod (int (negsuc 6) ∷ int (pos 2) ∷ []))  -- −7 % 2: −1
    ∷ refused 15 (apply_op one op_divide (int lowest ∷ int (negsuc 0) ∷ []))  -- −2,147,483,648 / −1: 15
    ∷ is_float 0x4b80_0000 (apply_op one op_float (int (pos 16777216) ∷ []))  -- 16,777,216 to Float is exact
    ∷ is_float 0x4b80_0000 (apply_op one op_float (int (pos 16777217) ∷ []))  -- 16,777,217 gives 16,777,216
    ∷ is_float 0x4b80_0002 (apply_op one op_float (int (pos 16777219) ∷ []))  -- 16,777,219 gives 16,777,220
    ∷ []

-- Floor and Ceiling of the Float with a bit pattern
abbrev pub floor_of : ℕ → Answer Val
floor_of p = apply_op one op_floor (float (of_bits32 p) ∷ [])

abbrev pub ceiling_of : ℕ → Answer Val
ceiling_of p = apply_op one op_ceiling (float (of_bits32 p) ∷ [])

unfoldable pub rounding_points : List Bool
rounding_points =
    is_float 0x8000_0000 (ceiling_of 0xbf00_0000)  -- Ceiling of −0.5: −0.0
    ∷ is_float 0xbf80_0000 (floor_of 0xbf00_0000)  -- Floor of −0.5: −1.0
    ∷ is_float 0x0000_0000 (floor_of 0x3f00_0000)  -- Floor of 0.5: +0.0
    ∷ is_float 0x3f80_0000 (ceiling_of 0x0000_0001)  -- Ceiling of 2^−149: 1.0
    ∷ is_float 0x8000_0000 (floor_of 0x8000_0000)  -- Floor of −0.0: −0.0
    ∷ is_float 0x4b00_0000 (ceiling_of 0x4aff_ffff)  -- Ceiling of 8,388,607.5: 8,388,608.0
    ∷ is_float 0x7f7f_ffff (floor_of 0x7f7f_ffff)  -- Floor of the greatest Float: itself
    ∷ is_float 0xff80_0000 (floor_of 0xff80_0000)  -- Floor of −infinity: −infinity
    ∷ is_float 0x7fc0_0000 (ceiling_of 0xffc0_0001)  -- Ceiling of a NaN: the one NaN
    ∷ is_int (negsuc 6) (apply_op one op_floor (int (negsuc 6) ∷ []))  -- Floor of the Int −7: −7
    ∷ is_int (pos 1) (apply_op one op_ceiling (bool true ∷ []))  -- Ceiling of true: Int 1
    ∷ refused 13 (apply_op one op_floor (empty ∷ []))  -- Floor of a List: 13
    ∷ refused 11 (apply_op one op_ceiling (void ∷ []))  -- Ceiling of Void: 11
    ∷ []

-- every row holds
abbrev pub all_hold : List Bool → Bool
all_hold [] = true
all_hold (b ∷ bs) = b && all_hold bs
