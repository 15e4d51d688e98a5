-- The code's values read as values of the definitions, and what a call leaves in the slices lent for its result. Assumes nothing.
use Rattle.std.specs.Prelude.{◌≡◌, Bool, true, List, [], ◌∷◌, ℕ, ◌+◌, ◌≤◌, leb, eqb, ℤ, pos, Float, length, take}
use Rattle.ink_number.specs.Answer.{Answer, gives, refuses}
use Rattle.binary32.specs.Real.{of_int32}
use Rattle.slices.specs.Every.{◌and◌}
use Rattle.slices.specs.Filled.{part, over}
use Rattle.ink_list.specs.Entries.{Entry, entries, items, values, Lent, Rising, formed}
use Rattle.ink_value.specs.Val.{Val, bool, int, float, list, void}
use Rattle.ink_value.specs.declared.Kind.{Kind}
use Rattle.ink_value.specs.declared.Kind.TheVariants as K
use Rattle.ink_value.specs.Convert.{bit_z, entries_of, origins_in}
use Rattle.ink_value.specs.declared.Value.{Value}
use Rattle.ink_value.specs.declared.Value.TheVariants as Is

-- a value of the code, a List's entries in the two slices
abbrev pub val_of : List ℕ → List ℤ → Value → Val
val_of is vs (Is.Bool b) = bool b
val_of is vs (Is.Int z) = int z
val_of is vs (Is.Float x) = float x
val_of is vs (Is.List o s n) = list o (entries (part s n is) (part s n vs))
val_of is vs Is.Void = void

-- the first n of three
abbrev pub first_of : List ℕ → List ℤ → ℕ → Value → Value → Value → List Val
first_of is vs n a b c = take n (val_of is vs a ∷ val_of is vs b ∷ val_of is vs c ∷ [])

abbrev pub kind_in : Value → Kind
kind_in (Is.Bool b) = K.Bool
kind_in (Is.Int z) = K.Int
kind_in (Is.Float x) = K.Float
kind_in (Is.List o s n) = K.List
kind_in Is.Void = K.Void

-- where a List's entries start, how many there are, and its origin set
abbrev pub start_of : Value → ℕ
start_of (Is.Bool b) = 0
start_of (Is.Int z) = 0
start_of (Is.Float x) = 0
start_of (Is.List o s n) = s
start_of Is.Void = 0

abbrev pub len_of : Value → ℕ
len_of (Is.Bool b) = 0
len_of (Is.Int z) = 0
len_of (Is.Float x) = 0
len_of (Is.List o s n) = n
len_of Is.Void = 0

abbrev pub set_in : Value → ℕ
set_in (Is.Bool b) = 0
set_in (Is.Int z) = 0
set_in (Is.Float x) = 0
set_in (Is.List o s n) = o
set_in Is.Void = 0

-- the n entries that stand from s on in the two slices, and those that a value has there
abbrev pub entries_at : List ℕ → List ℤ → ℕ → ℕ → List Entry
entries_at is vs s n = entries (part s n is) (part s n vs)

abbrev pub held : List ℕ → List ℤ → Value → List Entry
held is vs v = entries_at is vs (start_of v) (len_of v)

-- n entries from s on stand whole in the two slices, and their items rise below the limit
pub record Spans (limit : ℕ) (is : List ℕ) (vs : List ℤ) (s n : ℕ) : Type 0 where
  pub items_in : s + n ≤ length is
  pub values_in : s + n ≤ length vs
  pub lent : Lent limit (part s n is) (part s n vs)

-- so do a List's entries
abbrev pub Formed : ℕ → List ℕ → List ℤ → Value → Type 0
Formed limit is vs v = Spans limit is vs (start_of v) (len_of v)

-- the first n of three values
pub record FirstFormed (limit : ℕ) (is : List ℕ) (vs : List ℤ) (n : ℕ) (a b c : Value) : Type 0 where
  pub one : 1 ≤ n → Formed limit is vs a
  pub two : 2 ≤ n → Formed limit is vs b
  pub three : 3 ≤ n → Formed limit is vs c

-- ---- a number, and a value, in parts

-- what a Bool or an Int holds, as an Int, and what a Float holds; 0 for other values
abbrev pub whole_in : Value → ℤ
whole_in (Is.Bool b) = bit_z b
whole_in (Is.Int z) = z
whole_in (Is.Float x) = pos 0
whole_in (Is.List o s n) = pos 0
whole_in Is.Void = pos 0

abbrev pub real_in : Value → Float
real_in (Is.Bool b) = of_int32 (pos 0)
real_in (Is.Int z) = of_int32 (pos 0)
real_in (Is.Float x) = x
real_in (Is.List o s n) = of_int32 (pos 0)
real_in Is.Void = of_int32 (pos 0)

-- a number in parts: its kind, the Int that a Bool or an Int holds, and what a Float holds. A Bool reads as that Int does
abbrev pub number_of : Kind → ℤ → Float → Val
number_of K.Bool z x = int z
number_of K.Int z x = int z
number_of K.Float z x = float x
number_of K.List z x = int z
number_of K.Void z x = int z

-- a value in parts: the same, and where its entries start and how many they are. The origin set, which no part tells, is empty
abbrev pub of_parts : List ℕ → List ℤ → Kind → ℤ → Float → ℕ → ℕ → Val
of_parts is vs K.Bool z x s n = int z
of_parts is vs K.Int z x s n = int z
of_parts is vs K.Float z x s n = float x
of_parts is vs K.List z x s n = list 0 (entries_at is vs s n)
of_parts is vs K.Void z x s n = void

-- n entries from s on stand whole in two lists
abbrev pub Stand : List ℕ → List ℤ → ℕ → ℕ → Type 0
Stand is vs s n = (s + n ≤ length is) × (s + n ≤ length vs)

-- 7, of one slot or operand: a List's entries stand whole in the two slices, and are "formed as literals" of a pack of `total` items and d
-- definitions
abbrev pub formed_in : ℕ → ℕ → List ℕ → List ℤ → Value → Bool
formed_in total d is vs v =
    leb (start_of v + len_of v) (length is) and leb (start_of v + len_of v) (length vs) and formed total d (set_in v) (part (start_of v) (len_of v) is)

abbrev pub each_formed : ℕ → ℕ → List ℕ → List ℤ → List Value → Bool
each_formed total d is vs [] = true
each_formed total d is vs (v ∷ l) = formed_in total d is vs v and each_formed total d is vs l

-- 7, of all of them: "slot and operand lists formed as literals with their two slices equally long"
abbrev pub all_formed : ℕ → ℕ → List ℕ → List ℤ → List Value → Bool
all_formed total d is vs l = eqb (length is) (length vs) and each_formed total d is vs l

-- ---- what a call comes to

-- the value of a result: a List's entries stand from the start of the result slices
abbrev pub placed_val : Val → Value
placed_val (bool b) = Is.Bool b
placed_val (int z) = Is.Int z
placed_val (float x) = Is.Float x
placed_val (list o es) = Is.List o 0 (length es)
placed_val void = Is.Void

abbrev pub placed : Answer Val → Answer Value
placed (gives v) = gives (placed_val v)
placed (refuses r) = refuses r

-- the answer that a call's stands for, a List's entries in the result slices
abbrev pub outcome_of : List ℕ → List ℤ → Answer Value → Answer Val
outcome_of is vs (gives v) = gives (val_of is vs v)
outcome_of is vs (refuses r) = refuses r

-- the entries that an answer writes: "a List result fills them from the start"
abbrev pub written : Answer Val → List Entry
written (gives v) = entries_of v
written (refuses r) = []

-- an answer is returned, and its entries are written from the start of the two result slices, which are else as they were
pub record Gave (answer : Answer Val) (r : Answer Value) (oi oi' : List ℕ) (ov ov' : List ℤ) : Type 0 where
  pub answered : r ≡ placed answer
  pub items_out : oi' ≡ over (items (written answer)) oi
  pub values_out : ov' ≡ over (values (written answer)) ov

-- ---- well formed

-- a List's items rise and are below the limit
abbrev pub Wf : ℕ → Val → Type 0
Wf limit v = Rising limit (entries_of v)

abbrev pub AllWf : ℕ → List Val → Type 0
AllWf limit [] = Unit {0}
AllWf limit (v ∷ vs) = Wf limit v × AllWf limit vs

-- formed as a literal of a pack of `total` items and d definitions: its items in the pack, its origin bits below d
abbrev pub InPack : ℕ → ℕ → Val → Type 0
InPack total d v = formed total d (origins_in v) (items (entries_of v)) ≡ true

-- each of these is
abbrev pub AllInPack : ℕ → ℕ → List Val → Type 0
AllInPack total d [] = Unit {0}
AllInPack total d (v ∷ vs) = InPack total d v × AllInPack total d vs

-- the value that is answered is, if one is
abbrev pub GivesInPack : ℕ → ℕ → Answer Val → Type 0
GivesInPack total d (gives v) = InPack total d v
GivesInPack total d (refuses r) = Unit {0}
