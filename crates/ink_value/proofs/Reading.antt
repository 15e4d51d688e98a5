-- What the code reads of a value is what the definitions read of it. Assumes nothing.
use mathlib.Core.Path.{◌≡◌, refl, sym, ap, ◌∙◌, subst}
use mathlib.Core.List.{List}
use Prim.Native.Nat.{ℕ, ◌+◌, ◌-◌, ◌≤◌}
use native.Mathlib.Omega.{arith}
use lib.IntN.{ℤ}
use lib.ListN.{length, take, drop}
use Rattle.ink_list.specs.Entries.{Entry, Rising, Wrote, values}
use Rattle.ink_value.specs.Val.{list, kind_of, code_of}
use Rattle.ink_value.specs.Convert.{entries_of, origins_in}
use Rattle.ink_value.specs.Value.{val_of, kind_in, start_of, len_of, set_in, held, Formed, FirstFormed, entries_at}
use Rattle.slices.specs.Filled.{part}
use Rattle.ink_value.specs.declared.Kind.TheVariants as K
use Rattle.ink_value.specs.declared.Value.{Value}
use Rattle.slices.proofs.Filled.{length_part}
use Rattle.ink_list.proofs.Wrote.{lent_limit}
use Rattle.ink_list.proofs.Laws.{rising_length}
use Rattle.ink_list.proofs.Rests.{values_entries, length_entries, of_lent}
use Rattle.ink_value.specs.declared.Value.TheVariants as Is

pub entries_in_lem : (is : List ℕ) (vs : List ℤ) (v : Value) → entries_of (val_of is vs v) ≡ held is vs v
entries_in_lem is vs (Is.Bool b) = refl
entries_in_lem is vs (Is.Int z) = refl
entries_in_lem is vs (Is.Float x) = refl
entries_in_lem is vs (Is.List o s n) = refl
entries_in_lem is vs Is.Void = refl

pub set_in_lem : (is : List ℕ) (vs : List ℤ) (v : Value) → origins_in (val_of is vs v) ≡ set_in v
set_in_lem is vs (Is.Bool b) = refl
set_in_lem is vs (Is.Int z) = refl
set_in_lem is vs (Is.Float x) = refl
set_in_lem is vs (Is.List o s n) = refl
set_in_lem is vs Is.Void = refl

pub kind_in_lem : (is : List ℕ) (vs : List ℤ) (v : Value) → kind_in v ≡ kind_of (val_of is vs v)
kind_in_lem is vs (Is.Bool b) = refl
kind_in_lem is vs (Is.Int z) = refl
kind_in_lem is vs (Is.Float x) = refl
kind_in_lem is vs (Is.List o s n) = refl
kind_in_lem is vs Is.Void = refl

pub code_of_lem : (is : List ℕ) (vs : List ℤ) (v : Value) → code_of (kind_of (val_of is vs v)) ≡ code_of (kind_in v)
code_of_lem is vs v = sym (ap code_of (kind_in_lem is vs v))

-- n entries that stand whole in two lists: their values, and how many they are
module _ (is : List ℕ) (vs : List ℤ) (s n : ℕ) (h : s + n ≤ length is) (k : s + n ≤ length vs) where
  long : length (part s n is) ≡ length (part s n vs)
  long = length_part s n is h ∙ sym (length_part s n vs k)

  pub values_at : values (entries_at is vs s n) ≡ part s n vs
  values_at = values_entries (part s n is) (part s n vs) long

  pub length_at : length (entries_at is vs s n) ≡ n
  length_at = length_entries (part s n is) (part s n vs) long ∙ length_part s n is h

-- how many entries a value has
pub count_of : (is : List ℕ) (vs : List ℤ) (v : Value) → start_of v + len_of v ≤ length is → start_of v + len_of v ≤ length vs
    → len_of v ≡ length (entries_of (val_of is vs v))
count_of is vs v h k = sym (ap length (entries_in_lem is vs v) ∙ length_at is vs (start_of v) (len_of v) h k)

module _ (limit : ℕ) (is : List ℕ) (vs : List ℤ) where
  pub len_in : (v : Value) → Formed limit is vs v → length (held is vs v) ≡ len_of v
  len_in v f = length_at is vs (start_of v) (len_of v) f.items_in f.values_in

  -- a value formed under a limit is so under a higher one
  pub formed_limit : (m : ℕ) (v : Value) → limit ≤ m → Formed limit is vs v → Formed m is vs v
  formed_limit m v h f =
      record {
        items_in = f.items_in;
        values_in = f.values_in;
        lent = lent_limit limit m (part (start_of v) (len_of v) is) (part (start_of v) (len_of v) vs) h f.lent;
      }

pub few_in : (limit : ℕ) (is : List ℕ) (vs : List ℤ) (v : Value) → Formed limit is vs v → len_of v ≤ limit
few_in limit is vs v f =
    omega (arith, len_in limit is vs v f, rising_length limit (held is vs v) (of_lent limit (part (start_of v) (len_of v) is) (part (start_of v) (len_of v) vs) f.lent))

pub part_few : (limit : ℕ) (is : List ℕ) (vs : List ℤ) (v : Value) → Formed limit is vs v → length (part (start_of v) (len_of v) is) ≤ limit
part_few limit is vs v f = omega (arith, length_part (start_of v) (len_of v) is f.items_in, few_in limit is vs v f)

pub rising_in : (limit : ℕ) (is : List ℕ) (vs : List ℤ) (v : Value) → Formed limit is vs v → Rising limit (entries_of (val_of is vs v))
rising_in limit is vs v f =
    subst (Rising limit) (sym (entries_in_lem is vs v)) (of_lent limit (part (start_of v) (len_of v) is) (part (start_of v) (len_of v) vs) f.lent)

-- what was written is another name's list
pub wrote_is : {M N : List Entry} {n : ℕ} {oi oi' : List ℕ} {ov ov' : List ℤ} → M ≡ N → Wrote N n oi oi' ov ov' → Wrote M n oi oi' ov ov'
wrote_is {M} {N} {n} {oi} {oi'} {ov} {ov'} e w = subst (λ (x : List Entry). Wrote x n oi oi' ov ov') (sym e) w

-- the part of a slice that the code lends, from a value's start and length
pub lends : {A : Type 0} (xs : List A) (i n : ℕ) (v : Value) → i ≡ start_of v → n ≡ len_of v → take (i + n - i) (drop i xs) ≡ part (start_of v) (len_of v) xs
lends xs i n v p q =
    let e : i + n - i ≡ len_of v = omega arith in
    ap (λ (k : ℕ). take k (drop i xs)) e ∙ ap (λ (k : ℕ). take (len_of v) (drop k xs)) p

pub list_in : (is : List ℕ) (vs : List ℤ) (v : Value) → kind_in v ≡ K.List → val_of is vs v ≡ list (set_in v) (held is vs v)
list_in is vs (Is.Bool b) e = absurd (omega (arith, ap code_of e))
list_in is vs (Is.Int z) e = absurd (omega (arith, ap code_of e))
list_in is vs (Is.Float x) e = absurd (omega (arith, ap code_of e))
list_in is vs (Is.List o s n) e = refl
list_in is vs Is.Void e = absurd (omega (arith, ap code_of e))

-- what the first n of three values keep of a lower limit
pub first_limit : (limit : ℕ) (is : List ℕ) (vs : List ℤ) (m n : ℕ) (a b c : Value) → limit ≤ m → FirstFormed limit is vs n a b c → FirstFormed m is vs n a b c
first_limit limit is vs m n a b c h f =
    record {
      one = λ k. formed_limit limit is vs m a h (f.one k);
      two = λ k. formed_limit limit is vs m b h (f.two k);
      three = λ k. formed_limit limit is vs m c h (f.three k);
    }
