-- The union of two lists that is written entry by entry: what is left of it is the union of what is left of the two. Assumes nothing.
use Rattle.std.proofs.Common.{◌≡◌, suc, ◌⊎◌, ◌+◌, ◌^◌, ◌<◌, ◌≤◌, ℕ, ℤ, List, [], ◌∷◌, ◌++◌, length, sym, refl, subst, arith, w32, to_z, of_z, length-append}
use lib.Signed.{mag}
use Prim.Native.Nat.{zero-le}
use mathlib.Core.List.{append-nil}
use Rattle.ink_list.specs.Entries.{Entry, Rising, room, Stored, Wrote}
use Rattle.ink_list.specs.Ops.{union}
use Rattle.ink_list.proofs.Laws.{rising_lower}
use Rattle.ink_list.proofs.Output.{Writing, begin, has_room, pushed, appended, fits, turn, done}
use Rattle.ink_list.proofs.UnionLaws.{union_length, union_less, union_same, union_more, union_ends}

-- of the answer M, which is written to two slices, n entries are written, and the union of a and b is left
pub record Merging (limit : ℕ) (M : List Entry) (n : ℕ) (a b : List Entry) (oi₀ oi : List ℕ) (ov₀ ov : List ℤ) : Type 0 where
  pub rising_a : Rising limit a
  pub rising_b : Rising limit b
  pub writing : Writing 0 M n (union limit a b) oi₀ oi ov₀ ov

tail : (limit : ℕ) (x : Entry) (a : List Entry) → Rising limit (x ∷ a) → Rising limit a
tail limit x a r = rising_lower (suc x.0) 0 limit a zero-le r.2

pub start : {a b : List Entry} {oi : List ℕ} {ov : List ℤ} → Rising (room oi ov) a → Rising (room oi ov) b
    → Merging (room oi ov) (union (room oi ov) a b) 0 a b oi oi ov ov
start {a} {b} {oi} {ov} ra rb = let l = union_length (room oi ov) a b in record { rising_a = ra; rising_b = rb; writing = begin (omega arith) }

module _ {limit n : ℕ} {M a b : List Entry} {oi₀ oi : List ℕ} {ov₀ ov : List ℤ} (m : Merging limit M n a b oi₀ oi ov₀ ov) where
  -- neither is used up
  module _ {x y : Entry} {a' b' : List Entry} (ea : a ≡ x ∷ a') (eb : b ≡ y ∷ b') where
    ra : Rising limit (x ∷ a')
    ra = subst (Rising limit) ea m.rising_a

    rb : Rising limit (y ∷ b')
    rb = subst (Rising limit) eb m.rising_b

    less : x.0 < y.0 → union limit a b ≡ x ∷ union limit a' b
    less h = rw (ea, eb) (union_less limit x y a' b' ra rb h)

    same : x.0 ≡ y.0 → union limit a b ≡ y ∷ union limit a' b'
    same h = rw (ea, eb) (union_same limit x y a' b' ra rb h)

    more : y.0 < x.0 → union limit a b ≡ y ∷ union limit a b'
    more h = rw (ea, eb) (union_more limit x y a' b' ra rb h)

    pub less_room : x.0 < y.0 → n < room oi ov
    less_room h = has_room m.writing (less h)

    pub same_room : x.0 ≡ y.0 → n < room oi ov
    same_room h = has_room m.writing (same h)

    pub more_room : y.0 < x.0 → n < room oi ov
    more_room h = has_room m.writing (more h)

    pub less_pushed : {n' : ℕ} {oi' : List ℕ} {ov' : List ℤ} → x.0 < y.0 → mag x.1 < 2 ^ 31
        → Stored n ((x.0, to_z w32 (of_z w32 x.1)) ∷ []) n' oi oi' ov ov' → Merging limit M n' a' b oi₀ oi' ov₀ ov'
    less_pushed h f p = record { rising_a = tail limit x a' ra; rising_b = m.rising_b; writing = pushed m.writing (less h) f p }

    pub same_pushed : {n' : ℕ} {oi' : List ℕ} {ov' : List ℤ} → x.0 ≡ y.0 → mag y.1 < 2 ^ 31
        → Stored n ((x.0, to_z w32 (of_z w32 y.1)) ∷ []) n' oi oi' ov ov' → Merging limit M n' a' b' oi₀ oi' ov₀ ov'
    same_pushed {n'} {oi'} {ov'} h f p =
        record {
          rising_a = tail limit x a' ra;
          rising_b = tail limit y b' rb;
          writing = pushed m.writing (same h) f (subst (λ (k : ℕ). Stored n ((k, to_z w32 (of_z w32 y.1)) ∷ []) n' oi oi' ov ov') h p);
        }

    pub more_pushed : {n' : ℕ} {oi' : List ℕ} {ov' : List ℤ} → y.0 < x.0 → mag y.1 < 2 ^ 31
        → Stored n ((y.0, to_z w32 (of_z w32 y.1)) ∷ []) n' oi oi' ov ov' → Merging limit M n' a b' oi₀ oi' ov₀ ov'
    more_pushed h f p = record { rising_a = m.rising_a; rising_b = tail limit y b' rb; writing = pushed m.writing (more h) f p }

  -- one of the two is used up: the rest of both is left
  module _ (e : (a ≡ []) ⊎ (b ≡ [])) where
    rests : Writing 0 M n (a ++ b) oi₀ oi ov₀ ov
    rests = turn m.writing (union_ends limit a b m.rising_a m.rising_b e)

    pub left_room : n + length a ≤ room oi ov
    left_room = let f : n + length (a ++ b) ≤ room oi ov = fits rests in omega (arith, length-append a b)

    module _ {n' : ℕ} {oi' : List ℕ} {ov' : List ℤ} (p : Stored n a n' oi oi' ov ov') where
      pub right_room : n' + length b ≤ room oi' ov'
      right_room = fits (appended rests refl p)

      pub merged : {n'' : ℕ} {oi'' : List ℕ} {ov'' : List ℤ} → Stored n' b n'' oi' oi'' ov' ov'' → Wrote M n'' oi₀ oi'' ov₀ ov''
      merged q = done (appended (appended rests refl p) (sym (append-nil b)) q) refl
