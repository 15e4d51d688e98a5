-- Increment and decrement keep just what their entries become: an item that an entry becomes is there with its defined value, and each
-- item that is there an entry becomes. Assumes nothing.
use mathlib.Core.Path.{◌≡◌, refl, sym, ap, ◌∙◌}
use mathlib.Core.Bool.{Bool, true, false, cond}
use mathlib.Core.Logic.{inl, inr}
use mathlib.Core.Option.{none, some}
use mathlib.Core.List.{List, [], ◌∷◌}
use Prim.Native.Nat.{ℕ, ◌<◌}
use native.Mathlib.Omega.{arith}
use lib.Dec.{eqb}
use lib.IntN.{ℤ, pos, negsuc}
use lib.ListN.{length, get_or}
use borrow.Author.Tests.{eq-eqb, eqb-true}
use Rattle.ink_number.specs.Int.{eq_z}
use Rattle.ink_list.specs.Entries.{Entry, value_at}
use Rattle.ink_list.proofs.Laws.{at_gather}
use Rattle.list_definitions.specs.Defs.{origin_of, in_set, aimed, any_from, alike, target, retarget}
use Rattle.list_definitions.specs.ByEntry.{Among, Becomes}

same_z : (a : ℤ) → eq_z a a ≡ true
same_z (pos a) = eq-eqb a a refl
same_z (negsuc a) = eq-eqb a a refl

z_same : (a b : ℤ) → eq_z a b ≡ true → a ≡ b
z_same (pos a) (pos b) e = ap pos (eqb-true a b e)
z_same (pos a) (negsuc b) e = let z : ◌≡◌ {A = ℕ} 0 1 = cc in absurd (omega arith)
z_same (negsuc a) (pos b) e = let z : ◌≡◌ {A = ℕ} 0 1 = cc in absurd (omega arith)
z_same (negsuc a) (negsuc b) e = ap negsuc (eqb-true a b e)

-- an entry that is passed over
skip : (s t b : Bool) → b ≡ true → cond s (cond t true b) b ≡ true
skip true true b e = refl
skip true false b e = e
skip false t b e = e

module _ (ends : List ℕ) (defined : List ℤ) (k : ℕ) where
  -- an entry aims at an item just where its origin and its value are the item's
  aims : (e : Entry) (a : List Entry) → Among e a → origin_of ends e.0 ≡ origin_of ends k → e.1 ≡ get_or defined k (pos 0) → aimed ends defined a k ≡ true
  aims e [] m o v = elim m [ ]
  aims e (x ∷ a) (inl q) o v = rw (sym q, o, v, eq-eqb (origin_of ends k) (origin_of ends k) refl, same_z (get_or defined k (pos 0)))
  aims e (x ∷ a) (inr m) o v =
      skip (eqb (origin_of ends x.0) (origin_of ends k)) (eq_z x.1 (get_or defined k (pos 0))) (aimed ends defined a k) (aims e a m o v)

  -- one of these entries aims at the item
  abbrev Aimer : List Entry → Type 0
  Aimer a = (e : Entry) × Among e a × (origin_of ends e.0 ≡ origin_of ends k) × (e.1 ≡ get_or defined k (pos 0))

  first_or : (x : Entry) (a : List Entry) (b : Bool) → (b ≡ true → Aimer a) → (s : Bool) → eqb (origin_of ends x.0) (origin_of ends k) ≡ s → (t : Bool)
      → eq_z x.1 (get_or defined k (pos 0)) ≡ t → cond s (cond t true b) b ≡ true → Aimer (x ∷ a)
  first_or x a b f true p true q w = (x, inl refl, eqb-true _ _ p, z_same _ _ q)
  first_or x a b f true p false q w = let r = f w in (r.0, inr r.1, r.2, r.3)
  first_or x a b f false p t q w = let r = f w in (r.0, inr r.1, r.2, r.3)

  aimed_by : (a : List Entry) → aimed ends defined a k ≡ true → Aimer a
  aimed_by [] h = let z : ◌≡◌ {A = ℕ} 0 1 = cc in absurd (omega arith)
  aimed_by (x ∷ a) h =
      first_or x a (aimed ends defined a k) (aimed_by a) (eqb (origin_of ends x.0) (origin_of ends k)) refl (eq_z x.1 (get_or defined k (pos 0))) refl h

module _ (ends : List ℕ) (defined : List ℤ) (set : ℕ) (a : List Entry) where
  pub becomes_there : (e : Entry) (k : ℕ) → Among e a → Becomes ends defined set e k → value_at (retarget ends defined set a) k ≡ some (get_or defined k (pos 0))
  unfolding retarget
  becomes_there e k m b =
      at_gather (length defined) k (target ends defined set a) b.item
      ∙ rw (b.in_set_lem, aims ends defined k e a m b.same_origin b.defined_so, b.smallest)

  pub there_becomes : (k : ℕ) (v : ℤ) → k < length defined → value_at (retarget ends defined set a) k ≡ some v
      → (e : Entry) × Among e a × Becomes ends defined set e k × (v ≡ get_or defined k (pos 0))
  unfolding retarget
  there_becomes k v h w =
      go (in_set set (origin_of ends k)) refl (aimed ends defined a k) refl (any_from 0 k (alike ends defined k)) refl
      (sym (at_gather (length defined) k (target ends defined set a) h) ∙ w)
    where
      go : (s : Bool) → in_set set (origin_of ends k) ≡ s → (t : Bool) → aimed ends defined a k ≡ t → (u : Bool) → any_from 0 k (alike ends defined k) ≡ u
          → cond s (cond t (cond u none (some (get_or defined k (pos 0)))) none) none ≡ some v
          → (e : Entry) × Among e a × Becomes ends defined set e k × (v ≡ get_or defined k (pos 0))
      go true p true q false r x =
          let b = aimed_by ends defined k a q in
          (b.0, b.1, record { item = h; same_origin = b.2; defined_so = b.3; in_set_lem = p; smallest = r }, (let y : v ≡ get_or defined k (pos 0) = cc in y))
      go true p true q true r x = let z : ◌≡◌ {A = ℕ} 0 1 = cc in absurd (omega arith)
      go true p false q u r x = let z : ◌≡◌ {A = ℕ} 0 1 = cc in absurd (omega arith)
      go false p t q u r x = let z : ◌≡◌ {A = ℕ} 0 1 = cc in absurd (omega arith)
