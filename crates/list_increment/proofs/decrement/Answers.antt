-- `list_increment::decrement` meets its contract: to take an Int is to add its negative. Assumes nothing.
use mathlib.Core.Path.{◌≡◌, ap, ◌∙◌}
use Prim.Native.Nat.{ℕ, suc}
use native.Mathlib.Nat.{mul-one}
use lib.IntN.{ℤ, pos, negsuc, neg_ℤ, ◌*ℤ◌}
use Rattle.ink_number.specs.Int.{wrap}
use Rattle.ink_number.proofs.Signed.{read, returned}
use Rattle.ink_list.specs.Entries.{entries}
use Rattle.list_definitions.proofs.Raised.{wrote_lower}
use Rattle.list_increment.proofs.decrement.Goals as goal

-- n times -1 is -n
less : (n : ℤ) → n *ℤ negsuc 0 ≡ neg_ℤ n
less (pos a) = ap (λ (k : ℕ). neg_ℤ (pos k)) (mul-one a)
less (negsuc a) = ap pos (mul-one (suc a))

pub returns : goal.returns
returns c =
    let a = c.args in
    let d = a.definitions in (
      wrote_lower d.ends.now d.defined.now a.set a.by (entries a.a.items.now a.a.values.now)
          (returned c.wrapping_mul.type_inv ∙ c.wrapping_mul.ensures ∙ read (λ (z : ℤ). wrap (z *ℤ negsuc 0)) a.by c.ranges.by ∙ ap wrap (less a.by))
          c.increment.ensures.0,
      c.increment.ensures.1,
    )
