-- The end of a run: the answer, what stands in the result slices, and the work slices as they were. Assumes nothing.
use mathlib.Core.Path.{◌≡◌, refl, ap, ◌∙◌, subst}
use mathlib.Core.List.{List}
use Prim.Native.Nat.{ℕ}
use native.Mathlib.Omega.{arith}
use lib.IntN.{ℤ, pos}
use Rattle.ink_number.specs.Answer.{gives}
use Rattle.ink_list.specs.Entries.{items, values}
use Rattle.ink_value.specs.Val.{Val, bool, int, float, list, void}
use Rattle.ink_value.specs.Convert.{entries_of}
use Rattle.ink_value.specs.Value.{val_of, placed_val, Gave}
use Rattle.ink_value.specs.declared.Value.{Value}
use Rattle.ink_value.proofs.ReadBack.{read_back}
use Rattle.list_operators.specs.Lists.{definitions}
use Rattle.pack.specs.Bodies.{decoded}
use Rattle.pack.specs.declared.format.Format.{Format}
use Rattle.pack.specs.Read.{literal_of, program, PackRead}
use Rattle.slices.proofs.Filled.{fill_over}
use Rattle.slices.proofs.Lists.{ap3}
use Rattle.running.specs.Run.{RanTo, Memory, run_of}
use Rattle.running.specs.Work.{Worked}
use Rattle.machine.specs.Machine.{End, ended, stack_limit, run}
use Rattle.operating.specs.Stacked.{placed_at, Put, Roomy}
use Rattle.run_checked.specs.Clear.{cleared}
use Rattle.run_checked.proofs.Clearing.{cleared_back}

placed_start : (x : Val) → placed_at 0 x ≡ placed_val x
placed_start (bool b) = refl
placed_start (int z) = refl
placed_start (float x) = refl
placed_start (list o es) = refl
placed_start void = refl

module _ {F : Format} (ri ri' : List ℕ) (rv rv' : List ℤ) where
  ran_ended : (x : Val) (v : Value) → Put F x 0 v ri ri' rv rv' → RanTo (ended x) (ended v) ri ri' rv rv'
  ran_ended x v w =
      let g : Gave (gives x) (gives v) ri ri' rv rv' =
      record {
        answered = ap gives (w.value_is ∙ placed_start x);
        items_out = w.items_in ∙ fill_over (items (entries_of x)) ri;
        values_out = w.values_in ∙ fill_over (values (entries_of x)) rv;
      } in
      let e : gives (val_of ri' rv' v) ≡ gives x = read_back (gives x) (gives v) ri ri' rv rv' g in
      record { end_is = cc; answered = ap ended (w.value_is ∙ placed_start x); items_out = g.items_out; values_out = g.values_out }

  pub ran_value : (e : End Val) (x : Val) (v : Value) → ended x ≡ e → Put F x 0 v ri ri' rv rv' → RanTo e (ended v) ri ri' rv rv'
  ran_value e x v q w = subst (λ (z : End Val). RanTo z (ended v) ri ri' rv rv') q (ran_ended x v w)

-- the tables and the limit are the pack's own
pub same_run : (F : Format) (p ends : List ℕ) (defined : List ℤ) (limit : ℕ) → PackRead F p ends defined limit → (s : ℕ) (vs : List Val)
    → (run (definitions ends defined limit) (program p s) (literal_of (decoded F p)) vs).end ≡ run_of F p s vs
same_run F p ends defined limit g s vs =
    ap3 (λ (es : List ℕ) (ds : List ℤ) (l : ℕ). (run (definitions es ds l) (program p s) (literal_of (decoded F p)) vs).end) g.ends_are g.defined_are g.limit_is

module _ {F : Format} (e : End Val) (r : End Value) (used wi wi' : List ℕ) (wv wv' : List ℤ) (ri : List ℕ) (rv : List ℤ)
    (m : Memory F wi wv ri rv) (w : Worked F e r used wi wi' wv wv') where
  pub roomy_after : Roomy F wi' wv'
  roomy_after =
      record { format = m.format; items_room = omega (arith, m.items_room, w.items_touched.long); values_room = omega (arith, m.values_room, w.values_touched.long) }

  pub items_back : cleared F 0 used stack_limit wi' ≡ wi
  items_back = cleared_back F 0 used wi' w.few roomy_after.items_room wi w.items_touched m.items_zero

  pub values_back : cleared F (pos 0) used stack_limit wv' ≡ wv
  values_back = cleared_back F (pos 0) used wv' w.few roomy_after.values_room wv w.values_touched m.values_zero
