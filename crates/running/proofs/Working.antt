-- A run under way: what is left of the sheet, from the stack as it stands, ends as the whole does; and no places of the work slices have
-- changed but those that are used. Assumes nothing.
use mathlib.Core.Path.{◌≡◌, refl, sym, ap, ap₂, ◌∙◌, subst}
use mathlib.Core.Logic.{inl, inr, ⊎_elim}
use mathlib.Core.Bool.{false}
use mathlib.Core.List.{List, [], ◌∷◌}
use Prim.Native.Nat.{ℕ, zero, suc, ◌+◌, ◌-◌, ◌*◌, ◌≤◌, ◌<◌}
use native.Mathlib.Nat.{suc-mul, mul-le-mul_right}
use native.Mathlib.Omega.{arith}
use native.Mathlib.Decide.{ℕ_discrete}
use lib.IntN.{ℤ, pos}
use lib.ListN.{length, get_or, set, take, drop, replicate, length-set, length-replicate, get_or-replicate, get_or-eq_default}
use lib.Seq.{get_or-set_same, get_or-set_other}
use Rattle.ink_number.specs.Answer.{gives, refuses}
use Rattle.ink_list.specs.Entries.{Entry, entries, items, values, Rising}
use Rattle.slices.specs.Filled.{fill, Outside}
use Rattle.slices.proofs.Filled.{length_fill, part_filled, part_before, get_d_outside}
use Rattle.ink_list.proofs.Laws.{lt_or_le, rising_length}
use Rattle.ink_list.proofs.Output.{length_items, length_values}
use Rattle.ink_list.proofs.Wrote.{entries_of_lem}
use Rattle.ink_value.specs.Val.{Val, bool, int, float, list, void}
use Rattle.ink_value.specs.Convert.{entries_of}
use Rattle.ink_value.specs.Value.{val_of, start_of, len_of, Formed, FirstFormed}
use Rattle.ink_value.specs.declared.Value.{Value}
use Rattle.ink_value.specs.declared.Value.TheVariants as Is
use Rattle.ink_value.specs.declared.operands.Operands.{Operands}
use Rattle.list_definitions.specs.Defs.{ListDefinitions}
use Rattle.operator_kinds.specs.Kinds.{operand_count}
use Rattle.native_function_call.specs.Apply.{apply_op}
use Rattle.pack.specs.Bodies.{decoded}
use Rattle.pack.specs.Format.{slot_limit}
use Rattle.pack.specs.declared.format.Format.{Format}
use Rattle.pack.specs.Instruction.{Instr, op, push, push_bool, push_int, push_float, push_list, push_slot, push_void, Allowed, instr_of}
use Rattle.pack.specs.declared.instruction.Instruction.{Instruction}
use Rattle.pack.specs.declared.instruction.Instruction.TheVariants as I
use Rattle.op.specs.declared.Op.{Op}
use Rattle.pack.specs.Read.{program, literal_of}
use Rattle.stepping.specs.Steps.{Grown, TopOperands, IfOp, IfSlot, SlotIs}
use Rattle.running.specs.Work.{Touched, Longest, Topmost}
use Rattle.machine.specs.Machine.{Run, ended, stopped, stack_limit, finish, onward, step, run_from, value_pushed, run}
use Rattle.machine.specs.Stack.{stack_of}
use Rattle.machine.proofs.Stack.{stack_put, run_more, run_stop, run_done}
use Rattle.operating.specs.Stacked.{placed_at, start_at, Roomy}
use Rattle.operating.proofs.Putting.{place_fits}

-- ---- what an instruction takes

-- what holds of the case that an instruction is holds of it
pub op_told : (P : ℕ → Type 0) {i j : Instruction} → i ≡ j → IfOp (instr_of j) P → IfOp (instr_of i) P
op_told P e h = subst (λ (x : Instruction). IfOp (instr_of x) P) (sym e) h

pub slot_told : (P : ℕ → Type 0) {i j : Instruction} → i ≡ j → IfSlot (instr_of j) P → IfSlot (instr_of i) P
slot_told P e h = subst (λ (x : Instruction). IfSlot (instr_of x) P) (sym e) h

-- no operator, and no slot's push
pub no_op : (P : ℕ → Type 0) (i : Instruction) → ((o : Op) → i ≡ I.Op o → ⊥) → IfOp (instr_of i) P
no_op P (I.Op o) h = absurd (h o refl)
no_op P (I.Bool b) h = tt
no_op P (I.Int z) h = tt
no_op P (I.Float n) h = tt
no_op P (I.List l) h = tt
no_op P (I.Slot s) h = tt
no_op P I.Void h = tt

pub no_slot : (P : ℕ → Type 0) (i : Instruction) → ((s : ℕ) → i ≡ I.Slot s → ⊥) → IfSlot (instr_of i) P
no_slot P (I.Op o) h = tt
no_slot P (I.Bool b) h = tt
no_slot P (I.Int z) h = tt
no_slot P (I.Float n) h = tt
no_slot P (I.List l) h = tt
no_slot P (I.Slot s) h = absurd (h s refl)
no_slot P I.Void h = tt

-- what follows for an operator
if_op : (i : Instr) {P Q : ℕ → Type 0} → ((o : ℕ) → P o → Q o) → IfOp i P → IfOp i Q
if_op (op o) f h = f o h
if_op (push p) f h = tt

-- the value that is read at a slot's place
pub slot_is : (i : Instr) (slots : List Value) (r : ℕ) → r < length slots → IfSlot i (λ s. r ≡ s) → SlotIs slots (get_or slots r (Is.Bool false)) i
slot_is (op o) slots r h e = tt
slot_is (push (push_bool b)) slots r h e = tt
slot_is (push (push_int z)) slots r h e = tt
slot_is (push (push_float b)) slots r h e = tt
slot_is (push (push_list l)) slots r h e = tt
slot_is (push (push_slot s)) slots r h e = (subst (λ (k : ℕ). k < length slots) e h, ap (λ (k : ℕ). get_or slots k (Is.Bool false)) e)
slot_is (push push_void) slots r h e = tt

pub allowed_slot : (L : ℕ) (i : Instr) → Allowed L i → IfSlot i (λ s. s < slot_limit)
allowed_slot L (op o) a = tt
allowed_slot L (push (push_bool b)) a = tt
allowed_slot L (push (push_int z)) a = tt
allowed_slot L (push (push_float b)) a = tt
allowed_slot L (push (push_list l)) a = tt
allowed_slot L (push (push_slot s)) a = a
allowed_slot L (push push_void) a = tt

-- ---- a value after it is put, and the values below

-- the two slices after entries were put from `at` on
module _ (at : ℕ) (es : List Entry) (wi : List ℕ) (wv : List ℤ) (hi : at + length es ≤ length wi) (hv : at + length es ≤ length wv) where
  fits_items : at + length (items es) ≤ length wi
  fits_items = omega (arith, length_items es)

  fits_values : at + length (values es) ≤ length wv
  fits_values = omega (arith, length_values es)

  long_items : length (fill at (items es) wi) ≡ length wi
  long_items = length_fill at (items es) wi fits_items

  long_values : length (fill at (values es) wv) ≡ length wv
  long_values = length_fill at (values es) wv fits_values

  val_kept : (u : Value) → start_of u + len_of u ≤ at → val_of (fill at (items es) wi) (fill at (values es) wv) u ≡ val_of wi wv u
  val_kept (Is.Bool b) h = refl
  val_kept (Is.Int z) h = refl
  val_kept (Is.Float x) h = refl
  val_kept (Is.List o s n) h =
      ap₂ (λ (is : List ℕ) (vs : List ℤ). list o (entries is vs)) (part_before at (items es) wi fits_items s n h) (part_before at (values es) wv fits_values s n h)
  val_kept Is.Void h = refl

  formed_kept : (F : Format) (u : Value) → start_of u + len_of u ≤ at → Formed F.limit wi wv u → Formed F.limit (fill at (items es) wi) (fill at (values es) wv) u
  formed_kept F u h f =
      record {
        items_in = omega (arith, f.items_in, long_items);
        values_in = omega (arith, f.values_in, long_values);
        lent = rw (part_before at (items es) wi fits_items (start_of u) (len_of u) h, part_before at (values es) wv fits_values (start_of u) (len_of u) h) f.lent;
      }

  entries_back : entries (take (length es) (drop at (fill at (items es) wi))) (take (length es) (drop at (fill at (values es) wv))) ≡ es
  entries_back =
      ap₂ (λ (m n : ℕ). entries (take m (drop at (fill at (items es) wi))) (take n (drop at (fill at (values es) wv)))) (sym (length_items es)) (sym (length_values es))
      ∙ ap₂ entries (part_filled at (items es) wi fits_items) (part_filled at (values es) wv fits_values)
      ∙ entries_of_lem es

formed_none : {L : ℕ} (is : List ℕ) (vs : List ℤ) (v : Value) → start_of v ≡ 0 → len_of v ≡ 0 → Formed L is vs v
formed_none is vs v s n = record { items_in = omega arith; values_in = omega arith; lent = rw (s, n) (record { long = refl; rising = tt }) }

module _ (at : ℕ) (wi : List ℕ) (wv : List ℤ) where
  val_put : (x : Val) → at + length (entries_of x) ≤ length wi → at + length (entries_of x) ≤ length wv
      → val_of (fill at (items (entries_of x)) wi) (fill at (values (entries_of x)) wv) (placed_at at x) ≡ x
  val_put (bool b) hi hv = refl
  val_put (int z) hi hv = refl
  val_put (float x) hi hv = refl
  val_put (list o es) hi hv = ap (list o) (entries_back at es wi wv hi hv)
  val_put void hi hv = refl

  formed_put : (F : Format) (x : Val) → at + length (entries_of x) ≤ length wi → at + length (entries_of x) ≤ length wv → Rising F.limit (entries_of x)
      → Formed F.limit (fill at (items (entries_of x)) wi) (fill at (values (entries_of x)) wv) (placed_at at x)
  formed_put F (bool b) hi hv up = formed_none _ _ (Is.Bool b) refl refl
  formed_put F (int z) hi hv up = formed_none _ _ (Is.Int z) refl refl
  formed_put F (float x) hi hv up = formed_none _ _ (Is.Float x) refl refl
  formed_put F (list o es) hi hv up =
      let a : take (length es) (drop at (fill at (items es) wi)) ≡ items es =
      ap (λ (m : ℕ). take m (drop at (fill at (items es) wi))) (sym (length_items es)) ∙ part_filled at (items es) wi (fits_items at es wi wv hi hv) in
      let b : take (length es) (drop at (fill at (values es) wv)) ≡ values es =
      ap (λ (m : ℕ). take m (drop at (fill at (values es) wv))) (sym (length_values es)) ∙ part_filled at (values es) wv (fits_values at es wi wv hi hv) in
      record {
        items_in = omega (arith, long_items at es wi wv hi hv);
        values_in = omega (arith, long_values at es wi wv hi hv);
        lent = rw (a, b) (record { long = length_items es ∙ sym (length_values es); rising = up });
      }
  formed_put F void hi hv up = formed_none _ _ Is.Void refl refl

placed_ends : (at : ℕ) (x : Val) → start_of (placed_at at x) + len_of (placed_at at x) ≤ at + length (entries_of x)
placed_ends at (bool b) = omega arith
placed_ends at (int z) = omega arith
placed_ends at (float x) = omega arith
placed_ends at (list o es) = omega arith
placed_ends at void = omega arith

placed_long : (at : ℕ) (x : Val) → len_of (placed_at at x) ≡ length (entries_of x)
placed_long at (bool b) = refl
placed_long at (int z) = refl
placed_long at (float x) = refl
placed_long at (list o es) = refl
placed_long at void = refl

-- a list at a place ends before the next
places_apart : (F : Format) (q p : ℕ) → q < p → start_at F q + F.limit ≤ start_at F p
places_apart F q p h =
    let a : suc q * F.limit ≤ p * F.limit = mul-le-mul_right F.limit h in
    omega (arith, a, suc-mul q F.limit)

-- ---- the places that are used

module _ (F : Format) {X : Type 0} (d : X) where
  touched_none : (used : List ℕ) (l : List X) → Touched F d used l l
  touched_none used l = record { long = refl; kept = λ j h. refl }

  outside_less : (at m n j : ℕ) → m ≤ n → Outside at n j → Outside at m j
  outside_less at m n j h (inl k) = inl k
  outside_less at m n j h (inr k) = inr (omega arith)

  touched_more : (used used' : List ℕ) (p n : ℕ) (xs old l : List X) → p < stack_limit → start_at F p + length xs ≤ length l → length xs ≤ n → Longest used used' p n
      → Touched F d used old l → Touched F d used' old (fill (start_at F p) xs l)
  touched_more used used' p n xs old l hp fits hn g t =
      record {
        long = length_fill (start_at F p) xs l fits ∙ t.long;
        kept = λ j h.
            get_d_outside (start_at F p) xs l fits j d (outside_less (start_at F p) (length xs) (get_or used' p 0) j (omega (arith, g.covers)) (h p hp))
            ∙ t.kept j (λ q k. outside_less (start_at F q) (get_or used q 0) (get_or used' q 0) j (g.kept q) (h q k));
      }

module _ (used : List ℕ) (place len : ℕ) where
  pub longest_same : len ≤ get_or used place 0 → Longest used used place len
  longest_same h = record { long = refl; kept = λ q. omega arith; covers = h; few = λ m g k q. g q }

  pub longest_set : place < length used → get_or used place 0 < len → Longest used (set used place len) place len
  longest_set h less = record { long = length-set used place len; kept = λ q. kept q (ℕ_discrete q place); covers = omega (arith, here); few = λ m g k q. few m g k q (ℕ_discrete q place) }
    where
      here : get_or (set used place len) place 0 ≡ len
      here = get_or-set_same used place len 0 h

      kept : (q : ℕ) → Dec (q ≡ place) → get_or used q 0 ≤ get_or (set used place len) q 0
      kept q (yes e) = rw e (omega (arith, here))
      kept q (no ne) = omega (arith, get_or-set_other used place q len 0 ne)

      few : (m : ℕ) → ((q : ℕ) → get_or used q 0 ≤ m) → len ≤ m → (q : ℕ) → Dec (q ≡ place) → get_or (set used place len) q 0 ≤ m
      few m g k q (yes e) = rw e (omega (arith, here))
      few m g k q (no ne) = omega (arith, get_or-set_other used place q len 0 ne, g q)

-- ---- the run

-- the value at place q
abbrev pub value_on : List ℕ → List ℤ → List Value → ℕ → Val
value_on wi wv stack q = val_of wi wv (get_or stack q (Is.Bool false))

pub record Working (F : Format) (p : List ℕ) (s : ℕ) (u : ListDefinitions) (slots : List Val) (wi₀ : List ℕ) (wv₀ : List ℤ) (used wi : List ℕ) (wv : List ℤ) (stack : List Value)
    (n i : ℕ) : Type 0 where
  pub end_same : (run_from (value_pushed (literal_of (decoded F p)) slots) (apply_op u) i (drop i (program p s)) (stack_of (value_on wi wv stack) n)).end
      ≡ (run u (program p s) (literal_of (decoded F p)) slots).end
  pub depth : n ≤ stack_limit
  pub formed : (q : ℕ) → q < n → Formed F.limit wi wv (get_or stack q (Is.Bool false))
  pub ends_in : (q : ℕ) → q < n → start_of (get_or stack q (Is.Bool false)) + len_of (get_or stack q (Is.Bool false)) ≤ start_at F q + F.limit
  pub stack_is : length stack ≡ stack_limit
  pub used_is : length used ≡ stack_limit
  pub few : (q : ℕ) → get_or used q 0 ≤ F.limit
  pub items_touched : Touched F 0 used wi₀ wi
  pub values_touched : Touched F (pos 0) used wv₀ wv

none_used : (q : ℕ) → ◌≡◌ {A = ℕ} (get_or (replicate stack_limit 0) q 0) 0
none_used q =
    ⊎_elim (λ h. get_or-replicate {A = ℕ} stack_limit q 0 0 h)
    (λ h. get_or-eq_default {A = ℕ} (replicate stack_limit 0) 0 {n = q} (omega (arith, length-replicate {A = ℕ} stack_limit 0)))
    (lt_or_le q stack_limit)

pub begin : {F : Format} (p : List ℕ) (s : ℕ) (u : ListDefinitions) (slots : List Val) (wi : List ℕ) (wv : List ℤ) (used : List ℕ) (stack : List Value)
    → length stack ≡ stack_limit → used ≡ replicate stack_limit 0 → Working F p s u slots wi wv used wi wv stack 0 0
begin {F} p s u slots wi wv used stack l e =
    record {
      end_same = refl;
      depth = omega arith;
      formed = λ q k. absurd (omega arith);
      ends_in = λ q k. absurd (omega arith);
      stack_is = l;
      used_is = ap length e ∙ length-replicate {A = ℕ} stack_limit 0;
      few = λ q. rw e (omega (arith, none_used q));
      items_touched = touched_none F 0 used wi;
      values_touched = touched_none F (pos 0) used wv;
    }

module _ {F : Format} {p : List ℕ} {s : ℕ} {u : ListDefinitions} {slots : List Val} {wi₀ : List ℕ} {wv₀ : List ℤ} {used wi : List ℕ} {wv : List ℤ}
    {stack : List Value} {n i : ℕ} (g : Working F p s u slots wi₀ wv₀ used wi wv stack n i) where
  -- an operator's operands, read at their places
  module _ (count : ℕ) (o : Operands) (t : Topmost stack n count o) where
    are : TopOperands wi wv o.first o.second o.third n o.count (value_on wi wv stack)
    are =
        rw t.counted
        (record {
          one = λ l k. ap (val_of wi wv) (sym (t.one l k));
          two = λ l k. ap (val_of wi wv) (sym (t.two l k));
          three = λ l k. ap (val_of wi wv) (sym (t.three l k));
        })

    are_formed : o.count ≤ n → FirstFormed F.limit wi wv o.count o.first o.second o.third
    are_formed =
        rw t.counted
        (λ k.
        record {
          one = λ l. rw (t.one l k) (g.formed (n - count) (omega arith));
          two = λ l. rw (t.two l k) (g.formed (n - count + 1) (omega arith));
          three = λ l. rw (t.three l k) (g.formed (n - count + 2) (omega arith));
        })

    pub operands : (instr : Instr) → IfOp instr (λ m. count ≡ operand_count m)
        → IfOp instr (λ m. TopOperands wi wv o.first o.second o.third n (operand_count m) (value_on wi wv stack))
    operands instr e =
        if_op instr (λ m w. subst (λ (x : ℕ). TopOperands wi wv o.first o.second o.third n x (value_on wi wv stack)) (t.counted ∙ w) are) e

    pub operands_formed : (limit : ℕ) → limit ≡ F.limit → (instr : Instr) → IfOp instr (λ m. count ≡ operand_count m)
        → IfOp instr (λ m. operand_count m ≤ n → FirstFormed limit wi wv (operand_count m) o.first o.second o.third)
    operands_formed limit q instr e =
        if_op instr (λ m w. subst (λ (x : ℕ). x ≤ n → FirstFormed limit wi wv x o.first o.second o.third) (t.counted ∙ w) (rw q are_formed)) e

  pub roomy : Roomy F wi₀ wv₀ → Roomy F wi wv
  roomy r = record { format = r.format; items_room = omega (arith, r.items_room, g.items_touched.long); values_room = omega (arith, r.values_room, g.values_touched.long) }

  -- an instruction that is completed
  module _ (instr : Instr) (below : i < length (program p s)) (kth : get_or (program p s) i (push push_void) ≡ instr) (m : ℕ) (v : Value) (wi' : List ℕ) (wv' : List ℤ) (used' : List ℕ)
      (room : Roomy F wi₀ wv₀)
      (w : Grown F n (step (value_pushed (literal_of (decoded F p)) slots) (apply_op u) instr (stack_of (value_on wi wv stack) n)) (value_on wi wv stack) m v wi wi' wv wv')
      (k : Longest used used' m (len_of v)) where
    few_entries : length (entries_of w.value) ≤ F.limit
    few_entries = rising_length F.limit (entries_of w.value) w.put.rising

    fits_i : start_at F m + length (entries_of w.value) ≤ length wi
    fits_i = omega (arith, place_fits F.limit m (length (entries_of w.value)) w.depth few_entries, (roomy room).items_room)

    fits_v : start_at F m + length (entries_of w.value) ≤ length wv
    fits_v = omega (arith, place_fits F.limit m (length (entries_of w.value)) w.depth few_entries, (roomy room).values_room)

    abbrev stack' : List Value
    stack' = set stack m v

    in_stack : m < length stack
    in_stack = omega (arith, w.depth, g.stack_is)

    here : get_or stack' m (Is.Bool false) ≡ placed_at (start_at F m) w.value
    here = get_or-set_same stack m v (Is.Bool false) in_stack ∙ w.put.value_is

    there : (q : ℕ) → q < m → get_or stack' q (Is.Bool false) ≡ get_or stack q (Is.Bool false)
    there q h = get_or-set_other stack m q v (Is.Bool false) (λ e. omega arith)

    low : (q : ℕ) → q < m → start_of (get_or stack q (Is.Bool false)) + len_of (get_or stack q (Is.Bool false)) ≤ start_at F m
    low q h = omega (arith, g.ends_in q (omega (arith, w.within)), places_apart F q m h)

    top_val : value_on wi' wv' stack' m ≡ w.value
    top_val = ap (val_of wi' wv') here ∙ rw (w.put.items_in, w.put.values_in) (val_put (start_at F m) wi wv w.value fits_i fits_v)

    low_val : (q : ℕ) → q < m → value_on wi' wv' stack' q ≡ value_on wi wv stack q
    low_val q h =
        ap (val_of wi' wv') (there q h)
        ∙ rw (w.put.items_in, w.put.values_in) (val_kept (start_at F m) (entries_of w.value) wi wv fits_i fits_v (get_or stack q (Is.Bool false)) (low q h))

    top_is : stack_of (value_on wi' wv' stack') (m + 1) ≡ w.value ∷ stack_of (value_on wi wv stack) m
    top_is = stack_put (value_on wi wv stack) (value_on wi' wv' stack') m w.value top_val low_val

    top_formed : Formed F.limit wi' wv' (get_or stack' m (Is.Bool false))
    top_formed = rw (here, w.put.items_in, w.put.values_in) (formed_put (start_at F m) wi wv F w.value fits_i fits_v w.put.rising)

    low_formed : (q : ℕ) → q < m → Formed F.limit wi' wv' (get_or stack' q (Is.Bool false))
    low_formed q h =
        rw (there q h, w.put.items_in, w.put.values_in)
        (formed_kept (start_at F m) (entries_of w.value) wi wv fits_i fits_v F (get_or stack q (Is.Bool false)) (low q h) (g.formed q (omega (arith, w.within))))

    all_formed_lem : (q : ℕ) → q < m + 1 → Formed F.limit wi' wv' (get_or stack' q (Is.Bool false))
    all_formed_lem q h = go (ℕ_discrete q m)
      where
        go : Dec (q ≡ m) → Formed F.limit wi' wv' (get_or stack' q (Is.Bool false))
        go (yes e) = subst (λ (y : ℕ). Formed F.limit wi' wv' (get_or stack' y (Is.Bool false))) (sym e) top_formed
        go (no ne) = low_formed q (omega arith)

    all_end : (q : ℕ) → q < m + 1 → start_of (get_or stack' q (Is.Bool false)) + len_of (get_or stack' q (Is.Bool false)) ≤ start_at F q + F.limit
    all_end q h = go (ℕ_discrete q m)
      where
        go : Dec (q ≡ m) → start_of (get_or stack' q (Is.Bool false)) + len_of (get_or stack' q (Is.Bool false)) ≤ start_at F q + F.limit
        go (yes e) =
            subst (λ (y : ℕ). start_of (get_or stack' y (Is.Bool false)) + len_of (get_or stack' y (Is.Bool false)) ≤ start_at F y + F.limit) (sym e)
            (rw here (omega (arith, placed_ends (start_at F m) w.value, few_entries)))
        go (no ne) = rw (there q (omega arith)) (g.ends_in q (omega (arith, w.within)))

    len_is : len_of v ≡ length (entries_of w.value)
    len_is = ap len_of w.put.value_is ∙ placed_long (start_at F m) w.value

    rest_is : run_from (value_pushed (literal_of (decoded F p)) slots) (apply_op u) i (drop i (program p s)) (stack_of (value_on wi wv stack) n)
        ≡ onward i (gives (w.value ∷ stack_of (value_on wi wv stack) m))
        (run_from (value_pushed (literal_of (decoded F p)) slots) (apply_op u) (i + 1) (drop (i + 1) (program p s)))
    rest_is =
        run_more (value_pushed (literal_of (decoded F p)) slots) (apply_op u) (program p s) i (stack_of (value_on wi wv stack) n) _
        below (rw kth w.given)

    pub advance : Working F p s u slots wi₀ wv₀ used' wi' wv' stack' (m + 1) (i + 1)
    advance =
        record {
          end_same =
              ap (λ (st : List Val). (run_from (value_pushed (literal_of (decoded F p)) slots) (apply_op u) (i + 1) (drop (i + 1) (program p s)) st).end) top_is
              ∙ sym (ap (λ (z : Run Val). z.end) rest_is) ∙ g.end_same;
          depth = omega (arith, w.depth);
          formed = all_formed_lem;
          ends_in = all_end;
          stack_is = length-set stack m v ∙ g.stack_is;
          used_is = k.long ∙ g.used_is;
          few = k.few F.limit g.few (omega (arith, len_is, few_entries));
          items_touched =
              rw w.put.items_in
              (touched_more F 0 used used' m (len_of v) (items (entries_of w.value)) wi₀ wi w.depth (omega (arith, fits_i, length_items (entries_of w.value)))
              (omega (arith, len_is, length_items (entries_of w.value))) k g.items_touched);
          values_touched =
              rw w.put.values_in
              (touched_more F (pos 0) used used' m (len_of v) (values (entries_of w.value)) wv₀ wv w.depth (omega (arith, fits_v, length_values (entries_of w.value)))
              (omega (arith, len_is, length_values (entries_of w.value))) k g.values_touched);
        }

  -- an instruction that is refused
  pub refused : (instr : Instr) → i < length (program p s) → get_or (program p s) i (push push_void) ≡ instr → (q : ℕ)
      → step (value_pushed (literal_of (decoded F p)) slots) (apply_op u) instr (stack_of (value_on wi wv stack) n) ≡ refuses q
      → stopped q i ≡ (run u (program p s) (literal_of (decoded F p)) slots).end
  refused instr below kth q e =
      sym (run_stop (value_pushed (literal_of (decoded F p)) slots) (apply_op u) (program p s) i q (stack_of (value_on wi wv stack) n)
      below (rw kth e))
      ∙ g.end_same

  -- after the last
  end_is : drop i (program p s) ≡ [] → (run u (program p s) (literal_of (decoded F p)) slots).end ≡ finish i (stack_of (value_on wi wv stack) n)
  end_is h =
      sym g.end_same
      ∙ ap (λ (z : Run Val). z.end)
      (run_done (value_pushed (literal_of (decoded F p)) slots) (apply_op u) (program p s) i (stack_of (value_on wi wv stack) n) h)

  pub one_left : drop i (program p s) ≡ [] → n ≡ 1 → ended (value_on wi wv stack 0) ≡ (run u (program p s) (literal_of (decoded F p)) slots).end
  one_left h e = sym (end_is h ∙ ap (λ (m : ℕ). finish i (stack_of (value_on wi wv stack) m)) e)

  finish_not_one : (m : ℕ) → (m ≡ 1 → ⊥) → finish i (stack_of (value_on wi wv stack) m) ≡ stopped 17 i
  finish_not_one zero h = refl
  finish_not_one (suc zero) h = absurd (h refl)
  finish_not_one (suc (suc m)) h = refl

  pub not_one : drop i (program p s) ≡ [] → (n ≡ 1 → ⊥) → stopped 17 i ≡ (run u (program p s) (literal_of (decoded F p)) slots).end
  not_one h e = sym (end_is h ∙ finish_not_one n e)
