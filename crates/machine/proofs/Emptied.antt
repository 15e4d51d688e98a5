-- A slot's List that a sheet empties can be inverted: the handbook's example, as a whole run. Assumes nothing.
use mathlib.Core.Path.{◌≡◌}
use mathlib.Core.Bool.{Bool}
use mathlib.Core.List.{List, [], ◌∷◌}
use Prim.Native.Nat.{ℕ}
use lib.ListN.{get_or}
use Rattle.op.specs.Op.{op_subtract, op_invert}
use Rattle.ink_number.specs.Answer.{gives}
use Rattle.ink_list.specs.Entries.{Entry, items}
use Rattle.list_definitions.specs.Defs.{ListDefinitions, origins_of, all}
use Rattle.ink_value.specs.Val.{Val, list, void}
use Rattle.operator_kinds.specs.Kinds.{known, unary, arity}
use Rattle.native_function_call.proofs.Emptied.{subtract_self, inverts_none}
use Rattle.pack.specs.Bodies.{Literal, Pack}
use Rattle.pack.specs.Read.{defined_of, ends_of, definitions_of, literal_of, sheet_of}
use Rattle.pack.specs.declared.format.Format.{Format}
use Rattle.pack.specs.Instruction.{push_slot, Instr, op, push}
use Rattle.machine.specs.Machine.{ended, step, run_from, run}
use Rattle.machine.specs.Whole.{opened, sheet_run}

-- slot k less itself, inverted
abbrev pub emptied_inverted : ℕ → List Instr
emptied_inverted k = push (push_slot k) ∷ push (push_slot k) ∷ op op_subtract ∷ op op_invert ∷ []

-- it ends in all items of the definitions in the slot's origin set, whatever the slot's entries are
pub emptied_inverts : (u : ListDefinitions) (literals : ℕ → Literal) (slots : List Val) (k p : ℕ) (a : List Entry) → get_or slots k void ≡ list p a
    → (run u (emptied_inverted k) literals slots).end
    ≡ ended (list (origins_of u.ends (items (all u.ends u.defined p))) (all u.ends u.defined p))
unfolding run_from step known unary arity
emptied_inverts u literals slots k p a e = rw (e, subtract_self u p a, inverts_none u p a)

-- the same of a call: the run of such a sheet, of any pack that is opened
pub emptied_call : (F : Format) (p : List ℕ) (s : ℕ) (memory : Pack → Bool) (slots : List Val) (d : Pack) (k q : ℕ) (a : List Entry)
    → opened F p s memory ≡ gives d → sheet_of d s ≡ emptied_inverted k → get_or slots k void ≡ list q a
    → (sheet_run F p s memory slots).end ≡ ended (list (origins_of (ends_of d) (items (all (ends_of d) (defined_of d) q))) (all (ends_of d) (defined_of d) q))
emptied_call F p s memory slots d k q a o e h = rw (o, e) (emptied_inverts (definitions_of d F) (literal_of d) slots k q a h)
