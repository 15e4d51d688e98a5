-- For callers: what an answer of the judge, or of `check`, tells of a pack. Assumes nothing.
use Prim.Native.Nat.{ℕ}
use mathlib.Core.Bool.{Bool, true, false}
use mathlib.Core.List.{List}
use mathlib.Core.Path.{◌≡◌, refl, sym}
use native.Mathlib.Omega.{arith}
use Rattle.ink_number.specs.Answer.{Answer, gives, ask}
use Rattle.pack.specs.Bodies.{Pack, decoded}
use Rattle.pack.specs.Judge.{judge, question1, question2, question3, question4, question5, Sound}
use Rattle.pack.specs.declared.format.Format.{Format}
use Rattle.pack.proofs.Laid.{framed}

asked : (n : ℕ) (b : Bool) (v : Answer Pack) (d : Pack) → ask n b v ≡ gives d → (b ≡ true) × (v ≡ gives d)
asked n true v d e = (refl, e)
asked n false v d e = absurd (let z : ◌≡◌ {A = ℕ} 0 1 = cc in omega arith)

module _ (F : Format) (p : List ℕ) where
  -- the judge gave a pack: all five questions said yes, and it is the decoded one
  pub judged : (d : Pack) → judge F p ≡ gives d → Sound F p × (d ≡ decoded F p)
  unfolding judge
  judged d e =
      let a = asked 1 (question1 F p) _ d e in
      let b = asked 2 (question2 p) _ d a.1 in
      let c = asked 3 (question3 F p) _ d b.1 in
      let f = asked 4 (question4 F p) _ d c.1 in
      let g = asked 5 (question5 p) _ d f.1 in (
        record { contents = record { frame = framed F p a.0; two = b.0 }; three = c.0; four = f.0; five = g.0 },
        (let h : gives (decoded F p) ≡ gives d = g.1 in cc),
      )

  -- `check` passed the pack
  pub passed : gives (decoded F p) ≡ judge F p → Sound F p
  passed e = (judged (decoded F p) (sym e)).0
