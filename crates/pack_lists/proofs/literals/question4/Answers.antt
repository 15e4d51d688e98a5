-- `pack_lists::literals::question4` meets its contract: every literal answered yes, or one answered no. Assumes nothing.
use Rattle.std.proofs.Common.{rules, tests, ◌≡◌, ℕ, true, false, refl, arith}
use Rattle.std.proofs.lemmas.Iterator.{cases_from_all, YieldsList-from_range}
use Rattle.slices.proofs.Ranged.{every_ranged}
use Rattle.pack.specs.Bodies.{literal_ok}
use Rattle.pack.specs.Contents.{literal_body, literal_count}
use Rattle.pack.specs.Judge as J
use Rattle.pack_lists.proofs.literals.question4.Goals as goal

pub returns : goal.returns
unfolding J.question4
returns c =
    let p = c.args.pack.bytes.now in
    let t = λ (k : ℕ). literal_ok c.args.format p (literal_body p k) in
    every_ranged t _ c.all.result
    (cases_from_all _ _ c.all.result (λ k. t k ≡ true) (λ k. t k ≡ false) c.all.ensures.ran (YieldsList-from_range 0 c.byte_at.result (literal_count p) refl (omega (arith, c.byte_at.ensures.0)))
    (λ x q k. search (rules, tests)) (λ x q k. search (rules, tests)))
