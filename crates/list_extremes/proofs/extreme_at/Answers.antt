-- `list_extremes::extreme_at` meets its contract: of the values before place i the first extreme one is at `best`. Assumes nothing.
use Rattle.std.proofs.Common.{sym, ◌∙◌, rules}
use Rattle.ink_list.proofs.TestLaws.{beats_back, best_first, best_here, best_still, best_of_all}
use Rattle.list_extremes.proofs.extreme_at.Goals.{then-beats, else-beats}
use Rattle.list_extremes.proofs.extreme_at.Goals as goal

pub loop-i-init : goal.loop-i-init
loop-i-init c = best_first c.args.least c.args.vs.now c.requires

pub loop-i-preserved : goal.loop-i-preserved
loop-i-preserved c =
    let l = c.loop-i in
    let h = l.invariant in
    let i = c.loop-i-test.true in
    let b = beats_back c.args.least _ _ (search rules) (search rules) c.beats.ensures in
    elim c.if-beats.branch [
      | then-beats w ↦ rw w.best-is (best_here h i (sym b ∙ w.if-beats.true))
      | else-beats w ↦ rw w.best-is (best_still h i (sym b ∙ w.if-beats.false))
    ]

pub returns : goal.returns
returns c = best_of_all c.loop-i.invariant c.loop-i-test.false
