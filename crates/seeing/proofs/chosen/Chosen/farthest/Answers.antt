use mathlib.Core.Path.{refl}
use Rattle.seeing.proofs.Exact.{normal_directed, far_is}
use Rattle.seeing.proofs.Scans.{best-first, best_farther, best-stays, best-last}
use Rattle.seeing.proofs.chosen.Chosen.farthest.Goals as goal
use Rattle.seeing.proofs.chosen.Chosen.farthest.Goals.{then-most-far, else-most-far}

pub loop-i-init : goal.loop-i-init
loop-i-init c =
    let d = normal_directed c.args.facet.from c.args.facet.to c.normal-n.result c.normal-n.ensures.x c.normal-n.ensures.y refl refl in
    best-first _ _ _ c.requires c.from-best.ensures (far_is d c.at.result c.vector.ensures.x c.vector.ensures.y c.at.ensures c.dot-most.ensures)

pub loop-i-preserved : goal.loop-i-preserved
loop-i-preserved c =
    let d = normal_directed c.args.facet.from c.args.facet.to c.normal-n.result c.normal-n.ensures.x c.normal-n.ensures.y refl refl in
    let is = far_is d c.at-in-loop-i.result c.vector-in-loop-i.ensures.x c.vector-in-loop-i.ensures.y c.at-in-loop-i.ensures c.dot-far.ensures in
    elim c.if-most-far.branch [
      | then-most-far w ↦ rw (w.best-is, w.most-is) (best_farther _ _ _ c.loop-i.invariant c.loop-i-test.true c.from-j.ensures is w.if-most-far.true)
      | else-most-far w ↦ rw (w.best-is, w.most-is) (best-stays _ _ _ c.loop-i.invariant c.loop-i-test.true c.from-j.ensures is w.if-most-far.false)
    ]

pub returns : goal.returns
returns c = best-last _ _ _ c.loop-i.invariant c.loop-i-test.false
