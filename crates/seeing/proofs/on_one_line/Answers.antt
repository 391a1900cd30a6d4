use native.Mathlib.Omega.{arith}
use mathlib.Core.Path.{sym}
use borrow.Author.Count.{below_more}
use Rattle.rules.specs.Plane.{point}
use Rattle.rules.specs.Hull.{rightward, leftward}
use Rattle.hulls.proofs.Farthest.{support_in}
use Rattle.hulls.proofs.Straight.{off_line_one}
use Rattle.hulls.proofs.Ends.{straight-all}
use Rattle.grid.specs.Listed.{listed}
use Rattle.seeing.proofs.Exact.{facing, far_is, straight_is, off_is}
use Rattle.seeing.proofs.on_one_line.Goals as goal

pub at-requires : goal.at-requires
at-requires c = rw c.requires.ends.0 (support_in _ c.requires.some rightward)

pub at-requires-2 : goal.at-requires-2
at-requires-2 c = rw c.requires.ends.1 (support_in _ c.requires.some leftward)

pub returns-then-dot-limit : goal.returns-then-dot-limit
returns-then-dot-limit c =
    let face = facing c.at.result c.at-2.result c.normal-n.result c.normal-n.ensures.x c.normal-n.ensures.y c.vector.ensures.x c.vector.ensures.y c.dot-limit.ensures c.at.ensures c.at-2.ensures in
    let far = far_is face.directed c.at-in-loop-i.result c.vector-in-loop-i.ensures.x c.vector-in-loop-i.ensures.y c.at-in-loop-i.ensures c.dot.ensures in
    let ps = listed c.args.points.now in
    sym (off_line_one ps c.args.right c.args.left c.loop-i.i
    (rw c.requires.ends.0 (support_in _ c.requires.some rightward))
    (rw c.requires.ends.1 (support_in _ c.requires.some leftward))
    (omega (arith, c.count-i-end.ensures, c.loop-i-test.true))
    (off_is (point ps c.args.right) (point ps c.args.left) (point ps c.loop-i.i) face.limited far c.if-dot-limit.true))

pub loop-i-preserved : goal.loop-i-preserved
loop-i-preserved c =
    let face = facing c.at.result c.at-2.result c.normal-n.result c.normal-n.ensures.x c.normal-n.ensures.y c.vector.ensures.x c.vector.ensures.y c.dot-limit.ensures c.at.ensures c.at-2.ensures in
    let far = far_is face.directed c.at-in-loop-i.result c.vector-in-loop-i.ensures.x c.vector-in-loop-i.ensures.y c.at-in-loop-i.ensures c.dot.ensures in
    let ps = listed c.args.points.now in
    below_more _ _ c.loop-i.invariant (straight_is (point ps c.args.right) (point ps c.args.left) (point ps c.loop-i.i) face.limited far c.if-dot-limit.false)

pub returns : goal.returns
returns c =
    let ps = listed c.args.points.now in
    sym (straight-all ps c.requires.some (λ i h. rw (← c.requires.ends.0, ← c.requires.ends.1) (c.loop-i.invariant i (omega (arith, c.count-i-end.ensures, c.loop-i-test.false, h)))))
