use Prim.Native.Nat.{ℕ, ◌<◌}
use native.Mathlib.Omega.{arith}
use mathlib.Core.Path.{refl, ◌∙◌, ap}
use lib.ListN.{length, length-set}
use lib.Ieee.{lt}
use Rattle.rules.specs.Plane.{right, point}
use Rattle.grid.specs.Listed.{listed}
use Rattle.grid.specs.Points.{pt_of}
use Rattle.seeing.proofs.Exact.{facing, far_is, sees_is}
use Rattle.seeing.proofs.Scans.{one_at-most, kept_none, kept_fits, kept_more, kept_all}
use Rattle.seeing.proofs.row.Row.push_seeing.Goals as goal

pub loop-i-init : goal.loop-i-init
loop-i-init c = (c.self.told, kept_none _ _ _ _ _ _ _ (omega (arith, c.self.told, c.self.invariant)) c.self.view_is)

pub offset_bounds-self-inside-end : goal.offset_bounds-self-inside-end
offset_bounds-self-inside-end c = omega (arith, kept_fits _ _ _ _ _ c.loop-i.invariant.1, c.requires)

pub bounds-self-inside-end : goal.bounds-self-inside-end
bounds-self-inside-end c = omega (arith, kept_fits _ _ _ _ _ c.loop-i.invariant.1, c.requires)

pub overflow_add-end : goal.overflow_add-end
overflow_add-end c = omega (arith, kept_fits _ _ _ _ _ c.loop-i.invariant.1, c.requires, one_at-most (lt c.dot-limit.result c.dot.result), c.from-end.ensures)

pub loop-i-preserved : goal.loop-i-preserved
loop-i-preserved c =
    let room : c.loop-i.end < length c.loop-i.self-inside.places = omega (arith, c.loop-i.invariant.0, kept_fits _ _ _ _ _ c.loop-i.invariant.1, c.requires) in
    let face = facing c.args.facet.from c.args.facet.to c.normal-n.result c.normal-n.ensures.x c.normal-n.ensures.y c.vector.ensures.x c.vector.ensures.y c.dot-limit.ensures refl refl in
    let far = far_is face.directed c.at.result c.vector-in-loop-i.ensures.x c.vector-in-loop-i.ensures.y c.at.ensures c.dot.ensures in (
      simp length-set c.loop-i.invariant.0,
      kept_more _ _ _ _ _ c.loop-i.invariant.1 c.loop-i-test.true room _ (sees_is (pt_of c.args.facet.from) (pt_of c.args.facet.to) (point (listed c.args.chosen.now.points) c.from.result) face.limited far ∙ ap (λ (j : ℕ). right (pt_of c.args.facet.from) (pt_of c.args.facet.to) (point (listed c.args.chosen.now.points) j)) c.from.ensures) _ c.from-end.ensures,
    )

pub invariant_of-self : goal.invariant_of-self
invariant_of-self c = omega (arith, kept_fits _ _ _ _ _ c.loop-i.invariant.1, c.requires)

pub returns : goal.returns
returns c = kept_all _ _ _ _ _ c.loop-i.invariant.1 c.loop-i-test.false
