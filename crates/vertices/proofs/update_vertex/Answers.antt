-- `update_vertex` meets its contract.
use mathlib.Core.Path.{refl}
use Rattle.grid.specs.Points.{pt_of}
use Rattle.grid.specs.Listed.{listed}
use Rattle.vertices.proofs.IsEar.{left_is, left_so, blocked_is, no-left, is_blocked, is_pointed}
use Rattle.vertices.proofs.update_vertex.Goals as goal

pub returns-then-not-is_ccw : goal.returns-then-not-is_ccw
returns-then-not-is_ccw c =
    no-left _ _ (left_is (listed c.args.outline.now.points.now) (record { before = c.args.prev; at = c.args.i; after = c.args.next }) _ _ _ c.at-p1.ensures c.at-p.ensures c.at-p3.ensures _ c.corner_direction.ensures _ c.if-not-is_ccw.ensures)

pub blocked-requires : goal.blocked-requires
blocked-requires c = left_so (pt_of c.at-p1.result) (pt_of c.at-p.result) (pt_of c.at-p3.result) _ c.corner_direction.ensures _ c.if-not-is_ccw.ensures refl

pub returns-then-blocked : goal.returns-then-blocked
returns-then-blocked c =
    is_blocked _ _ (left_is (listed c.args.outline.now.points.now) (record { before = c.args.prev; at = c.args.i; after = c.args.next }) _ _ _ c.at-p1.ensures c.at-p.ensures c.at-p3.ensures _ c.corner_direction.ensures _ c.if-not-is_ccw.ensures)
    (blocked_is (listed c.args.outline.now.points.now) (record { before = c.args.prev; at = c.args.i; after = c.args.next }) _ _ _ c.at-p1.ensures c.at-p.ensures c.at-p3.ensures _ c.if-blocked.ensures)

pub returns : goal.returns
returns c =
    is_pointed _ _ (left_is (listed c.args.outline.now.points.now) (record { before = c.args.prev; at = c.args.i; after = c.args.next }) _ _ _ c.at-p1.ensures c.at-p.ensures c.at-p3.ensures _ c.corner_direction.ensures _ c.if-not-is_ccw.ensures)
    (blocked_is (listed c.args.outline.now.points.now) (record { before = c.args.prev; at = c.args.i; after = c.args.next }) _ _ _ c.at-p1.ensures c.at-p.ensures c.at-p3.ensures _ c.if-blocked.ensures) _ _ _ c.at-p1.ensures c.at-p.ensures c.at-p3.ensures c.pointiness.ensures
