use native.Mathlib.Omega.{arith}
use mathlib.Core.Path.{refl, ap, ◌∙◌}
use Rattle.grid.specs.Listed.{listed}
use Rattle.blocking.specs.declared.outline.Outline.{Outline}
use Rattle.vertices.proofs.Corners.{proper}
use Rattle.ear_clipping.proofs.Clips.{inv_first, stuck_here, put_here, clip_active, clip_two, stands_in, inv_more, put_last, answer}
use Rattle.ear_clipping.proofs.cut_outline.Goals as goal

pub start-requires : goal.start-requires
start-requires c = record {
  three = rw c.new-vertices.ensures.outline c.requires.at_least;
  room = c.new-vertices.ensures.room;
}

pub loop-k-init : goal.loop-k-init
loop-k-init c =
    inv_first _ c.start.new.self c.requires.at_least (ap (λ (o : Outline). listed o.points.now) (c.start.ensures.outline ∙ c.new-vertices.ensures.outline)) c.start.ensures.stands
    (rw c.new-vertices.ensures.outline at c.start.ensures.ring)

pub returns-in_default : goal.returns-in_default
returns-in_default c =
    stuck_here _ (proper _ c.args.outline.now.points.now.on_grid) _ _ _ c.loop-k.invariant c.args.outline.now.outlined.small (omega (arith, c.loop-k-test.true, c.count-n.ensures)) c.in_default.ensures _

pub put-requires : goal.put-requires
put-requires c =
    let p = put_here _ (proper _ c.args.outline.now.points.now.on_grid) _ _ _ c.loop-k.invariant c.args.outline.now.outlined.small (omega (arith, c.loop-k-test.true, c.count-n.ensures)) _ c.in-Some.ensures in
    (p.0, omega (arith, p.1))

pub clip-requires : goal.clip-requires
clip-requires c = record {
  active = clip_active _ (proper _ c.args.outline.now.points.now.on_grid) _ _ _ c.loop-k.invariant c.args.outline.now.outlined.small (omega (arith, c.loop-k-test.true, c.count-n.ensures)) _ c.in-Some.ensures;
  two = clip_two _ (proper _ c.args.outline.now.points.now.on_grid) _ _ _ c.loop-k.invariant c.args.outline.now.outlined.small (omega (arith, c.loop-k-test.true, c.count-n.ensures)) _ c.in-Some.ensures;
  stands = stands_in _ (proper _ c.args.outline.now.points.now.on_grid) _ _ _ c.loop-k.invariant c.args.outline.now.outlined.small;
}

pub loop-k-preserved : goal.loop-k-preserved
loop-k-preserved c =
    inv_more _ (proper _ c.args.outline.now.points.now.on_grid) _ _ _ c.loop-k.invariant c.args.outline.now.outlined.small (omega (arith, c.loop-k-test.true, c.count-n.ensures)) _ c.in-Some.ensures _ _ c.put.ensures c.clip.ensures.stands
    c.clip.ensures.outline c.clip.ensures.ring

pub put-requires-2 : goal.put-requires-2
put-requires-2 c =
    rw c.count-n.ensures (put_last _ (proper _ c.args.outline.now.points.now.on_grid) _ _ _ c.loop-k.invariant c.args.outline.now.outlined.small (omega (arith, c.loop-k-test.false, c.count-n.ensures)) _ c.lowest-last.ensures)

pub returns : goal.returns
returns c =
    rw (c.copy_from_slice.ensures.after, c.count-n.ensures)
    (answer _ (proper _ c.args.outline.now.points.now.on_grid) _ _ _ c.loop-k.invariant c.args.outline.now.outlined.small (omega (arith, c.loop-k-test.false, c.count-n.ensures)) _ c.lowest-last.ensures _ _ _ (rw c.count-n.ensures at c.put-2.ensures) refl)
