use Rattle.algebra.proofs.Lists.{each_at}
use Rattle.grid.specs.Listed.{listed}
use Rattle.decimals.proofs.Texts.{partly_fits, partly_more, partly_room, partly_end}
use Rattle.wkt.proofs.Rings.{area_first, corner_left, first_left}
use Rattle.wkt.proofs.write.write_area.Goals as goal

pub push_word-requires : goal.push_word-requires
push_word-requires c = partly_fits _ _ (area_first (listed c.args.points.now) c.args.ring.now c.requires.some c.requires.room)

pub loop-i-init : goal.loop-i-init
loop-i-init c = partly_more _ _ (area_first (listed c.args.points.now) c.args.ring.now c.requires.some c.requires.room) c.push_word.ensures

pub at-requires : goal.at-requires
at-requires c = each_at 0 c.args.ring.now c.loop-i.i-index c.loop-i-test.true c.requires.known

pub write_point-requires : goal.write_point-requires
write_point-requires c = rw c.at.ensures (partly_fits _ _ (corner_left (listed c.args.points.now) c.args.ring.now _ c.loop-i.invariant c.loop-i-test.true))

pub push_word-requires-in-loop-i : goal.push_word-requires-in-loop-i
push_word-requires-in-loop-i c =
    partly_fits _ _ (partly_more _ _ (corner_left (listed c.args.points.now) c.args.ring.now _ c.loop-i.invariant c.loop-i-test.true) (rw c.at.ensures at c.write_point.ensures))

pub loop-i-preserved : goal.loop-i-preserved
loop-i-preserved c =
    partly_more _ _ (partly_more _ _ (corner_left (listed c.args.points.now) c.args.ring.now _ c.loop-i.invariant c.loop-i-test.true) (rw c.at.ensures at c.write_point.ensures))
    c.push_word-in-loop-i.ensures

pub write_point-requires-2 : goal.write_point-requires-2
write_point-requires-2 c = rw c.at-2.ensures (partly_fits _ _ (first_left (listed c.args.points.now) c.args.ring.now _ c.loop-i.invariant c.loop-i-test.false))

pub push_word-requires-2 : goal.push_word-requires-2
push_word-requires-2 c =
    partly_room (partly_more _ _ (first_left (listed c.args.points.now) c.args.ring.now _ c.loop-i.invariant c.loop-i-test.false) (rw c.at-2.ensures at c.write_point-2.ensures))

pub returns : goal.returns
returns c =
    partly_end (partly_more _ _ (first_left (listed c.args.points.now) c.args.ring.now _ c.loop-i.invariant c.loop-i-test.false) (rw c.at-2.ensures at c.write_point-2.ensures))
    c.push_word-2.ensures
