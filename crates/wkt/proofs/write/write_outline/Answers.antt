-- `write_outline` meets its contract: the word, and the area of all points.
use Rattle.std.proofs.Common.{rules}
use Rattle.grid.specs.Listed.{listed}
use Rattle.decimals.proofs.Texts.{partly_fits, partly_more, partly_room, partly_end, wrote_at_last}
use Rattle.wkt.proofs.WriteEntry.{all_points, polygon_parts}
use Rattle.wkt.proofs.write.write_outline.Goals as goal

pub push_word-requires : goal.push_word-requires
push_word-requires c = partly_fits _ _ (polygon_parts (listed c.args.points.now) c.requires.room.fits)

pub write_area-requires-clause-known : goal.write_area-requires-clause-known
write_area-requires-clause-known c = (all_points (listed c.args.points.now) _ _ c.count.ensures c.requires.at_most c.numbers-all.ensures).known

pub write_area-requires-clause-room : goal.write_area-requires-clause-room
write_area-requires-clause-room c =
    rw (all_points (listed c.args.points.now) _ _ c.count.ensures c.requires.at_most c.numbers-all.ensures).corners
    (partly_room (partly_more _ _ (polygon_parts (listed c.args.points.now) c.requires.room.fits) c.push_word.ensures))

pub returns : goal.returns
returns c =
    let area = rw (all_points (listed c.args.points.now) _ _ c.count.ensures c.requires.at_most c.numbers-all.ensures).corners at c.write_area.ensures in
    wrote_at_last (partly_end (partly_more _ _ (polygon_parts (listed c.args.points.now) c.requires.room.fits) c.push_word.ensures) area).wrote (search rules)
