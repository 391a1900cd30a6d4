-- `write_point` meets its contract: two numbers with a space between them.
use Rattle.decimals.proofs.Texts.{partly_byte, partly_fits, partly_more, partly_room, partly_end}
use Rattle.wkt.proofs.Rings.{point_first}
use Rattle.wkt.proofs.write.write_point.Goals as goal

pub push_number-requires-clause-room : goal.push_number-requires-clause-room
push_number-requires-clause-room c = partly_fits _ _ (point_first _ c.requires)

pub push-requires : goal.push-requires
push-requires c = partly_byte (partly_more _ _ (point_first _ c.requires) c.push_number.ensures)

pub push_number-requires-2-clause-room : goal.push_number-requires-2-clause-room
push_number-requires-2-clause-room c = partly_room (partly_more _ _ (partly_more _ _ (point_first _ c.requires) c.push_number.ensures) c.push.ensures)

pub returns : goal.returns
returns c = partly_end (partly_more _ _ (partly_more _ _ (point_first _ c.requires) c.push_number.ensures) c.push.ensures) c.push_number-2.ensures
