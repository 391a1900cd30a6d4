-- `push_number` meets its contract: a minus if the value is below zero, then its size.
use Rattle.decimals.proofs.Floats.{size_below, size_above}
use Rattle.decimals.proofs.Texts.{partly_byte, partly_more, partly_room, partly_end}
use Rattle.decimals.proofs.NumberTexts.{minus_first, digits_only}
use Rattle.decimals.proofs.write.Text.push_number.Goals as goal

pub push-requires : goal.push-requires
push-requires c = partly_byte (minus_first _ c.requires.on_grid c.requires.room c.if-x.true)

pub float_to_int-x : goal.float_to_int-x
float_to_int-x c = (size_below _ c.requires.on_grid c.if-x.true).0

pub push_natural-requires : goal.push_natural-requires
push_natural-requires c = partly_room (partly_more _ _ (minus_first _ c.requires.on_grid c.requires.room c.if-x.true) c.push.ensures)

pub returns-then-x : goal.returns-then-x
returns-then-x c = partly_end (partly_more _ _ (minus_first _ c.requires.on_grid c.requires.room c.if-x.true) c.push.ensures) c.push_natural.ensures

pub float_to_int-x-2 : goal.float_to_int-x-2
float_to_int-x-2 c = (size_above _ c.requires.on_grid c.if-x.false).0

pub push_natural-requires-2 : goal.push_natural-requires-2
push_natural-requires-2 c = partly_room (digits_only _ c.requires.on_grid c.requires.room c.if-x.false)

pub returns : goal.returns
returns c = partly_end (digits_only _ c.requires.on_grid c.requires.room c.if-x.false) c.push_natural-2.ensures
