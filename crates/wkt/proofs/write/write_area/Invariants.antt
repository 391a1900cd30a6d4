-- `write_area` meets its contract. The invariant: the corners from number i on, and the first, are still to be written.
use Rattle.rules.specs.Measure.{points}
use Rattle.rules.specs.Text.{area_text}
use Rattle.grid.specs.Listed.{listed}
use Rattle.decimals.proofs.Texts.{Partly}
use Rattle.wkt.proofs.Rings.{corners_from}
use Rattle.wkt.proofs.write.write_area.Given as goal

abbrev pub invariant-loop-i : goal.invariant-loop-i
invariant-loop-i l = Partly l.fn.text l.text (area_text (points (listed l.points) l.ring)) (corners_from (listed l.points) l.ring l.i-index)
