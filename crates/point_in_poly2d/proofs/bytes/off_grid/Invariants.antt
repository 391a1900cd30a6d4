-- All are off the grid where a word before i is, or a word from i on.
use Rattle.point_in_poly2d.proofs.Words.{Checked}
use Rattle.point_in_poly2d.proofs.bytes.off_grid.Given as goal

abbrev pub invariant-loop-i : goal.invariant-loop-i
invariant-loop-i l = Checked l.bytes l.i l.off
