use mathlib.Core.Path.{◌≡◌}
use lib.ListN.{length, take}
use Rattle.algebra.specs.Lists.{count_from}
use Rattle.seeing.proofs.row.Row.counted.Given as goal

abbrev pub invariant-loop-i : goal.invariant-loop-i
invariant-loop-i l = (length l.places ≡ 513) × (take l.i l.places ≡ count_from 0 l.i)
