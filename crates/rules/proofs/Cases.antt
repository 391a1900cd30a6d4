-- Every case of the table holds: all of it computes.
use mathlib.Core.Path.{refl}
use lib.Ieee as Ieee
use Rattle.algebra.specs.Lists.{Each, end, ◌&◌}
use Rattle.rules.specs.Grid.{points_of}
use Rattle.rules.specs.Crossing.{odd_crossings}
use Rattle.rules.specs.Border.{position, convex_position}
use Rattle.rules.specs.Measure.{area2}
use Rattle.rules.specs.Root.{root}
use Rattle.rules.specs.Entries.{cutter, merger, asking, huller}
use Rattle.rules.specs.Cases.{Holds, table}

pub cases_hold : Each Holds table
unfolding cutter merger asking huller odd_crossings position convex_position root area2 points_of Ieee.of_int
cases_hold =
    refl & refl & refl & refl & refl & refl & refl & refl & refl & refl & refl & refl & refl & refl & refl & refl & refl & refl & refl & refl
    & refl & refl & refl & refl & refl & refl & refl & refl & refl & refl & refl & refl & refl & refl & refl & refl & refl & refl & refl & refl
    & refl & refl & refl & refl & refl & refl & refl & refl & refl & refl & refl & refl & refl & refl & refl & refl & refl & refl & refl & refl
    & refl & refl & refl & refl & refl & refl & refl & refl & refl & refl & refl & refl & refl & refl & refl & refl & refl & refl & refl & refl
    & refl & refl & refl & refl & refl & refl & refl & refl & refl & refl & refl & refl & refl & refl & refl & refl & refl & refl & refl & refl
    & refl & refl & refl & refl & refl & refl & refl & refl & refl & refl & refl & refl & refl & refl & refl & refl & refl & refl & refl & refl
    & refl & refl & refl & refl & refl & refl & refl & refl & refl & refl & refl & refl & refl & refl & refl & refl & refl & refl & refl & refl
    & refl & refl & refl & refl & refl & refl & refl & refl & refl & refl & refl & refl & refl & refl & refl & refl & refl & refl & refl & refl
    & refl & refl & refl & refl & refl & refl & refl & refl & refl & refl & refl & refl & refl & refl & refl & refl & refl & refl & refl & refl
    & refl & refl & refl & refl & end
