-- Every case of the table on logs holds: all of it computes.
use mathlib.Core.Path.{refl}
use lib.Ieee as Ieee
use Rattle.algebra.specs.Lists.{Each, end, ◌&◌}
use Rattle.rules.specs.Grid.{points_of}
use Rattle.rules.specs.Border.{position, convex_position}
use Rattle.rules.specs.Entries.{asking}
use Rattle.rules.specs.Stream.{lines_of, lines_read}
use Rattle.rules.specs.Playback.{event_line, replies, written}
use Rattle.rules.specs.PlaybackCases.{LogHolds, log_table}

pub log_cases_hold : Each LogHolds log_table
unfolding event_line lines_of lines_read replies written asking position convex_position points_of Ieee.of_int
log_cases_hold = refl & refl & refl & refl & refl & refl & refl & refl & refl & refl & refl & refl & refl & refl & refl & refl & end
