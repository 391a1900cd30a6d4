-- `numbers` meets its contract. The invariant: the first i are the numbers from 0 on.
use Rattle.std.proofs.Common.{◌≡◌, length, take}
use Rattle.algebra.specs.Lists.{count_from}
use Rattle.rules.specs.Limits.{most_points}
use Rattle.wkt.proofs.write.numbers.Given as goal

abbrev pub invariant-loop-i : goal.invariant-loop-i
invariant-loop-i l = record { size : length l.all ≡ most_points; first : take l.i l.all ≡ count_from 0 l.i }
