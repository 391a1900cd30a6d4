-- As much is lent for what is carried, and enough for any outline.
use Rattle.std.proofs.Common.{◌≡◌, ◌≤◌, suc, length}
use Rattle.rules.specs.Limits.{most_coordinates}
use Rattle.rules.specs.Text.{most_bytes}
use Rattle.playback.proofs.play_all.Given as goal

abbrev pub invariant-loop : goal.invariant-loop
invariant-loop g l = (length l.log.carried.bytes.now ≡ suc most_bytes) × (most_coordinates ≤ length l.log.in_force.coords.now)
