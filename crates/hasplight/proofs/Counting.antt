-- The rows that the number of coordinates decides, asked of the bytes before they are read.
use Prim.Native.Nat.{ℕ, ◌/◌, ◌≤◌}
use mathlib.Core.Path.{◌≡◌, refl}
use mathlib.Core.List.{List}
use lib.ListN.{length}
use Rattle.rules.specs.Limits.{most_points, most_coordinates}
use Rattle.rules.specs.Refusals.{first_refusal, count_checks}
use Rattle.rules.proofs.Outlines.{counted_most}
use Rattle.words.specs.Bytes.{floats_of}
use Rattle.words.proofs.Words.{floats-length}

pub counted_words : (least : ℕ) (coords : List ℕ) {n : ℕ} → n ≡ first_refusal (count_checks least most_points (length coords / 4)) → n ≡ first_refusal (count_checks least most_points (length (floats_of coords)))
counted_words least coords e = rw (floats-length coords) e

pub few_floats : (least : ℕ) (coords : List ℕ) → 0 ≡ first_refusal (count_checks least most_points (length coords / 4)) → length (floats_of coords) ≤ most_coordinates
few_floats least coords e = rw (floats-length coords) (counted_most least most_points (length coords / 4) e refl)
