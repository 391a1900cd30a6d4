-- The rules' ear as the code's.
use Rattle.std.specs.Prelude.{ℕ, List, Option, Float}
use Rattle.algebra.specs.Rings.{Corner}
use Rattle.rules.specs.Plane.{Pt}
use Rattle.rules.specs.Ear as rules
use Rattle.winners.specs.Keys.{from_ear}

unfoldable pub ear_of : List Pt → Corner ℕ → Option Float
unfolding rules.ear
ear_of ps c = from_ear (rules.ear ps c)
