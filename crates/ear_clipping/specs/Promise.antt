-- What the entry promises: number, count and every lent element are those that the rules give, on any input.
use Rattle.std.specs.Prelude.{ℕ, ◌≡◌, List, Result, Ok, Err, length, Float}
use Rattle.rules.specs.Plane.{Pt}
use Rattle.rules.specs.Cut.{Cut, stuck, done, cut}
use Rattle.rules.specs.Layout.{flatten, over}
use Rattle.rules.specs.Entries.{triangles_for, cutter}
use Rattle.entries.specs.declared.Answer.{Answer}
use Rattle.entries.specs.declared.Refusal.{Refusal}
use Rattle.entries.specs.declared.Refusal.TheVariants.{NoEar}

-- of the coordinates, and the lent indices before and after
pub record Promise (coords : List Float) (before : List ℕ) (r : Answer) (after : List ℕ) : Type 0 where
  pub number : r.number ≡ (cutter coords before).number
  pub count : r.count ≡ (cutter coords before).count
  pub indices : after ≡ (cutter coords before).indices

-- what a cut is reported as
abbrev pub outcome_of : Cut → Result ℕ Refusal
outcome_of stuck = Err NoEar
outcome_of (done triangles) = Ok (length triangles)

-- an outline's triangles are written, and their number is reported; of a stuck cut there are none
pub record Written (ps : List Pt) (before : List ℕ) (r : Result ℕ Refusal) (after : List ℕ) : Type 0 where
  pub outcome : r ≡ outcome_of (cut ps)
  pub indices : after ≡ over (flatten (triangles_for ps)) before
