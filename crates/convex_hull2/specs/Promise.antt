-- What the entry promises: number, count and every lent element are those that the rules give, on any input.
use Rattle.std.specs.Prelude.{ℕ, ◌≡◌, List, length, Float}
use Rattle.rules.specs.Plane.{Pt}
use Rattle.rules.specs.Hull.{hull}
use Rattle.rules.specs.Layout.{over}
use Rattle.rules.specs.Entries.{huller}
use Rattle.entries.specs.declared.Answer.{Answer}

-- of the coordinates, and the lent indices before and after
pub record Promise (coords : List Float) (old : List ℕ) (r : Answer) (new : List ℕ) : Type 0 where
  pub number : r.number ≡ (huller coords old).number
  pub count : r.count ≡ (huller coords old).count
  pub indices : new ≡ (huller coords old).indices

-- the hull is written, and the number of its corners is answered
pub record Written (ps : List Pt) (old : List ℕ) (n : ℕ) (new : List ℕ) : Type 0 where
  pub count : n ≡ length (hull ps)
  pub indices : new ≡ over (hull ps) old
