-- What the entry promises: number, count and every lent element are those that the rules give, on any input.
use Rattle.std.specs.Prelude.{ℕ, ◌≡◌, List, map, length, Float}
use Rattle.rules.specs.Layout.{flatten, over}
use Rattle.rules.specs.Entries.{merger}
use Rattle.entries.specs.declared.Answer.{Answer}

-- of the coordinates, the given triangles, and the two lent slices before and after
pub record Promise (coords : List Float) (triangles indices lengths : List ℕ) (r : Answer) (indices' lengths' : List ℕ) : Type 0 where
  pub number : r.number ≡ (merger coords triangles indices lengths).number
  pub count : r.count ≡ (merger coords triangles indices lengths).count
  pub indices_are : indices' ≡ (merger coords triangles indices lengths).indices
  pub lengths_are : lengths' ≡ (merger coords triangles indices lengths).lengths

-- pieces are written, and their number is answered
pub record Written (pieces : List (List ℕ)) (indices lengths : List ℕ) (n : ℕ) (indices' lengths' : List ℕ) : Type 0 where
  pub count : n ≡ length pieces
  pub indices_are : indices' ≡ over (flatten pieces) indices
  pub lengths_are : lengths' ≡ over (map length pieces) lengths
