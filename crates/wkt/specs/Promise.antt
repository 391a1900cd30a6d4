-- What the entries promise: the number, the count and every lent element together are what the rules give back, on any input.
use Rattle.std.specs.Prelude.{ℕ, ◌≡◌, List, Float}
use Rattle.rules.specs.Lines.{Reading, Writing, polygon_writer}
use Rattle.entries.specs.declared.Answer.{Answer}

-- an answer, and the lent coordinates or bytes afterwards
abbrev pub reading_of : Answer → List Float → Reading
reading_of r coords = record { number = r.number; count = r.count; coords = coords }

abbrev pub writing_of : Answer → List ℕ → Writing
writing_of r text = record { number = r.number; count = r.count; text = text }

-- of the writer of a POLYGON line: the coordinates, and the lent bytes before and after
pub record PolygonPromise (coords : List Float) (before : List ℕ) (r : Answer) (after : List ℕ) : Type 0 where
  pub number : r.number ≡ (polygon_writer coords before).number
  pub count : r.count ≡ (polygon_writer coords before).count
  pub text : after ≡ (polygon_writer coords before).text
