-- What is carried of a line.
use Rattle.std.specs.Prelude.{ℕ, ◌≡◌, List, ◌++◌, length, take}
use Rattle.lines.specs.declared.carried.Carried.{Carried}

abbrev pub carried_of : Carried → List ℕ
carried_of carried = take carried.held carried.bytes.now

-- more bytes were put behind what is carried, as far as there is room, in the same lent bytes
pub record Kept (old : Carried) (more : List ℕ) (new : Carried) : Type 0 where
  pub line : carried_of new ≡ take (length old.bytes.now) (carried_of old ++ more)
  pub len : length new.bytes.now ≡ length old.bytes.now
  pub same_bytes : new.bytes.ghost_name ≡ old.bytes.ghost_name
