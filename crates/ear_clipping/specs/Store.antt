-- The triangles written so far, three indices each.
use Rattle.std.specs.Prelude.{ℕ, ◌+◌, List, set}

abbrev pub put3 : List ℕ → ℕ → ℕ → ℕ → ℕ → List ℕ
put3 l k a b c = set (set (set l k a) (k + 1) b) (k + 2) c
