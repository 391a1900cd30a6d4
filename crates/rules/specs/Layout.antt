-- How triangles and pieces stand in lent memory: indices one behind the other, pieces with a second list of their lengths.
use Rattle.std.specs.Prelude.{ℕ, List, [], ◌∷◌, ◌++◌, length, take, drop}

-- each piece directly behind the one before it
unfoldable pub flatten : List (List ℕ) → List ℕ
flatten [] = []
flatten (p ∷ ps) = p ++ flatten ps

-- pieces of these lengths, read back
unfoldable pub split : List ℕ → List ℕ → List (List ℕ)
split [] store = []
split (n ∷ lengths) store = take n store ∷ split lengths (drop n store)

-- triangles, read three and three
unfoldable pub triples : List ℕ → List (List ℕ)
triples [] = []
triples (a ∷ []) = []
triples (a ∷ b ∷ []) = []
triples (a ∷ b ∷ c ∷ rest) = (a ∷ b ∷ c ∷ []) ∷ triples rest

-- a lent slice whose first elements were written, and whose others keep their contents
abbrev pub over : {A : Type 0} → List A → List A → List A
over written old = written ++ drop (length written) old
