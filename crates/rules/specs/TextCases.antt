-- Request M-101's example and what stands beside it, as one table: writings byte for byte, and what reading, writing and filling give back.
use Rattle.std.specs.Prelude.{ℕ, ◌-◌, ◌≡◌, true, List, [], ◌∷◌, ◌++◌, ℤ, pos, negsuc, length, replicate, Float}
use Prim.Native.String.{String}
use Rattle.std.specs.Float.Ieee as Ieee
use Rattle.std.specs.Float.{fin, binary32}
use Rattle.rules.specs.Plane.{Pt}
use Rattle.rules.specs.Entries.{triangles_for}
use Rattle.rules.specs.Text.{bytes, decimal, polygon_line, multipolygon_line, most_bytes, first_line}
use Rattle.rules.specs.Lines.{Reading, reader, Writing, polygon_writer, areas_for, filler}

pub data TextCase : Type 0 where
  -- the most bytes of a line in form
  longest : ℕ → TextCase
  writes-number : ℤ → String → TextCase
  writes-polygon : List Pt → String → TextCase
  writes_multipolygon : List (List Pt) → String → TextCase
  begins_with : String → String → TextCase
  reading : List Float → List Pt → Reading → TextCase
  writing : List Float → List ℕ → Writing → TextCase
  filling_areas : List ℕ → List Pt → Writing → TextCase
  filling_triangles : List ℕ → List Pt → Writing → TextCase

abbrev pub TextHolds : TextCase → Type 0
TextHolds (longest n) = most_bytes ≡ n
TextHolds (writes-number z text) = decimal z ≡ bytes text
TextHolds (writes-polygon corners text) = polygon_line corners ≡ bytes text
TextHolds (writes_multipolygon rings text) = multipolygon_line rings ≡ bytes text
TextHolds (begins_with text line) = first_line (bytes text) ≡ bytes line
TextHolds (reading coords corners r) = reader coords corners ≡ r
TextHolds (writing cs out r) = polygon_writer cs out ≡ r
TextHolds (filling_areas out corners r) = filler areas_for out corners ≡ r
TextHolds (filling_triangles out corners r) = filler triangles_for out corners ≡ r

-- ---- outlines

abbrev at : ℕ → ℕ → Pt
at x y = record { x = pos x; y = pos y }

abbrev P : List Pt
P = at 0 0 ∷ at 4 0 ∷ at 4 4 ∷ at 0 4 ∷ []

abbrev P-backwards : List Pt
P-backwards = at 0 0 ∷ at 0 4 ∷ at 4 4 ∷ at 4 0 ∷ []

abbrev T : List Pt
T = at 0 0 ∷ at 4 0 ∷ at 0 4 ∷ []

-- as wide and as high as the grid
abbrev widest : List Pt
widest = record { x = negsuc 1023; y = negsuc 1023 } ∷ record { x = pos 1024; y = negsuc 1023 } ∷ at 0 1024 ∷ []

-- counter-clockwise by its area, and without an ear
abbrev earless : List Pt
earless = at 0 0 ∷ at 0 1 ∷ at 1 1 ∷ at 2 0 ∷ at 0 2 ∷ []

-- one number just off the grid, on either side
abbrev off-x : List Pt
off-x = at 1025 0 ∷ at 1 0 ∷ at 1 1 ∷ []

abbrev off-y : List Pt
off-y = at 0 0 ∷ at 1 0 ∷ record { x = pos 1; y = negsuc 1024 } ∷ []

abbrev twice : List Pt
twice = at 0 0 ∷ at 0 0 ∷ at 4 0 ∷ []

abbrev f : ℕ → Float
f n = Ieee.of_int binary32 (pos n)

abbrev f- : ℕ → Float
f- n = Ieee.of_int binary32 (negsuc (n - 1))

-- ---- what comes back. Lent slots hold 9, so that what was not written shows

abbrev nines : ℕ → List ℕ
nines n = replicate n 9

abbrev floats : ℕ → List Float
floats n = replicate n (f 9)

abbrev fills_areas : List Pt → ℕ → String → TextCase
fills_areas corners room text = filling_areas (nines room) corners (record { number = 0; count = length (bytes text); text = bytes text ++ nines (room - length (bytes text)) })

abbrev fills_triangles : List Pt → ℕ → String → TextCase
fills_triangles corners room text = filling_triangles (nines room) corners (record { number = 0; count = length (bytes text); text = bytes text ++ nines (room - length (bytes text)) })

abbrev refuses : List Pt → ℕ → ℕ → TextCase
refuses corners room number = filling_areas (nines room) corners (record { number = number; count = 0; text = nines room })

abbrev reads : List Pt → ℕ → List Float → TextCase
reads corners room cs = reading (floats room) corners (record { number = 0; count = length corners; coords = cs ++ floats (room - length cs) })

abbrev reads-not : List Pt → ℕ → ℕ → TextCase
reads-not corners room number = reading (floats room) corners (record { number = number; count = 0; coords = floats room })

abbrev writes : List Float → ℕ → String → TextCase
writes cs room text = writing cs (nines room) (record { number = 0; count = length (bytes text); text = bytes text ++ nines (room - length (bytes text)) })

abbrev writes-not : List Float → ℕ → ℕ → TextCase
writes-not cs room number = writing cs (nines room) (record { number = number; count = 0; text = nines room })

abbrev pub text-table : List TextCase
text-table =
    longest 8192
    ∷ writes-number (pos 0) "0"
    ∷ writes-number (pos 7) "7"
    ∷ writes-number (pos 10) "10"
    ∷ writes-number (negsuc 0) "-1"
    ∷ writes-number (negsuc 1023) "-1024"
    ∷ writes-number (pos 1099) "1099"
    ∷ writes-number (negsuc 12345678901233) "-12345678901234"
    -- the request's example
    ∷ writes-polygon P "POLYGON ((0 0, 4 0, 4 4, 0 4, 0 0))"
    ∷ fills_areas P 127 "MULTIPOLYGON (((4 4, 0 4, 0 0, 4 0, 4 4)))"
    ∷ fills_triangles P 127 "MULTIPOLYGON (((4 4, 0 4, 0 0, 4 4)), ((4 4, 0 0, 4 0, 4 4)))"
    ∷ writes-polygon (at 5 6 ∷ []) "POLYGON ((5 6, 5 6))"
    ∷ writes_multipolygon ((at 0 0 ∷ record { x = negsuc 0; y = pos 10 } ∷ []) ∷ (at 7 8 ∷ []) ∷ []) "MULTIPOLYGON (((0 0, -1 10, 0 0)), ((7 8, 7 8)))"
    ∷ fills_areas T 71 "MULTIPOLYGON (((0 4, 0 0, 4 0, 0 4)))"
    ∷ fills_areas widest 71 "MULTIPOLYGON (((0 1024, -1024 -1024, 1024 -1024, 0 1024)))"
    -- each refusal, and before the next one
    ∷ refuses (at 0 0 ∷ []) 999 2
    ∷ refuses (at 0 0 ∷ at 2000 0 ∷ []) 0 2
    ∷ refuses (replicate 513 (at 0 0)) 0 3
    ∷ refuses (replicate 513 (at 1025 0)) 0 3
    ∷ refuses (replicate 512 (at 1025 0)) 0 4
    ∷ refuses off-x 999 4
    ∷ refuses off-y 999 4
    ∷ refuses twice 0 5
    ∷ refuses T 70 6
    ∷ refuses P 126 6
    ∷ refuses P-backwards 126 13
    ∷ refuses P-backwards 127 13
    ∷ refuses earless 182 6
    ∷ refuses earless 183 7
    -- the reader: numbers off the grid stay off it
    ∷ reads T 7 (f 0 ∷ f 0 ∷ f 4 ∷ f 0 ∷ f 0 ∷ f 4 ∷ [])
    ∷ reads widest 6 (f- 1024 ∷ f- 1024 ∷ f 1024 ∷ f- 1024 ∷ f 0 ∷ f 1024 ∷ [])
    ∷ reads (at 1025 99999 ∷ record { x = negsuc 1024; y = negsuc 99998 } ∷ []) 4 (f 1025 ∷ f 1025 ∷ f- 1025 ∷ f- 1025 ∷ [])
    ∷ reads-not T 5 6
    ∷ reads-not (replicate 513 (at 0 0)) 0 3
    ∷ reads-not (replicate 512 (at 0 0)) 0 6
    -- the writer
    ∷ writes (f 0 ∷ f 0 ∷ f- 1024 ∷ fin true 0 (pos 0) ∷ []) 49 "POLYGON ((0 0, -1024 0, 0 0))"
    ∷ writes-not (f 2000 ∷ []) 0 1
    ∷ writes-not [] 0 2
    ∷ writes-not (replicate 1026 (f 2000)) 0 3
    ∷ writes-not (replicate 1024 (f 2000)) 0 4
    ∷ writes-not (f 0 ∷ f 1025 ∷ []) 0 4
    ∷ writes-not (f 0 ∷ f 0 ∷ []) 35 6
    -- the line among what is read
    ∷ begins_with "POINT (1 2)\nPOINT (3 4)\n" "POINT (1 2)"
    ∷ begins_with "no newline" "no newline"
    ∷ begins_with "\nsecond" ""
    ∷ []
