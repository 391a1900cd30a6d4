-- Document 01, "Twelve small cases", as one table: what is lent to which entry, and everything that comes back.
-- Behind the twelve, cases for "Slips that look right", the edge of the grid, the choice of the ear, the joins, each refusal and their order,
-- and for the requests.
use Rattle.std.specs.Prelude.{ℕ, zero, suc, ◌^◌, ◌≡◌, Bool, true, false, List, [], ◌∷◌, ◌++◌, map, ℤ, pos, negsuc, neg_ℤ, replicate, Float}
use Rattle.std.specs.Float.Ieee as Ieee
use Rattle.std.specs.Float.{nan, inf, fin, binary32}
use Rattle.rules.specs.Grid.{point_of, points_of}
use Rattle.rules.specs.Crossing.{odd_crossings}
use Rattle.rules.specs.Measure.{area2}
use Rattle.rules.specs.Root.{root}
use Rattle.rules.specs.Border.{Position, outside, inside, border}
use Rattle.rules.specs.Entries.{Cutting, Merging, Asking, Hulling, cutter, merger, point_in_poly2d, point_in_convex_poly2d, huller}

-- what is lent and everything that comes back; `asking_both_at` has the outline test's answer, then the convex test's
pub data Case : Type 0 where
  cutting : List Float → List ℕ → Cutting → Case
  merging : List Float → List ℕ → List ℕ → List ℕ → Merging → Case
  asking-at : Float → Float → List Float → Asking → Case
  asking_both_at : Float → Float → List Float → Asking → Asking → Case
  crossing : Float → Float → List Float → Bool → Case
  hulling : List Float → List ℕ → Hulling → Case
  rooting : ℕ → Float → Case
  measuring : List Float → ℤ → Case

abbrev pub Holds : Case → Type 0
Holds (cutting cs indices r) = cutter cs indices ≡ r
Holds (merging cs triangles indices lengths r) = merger cs triangles indices lengths ≡ r
Holds (asking-at x y cs r) = point_in_poly2d x y cs ≡ r
Holds (asking_both_at x y cs r s) = ◌≡◌ {A = Asking × Asking} (point_in_poly2d x y cs, point_in_convex_poly2d x y cs) (r, s)
Holds (crossing x y cs r) = odd_crossings (point_of x y) (points_of cs) ≡ r
Holds (hulling cs indices r) = huller cs indices ≡ r
Holds (rooting m r) = root m ≡ r
Holds (measuring cs r) = area2 (points_of cs) ≡ r

-- ---- floats, and outlines by their coordinates

abbrev f : ℕ → Float
f n = Ieee.of_int binary32 (pos n)

abbrev f- : ℕ → Float
f- n = Ieee.of_int binary32 (neg_ℤ (pos n))

abbrev half : Float
half = fin false 1 (negsuc 0)

abbrev minus_zero : Float
minus_zero = fin true 0 (pos 0)

abbrev whole : List ℕ → List Float
whole ns = map f ns

abbrev P : List Float
P = whole (0 ∷ 0 ∷ 4 ∷ 0 ∷ 4 ∷ 4 ∷ 0 ∷ 4 ∷ [])

abbrev P-backwards : List Float
P-backwards = whole (0 ∷ 0 ∷ 0 ∷ 4 ∷ 4 ∷ 4 ∷ 4 ∷ 0 ∷ [])

abbrev Q : List Float
Q = whole (0 ∷ 0 ∷ 2 ∷ 1 ∷ 4 ∷ 0 ∷ 2 ∷ 4 ∷ [])

-- Q with corner 1 on the line from corner 0 to corner 2
abbrev Q-flat : List Float
Q-flat = whole (0 ∷ 0 ∷ 2 ∷ 0 ∷ 4 ∷ 0 ∷ 2 ∷ 4 ∷ [])

-- P with a slot from (4, 2) to (2, 2), which is drawn in and out
abbrev slotted : List Float
slotted = whole (0 ∷ 0 ∷ 4 ∷ 0 ∷ 4 ∷ 2 ∷ 2 ∷ 2 ∷ 4 ∷ 2 ∷ 4 ∷ 4 ∷ 0 ∷ 4 ∷ [])

abbrev T : List Float
T = whole (0 ∷ 0 ∷ 4 ∷ 0 ∷ 0 ∷ 4 ∷ [])

abbrev T-backwards : List Float
T-backwards = whole (0 ∷ 0 ∷ 0 ∷ 4 ∷ 4 ∷ 0 ∷ [])

-- the edge of the grid n times: at 128, which are 512 corners, no outline's doubled area is larger in size
abbrev round_the_grid : ℕ → List Float
round_the_grid zero = []
round_the_grid (suc n) = f- 1024 ∷ f- 1024 ∷ f 1024 ∷ f- 1024 ∷ f 1024 ∷ f 1024 ∷ f- 1024 ∷ f 1024 ∷ round_the_grid n

abbrev round_backwards : ℕ → List Float
round_backwards zero = []
round_backwards (suc n) = f- 1024 ∷ f- 1024 ∷ f- 1024 ∷ f 1024 ∷ f 1024 ∷ f 1024 ∷ f 1024 ∷ f- 1024 ∷ round_backwards n

-- the smallest outline that is accepted with a clockwise triangle, by a search: none has its corners on two by two points, and this is the first
-- of those with four on three by three
abbrev crossed_over : List Float
crossed_over = whole (0 ∷ 0 ∷ 0 ∷ 1 ∷ 1 ∷ 0 ∷ 1 ∷ 2 ∷ [])

-- counter-clockwise by its area, and without an ear
abbrev earless : List Float
earless = whole (0 ∷ 0 ∷ 0 ∷ 1 ∷ 1 ∷ 1 ∷ 2 ∷ 0 ∷ 0 ∷ 2 ∷ [])

abbrev hexagon : List Float
hexagon = whole (1 ∷ 0 ∷ 3 ∷ 0 ∷ 4 ∷ 2 ∷ 3 ∷ 4 ∷ 1 ∷ 4 ∷ 0 ∷ 2 ∷ [])

-- as wide and as high as the grid
abbrev widest : List Float
widest = f- 1024 ∷ f- 1024 ∷ f 1024 ∷ f- 1024 ∷ f 0 ∷ f 1024 ∷ []

-- ---- rows. Lent slots hold 9, so that what was not written shows; `room` is how many are lent

abbrev nines : ℕ → List ℕ
nines n = replicate n 9

abbrev cut_into : List Float → ℕ → ℕ → List ℕ → Case
cut_into cs room count indices = cutting cs (nines room) (record { number = 0; count = count; indices = indices })

abbrev cut_refused : List Float → ℕ → ℕ → Case
cut_refused cs room n = cutting cs (nines room) (record { number = n; count = 0; indices = nines room })

abbrev merged_into : List Float → List ℕ → ℕ → ℕ → ℕ → List ℕ → List ℕ → Case
merged_into cs triangles room room_for_lengths count indices lengths =
    merging cs triangles (nines room) (nines room_for_lengths) (record { number = 0; count = count; indices = indices; lengths = lengths })

abbrev merge_refused : List Float → List ℕ → ℕ → ℕ → ℕ → Case
merge_refused cs triangles room room_for_lengths n =
    merging cs triangles (nines room) (nines room_for_lengths) (record { number = n; count = 0; indices = nines room; lengths = nines room_for_lengths })

abbrev answered : Position → Asking
answered a = record { number = 0; answer = a }

abbrev both_answered : Float → Float → List Float → Position → Position → Case
both_answered x y cs outline convex = asking_both_at x y cs (answered outline) (answered convex)

abbrev both_refused : Float → Float → List Float → ℕ → Case
both_refused x y cs n = asking_both_at x y cs (record { number = n; answer = outside }) (record { number = n; answer = outside })

abbrev hull_is : List Float → ℕ → ℕ → List ℕ → Case
hull_is cs room count indices = hulling cs (nines room) (record { number = 0; count = count; indices = indices })

abbrev hull_refused : List Float → ℕ → ℕ → Case
hull_refused cs room n = hulling cs (nines room) (record { number = n; count = 0; indices = nines room })

abbrev pub table : List Case
table =
    cutting P (nines 6) (record { number = 0; count = 2; indices = 2 ∷ 3 ∷ 0 ∷ 2 ∷ 0 ∷ 1 ∷ [] })  -- K1
    ∷ merging P (2 ∷ 3 ∷ 0 ∷ 2 ∷ 0 ∷ 1 ∷ []) (nines 6) (nines 2) (record { number = 0; count = 1; indices = 2 ∷ 3 ∷ 0 ∷ 1 ∷ 9 ∷ 9 ∷ []; lengths = 4 ∷ 9 ∷ [] })  -- K2
    ∷ cutting Q (nines 6) (record { number = 0; count = 2; indices = 1 ∷ 2 ∷ 3 ∷ 3 ∷ 0 ∷ 1 ∷ [] })  -- K3
    ∷ merging Q (1 ∷ 2 ∷ 3 ∷ 3 ∷ 0 ∷ 1 ∷ []) (nines 6) (nines 2) (record { number = 0; count = 2; indices = 1 ∷ 2 ∷ 3 ∷ 3 ∷ 0 ∷ 1 ∷ []; lengths = 3 ∷ 3 ∷ [] })  -- K4
    ∷ cutting T (nines 4) (record { number = 0; count = 1; indices = 2 ∷ 0 ∷ 1 ∷ 9 ∷ [] })  -- K5
    ∷ cutting P-backwards (nines 6) (record { number = 13; count = 0; indices = nines 6 })  -- K6, by request M-105
    ∷ asking-at (f 0) (f 2) P (answered border)  -- K7, and the next three, by request M-106
    ∷ asking-at (f 4) (f 2) P (answered border)  -- K8
    ∷ asking-at (f 2) (f 0) P (answered border)  -- K9
    ∷ asking-at (f 2) (f 4) P (answered border)  -- K10
    ∷ cutting P (nines 5) (record { number = 6; count = 0; indices = nines 5 })  -- K11
    ∷ rooting 2 (Ieee.round binary32 false 11863283 (2 ^ 23))  -- K12
    -- the crossing parity of K7 to K10 is as document 01 has it
    ∷ crossing (f 0) (f 2) P true
    ∷ crossing (f 4) (f 2) P false
    ∷ crossing (f 2) (f 0) P true
    ∷ crossing (f 2) (f 4) P false
    -- the doubled areas of Q, of its triangles, and of P backwards
    ∷ measuring Q (pos 12)
    ∷ measuring (whole (2 ∷ 1 ∷ 4 ∷ 0 ∷ 2 ∷ 4 ∷ [])) (pos 6)
    ∷ measuring (whole (2 ∷ 4 ∷ 0 ∷ 0 ∷ 2 ∷ 1 ∷ [])) (pos 6)
    ∷ measuring P-backwards (neg_ℤ (pos 32))
    -- the root of 5 is rounded up; those of 0, of 4, and of the greatest m
    ∷ rooting 5 (Ieee.round binary32 false 9378749 (2 ^ 22))
    ∷ rooting 0 (f 0)
    ∷ rooting 4 (f 2)
    ∷ rooting (2 ^ 23) (Ieee.round binary32 false 11863283 (2 ^ 12))
    -- request M-105: clockwise, on a line, or there and back, three corners included
    ∷ cut_refused T-backwards 3 13
    ∷ cut_refused (whole (0 ∷ 0 ∷ 1 ∷ 0 ∷ 2 ∷ 0 ∷ [])) 3 13
    ∷ cut_refused (whole (0 ∷ 0 ∷ 1 ∷ 0 ∷ 2 ∷ 0 ∷ 3 ∷ 0 ∷ [])) 6 13
    ∷ cut_refused (whole (0 ∷ 0 ∷ 1 ∷ 0 ∷ 0 ∷ 0 ∷ 0 ∷ 1 ∷ [])) 6 13
    -- the last three are not tested for being an ear: of this outline's triangles the last is clockwise, and 1 is 2 and -1
    ∷ cut_into crossed_over 6 2 (2 ∷ 3 ∷ 0 ∷ 2 ∷ 0 ∷ 1 ∷ [])
    ∷ measuring crossed_over (pos 1)
    ∷ measuring (whole (1 ∷ 0 ∷ 1 ∷ 2 ∷ 0 ∷ 0 ∷ [])) (pos 2)
    ∷ measuring (whole (1 ∷ 0 ∷ 0 ∷ 0 ∷ 0 ∷ 1 ∷ [])) (negsuc 0)
    -- the largest sum, and the smallest
    ∷ measuring (round_the_grid 128) (pos (2 ^ 30))
    ∷ measuring (round_backwards 128) (neg_ℤ (pos (2 ^ 30)))
    -- corner 1, which is cut first, still blocks corner 4
    ∷ cut_into (whole (0 ∷ 0 ∷ 1 ∷ 0 ∷ 0 ∷ 1 ∷ 2 ∷ 0 ∷ 2 ∷ 2 ∷ [])) 9 3 (0 ∷ 1 ∷ 2 ∷ 2 ∷ 3 ∷ 4 ∷ 4 ∷ 0 ∷ 2 ∷ [])
    -- the grid goes from -1024 to 1024; minus zero is read as zero
    ∷ cut_into widest 3 1 (2 ∷ 0 ∷ 1 ∷ [])
    ∷ cut_into (minus_zero ∷ f 0 ∷ f 4 ∷ minus_zero ∷ f 4 ∷ f 4 ∷ f 0 ∷ f 4 ∷ []) 6 2 (2 ∷ 3 ∷ 0 ∷ 2 ∷ 0 ∷ 1 ∷ [])
    ∷ cut_refused (f 0 ∷ f 0 ∷ minus_zero ∷ f 0 ∷ f 4 ∷ f 0 ∷ []) 3 5
    -- 1025 and -1025, 2048, fractions, NaN and the infinities are off it, in any place
    ∷ cut_refused (f 1025 ∷ f 0 ∷ f 4 ∷ f 0 ∷ f 0 ∷ f 4 ∷ []) 3 4
    ∷ cut_refused (f 2048 ∷ f 0 ∷ f 4 ∷ f 0 ∷ f 0 ∷ f 4 ∷ []) 3 4
    ∷ cut_refused (f- 1025 ∷ f 0 ∷ f 4 ∷ f 0 ∷ f 0 ∷ f 4 ∷ []) 3 4
    ∷ cut_refused (half ∷ f 0 ∷ f 4 ∷ f 0 ∷ f 0 ∷ f 4 ∷ []) 3 4
    ∷ cut_refused (nan ∷ f 0 ∷ f 4 ∷ f 0 ∷ f 0 ∷ f 4 ∷ []) 3 4
    ∷ cut_refused (inf false ∷ f 0 ∷ f 4 ∷ f 0 ∷ f 0 ∷ f 4 ∷ []) 3 4
    ∷ cut_refused (inf true ∷ f 0 ∷ f 4 ∷ f 0 ∷ f 0 ∷ f 4 ∷ []) 3 4
    ∷ cut_refused (f 0 ∷ f 0 ∷ f 4 ∷ f 0 ∷ f 0 ∷ f 1025 ∷ []) 3 4
    ∷ cut_refused (f 0 ∷ f 0 ∷ f 4 ∷ f 0 ∷ f 0 ∷ half ∷ []) 3 4
    -- the pointiest ear is taken, wherever it stands: corner 1 here, and corners 4, 0 and 1 of five
    ∷ cut_into (whole (0 ∷ 1 ∷ 0 ∷ 0 ∷ 5 ∷ 2 ∷ 4 ∷ 4 ∷ [])) 6 2 (0 ∷ 1 ∷ 2 ∷ 3 ∷ 0 ∷ 2 ∷ [])
    ∷ cut_into (whole (1 ∷ 0 ∷ 5 ∷ 4 ∷ 1 ∷ 6 ∷ 1 ∷ 2 ∷ 0 ∷ 0 ∷ [])) 9 3 (3 ∷ 4 ∷ 0 ∷ 3 ∷ 0 ∷ 1 ∷ 3 ∷ 1 ∷ 2 ∷ [])
    -- where rounding decides: dx and dy are multiplied by the rounded reciprocal, and the products are rounded before they are added
    ∷ cut_into (whole (5 ∷ 5 ∷ 3 ∷ 4 ∷ 1 ∷ 2 ∷ 1 ∷ 3 ∷ 0 ∷ 0 ∷ [])) 9 3 (4 ∷ 0 ∷ 1 ∷ 4 ∷ 1 ∷ 2 ∷ 4 ∷ 2 ∷ 3 ∷ [])
    ∷ cut_into (whole (2 ∷ 4 ∷ 1 ∷ 4 ∷ 2 ∷ 3 ∷ 3 ∷ 7 ∷ 0 ∷ 8 ∷ [])) 9 3 (0 ∷ 1 ∷ 2 ∷ 0 ∷ 2 ∷ 3 ∷ 4 ∷ 0 ∷ 3 ∷ [])
    -- points beside the triangle of a corner, beyond its corners, and on its border, which block
    ∷ cut_into (whole (1 ∷ 0 ∷ 1 ∷ 3 ∷ 0 ∷ 3 ∷ 1 ∷ 1 ∷ 2 ∷ 3 ∷ [])) 9 3 (1 ∷ 2 ∷ 3 ∷ 1 ∷ 3 ∷ 4 ∷ 4 ∷ 0 ∷ 1 ∷ [])
    ∷ cut_into (whole (4 ∷ 1 ∷ 0 ∷ 4 ∷ 3 ∷ 2 ∷ 2 ∷ 4 ∷ 1 ∷ 4 ∷ [])) 9 3 (2 ∷ 3 ∷ 4 ∷ 1 ∷ 2 ∷ 4 ∷ 4 ∷ 0 ∷ 1 ∷ [])
    -- request M-103: a plate with a hole by a slot, in from its corner and back. Two points are passed twice and block no ear. Document 01's own rule
    -- has them block, and gave 7 here and for the next
    ∷ cut_into (whole (0 ∷ 0 ∷ 3 ∷ 0 ∷ 3 ∷ 3 ∷ 0 ∷ 3 ∷ 0 ∷ 0 ∷ 1 ∷ 1 ∷ 1 ∷ 2 ∷ 2 ∷ 2 ∷ 2 ∷ 1 ∷ 1 ∷ 1 ∷ [])) 24 8
    (3 ∷ 4 ∷ 5 ∷ 3 ∷ 5 ∷ 6 ∷ 2 ∷ 3 ∷ 6 ∷ 2 ∷ 6 ∷ 7 ∷ 1 ∷ 2 ∷ 7 ∷ 1 ∷ 7 ∷ 8 ∷ 0 ∷ 1 ∷ 8 ∷ 9 ∷ 0 ∷ 8 ∷ [])
    -- in along a line and back along it, round nothing: the last triangle is clockwise
    ∷ cut_into (whole (0 ∷ 0 ∷ 4 ∷ 0 ∷ 4 ∷ 4 ∷ 0 ∷ 4 ∷ 4 ∷ 0 ∷ [])) 9 3 (2 ∷ 3 ∷ 4 ∷ 0 ∷ 1 ∷ 2 ∷ 4 ∷ 0 ∷ 2 ∷ [])
    -- no corner is an ear; and corner 2 is cut, and then no ear is left: what was lent is as it was
    ∷ cut_refused earless 9 7
    ∷ cut_refused (whole (0 ∷ 0 ∷ 1 ∷ 1 ∷ 0 ∷ 1 ∷ 2 ∷ 0 ∷ 0 ∷ 2 ∷ [])) 9 7
    -- the refusals of the cutter, and of two that apply the earlier: 1 before 2 and 3, 2 before 4
    ∷ cut_refused [] 0 2
    ∷ cut_refused (whole (0 ∷ [])) 0 1
    ∷ cut_refused (whole (0 ∷ 0 ∷ 4 ∷ 0 ∷ 0 ∷ 4 ∷ 0 ∷ [])) 3 1
    ∷ cut_refused (replicate 1027 (f 0)) 3 1
    ∷ cut_refused (whole (0 ∷ 0 ∷ 4 ∷ 0 ∷ [])) 3 2
    ∷ cut_refused (nan ∷ f 0 ∷ f 4 ∷ f 0 ∷ []) 3 2
    -- 512 points and 513: 3 before 4
    ∷ cut_refused (replicate 1024 (f 0)) 3 5
    ∷ cut_refused (replicate 1026 (f 0)) 3 3
    ∷ cut_refused (replicate 1026 nan) 3 3
    -- 4 before 5; 5 for the last corner and the first; 5 before 13, 13 before 6, 6 before 7
    ∷ cut_refused (nan ∷ f 0 ∷ f 4 ∷ f 0 ∷ f 4 ∷ f 0 ∷ []) 3 4
    ∷ cut_refused (whole (0 ∷ 0 ∷ 4 ∷ 0 ∷ 4 ∷ 4 ∷ 0 ∷ 0 ∷ [])) 6 5
    ∷ cut_refused (whole (0 ∷ 0 ∷ 0 ∷ 0 ∷ 4 ∷ 0 ∷ [])) 0 5
    ∷ cut_refused P-backwards 5 13
    ∷ cut_refused earless 8 6
    -- a join is refused for a right turn at s or at e, and not for a straight one
    ∷ merged_into Q (3 ∷ 0 ∷ 1 ∷ 1 ∷ 2 ∷ 3 ∷ []) 6 2 2 (3 ∷ 0 ∷ 1 ∷ 1 ∷ 2 ∷ 3 ∷ []) (3 ∷ 3 ∷ [])
    ∷ merged_into Q-flat (1 ∷ 2 ∷ 3 ∷ 3 ∷ 0 ∷ 1 ∷ []) 6 2 1 (1 ∷ 2 ∷ 3 ∷ 0 ∷ 9 ∷ 9 ∷ []) (4 ∷ 9 ∷ [])
    ∷ merged_into Q-flat (3 ∷ 0 ∷ 1 ∷ 1 ∷ 2 ∷ 3 ∷ []) 6 2 1 (3 ∷ 0 ∷ 1 ∷ 2 ∷ 9 ∷ 9 ∷ []) (4 ∷ 9 ∷ [])
    -- a join that a piece of four refuses, by its corner before s and by its corner after e
    ∷ merged_into (whole (2 ∷ 0 ∷ 1 ∷ 0 ∷ 1 ∷ 1 ∷ 3 ∷ 1 ∷ 0 ∷ 2 ∷ [])) (3 ∷ 2 ∷ 0 ∷ 4 ∷ 1 ∷ 2 ∷ 0 ∷ 2 ∷ 1 ∷ []) 9 3 2 (0 ∷ 3 ∷ 2 ∷ 1 ∷ 4 ∷ 1 ∷ 2 ∷ 9 ∷ 9 ∷ []) (4 ∷ 3 ∷ 9 ∷ [])
    ∷ merged_into (whole (2 ∷ 2 ∷ 2 ∷ 1 ∷ 1 ∷ 1 ∷ 1 ∷ 3 ∷ 0 ∷ 0 ∷ [])) (0 ∷ 3 ∷ 1 ∷ 2 ∷ 1 ∷ 3 ∷ 4 ∷ 2 ∷ 3 ∷ []) 9 3 2 (1 ∷ 0 ∷ 3 ∷ 2 ∷ 4 ∷ 2 ∷ 3 ∷ 9 ∷ 9 ∷ []) (4 ∷ 3 ∷ 9 ∷ [])
    -- the search stops at the first later piece that holds the reverse edge, though the join with it is refused
    ∷ merged_into Q (1 ∷ 2 ∷ 3 ∷ 3 ∷ 0 ∷ 1 ∷ 1 ∷ 3 ∷ 3 ∷ []) 9 3 2 (1 ∷ 2 ∷ 3 ∷ 3 ∷ 0 ∷ 1 ∷ 3 ∷ 9 ∷ 9 ∷ []) (3 ∷ 4 ∷ 9 ∷ [])
    -- i starts again at 0 after a join
    ∷ merged_into hexagon (0 ∷ 1 ∷ 3 ∷ 1 ∷ 2 ∷ 3 ∷ 5 ∷ 0 ∷ 3 ∷ []) 9 3 1 (0 ∷ 1 ∷ 2 ∷ 3 ∷ 5 ∷ 9 ∷ 9 ∷ 9 ∷ 9 ∷ []) (5 ∷ 9 ∷ 9 ∷ [])
    ∷ merged_into hexagon (4 ∷ 1 ∷ 3 ∷ 1 ∷ 4 ∷ 0 ∷ 3 ∷ 1 ∷ 2 ∷ []) 9 3 1 (3 ∷ 4 ∷ 0 ∷ 1 ∷ 2 ∷ 9 ∷ 9 ∷ 9 ∷ 9 ∷ []) (5 ∷ 9 ∷ 9 ∷ [])
    -- pieces that do not hold the reverse edge are passed and stay in their order
    ∷ merged_into P (2 ∷ 3 ∷ 0 ∷ 1 ∷ 2 ∷ 3 ∷ 2 ∷ 3 ∷ 1 ∷ 2 ∷ 0 ∷ 1 ∷ []) 12 4 3 (2 ∷ 3 ∷ 0 ∷ 1 ∷ 1 ∷ 2 ∷ 3 ∷ 2 ∷ 3 ∷ 1 ∷ 9 ∷ 9 ∷ []) (4 ∷ 3 ∷ 3 ∷ 9 ∷ [])
    -- a piece with no join is left, and the next is A
    ∷ merged_into P (1 ∷ 2 ∷ 3 ∷ 2 ∷ 3 ∷ 0 ∷ 2 ∷ 0 ∷ 1 ∷ []) 9 3 2 (1 ∷ 2 ∷ 3 ∷ 2 ∷ 3 ∷ 0 ∷ 1 ∷ 9 ∷ 9 ∷ []) (3 ∷ 4 ∷ 9 ∷ [])
    -- the last piece moves into the place of the one that was joined
    ∷ merged_into P (2 ∷ 3 ∷ 0 ∷ 2 ∷ 0 ∷ 1 ∷ 2 ∷ 3 ∷ 0 ∷ 1 ∷ 2 ∷ 3 ∷ []) 12 4 3 (2 ∷ 3 ∷ 0 ∷ 1 ∷ 1 ∷ 2 ∷ 3 ∷ 2 ∷ 3 ∷ 0 ∷ 9 ∷ 9 ∷ []) (4 ∷ 3 ∷ 3 ∷ 9 ∷ [])
    -- an index that stands twice: by place in the ring and not by number
    ∷ merged_into Q-flat (0 ∷ 0 ∷ 3 ∷ 0 ∷ 1 ∷ 3 ∷ []) 6 2 1 (3 ∷ 0 ∷ 0 ∷ 1 ∷ 9 ∷ 9 ∷ []) (4 ∷ 9 ∷ [])
    -- an empty list is no pieces, and lent slots are as they were
    ∷ merged_into [] [] 0 0 0 [] []
    ∷ merged_into P [] 2 1 0 (nines 2) (nines 1)
    -- the refusals of the merger, and of two that apply the earlier: 1 before 3, 3 before 4, 4 before 8
    ∷ merge_refused (whole (0 ∷ [])) [] 0 0 1
    ∷ merge_refused (replicate 1027 (f 0)) [] 0 0 1
    ∷ merged_into (replicate 1024 (f 0)) [] 0 0 0 [] []
    ∷ merge_refused (replicate 1026 (f 0)) [] 2 2 3
    ∷ merge_refused (replicate 1026 nan) [] 2 2 3
    ∷ merge_refused (f 0 ∷ f 1025 ∷ []) [] 1 1 4
    ∷ merge_refused (f 0 ∷ f- 1025 ∷ []) [] 1 1 4
    ∷ merge_refused (f 0 ∷ half ∷ []) [] 1 1 4
    ∷ merge_refused (f 0 ∷ nan ∷ []) [] 1 1 4
    ∷ merge_refused (f 0 ∷ inf false ∷ []) [] 1 1 4
    ∷ merge_refused (f 0 ∷ inf true ∷ []) [] 1 1 4
    ∷ merge_refused (nan ∷ f 0 ∷ []) (0 ∷ []) 2 2 4
    ∷ merge_refused P (0 ∷ []) 3 1 8
    ∷ merge_refused P (0 ∷ 1 ∷ 2 ∷ 3 ∷ 0 ∷ []) 6 2 8
    -- 510 triangles and 511: 8 before 10, 10 before 9
    ∷ merge_refused P (replicate 1530 0) 0 0 6
    ∷ merge_refused P (replicate 1531 0) 1533 511 8
    ∷ merge_refused P (replicate 1533 0) 1533 511 10
    ∷ merge_refused P (replicate 1534 0) 1533 511 8
    ∷ merge_refused [] (replicate 1533 0) 1533 511 10
    -- an index that is the number of points; 9 before 6; too little room for indices, and for lengths
    ∷ merge_refused P (0 ∷ 1 ∷ 4 ∷ []) 3 1 9
    ∷ merge_refused P (0 ∷ 1 ∷ 4 ∷ []) 2 0 9
    ∷ merge_refused P (2 ∷ 3 ∷ 0 ∷ 2 ∷ 0 ∷ 1 ∷ []) 5 2 6
    ∷ merge_refused P (2 ∷ 3 ∷ 0 ∷ 2 ∷ 0 ∷ 1 ∷ []) 6 1 6
    -- both point tests, of which the first answer is the outline test's: inside and outside, as request M-106 has them, at corners and on the border
    ∷ both_answered (f 2) (f 2) P inside inside
    ∷ both_answered (f 5) (f 2) P outside outside
    ∷ both_answered (f 2) (f 5) P outside outside
    ∷ both_answered (f- 1) (f 2) P outside outside
    ∷ both_answered (f 2) (f- 1) P outside outside
    ∷ both_answered (f 0) (f 0) P border inside
    ∷ both_answered (f 4) (f 4) P border inside
    ∷ both_answered (f 0) (f 4) P border inside
    ∷ both_answered (f 4) (f 0) P border inside
    ∷ both_answered (f 0) (f 2) P border inside
    ∷ both_answered (f 4) (f 2) P border inside
    ∷ both_answered (f 2) (f 0) P border inside
    ∷ both_answered (f 2) (f 4) P border inside
    -- request M-106, the border, ends counted: on the line of a slot, at its end, and on its prolongation, which is level with a corner
    ∷ asking-at (f 3) (f 2) slotted (answered border)
    ∷ asking-at (f 2) (f 2) slotted (answered border)
    ∷ asking-at (f 1) (f 2) slotted (answered inside)
    -- on the prolongation of an edge to either side, level with a corner and in the box of no edge; level with two corners, within and beyond them
    ∷ asking-at (f 6) (f 0) P (answered outside)
    ∷ asking-at (f 4) (f 6) P (answered outside)
    ∷ asking-at (f 1) (f 2) (whole (2 ∷ 0 ∷ 4 ∷ 2 ∷ 2 ∷ 4 ∷ 0 ∷ 2 ∷ [])) (answered inside)
    ∷ asking-at (f 5) (f 2) (whole (2 ∷ 0 ∷ 4 ∷ 2 ∷ 2 ∷ 4 ∷ 0 ∷ 2 ∷ [])) (answered outside)
    -- backwards; in the hollow of Q and around it; directly beside an outline
    ∷ both_answered (f 2) (f 2) P-backwards inside inside
    ∷ both_answered (f 0) (f 2) P-backwards border inside
    ∷ both_answered (f 4) (f 2) P-backwards border inside
    ∷ both_answered (f 2) (f 0) Q outside outside
    ∷ both_answered (f 2) (f 1) Q border inside
    ∷ both_answered (f 2) (f 2) Q inside inside
    ∷ both_answered (f 1) (f 1) Q inside outside
    ∷ both_answered (f 3) (f 1) Q inside outside
    ∷ both_answered (f- 1) (f 0) (whole (0 ∷ 0 ∷ 1 ∷ 0 ∷ 0 ∷ 1 ∷ [])) outside outside
    -- no corners: outside. One corner: the border is that corner, and the convex test says inside of every point. Two: the border is the segment
    -- between them, and the convex test says inside of those on their line
    ∷ both_answered (f 0) (f 0) [] outside outside
    ∷ both_answered (f 3) (f 2) (whole (0 ∷ 0 ∷ [])) outside inside
    ∷ both_answered (f 0) (f 0) (whole (0 ∷ 0 ∷ [])) border inside
    ∷ both_answered (f 4) (f 2) (whole (0 ∷ 0 ∷ 2 ∷ 1 ∷ [])) outside inside
    ∷ both_answered (f 4) (f 3) (whole (0 ∷ 0 ∷ 2 ∷ 1 ∷ [])) outside outside
    ∷ both_answered (f 2) (f 1) (whole (0 ∷ 0 ∷ 4 ∷ 2 ∷ [])) border inside
    ∷ both_answered (f 2) (f 2) (whole (0 ∷ 0 ∷ 4 ∷ 2 ∷ [])) outside outside
    -- at the edge of the grid, and at minus zero
    ∷ both_answered (f 1024) (f- 1024) widest border inside
    ∷ both_answered minus_zero (f 2) P border inside
    ∷ both_answered (f 2) minus_zero P border inside
    -- a refused question is answered with outside: for x, for y, for a coordinate
    ∷ both_refused (f 1025) (f 2) P 4
    ∷ both_refused (f- 1025) (f 2) P 4
    ∷ both_refused half (f 2) P 4
    ∷ both_refused nan (f 2) P 4
    ∷ both_refused (inf false) (f 2) P 4
    ∷ both_refused (inf true) (f 2) P 4
    ∷ both_refused (f 2) (f 1025) P 4
    ∷ both_refused (f 2) (f- 1025) P 4
    ∷ both_refused (f 2) half P 4
    ∷ both_refused (f 2) nan P 4
    ∷ both_refused (f 2) (inf false) P 4
    ∷ both_refused (f 2) (inf true) P 4
    ∷ both_refused (f 2) (f 2) (P ++ (f 2 ∷ f 1025 ∷ [])) 4
    ∷ both_refused (f 2) (f 2) (P ++ (nan ∷ f 2 ∷ [])) 4
    -- the refusals of the point tests, and of two that apply the earlier: 1 before 3 and 4, 3 before 4
    ∷ both_refused (f 2) (f 2) (P ++ (f 0 ∷ [])) 1
    ∷ both_refused (f 2) (f 2) (replicate 1027 (f 0)) 1
    ∷ both_refused nan (f 2) (P ++ (f 0 ∷ [])) 1
    ∷ both_answered (f 0) (f 0) (replicate 1024 (f 0)) border inside
    ∷ both_refused (f 0) (f 0) (replicate 1026 (f 0)) 3
    ∷ both_refused nan (f 0) (replicate 1026 (f 0)) 3
    ∷ both_refused (f 0) (f 0) (replicate 1026 nan) 3
    -- request M-104, the hull of a cloud: a square with a point in it, and one slot more than there are points
    ∷ hull_is (whole (2 ∷ 2 ∷ 0 ∷ 0 ∷ 4 ∷ 0 ∷ 4 ∷ 4 ∷ 0 ∷ 4 ∷ [])) 6 4 (1 ∷ 2 ∷ 3 ∷ 4 ∷ 9 ∷ 9 ∷ [])
    -- points on the sides and in the middle, one given twice: ties in the first directions, of which the first is taken
    ∷ hull_is (whole (1 ∷ 1 ∷ 0 ∷ 0 ∷ 4 ∷ 0 ∷ 2 ∷ 0 ∷ 4 ∷ 4 ∷ 0 ∷ 4 ∷ 4 ∷ 2 ∷ 4 ∷ 4 ∷ 2 ∷ 2 ∷ [])) 9 4 (1 ∷ 2 ∷ 4 ∷ 5 ∷ 9 ∷ 9 ∷ 9 ∷ 9 ∷ 9 ∷ [])
    -- three are equally far: the first is taken, and a straight corner stays; in another order none does
    ∷ hull_is (whole (0 ∷ 0 ∷ 6 ∷ 0 ∷ 2 ∷ 4 ∷ 1 ∷ 4 ∷ 4 ∷ 4 ∷ [])) 5 5 (0 ∷ 1 ∷ 4 ∷ 2 ∷ 3 ∷ [])
    ∷ hull_is (whole (0 ∷ 0 ∷ 6 ∷ 0 ∷ 1 ∷ 4 ∷ 2 ∷ 4 ∷ 4 ∷ 4 ∷ [])) 5 4 (0 ∷ 1 ∷ 4 ∷ 2 ∷ 9 ∷ [])
    -- the list begins at the first facet that stays, which is not the first of the walk; a point on the line through the first two ends
    ∷ hull_is (whole (0 ∷ 2 ∷ 1 ∷ 0 ∷ 3 ∷ 0 ∷ 4 ∷ 2 ∷ 3 ∷ 4 ∷ 1 ∷ 4 ∷ 2 ∷ 2 ∷ [])) 7 6 (3 ∷ 4 ∷ 5 ∷ 0 ∷ 1 ∷ 2 ∷ 9 ∷ [])
    -- the crate, with rounded distances, has point 3 as a corner too, on the straight way from 2 to 4
    ∷ hull_is (f- 3 ∷ f- 4 ∷ f 1 ∷ f 0 ∷ f 1 ∷ f 3 ∷ f- 2 ∷ f 0 ∷ f- 3 ∷ f- 1 ∷ []) 5 4 (0 ∷ 1 ∷ 2 ∷ 4 ∷ 9 ∷ [])
    -- all on one line: slanted, upright, two points, one point twice; 12 before 6
    ∷ hull_refused (whole (0 ∷ 0 ∷ 1 ∷ 1 ∷ 2 ∷ 2 ∷ [])) 3 12
    ∷ hull_refused (whole (3 ∷ 1 ∷ 3 ∷ 5 ∷ 3 ∷ 2 ∷ [])) 2 12
    ∷ hull_refused (whole (0 ∷ 0 ∷ 2 ∷ 1 ∷ [])) 2 12
    ∷ hull_refused (whole (2 ∷ 2 ∷ 2 ∷ 2 ∷ [])) 0 12
    -- the refusals of the hull, and of two that apply the earlier: 1 before 2, 2 before 4, 3 before 4, 4 before 12; room for one point too few
    ∷ hull_refused (whole (0 ∷ [])) 0 1
    ∷ hull_refused [] 0 2
    ∷ hull_refused (nan ∷ f 0 ∷ []) 1 2
    ∷ hull_refused (replicate 1026 nan) 3 3
    ∷ hull_refused (nan ∷ f 0 ∷ f 4 ∷ f 0 ∷ []) 2 4
    ∷ hull_refused P 3 6
    ∷ []
