-- Request M-101: the drawing office's text. What is written is given; a line is in form if it is the writing of some corners.
use Rattle.std.specs.Prelude.{ℕ, zero, suc, ◌+◌, ◌/◌, ◌%◌, ◌≤◌, ◌≡◌, true, false, cond, List, [], ◌∷◌, ◌++◌, map, ◌≢◌, eqb, ltb, length, get_or, ℤ, pos, negsuc}
use Prim.Native.Char.{code}
use Prim.Native.String.{String, [] as ends, ◌∷◌ as ◌then◌}
use Rattle.rules.specs.Plane.{Pt}

-- a text as its bytes
abbrev pub bytes : String → List ℕ
bytes ends = []
bytes (c then s) = code c ∷ bytes s

-- ---- numbers

-- the digit d, from 0 to 9
abbrev pub digit : ℕ → ℕ
digit d = code "0" + d

-- the decimal digits of n, the last k where there are more
unfoldable pub digits_up_to : ℕ → ℕ → List ℕ
digits_up_to zero n = []
digits_up_to (suc k) n = elim (ltb n 10) [ true ↦ digit n ∷ [] | false ↦ digits_up_to k (n / 10) ++ (digit (n % 10) ∷ []) ]

-- all of them: there are at most n + 1
unfoldable pub natural : ℕ → List ℕ
unfolding digits_up_to
natural n = digits_up_to (suc n) n

-- a whole number: a minus if it is below zero, then its digits
unfoldable pub decimal : ℤ → List ℕ
unfolding natural
decimal (pos n) = natural n
decimal (negsuc n) = code "-" ∷ natural (suc n)

-- ---- points and rings

unfoldable pub point_text : Pt → List ℕ
unfolding decimal
point_text p = decimal p.x ++ (code " " ∷ decimal p.y)

-- each part behind a comma and a space
unfoldable pub behind : List (List ℕ) → List ℕ
behind [] = []
behind (part ∷ parts) = code "," ∷ code " " ∷ (part ++ behind parts)

-- parts with a comma and a space between two
unfoldable pub parted : List (List ℕ) → List ℕ
unfolding behind
parted [] = []
parted (part ∷ parts) = part ++ behind parts

abbrev pub in_parentheses : List ℕ → List ℕ
in_parentheses text = code "(" ∷ (text ++ (code ")" ∷ []))

-- the points of a ring as they stand in text: its corners, and the first again
abbrev pub closed : List Pt → List Pt
closed [] = []
closed (c ∷ cs) = c ∷ (cs ++ (c ∷ []))

unfoldable pub ring_text : List Pt → List ℕ
unfolding point_text parted
ring_text corners = in_parentheses (parted (map point_text (closed corners)))

-- an area of one ring, without holes
unfoldable pub area_text : List Pt → List ℕ
unfolding ring_text
area_text corners = in_parentheses (ring_text corners)

-- ---- lines

unfoldable pub polygon_line : List Pt → List ℕ
unfolding area_text
polygon_line corners = bytes "POLYGON " ++ area_text corners

-- of three corners
unfoldable pub triangle_line : List Pt → List ℕ
unfolding area_text
triangle_line corners = bytes "TRIANGLE " ++ area_text corners

unfoldable pub point_line : Pt → List ℕ
unfolding point_text
point_line p = bytes "POINT " ++ in_parentheses (point_text p)

unfoldable pub multipolygon_line : List (List Pt) → List ℕ
unfolding area_text parted
multipolygon_line rings = bytes "MULTIPOLYGON " ++ in_parentheses (parted (map area_text rings))

-- without the newline
abbrev pub most_bytes : ℕ
most_bytes = 8192

-- the line is the writing of these corners, of which there is one, and not too long
pub record InForm (line : List ℕ) (corners : List Pt) : Type 0 where
  pub written : line ≡ polygon_line corners
  pub some_corner : corners ≢ []
  pub short : length line ≤ most_bytes

-- it is the writing of none
unfoldable pub NotInForm : List ℕ → Type 0
NotInForm line = (corners : List Pt) → InForm line corners → ⊥

-- ---- where a number ends

abbrev pub Digit : ℕ → Type 0
Digit b = (code "0" ≤ b) × (b ≤ code "9")

-- what follows does not go on with a digit
abbrev pub Ends : List ℕ → Type 0
Ends rest = Digit (get_or rest 0 0) → ⊥

-- ---- the line among what is read

-- the bytes in front of the first newline, or all
unfoldable pub first_line : List ℕ → List ℕ
first_line [] = []
first_line (b ∷ rest) = cond (eqb b (code "\n")) [] (b ∷ first_line rest)
