-- What a text starts with, what was read of it so far, and what a whole line is.
use Rattle.std.specs.Prelude.{ℕ, suc, ◌+◌, ◌*◌, ◌≤◌, ◌≡◌, cond, List, [], ◌∷◌, ◌++◌, map, ltb, length, take, set, Float}
use Rattle.algebra.specs.Rings.{last_of}
use Rattle.rules.specs.Limits.{most_points, most_coordinates}
use Rattle.rules.specs.Plane.{Pt}
use Rattle.rules.specs.Text.{bytes, point_text, behind, point_line, Ends, most_bytes}
use Rattle.rules.specs.Lines.{coordinate, coordinates}

-- ---- points

-- the text is a point as it is written, and then the rest
pub record SpotRead (text : List ℕ) (x y : Float) (written rest : List ℕ) : Type 0 where
  pub p : Pt
  pub is : text ≡ written ++ rest
  pub is_point : written ≡ point_text p
  pub ends : Ends rest
  pub worth-x : x ≡ coordinate p.x
  pub worth-y : y ≡ coordinate p.y

unfoldable pub NoPoint : List ℕ → Type 0
NoPoint text = (p : Pt) (rest : List ℕ) → text ≡ point_text p ++ rest → Ends rest → ⊥

-- the coordinates with those of point number n written, if there is a place for it
abbrev pub stored : List Float → ℕ → Float → Float → List Float
stored coords n x y = cond (ltb n most_points) (set (set coords (2 * n) x) (2 * n + 1) y) coords

-- the first n points are held, as far as there is room
unfoldable pub Held : ℕ → List Pt → List Float → Type 0
Held n ps coords = (k : ℕ) → k ≤ n → k ≤ most_points → take (2 * k) coords ≡ coordinates (take k ps)

-- the text is n points, of which the first and the last are written so, and then the rest
pub record Passed (text first last rest : List ℕ) (n : ℕ) (coords : List Float) : Type 0 where
  pub p : Pt
  pub qs : List Pt
  pub is : text ≡ point_text p ++ (behind (map point_text qs) ++ rest)
  pub ends : Ends rest
  pub counted : n ≡ suc (length qs)
  pub is_first : first ≡ point_text p
  pub is_last : last ≡ point_text (last_of p qs)
  pub held : Held n (p ∷ qs) coords
  pub size : length coords ≡ most_coordinates
  pub few : n + length rest ≤ length text

-- ---- rings and lines

-- what stands between two points
abbrev pub parting : List ℕ
parting = bytes ", "

-- what a line with a ring ends with
abbrev pub closing : List ℕ
closing = bytes "))"

-- the points of a ring with these corners, the first again, and the closing
unfoldable pub ring_rest : Pt → List Pt → List ℕ
unfolding point_text behind
ring_rest c cs = point_text c ++ (behind (map point_text (cs ++ (c ∷ []))) ++ closing)

unfoldable pub NoRing : List ℕ → Type 0
NoRing rest = (c : Pt) (cs : List Pt) → rest ≡ ring_rest c cs → ⊥

-- the corners are counted, and held where there is room for them
pub record Counted (c : Pt) (cs : List Pt) (count : ℕ) (coords : List Float) : Type 0 where
  pub counted : count ≡ length (c ∷ cs)
  pub held : count ≤ most_points → take (2 * count) coords ≡ coordinates (c ∷ cs)

pub record RingRead (rest : List ℕ) (count : ℕ) (coords : List Float) : Type 0 where
  pub c : Pt
  pub cs : List Pt
  pub text : rest ≡ ring_rest c cs
  pub known : Counted c cs count coords

-- the line starts with a word and goes on with a ring, and is not too long
pub record Outlined (word line : List ℕ) (c : Pt) (cs : List Pt) : Type 0 where
  pub text : line ≡ word ++ ring_rest c cs
  pub short : length line ≤ most_bytes

unfoldable pub NoOutline : List ℕ → List ℕ → Type 0
NoOutline word line = (c : Pt) (cs : List Pt) → Outlined word line c cs → ⊥

pub record OutlineRead (word line : List ℕ) (count : ℕ) (coords : List Float) : Type 0 where
  pub c : Pt
  pub cs : List Pt
  pub outlined : Outlined word line c cs
  pub known : Counted c cs count coords

-- a POINT line that is not too long
pub record Pointed (line : List ℕ) (p : Pt) : Type 0 where
  pub text : line ≡ point_line p
  pub short : length line ≤ most_bytes

unfoldable pub NoPointLine : List ℕ → Type 0
NoPointLine line = (p : Pt) → Pointed line p → ⊥

pub record PointRead (line : List ℕ) (x y : Float) : Type 0 where
  pub p : Pt
  pub pointed : Pointed line p
  pub worth-x : x ≡ coordinate p.x
  pub worth-y : y ≡ coordinate p.y
