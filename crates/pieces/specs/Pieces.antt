-- The later pieces: triangles, each as three edges in a store, and for each point a word that shows in which eights of pieces it stands.
use Rattle.std.specs.Prelude.{ℕ, zero, suc, ◌+◌, ◌-◌, ◌*◌, ◌/◌, ◌%◌, ◌^◌, ◌≤◌, ◌<◌, ◌≡◌, List, [], ◌∷◌, length, get_or, set, take, Option, Some, None}
use Rattle.std.proofs.Math.Option.{none, some}
use Rattle.std.specs.Int.Bits.{bit_or}
use Rattle.algebra.specs.Bits.{Has}
use Rattle.algebra.specs.Lists.{Each}
use Rattle.rules.specs.Merge.{mate}
use Rattle.pieces.specs.declared.Mate.{Mate}
use Rattle.pieces.specs.declared.store.Found.{Found}

-- ---- an edge as one number: points are below 512

abbrev pub edge_of : ℕ → ℕ → ℕ
edge_of s e = s * 512 + e

abbrev pub start_of : ℕ → ℕ
start_of edge = edge / 512

abbrev pub end_of : ℕ → ℕ
end_of edge = edge % 512

-- ---- pieces

-- piece k: where its edges begin
abbrev pub piece_at : List ℕ → ℕ → List ℕ
piece_at edges k = start_of (get_or edges (3 * k) 0) ∷ start_of (get_or edges (3 * k + 1) 0) ∷ start_of (get_or edges (3 * k + 2) 0) ∷ []

-- n pieces from number k on
unfoldable pub pieces_from : List ℕ → ℕ → ℕ → List (List ℕ)
pieces_from edges k zero = []
pieces_from edges k (suc n) = piece_at edges k ∷ pieces_from edges (suc k) n

-- the pieces from number `from` on, where there are `count`
abbrev pub later : List ℕ → ℕ → ℕ → List (List ℕ)
later edges from count = pieces_from edges from (count - from)

unfoldable pub put_piece : List ℕ → ℕ → ℕ → ℕ → ℕ → List ℕ
put_piece edges k x y z = set (set (set edges (3 * k) x) (3 * k + 1) y) (3 * k + 2) z

-- the last piece in the place of piece b
abbrev pub moved : List ℕ → ℕ → ℕ → List ℕ
moved edges b last = put_piece edges b (get_or edges (3 * last) 0) (get_or edges (3 * last + 1) 0) (get_or edges (3 * last + 2) 0)

-- ---- the eights

-- point v stands in the eight of piece k
abbrev pub Shown : List ℕ → ℕ → ℕ → Type 0
Shown eights k v = Has (get_or eights v 0) (k / 8)

unfoldable pub show : List ℕ → ℕ → ℕ → List ℕ
show eights v k = set eights v (bit_or (get_or eights v 0) (2 ^ (k / 8)))

-- where the three edges of piece k begin
abbrev pub shows : List ℕ → ℕ → ℕ → ℕ → ℕ → List ℕ
shows eights k x y z = show (show (show eights (start_of x) k) (start_of y) k) (start_of z) k

-- where piece b becomes what piece `last` is
abbrev pub moved_shows : List ℕ → List ℕ → ℕ → ℕ → List ℕ
moved_shows edges eights b last = shows eights b (get_or edges (3 * last) 0) (get_or edges (3 * last + 1) 0) (get_or edges (3 * last + 2) 0)

-- ---- what is known of them

-- each edge of piece k ends where the next begins, and each of its points shows its eight
pub record Piece (edges eights : List ℕ) (k : ℕ) : Type 0 where
  pub first : end_of (get_or edges (3 * k) 0) ≡ start_of (get_or edges (3 * k + 1) 0)
  pub second : end_of (get_or edges (3 * k + 1) 0) ≡ start_of (get_or edges (3 * k + 2) 0)
  pub third : end_of (get_or edges (3 * k + 2) 0) ≡ start_of (get_or edges (3 * k) 0)
  pub shown : Each (Shown eights k) (piece_at edges k)

-- its points are below 512
pub record Low (edges : List ℕ) (k : ℕ) : Type 0 where
  pub first : start_of (get_or edges (3 * k) 0) < 512
  pub second : start_of (get_or edges (3 * k + 1) 0) < 512
  pub third : start_of (get_or edges (3 * k + 2) 0) < 512

-- of `count` pieces, those from number `from` on
pub record Lie (edges eights : List ℕ) (from count : ℕ) : Type 0 where
  pub edges_size : length edges ≡ 1536
  pub eights_size : length eights ≡ 512
  pub few : count ≤ 510
  pub each : (k : ℕ) → from ≤ k → k < count → Piece edges eights k

-- at which place of the store an edge that was found stands
abbrev pub place_of : Option Found → Option ℕ
place_of None = None
place_of (Some found) = Some (3 * found.piece + found.side)

-- where the edge that is looked for first stands among the 24 edges of eight g, of the pieces from number `from` on, where there are `count`
abbrev pub Within : List ℕ → ℕ → ℕ → ℕ → ℕ → Option ℕ → Type 0
Within edges want g from count None = (i : ℕ) → 24 * g ≤ i → i < 24 * g + 24 → 3 * from ≤ i → i < 3 * count → get_or edges i 0 ≡ want → ⊥
Within edges want g from count (Some at) =
    (24 * g ≤ at) × (at < 24 * g + 24) × (3 * from ≤ at) × (at < 3 * count) × (get_or edges at 0 ≡ want)
    × ((i : ℕ) → 24 * g ≤ i → 3 * from ≤ i → i < at → get_or edges i 0 ≡ want → ⊥)

-- ---- the list of pieces

-- the first is taken out, where there is one
abbrev pub Taken : List (List ℕ) → Option (List ℕ) → List (List ℕ) → Type 0
Taken pieces None left = (pieces ≡ []) × (left ≡ [])
Taken pieces (Some first) left = pieces ≡ first ∷ left

-- the last moves into a place, as `swap_remove` fills a gap
abbrev pub swap_removed : ℕ → List (List ℕ) → List (List ℕ)
swap_removed place pieces = take (length pieces - 1) (set pieces place (get_or pieces (length pieces - 1) []))

-- the mate of the edge s to e: at which place it stands, and its third corner; the last piece then moves there
unfoldable pub Mated : List (List ℕ) → ℕ → ℕ → Option Mate → Type 0
unfolding mate
Mated pieces e s None = mate e s [] pieces ≡ none
Mated pieces e s (Some m) =
    (m.place < length pieces)
    × (mate e s [] pieces ≡ some (record { piece = m.third ∷ []; others = swap_removed m.place pieces }))
