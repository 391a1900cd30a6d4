-- What the exported entries promise over the bytes, on any input: numbers, counts and answers are those that the rules give for the
-- words, what is reported is written to the front of the lent bytes, and all other bytes keep their contents.
use Rattle.std.specs.Prelude.{ℕ, zero, suc, ◌+◌, ◌*◌, ◌/◌, ◌≡◌, cond, List, map, ltb, length, take, Float}
use Rattle.rules.specs.Limits.{most_indices}
use Rattle.rules.specs.Plane.{Pt}
use Rattle.rules.specs.Layout.{flatten, over}
use Rattle.rules.specs.Border.{Position, position_number}
use Rattle.rules.specs.Entries.{cutter, merger, asking, huller, written_pieces, written_corners}
use Rattle.words.specs.Bytes.{words_of, floats_of, bytes_of}
use Rattle.entries.specs.declared.Answer.{Answer}
use Rattle.hasplight.specs.declared.Verdict.{Verdict}

-- n, or the most that is ever asked for where it is more
abbrev pub least_of : ℕ → ℕ
least_of n = cond (ltb n most_indices) n most_indices

-- the number of indices in the pieces that t indices were merged to: each piece has two corners more than it has triangles
abbrev pub corners_of : ℕ → ℕ → ℕ → ℕ
corners_of zero t count = t / 3 + 2 * count
corners_of (suc number) t count = 0

-- of an entry that reports indices: its number and count, and the report as bytes
pub record Reported (number count : ℕ) (report indices : List ℕ) (r : Answer) (indices' : List ℕ) : Type 0 where
  pub number_is : r.number ≡ number
  pub count_is : r.count ≡ count
  pub bytes : indices' ≡ over (bytes_of report) indices

-- what the cutter gives back for these coordinates
abbrev pub CutterGives : List Float → List ℕ → Answer → List ℕ → Type 0
CutterGives cs indices = let c = cutter cs (words_of indices) in Reported c.number c.count (take (3 * c.count) c.indices) indices

abbrev pub CutterPromise : List ℕ → List ℕ → Answer → List ℕ → Type 0
CutterPromise coords = CutterGives (floats_of coords)

-- what the merger gives back for these coordinates and these triangles' indices
pub record MergerGives (cs : List Float) (triangles indices lengths : List ℕ) (r : Answer) (indices' lengths' : List ℕ) : Type 0 where
  pub number : r.number ≡ (merger cs triangles (words_of indices) (words_of lengths)).number
  pub count : r.count ≡ (merger cs triangles (words_of indices) (words_of lengths)).count
  pub bytes : indices' ≡ over (bytes_of (flatten (written_pieces (merger cs triangles (words_of indices) (words_of lengths))))) indices
  pub length-bytes : lengths' ≡ over (bytes_of (map length (written_pieces (merger cs triangles (words_of indices) (words_of lengths))))) lengths

abbrev pub MergerPromise : List ℕ → List ℕ → List ℕ → List ℕ → Answer → List ℕ → List ℕ → Type 0
MergerPromise coords triangles = MergerGives (floats_of coords) (words_of triangles)

-- what a point test gives back for these coordinates
pub record PointGives (test : Pt → List Pt → Position) (x y : Float) (cs : List Float) (r : Verdict) : Type 0 where
  pub number : r.number ≡ (asking test x y cs).number
  pub answer : r.answer ≡ position_number (asking test x y cs).answer

abbrev pub PointPromise : (Pt → List Pt → Position) → Float → Float → List ℕ → Verdict → Type 0
PointPromise test x y coords = PointGives test x y (floats_of coords)

-- what the hull of a cloud gives back for these coordinates
abbrev pub HullGives : List Float → List ℕ → Answer → List ℕ → Type 0
HullGives cs indices = let h = huller cs (words_of indices) in Reported h.number h.count (written_corners h) indices

abbrev pub HullPromise : List ℕ → List ℕ → Answer → List ℕ → Type 0
HullPromise coords = HullGives (floats_of coords)
