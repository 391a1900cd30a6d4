-- Request M-107 by cases, as one table: lines byte for byte, streams as lines, a log with every kind of line and refusal, and what is written.
use Rattle.std.specs.Prelude.{ℕ, ◌≡◌, Bool, true, false, List, [], ◌∷◌, map, ℤ, pos, negsuc, replicate}
use Prim.Native.String.{String}
use Rattle.std.proofs.Math.Option.{Option, none, some}
use Rattle.rules.specs.Plane.{Pt}
use Rattle.rules.specs.Border.{outside, inside, border}
use Rattle.rules.specs.Text.{bytes}
use Rattle.rules.specs.Stream.{lines_of, lines_read}
use Rattle.rules.specs.Playback.{Event, polygon, triangle, point, event_line, proper, Reply, number, place, replies, written}

-- what a line means, and its reply
infix 90 ◌gets◌
pub data Answer : Type 0 where
  ◌gets◌ : Option Event → Reply → Answer

abbrev pub line : Answer → Option Event
line (e gets r) = e

abbrev pub answer : Answer → Reply
answer (e gets r) = r

pub data LogCase : Type 0 where
  is_written : Event → String → LogCase
  is_proper : Event → Bool → LogCase
  has_lines : String → List String → LogCase
  -- the stream in reads
  is_read : List String → List String → LogCase
  plays : List Answer → LogCase
  has_text : List Reply → String → LogCase

abbrev pub LogHolds : LogCase → Type 0
LogHolds (is_written event text) = event_line event ≡ bytes text
LogHolds (is_proper event t) = proper event ≡ t
LogHolds (has_lines stream lines) = lines_of (bytes stream) ≡ map bytes lines
LogHolds (is_read reads lines) = lines_read (map bytes reads) ≡ map bytes lines
LogHolds (plays log) = replies (map line log) ≡ map answer log
LogHolds (has_text given text) = written given ≡ bytes text

abbrev at : ℤ → ℤ → Pt
at x y = record { x = x; y = y }

abbrev T : List Pt
T = at (pos 0) (pos 0) ∷ at (pos 4) (pos 0) ∷ at (pos 0) (pos 4) ∷ []

-- n corners off the grid
abbrev off : ℕ → List Pt
off n = replicate n (at (pos 1025) (pos 0))

abbrev asks : ℤ → ℤ → Option Event
asks x y = some (point (at x y))

abbrev pub log_table : List LogCase
log_table =
    is_written (point (at (pos 2) (negsuc 0))) "POINT (2 -1)"
    ∷ is_written (triangle T) "TRIANGLE ((0 0, 4 0, 0 4, 0 0))"
    ∷ is_written (polygon T) "POLYGON ((0 0, 4 0, 0 4, 0 0))"
    ∷ is_proper (point (at (pos 0) (pos 0))) true
    ∷ is_proper (polygon []) false
    ∷ is_proper (polygon (off 1)) true
    ∷ is_proper (triangle (off 2)) false
    ∷ is_proper (triangle (off 3)) true
    ∷ is_proper (triangle (off 4)) false
    -- an empty line in the middle and no newline at the end; nothing after the last newline; nothing at all
    ∷ has_lines "a\n\nb" ("a" ∷ "" ∷ "b" ∷ [])
    ∷ has_lines "a\n" ("a" ∷ [])
    ∷ has_lines "\n" ("" ∷ [])
    ∷ has_lines "" []
    -- reads that end within a line, at its newline, and with nothing
    ∷ is_read ("a" ∷ "" ∷ "b\n" ∷ "\nc" ∷ []) ("ab" ∷ "" ∷ "c" ∷ [])
    ∷ plays
    -- before any outline
    (asks (pos 2) (pos 2) gets place outside
    ∷ asks (pos 0) (negsuc 1024) gets number 4
    ∷ none gets number 11
    -- the outline test
    ∷ some (polygon T) gets number 0
    ∷ asks (pos 1) (pos 1) gets place inside
    ∷ asks (pos 2) (pos 2) gets place border
    ∷ asks (pos 3) (pos 2) gets place outside
    -- the convex test, which stays in force behind refusals
    ∷ some (triangle T) gets number 0
    ∷ asks (pos 2) (pos 2) gets place inside
    ∷ some (polygon (off 513)) gets number 3
    ∷ some (polygon (off 512)) gets number 4
    ∷ some (triangle (off 3)) gets number 4
    ∷ none gets number 11
    ∷ asks (pos 1025) (pos 0) gets number 4
    ∷ asks (pos 2) (pos 2) gets place inside
    -- one corner, and two
    ∷ some (polygon (at (pos 3) (pos 3) ∷ [])) gets number 0
    ∷ asks (pos 3) (pos 3) gets place border
    ∷ asks (pos 2) (pos 2) gets place outside
    ∷ some (polygon (at (pos 0) (pos 0) ∷ at (pos 4) (pos 4) ∷ [])) gets number 0
    ∷ asks (pos 2) (pos 2) gets place border
    ∷ [])
    ∷ has_text (number 11 ∷ place border ∷ place inside ∷ place outside ∷ number 0 ∷ []) "11\nborder\ninside\noutside\n0\n"
    ∷ []
