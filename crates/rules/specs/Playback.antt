-- Request M-107: a shift log. What each of its lines means, what is in force, and what each line is answered.
use Rattle.std.specs.Prelude.{ℕ, ◌≤◌, ◌≡◌, Bool, true, false, cond, List, [], ◌∷◌, ◌++◌, eqb, ltb, length, Float}
use Prim.Native.Char.{code}
use Rattle.std.proofs.Math.Option.{Option, none, some}
use Rattle.algebra.specs.Lists.{or_else}
use Rattle.rules.specs.Limits.{most_points}
use Rattle.rules.specs.Plane.{Pt}
use Rattle.rules.specs.Border.{Position, outside, inside, border}
use Rattle.rules.specs.Refusals.{Row, ◌gives◌, first_refusal}
use Rattle.rules.specs.Entries.{unless, Asking, point_in_poly2d, point_in_convex_poly2d}
use Rattle.rules.specs.Text.{bytes, natural, polygon_line, triangle_line, point_line, most_bytes}
use Rattle.rules.specs.Lines.{coordinate, coordinates, off_corners}
use Rattle.rules.specs.Stream.{lines_of}

-- ---- what a line means

pub data Event : Type 0 where
  polygon : List Pt → Event
  triangle : List Pt → Event
  point : Pt → Event

-- the line that an event is written as
unfoldable pub event_line : Event → List ℕ
unfolding polygon_line triangle_line point_line
event_line (polygon corners) = polygon_line corners
event_line (triangle corners) = triangle_line corners
event_line (point p) = point_line p

-- an outline has a corner, and a triangle exactly three
abbrev pub proper : Event → Bool
proper (polygon corners) = ltb 0 (length corners)
proper (triangle corners) = eqb (length corners) 3
proper (point p) = true

-- the line is the writing of the event, and not too long
pub record Says (line : List ℕ) (event : Event) : Type 0 where
  pub written : line ≡ event_line event
  pub is_proper : proper event ≡ true
  pub short : length line ≤ most_bytes

-- what a line means: the event that it is the writing of, or none
pub data Means (line : List ℕ) : Option Event → Type 0 where
  in_form : {event : Event} → Says line event → Means line (some event)
  not_in_form : ((event : Event) → Says line event → ⊥) → Means line none

-- line by line
pub data AllMean : List (List ℕ) → List (Option Event) → Type 0 where
  no_lines : AllMean [] []
  line_and : {line : List ℕ} {event : Option Event} {lines : List (List ℕ)} {events : List (Option Event)} → Means line event → AllMean lines events
      → AllMean (line ∷ lines) (event ∷ events)

-- ---- what is in force

pub record InForce : Type 0 where
  -- of the outline's corners
  pub coords : List Float
  -- whether the convex test answers for it
  pub convex : Bool

-- before any outline: no corners, asked by the outline test
abbrev pub nothing_yet : InForce
nothing_yet = record { coords = []; convex = false }

-- what the point test gives back for a point that is asked alone
abbrev pub asked : InForce → Pt → Asking
asked s p = cond s.convex point_in_convex_poly2d point_in_poly2d (coordinate p.x) (coordinate p.y) s.coords

-- the point tests' refusals of an outline. The cutter's own are not given
unfoldable pub corner_checks : List Pt → List Row
unfolding off_corners
corner_checks corners = ltb most_points (length corners) gives 3 ∷ off_corners corners gives 4 ∷ []

unfoldable pub outline_refusal : List Pt → ℕ
unfolding first_refusal corner_checks
outline_refusal corners = first_refusal (corner_checks corners)

-- ---- what a line is answered

-- a refusal's number, 0 where an outline is set, or where the point is
pub data Reply : Type 0 where
  number : ℕ → Reply
  place : Position → Reply

abbrev pub told : Asking → Reply
told r = unless r.number number (place r.answer)

unfoldable pub reply : InForce → Option Event → Reply
unfolding outline_refusal
reply s none = number 11
reply s (some (polygon corners)) = number (outline_refusal corners)
reply s (some (triangle corners)) = number (outline_refusal corners)
reply s (some (point p)) = told (asked s p)

-- ---- a log, by looking back

-- what an outline puts in force, if it is not refused
unfoldable pub putting : Bool → List Pt → Option InForce
unfolding outline_refusal coordinates
putting convex corners = unless (outline_refusal corners) (λ n. none) (some (record { coords = coordinates corners; convex = convex }))

-- what a line sets
unfoldable pub sets : Option Event → Option InForce
unfolding putting
sets none = none
sets (some (polygon corners)) = putting false corners
sets (some (triangle corners)) = putting true corners
sets (some (point p)) = none

-- what the last of the lines that set something sets
unfoldable pub last_set : List (Option Event) → Option InForce
unfolding sets
last_set [] = none
last_set (event ∷ later) = or_else (last_set later) (sets event)

-- what was in force, or what was set
abbrev pub changed : InForce → Option InForce → InForce
changed s none = s
changed s (some t) = t

-- what is in force behind these lines
unfoldable pub in_force : List (Option Event) → InForce
unfolding last_set
in_force before = changed nothing_yet (last_set before)

-- the replies to lines that come behind others: each by itself and by what was set last before it
unfoldable pub replies_behind : List (Option Event) → List (Option Event) → List Reply
unfolding in_force reply
replies_behind before [] = []
replies_behind before (event ∷ rest) = reply (in_force before) event ∷ replies_behind (before ++ (event ∷ [])) rest

unfoldable pub replies : List (Option Event) → List Reply
unfolding replies_behind
replies events = replies_behind [] events

-- the replies to a stream of bytes: those to what its lines mean
pub record Playback (stream : List ℕ) (given : List Reply) : Type 0 where
  pub events : List (Option Event)
  pub meant : AllMean (lines_of stream) events
  pub replied : given ≡ replies events

-- ---- one line after the other, carrying what is in force

unfoldable pub stepping : InForce → List (Option Event) → List Reply
unfolding reply sets
stepping s [] = []
stepping s (event ∷ rest) = reply s event ∷ stepping (changed s (sets event)) rest

-- what is in force then
unfoldable pub stepped : InForce → List (Option Event) → InForce
unfolding sets
stepped s [] = s
stepped s (event ∷ rest) = stepped (changed s (sets event)) rest

-- ---- what is written

abbrev pub place_text : Position → List ℕ
place_text outside = bytes "outside"
place_text inside = bytes "inside"
place_text border = bytes "border"

unfoldable pub reply_text : Reply → List ℕ
unfolding natural
reply_text (number n) = natural n
reply_text (place p) = place_text p

-- one line for each
unfoldable pub written : List Reply → List ℕ
unfolding reply_text
written [] = []
written (r ∷ rest) = reply_text r ++ (code "\n" ∷ written rest)

-- lines that were played where s was in force: the text that was written, and what is in force then
pub record LinesPlayed (lines : List (List ℕ)) (s : InForce) (text : List ℕ) (t : InForce) : Type 0 where
  pub events : List (Option Event)
  pub meant : AllMean lines events
  pub writes : text ≡ written (stepping s events)
  pub leaves : t ≡ stepped s events
