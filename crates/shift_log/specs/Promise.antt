-- What one step promises: its reply, what is in force then and every lent element are what the rules give, on any line and any memory that is
-- lent.
use Prim.Native.Char.{code}
use Rattle.std.specs.Prelude.{ℕ, ◌*◌, ◌/◌, ◌≤◌, ◌≡◌, Bool, false, cond, List, [], ◌∷◌, ◌++◌, ltb, length, take, Float, Result, Ok, Err}
use Rattle.std.proofs.Math.Option.{Option, none, some}
use Rattle.rules.specs.Limits.{most_points}
use Rattle.rules.specs.Plane.{Pt}
use Rattle.rules.specs.Layout.{over}
use Rattle.rules.specs.Lines.{coordinates}
use Rattle.rules.specs.Playback.{Event, Means, InForce as RulesInForce, Reply as RulesReply, number, place, outline_refusal, reply, putting, sets, reply_text}
use Rattle.entries.specs.declared.Refusal.{Refusal}
use Rattle.entries.specs.Refusals.{number_of}
use Rattle.point_in_poly2d.specs.declared.Position.{Position}
use Rattle.point_in_poly2d.specs.Positions.{position_of}
use Rattle.shift_log.specs.declared.InForce.{InForce}
use Rattle.shift_log.specs.declared.Reply.{Reply}
use Rattle.shift_log.specs.declared.Reply.TheVariants.{Set, At}

-- the coordinates in force stand at the front of what is lent
abbrev pub in_force_of : InForce → RulesInForce
in_force_of f = record { coords = take (2 * f.force.corners) f.coords.now; convex = f.force.convex }

abbrev pub reply_of : Result Reply Refusal → RulesReply
reply_of (Ok Set) = number 0
reply_of (Ok (At p)) = place (position_of p)
reply_of (Err r) = number (number_of r)

-- what the point test has answered
abbrev pub point_reply : Result Position Refusal → RulesReply
point_reply (Ok p) = place (position_of p)
point_reply (Err r) = number (number_of r)

-- a reply on a line of its own
abbrev pub reply_line : RulesReply → List ℕ
reply_line r = reply_text r ++ (code "\n" ∷ [])

-- too little is lent for what is set
abbrev pub too_little : ℕ → Option RulesInForce → Bool
too_little room none = false
too_little room (some s) = ltb room (length s.coords)

-- what is lent and what is in force, before and after: what is set is written to the front, and if nothing is set all stays as it was
abbrev pub Stands : Option RulesInForce → InForce → InForce → Type 0
Stands none f g = (g.coords.now ≡ f.coords.now) × (g.force ≡ f.force)
Stands (some s) f g = (g.coords.now ≡ over s.coords f.coords.now) × (g.force ≡ record { corners = length s.coords / 2; convex = s.convex })

-- a line with this reply, which sets this: 6 where too little is lent for it
pub record Stepped (given : RulesReply) (set : Option RulesInForce) (f : InForce) (r : Result Reply Refusal) (g : InForce) : Type 0 where
  pub replied : reply_of r ≡ cond (too_little (length f.coords.now) set) (number 6) given
  pub stands : Stands (cond (too_little (length f.coords.now) set) none set) f g
  pub same_coords : g.coords.ghost_name ≡ f.coords.ghost_name
  pub coords_len : length g.coords.now ≡ length f.coords.now

pub record StepPromise (line : List ℕ) (f : InForce) (r : Result Reply Refusal) (g : InForce) : Type 0 where
  pub event : Option Event
  pub meant : Means line event
  pub stepped : Stepped (reply (in_force_of f) event) (sets event) f r g

-- of an outline that has these coordinates and not too many corners
abbrev pub PutPromise : List Float → Bool → InForce → Result Reply Refusal → InForce → Type 0
PutPromise own convex f r g =
    (corners : List Pt) → length corners ≤ most_points → own ≡ coordinates corners → Stepped (number (outline_refusal corners)) (putting convex corners) f r g
