-- What an edge shows of a spot, what several edges show together, and what all of them say: by each test.
use Rattle.std.specs.Prelude.{◌≡◌, refl, Bool, false, not, cond, ◌&&◌, ◌||◌, List, [], ◌∷◌, pos}
use Rattle.std.specs.Int.Signed.{lt_z}
use Rattle.std.proofs.Common.{sym, ap}
use mathlib.Core.Bool.{or_assoc, or_comm}
use Rattle.algebra.specs.Lists.{any}
use Rattle.algebra.specs.Sums.{Sums, total, xor, xor_assoc, xor_comm}
use Rattle.algebra.specs.Rings.{Edge, edges}
use Rattle.rules.specs.Plane.{Pt}
use Rattle.rules.specs.Crossing.{perp, crossed, odd, odd_crossings, inside_convex}
use Rattle.rules.specs.Border.{Position, outside, inside, border, on_edge, on_border, position, convex_position}
use Rattle.point_in_poly2d.specs.declared.edges.Crossing.{Crossing}
use Rattle.point_in_poly2d.specs.declared.edges.Sides.{Sides}

-- ---- the outline test: whether an odd number of edges is crossed, and whether the spot is on one

abbrev crossing : Bool → Bool → Crossing
crossing odd touched = record { odd = odd; touched = touched }

abbrev pub crossings : Sums Crossing
crossings = record {
  ◌⊕◌ = λ s t. crossing (xor s.odd t.odd) (s.touched || t.touched);
  nil = crossing false false;
  assoc = λ a b c i. crossing (xor_assoc a.odd b.odd c.odd i) (or_assoc a.touched b.touched c.touched i);
  comm = λ a b i. crossing (xor_comm a.odd b.odd i) (or_comm a.touched b.touched i);
  idl = λ a. refl;
}

abbrev pub crossing_of : Pt → Edge Pt → Crossing
crossing_of p e = crossing (crossed p e.from e.to) (on_edge p e.from e.to)

abbrev pub crossing_told : Crossing → Position
crossing_told s = cond s.touched border (cond s.odd inside outside)

-- ---- the convex test: whether the spot is left of some edge, and whether it is right of some

abbrev both_sides : Bool → Bool → Sides
both_sides left right = record { left = left; right = right }

abbrev pub sides : Sums Sides
sides = record {
  ◌⊕◌ = λ s t. both_sides (s.left || t.left) (s.right || t.right);
  nil = both_sides false false;
  assoc = λ a b c i. both_sides (or_assoc a.left b.left c.left i) (or_assoc a.right b.right c.right i);
  comm = λ a b i. both_sides (or_comm a.left b.left i) (or_comm a.right b.right i);
  idl = λ a. refl;
}

abbrev pub sides_of : Pt → Edge Pt → Sides
sides_of p e = both_sides (lt_z (perp p e.from e.to) (pos 0)) (lt_z (pos 0) (perp p e.from e.to))

abbrev pub sides_told : Sides → Position
sides_told s = cond (not (s.right && s.left)) inside outside

-- ---- what the rules say, by these sums

crossing_total : (p : Pt) (es : List (Edge Pt)) → total crossings (crossing_of p) es ≡ crossing (odd (λ e. crossed p e.from e.to) es) (any (λ e. on_edge p e.from e.to) es)
crossing_total p [] = refl
crossing_total p (e ∷ es) = ap (λ (s : Crossing). crossing (xor (crossed p e.from e.to) s.odd) (on_edge p e.from e.to || s.touched)) (crossing_total p es)

sides_total : (p : Pt) (es : List (Edge Pt)) → total sides (sides_of p) es ≡ both_sides (any (λ e. lt_z (perp p e.from e.to) (pos 0)) es) (any (λ e. lt_z (pos 0) (perp p e.from e.to)) es)
sides_total p [] = refl
sides_total p (e ∷ es) = ap (λ (s : Sides). both_sides (lt_z (perp p e.from e.to) (pos 0) || s.left) (lt_z (pos 0) (perp p e.from e.to) || s.right)) (sides_total p es)

pub outline_of_none : (p : Pt) → position p [] ≡ outside
unfolding position on_border odd_crossings
outline_of_none p = refl

pub outline_of_all : (p a : Pt) (l : List Pt) → position p (a ∷ l) ≡ crossing_told (total crossings (crossing_of p) (edges (a ∷ l)))
unfolding position on_border odd_crossings
outline_of_all p a l = sym (ap crossing_told (crossing_total p (edges (a ∷ l))))

pub convex_of_none : (p : Pt) → convex_position p [] ≡ outside
unfolding convex_position inside_convex
convex_of_none p = refl

pub convex_of_all : (p a : Pt) (l : List Pt) → convex_position p (a ∷ l) ≡ sides_told (total sides (sides_of p) (edges (a ∷ l)))
unfolding convex_position inside_convex
convex_of_all p a l = sym (ap sides_told (sides_total p (edges (a ∷ l))))
