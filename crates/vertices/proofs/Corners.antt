-- What a ring by its links and lengths says of each of its corners; and that an ear's key stands for it.
use Prim.Native.Nat.{ℕ, ◌≤◌, ◌<◌}
use native.Mathlib.Omega.{arith}
use mathlib.Core.Path.{◌≡◌, refl, ap, ◌∙◌}
use mathlib.Core.Bool.{true, false}
use mathlib.Core.List.{List}
use lib.ListN.{length}
use lib.Ieee.{Float}
use Rattle.algebra.specs.Rings.{Corner}
use Rattle.rules.specs.Grid.{points_of}
use Rattle.rules.specs.Plane.{Pt, point}
use Rattle.rules.specs.Ear as rules
use Rattle.rules.specs.Refusals.{off_grid}
use Rattle.rules.proofs.Pointiness.{reciprocal-back, ear-number, ear-above}
use Rattle.winners.specs.Keys.{from_ear, Proper, no, pointed}
use Rattle.vertices.specs.Ears.{ear_of}
use Rattle.vertices.specs.declared.Vertex.{Vertex}
use Rattle.vertices.specs.declared.Vertices.{Vertices}
use Rattle.vertices.specs.Vertices.{points_in, prev_of, next_of, active_of, ring_in, edge_of, Ringed, AtCorner}
use Rattle.vertices.proofs.Links.{Once, ends, near}
use Rattle.vertices.proofs.Actives.{once, each_on}

-- on the grid an ear's pointiness is a number above -2^24
pub proper : (cs : List Float) → off_grid cs ≡ false → (c : Corner ℕ) → Proper (ear_of (points_of cs) c)
unfolding ear_of
proper cs grid c = go (rules.ear (points_of cs) c) refl
  where
    go : (e : rules.Ear) → rules.ear (points_of cs) c ≡ e → Proper (from_ear e)
    go rules.none q = no
    go (rules.pointed f) q = pointed (ear-number cs grid c f q) (ear-above cs grid c f q)

-- the same of the vertices of an outline
pub proper_in : (s : Vertices) (c : Corner ℕ) → Proper (ear_of (points_in s) c)
proper_in s c = proper s.outline.now.points.now.coords.now s.outline.now.points.now.on_grid c

module _ (ps : List Pt) (n : ℕ) (r : List Vertex) (h : Ringed ps n r) (j : ℕ) (low : j < n) (oj : active_of r j ≡ true) where
  is_once_lem : Once j (ring_in n r)
  is_once_lem = once (active_of r) j 0 n (omega arith) (omega arith) oj

  -- its neighbours are on, and each is linked back to it
  pub neighbours_on : (active_of r (prev_of r j) ≡ true) × (active_of r (next_of r j) ≡ true)
  neighbours_on = near (prev_of r) (next_of r) (λ k. active_of r k ≡ true) j is_once_lem (each_on (active_of r) 0 n) h.links

  pub linked_back : (next_of r (prev_of r j) ≡ j) × (prev_of r (next_of r j) ≡ j)
  linked_back = ends (prev_of r) (next_of r) j is_once_lem h.links

  -- what its ear is worked out from
  pub at_corner_lem : n ≤ 512 → n ≡ length ps → AtCorner ps r j
  at_corner_lem small is =
      let w = h.within j low in
      record {
        small = omega arith;
        low = omega arith;
        before_low = omega (arith, w.0);
        after_low = omega (arith, w.1);
        before = h.lengths (prev_of r j) w.0 neighbours_on.0 ∙ ap (edge_of ps (prev_of r j)) linked_back.0 ∙ reciprocal-back (point ps j) (point ps (prev_of r j));
        after = h.lengths j low oj;
      }
