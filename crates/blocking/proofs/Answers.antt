-- What the search for a point that blocks answers: a hit is a point of the outline, and without one each point lies apart from the ear or was
-- looked at.
use Prim.Native.Nat.{ℕ, ◌+◌, ◌*◌, ◌/◌, ◌%◌, ◌^◌, ◌≤◌, ◌<◌}
use native.Mathlib.Decide.{ℕ_discrete}
use native.Mathlib.Nat.{pow-suc}
use native.Mathlib.Numerals.{add-one}
use native.Mathlib.Omega.{arith}
use mathlib.Core.Path.{◌≡◌, refl, sym, ap, ◌∙◌, subst}
use mathlib.Core.Bool.{Bool, true, false}
use mathlib.Core.List.{List}
use borrow.Author.Tests.{ltb-true, ltb-false}
use lib.Dec.{ltb, lit<}
use lib.IntN.{pos}
use lib.ListN.{length, get_or}
use Rattle.algebra.specs.Bits.{Has}
use Rattle.algebra.specs.Lists.{any}
use Rattle.algebra.proofs.Bits.{has_below, has_rest}
use Rattle.algebra.proofs.Lists.{any_at, any-nowhere}
use Rattle.rules.specs.Plane.{Pt, left, point}
use Rattle.rules.specs.Ear as rules
use Rattle.rules.proofs.GridSizes.{GridPoint}
use Rattle.grid.specs.declared.point.Point.{Point}
use Rattle.grid.specs.Points.{pt_of}
use Rattle.grid.proofs.OnGrid.{is_on}
use Rattle.grid.proofs.Turn.{grid_point}
use Rattle.blocking.specs.declared.sides.Sides.{Sides}
use Rattle.blocking.specs.declared.places.Places.{Places}
use Rattle.blocking.specs.declared.strips.Masks.{Masks}
use Rattle.blocking.specs.InFloats.{sides_of, blocks_of, blocks_from}
use Rattle.blocking.specs.Strips.{candidates_of}
use Rattle.blocking.specs.Outlined.{source, Outlined}
use Rattle.blocking.proofs.ByTurns.{apart_free}
use Rattle.blocking.proofs.Exact.{exact}
use Rattle.blocking.proofs.Flats.{source-front, source-rest, flat_point}
use Rattle.blocking.proofs.Scans.{none_of, some_of}
use Rattle.blocking.proofs.Stripping.{left_out}

module _ (ps : List Pt) (places : Places) (o : Outlined ps places) (a b c : Point) (l : left (pt_of a) (pt_of b) (pt_of c) ≡ true) where
  abbrev rule : Pt → Bool
  rule = rules.blocks (pt_of a) (pt_of b) (pt_of c)

  abbrev strips : List Masks
  strips = places.strips.masks

  abbrev points : List Point
  points = places.points

  -- the place of a point as the point that stands there
  at : (k : ℕ) → k < 512 → blocks_of (sides_of a b c) (get_or points k a) ≡ rule (point ps (source (length ps) k))
  at k h = exact a b c (get_or points k a) l ∙ ap rule (flat_point o.flat a k h)

  source_low : (k : ℕ) → source (length ps) k < length ps
  source_low k = go (ltb k (length ps)) refl
    where
      go : (t : Bool) → ltb k (length ps) ≡ t → source (length ps) k < length ps
      go true e = let h : k < length ps = omega (arith, ltb-true) in rw (source-front (length ps) k h) h
      go false e = let h : length ps ≤ k = omega (arith, ltb-false) in rw (source-rest (length ps) k h) o.some

  pub hit : (t : Sides) → t ≡ sides_of a b c → (g : ℕ) → g < 64 → {found : Bool} → found ≡ blocks_from t points (8 * g) 8 → found ≡ true → true ≡ any rule ps
  hit t e g h f is =
      let (i, low, q) = some_of a (blocks_of (sides_of a b c)) points (8 * g) 8 (omega (arith, o.flat.long)) (rw e at (sym f ∙ is)) in
      let k = 8 * g + i in
      sym (any_at (record { x = pos 0; y = pos 0 }) rule ps (source (length ps) k) (source_low k) (sym (at k (omega arith)) ∙ q))

  on_grid_lem : (k : ℕ) → k < length ps → GridPoint (point ps k)
  on_grid_lem k h =
      let low : k < 512 = omega (arith, o.small) in
      subst GridPoint (flat_point o.flat a k low ∙ ap (point ps) (source-front (length ps) k h)) (grid_point (get_or points k a) (is_on _))

  -- the eights of a mask were looked at
  pub free :
      (t : Sides) → t ≡ sides_of a b c → (m : ℕ) → m ≡ candidates_of strips (pt_of a) (pt_of b) (pt_of c) → ((g : ℕ) → Has m g → blocks_from t points (8 * g) 8 ≡ false)
      → false ≡ any rule ps
  free t e m f looked = sym (any-nowhere (record { x = pos 0; y = pos 0 }) rule ps (λ k h. go k h (ℕ_discrete (m / 2 ^ (k / 8) % 2) 1)))
    where
      go : (k : ℕ) → k < length ps → Dec (Has m (k / 8)) → rule (point ps k) ≡ false
      go k h (yes p) =
          let split : 8 * (k / 8) + k % 8 ≡ k = omega arith in
          let none = none_of a (blocks_of (sides_of a b c)) points (8 * (k / 8)) 8 (omega (arith, o.small, o.flat.long)) (rw e at (looked (k / 8) p)) (k % 8) (omega arith) in
          sym (at k (omega (arith, o.small)) ∙ ap (λ (j : ℕ). rule (point ps j)) (source-front (length ps) k h)) ∙ (rw split at none)
      go k h (no n) =
          apart_free (pt_of a) (pt_of b) (pt_of c) (point ps k) l
          (left_out ps strips o.stripped (pt_of a) (pt_of b) (pt_of c) (grid_point a (is_on a)) (grid_point b (is_on b)) (grid_point c (is_on c)) k h (on_grid_lem k h) (rw f at n))

-- ---- the loop along a mask, from its highest bit down

-- the eights of the mask at first that are not in it now were looked at
abbrev pub Looked : Sides → List Point → ℕ → ℕ → Type 0
Looked t points first now = (g : ℕ) → Has first g → (Has now g → ⊥) → blocks_from t points (8 * g) 8 ≡ false

pub looked_more :
    (t : Sides) (points : List Point) (first now g : ℕ) → now < 2 * 2 ^ g → {found : Bool} → found ≡ blocks_from t points (8 * g) 8 → found ≡ false → Looked t points first now → Looked t points first (now % 2 ^ g)
looked_more t points first now g high is free w h p n = go (ℕ_discrete h g) (ℕ_discrete (now / 2 ^ h % 2) 1)
  where
    go : Dec (h ≡ g) → Dec (Has now h) → blocks_from t points (8 * h) 8 ≡ false
    go (yes q) d = rw q (sym is ∙ free)
    go (no q) (yes r) = absurd (n (has_rest now g h (let low = has_below now (g + 1) h (rw (add-one g, pow-suc 2 g) (omega arith)) r in omega arith) r))
    go (no q) (no r) = w h p r

pub none_there : (g : ℕ) → Has 0 g → ⊥
none_there g p = let low = has_below 0 0 g (lit< tt) p in omega arith
