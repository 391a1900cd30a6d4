-- What the plans of an accepted outline keep of it: its triangles, and the areas that these are merged into.
use Prim.Native.Nat.{ℕ, ◌-◌, ◌≤◌, ◌<◌}
use mathlib.Core.Path.{◌≡◌, refl, sym, ◌∙◌, ap, subst}
use mathlib.Core.Bool.{Bool, true}
use mathlib.Core.List.{List, [], ◌∷◌, map}
use native.Mathlib.Omega.{arith}
use lib.Dec.{lit≤}
use lib.IntN.{ℤ, pos}
use lib.ListN.{length}
use lib.Signed.{◌<ℤ◌}
use Rattle.algebra.specs.Lists.{Each, any, count_from}
use Rattle.algebra.proofs.Lists.{each_all, each_map, each_of, any-map, any_member, any_found}
use Rattle.algebra.specs.Sums.{total, integers, naturals, parities}
use Rattle.algebra.proofs.Sums.{total-map}
use Rattle.algebra.specs.Rings.{Edge, Corner, edges, ring_of, around}
use Rattle.rules.specs.Plane.{Pt, point}
use Rattle.rules.specs.Crossing.{odd, odd_crossings}
use Rattle.rules.specs.Border.{on_edge, on_border}
use Rattle.rules.specs.Cut.{cut, done}
use Rattle.rules.specs.Merge.{JoinTest, may_join, merge}
use Rattle.rules.specs.Entries.{triangles_for}
use Rattle.rules.specs.Measure.{points, area2}
use Rattle.rules.specs.Lines.{areas_for}
use Rattle.rules.proofs.Pieces.{merging}
use Rattle.rules.proofs.Measures.{edge_points, edges-points, pieces-inside, pieces_area}
use Rattle.rules.proofs.KeptEdges.{counted, counted_back, EdgeOf, kept_edges}
use Rattle.rules.proofs.Borders.{Bordered, bordered}
use Rattle.rules.proofs.Outline.{all-points, cut_sum, cut-count, cut-indices, cut_inside, cut_area}
use Rattle.rules.proofs.Accepted.{Accepted}
use Rattle.rules.proofs.Results.{triangles_are}

pub record Plan (ps : List Pt) (rings : List (List ℕ)) : Type 0 where
  pub three : Each (λ t. 3 ≤ length t) rings
  pub below : Each (Each (λ i. i < length ps)) rings
  pub size : total naturals (λ t. length t - 2) rings ≡ length ps - 2
  -- at every grid point the outline's crossing parity is that of the rings'
  pub inside : (p : Pt) → odd_crossings p ps ≡ odd (λ t. odd_crossings p (points ps t)) rings
  pub area : area2 ps ≡ total integers (λ t. area2 (points ps t)) rings
  pub above : pos 0 <ℤ total integers (λ t. area2 (points ps t)) rings
  -- each edge by its number is counted, less its reverse, as often as in the outline
  pub edge_counts : (e : Edge ℕ) → around integers (counted e) (count_from 0 (length ps)) ≡ total integers (around integers (counted e)) rings

-- there is a ring
pub plan_some : (ps : List Pt) (rings : List (List ℕ)) → 3 ≤ length ps → Plan ps rings → 0 < length rings
plan_some ps [] three plan = absurd (omega (arith, plan.size))
plan_some ps (t ∷ rings) three plan = omega arith

pub triangles_size : (ts : List (Corner ℕ)) → total naturals (λ t. length t - 2) (map ring_of ts) ≡ length ts
triangles_size [] = refl
triangles_size (t ∷ ts) = omega (arith, triangles_size ts)

cut_plan : (ps : List Pt) (ts : List (Corner ℕ)) → 3 ≤ length ps → pos 0 <ℤ area2 ps → cut ps ≡ done ts → Plan ps (map ring_of ts)
cut_plan ps ts three above e = record {
  three = each_map ring_of (each_all (λ t. lit≤ tt) ts);
  below = each_map ring_of (cut-indices ps ts three e);
  size = triangles_size ts ∙ cut-count ps ts three e;
  inside = cut_inside ps ts three e;
  area = cut_area ps ts three e;
  above = subst (λ (z : ℤ). pos 0 <ℤ z) (cut_area ps ts three e) above;
  edge_counts = λ d. cut_sum ps ts three e integers (counted d) (counted_back d);
}

merged_plan : (may : JoinTest) {ps : List Pt} {rings : List (List ℕ)} → Plan ps rings → Plan ps (merge may rings)
merged_plan may {ps} {rings} plan = record {
  three = (merging may rings).three plan.three;
  below = (merging may rings).from (λ i. i < length ps) plan.below;
  size = (merging may rings).size ∙ plan.size;
  inside = λ p. plan.inside p ∙ sym (pieces-inside ps may rings p);
  area = plan.area ∙ sym (pieces_area ps may rings);
  above = subst (λ (z : ℤ). pos 0 <ℤ z) (sym (pieces_area ps may rings)) plan.above;
  edge_counts = λ d. plan.edge_counts d ∙ sym ((merging may rings).sum integers (counted d) (counted_back d));
}

-- ---- the border

-- every edge of the outline is, in its direction, an edge of some ring
pub plan_edges : (ps : List Pt) (rings : List (List ℕ)) → 3 ≤ length ps → Plan ps rings → Each (EdgeOf rings) (edges (count_from 0 (length ps)))
plan_edges ps rings three plan = kept_edges (length ps) three rings plan.edge_counts

module _ (ps : List Pt) (p : Pt) where
  abbrev on : Edge ℕ → Bool
  on e = on_edge p (point ps e.from) (point ps e.to)

  border-points : (ring : List ℕ) → on_border p (points ps ring) ≡ any on (edges ring)
  unfolding on_border
  border-points ring = ap (any (λ e. on_edge p e.from e.to)) (edges-points ps ring) ∙ any-map (λ e. on_edge p e.from e.to) (edge_points ps) (edges ring)

  -- some ring has the edge that has the point on it
  touches : (rings : List (List ℕ)) → 3 ≤ length ps → Plan ps rings → on_border p ps ≡ true → any (on_border p) (map (points ps) rings) ≡ true
  touches rings three plan h =
      let ring = count_from 0 (length ps) in
      let (e, m, k) = any_found on (edges ring) (sym (border-points ring) ∙ ap (on_border p) (all-points ps) ∙ h) in
      let (t, i, j) = each_of (plan_edges ps rings three plan) m in
      any-map (on_border p) (points ps) rings ∙ any_member (λ t. on_border p (points ps t)) rings i (border-points t ∙ any_member on (edges t) j k)

-- what the rings of a plan say of the outline's border
pub plan_border : (ps : List Pt) (rings : List (List ℕ)) → 3 ≤ length ps → Plan ps rings → (p : Pt) → Bordered ps (map (points ps) rings) p
plan_border ps rings three plan p =
    bordered ps (map (points ps) rings) p (touches ps p rings three plan) (plan.inside p ∙ sym (total-map parities (odd_crossings p) (points ps) rings))

-- a way to plan any accepted outline
abbrev pub Plans : (List Pt → List (List ℕ)) → Type 0
Plans plan = (ps : List Pt) (room : ℕ) → Accepted ps room → Plan ps (plan ps)

pub triangles_plan : Plans triangles_for
triangles_plan ps room a = subst (Plan ps) (sym (triangles_are a)) (cut_plan ps a.triangles a.three a.above a.is_cut)

pub areas_plan : Plans areas_for
unfolding areas_for
areas_plan ps room a = merged_plan (may_join ps) (triangles_plan ps room a)
