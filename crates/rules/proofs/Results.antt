-- Demand 3 over what the entries give back: the written triangles and pieces, read from lent memory. The crossing parity is what the
-- outline test goes by off the border.
use Prim.Native.Nat.{ℕ, ◌-◌, ◌≤◌, ◌<◌}
use mathlib.Core.Path.{◌≡◌, sym, ◌∙◌, ap, subst}
use mathlib.Core.List.{List, [], ◌∷◌, map}
use native.Mathlib.Omega.{arith}
use lib.ListN.{length, length-map}
use lib.Dec.{lit≤}
use lib.IntN.{ℤ, pos, +ℤ_idr}
use lib.Signed.{lt_z, ◌<ℤ◌}
use lib.Ieee.{Float}
use Rattle.algebra.specs.Lists.{Each, end, ◌&◌, count_from}
use Rattle.algebra.proofs.Lists.{each_all, each_map}
use Rattle.algebra.specs.Sums.{total, integers, naturals}
use Rattle.algebra.specs.Rings.{Corner, ring_of}
use Rattle.rules.specs.Plane.{Pt, point}
use Rattle.rules.specs.Grid.{points_of}
use Rattle.rules.specs.Crossing.{odd, odd_crossings}
use Rattle.rules.specs.Merge.{may_join, merge}
use Rattle.rules.specs.Layout.{triples}
use Rattle.rules.specs.Entries.{Cutting, triangles_of, triangles_for, cutter, merger, written_triangles, written_pieces}
use Rattle.rules.specs.Measure.{points, area2, NotRight, NotClockwise, NoneRight, Apart}
use Rattle.rules.proofs.Turns.{turn-edges}
use Rattle.rules.proofs.Neighbours.{Met}
use Rattle.rules.proofs.Pieces.{merging, merge-no-right}
use Rattle.rules.proofs.Measures.{pieces-inside, pieces_area}
use Rattle.rules.proofs.Outline.{cut-count, cut-indices, cut_inside, cut_area, cut_neighbours}
use Rattle.rules.proofs.Layouts.{triples-each, Triangles, those, triples_are}
use Rattle.rules.proofs.Answers.{cutter-number, cutter-answered, cutter-written, merger-number, merger-written}
use Rattle.rules.proofs.Accepted.{Accepted, accepted, InRange, in_range}

-- ---- the cutter

-- what an accepted cut gives back: the triangles of the outline, which are n - 2
pub record Cuttings (ps : List Pt) (room : ℕ) (r : Cutting) : Type 0 where
  pub outline : Accepted ps room
  pub written : written_triangles r ≡ map ring_of outline.triangles
  pub count : r.count ≡ length ps - 2

pub triangles_are : {ps : List Pt} {room : ℕ} (a : Accepted ps room) → triangles_for ps ≡ map ring_of a.triangles
unfolding triangles_for
triangles_are a = ap (λ c. map ring_of (triangles_of c)) a.is_cut

pub cut_result : (cs : List Float) (out : List ℕ) → (cutter cs out).number ≡ 0 → Cuttings (points_of cs) (length out) (cutter cs out)
cut_result cs out ok =
    let a = accepted cs (length out) (sym (cutter-number cs out) ∙ ok) in
    let ts = a.triangles in
    record {
      outline = a;
      written = cutter-written cs out ok ∙ triangles_are a;
      count = ap (λ (r : Cutting). r.count) (cutter-answered cs out ok) ∙ ap length (triangles_are a) ∙ length-map ts ring_of ∙ cut-count (points_of cs) ts a.three a.is_cut;
    }

module _ (cs : List Float) (out : List ℕ) (ok : (cutter cs out).number ≡ 0) where
  -- n - 2 triangles for n corners
  pub written_count : (cutter cs out).count ≡ length (points_of cs) - 2
  written_count = (cut_result cs out ok).count

  -- indices written are below n
  pub written-indices : Each (Each (λ i. i < length (points_of cs))) (written_triangles (cutter cs out))
  written-indices = let r = cut_result cs out ok in rw r.written (each_map ring_of (cut-indices (points_of cs) r.outline.triangles r.outline.three r.outline.is_cut))

  -- at every grid point the outline's crossing parity is that of the triangles'
  pub written-inside : (p : Pt) → odd_crossings p (points_of cs) ≡ odd (λ t. odd_crossings p (points (points_of cs) t)) (written_triangles (cutter cs out))
  written-inside p = let r = cut_result cs out ok in rw r.written (cut_inside (points_of cs) r.outline.triangles r.outline.three r.outline.is_cut p)

  -- doubled signed areas add up
  pub written_area : area2 (points_of cs) ≡ total integers (λ t. area2 (points (points_of cs) t)) (written_triangles (cutter cs out))
  written_area = let r = cut_result cs out ok in rw r.written (cut_area (points_of cs) r.outline.triangles r.outline.three r.outline.is_cut)

  -- to more than zero, as the outline's is
  pub outline_above : pos 0 <ℤ area2 (points_of cs)
  outline_above = (cut_result cs out ok).outline.above

  pub written-above : pos 0 <ℤ total integers (λ t. area2 (points (points_of cs) t)) (written_triangles (cutter cs out))
  written-above = subst (λ (z : ℤ). pos 0 <ℤ z) written_area outline_above

  -- so the one triangle of three corners goes counter-clockwise
  pub three-above : length (points_of cs) ≡ 3 → Each (λ t. pos 0 <ℤ area2 (points (points_of cs) t)) (written_triangles (cutter cs out))
  three-above n = go (written_triangles (cutter cs out)) one written-above
    where
      one : length (written_triangles (cutter cs out)) ≡ 1
      one = let r = cut_result cs out ok in rw r.written (length-map r.outline.triangles ring_of ∙ cut-count (points_of cs) r.outline.triangles r.outline.three r.outline.is_cut ∙ ap (λ (k : ℕ). k - 2) n)

      go : (ts : List (List ℕ)) → length ts ≡ 1 → pos 0 <ℤ total integers (λ t. area2 (points (points_of cs) t)) ts → Each (λ t. pos 0 <ℤ area2 (points (points_of cs) t)) ts
      go [] e h = end
      go (t ∷ []) e h = subst (λ (z : ℤ). pos 0 <ℤ z) (+ℤ_idr (area2 (points (points_of cs) t))) h & end
      go (t ∷ u ∷ ts) e h = absurd (omega arith)

  -- neighbours in the ring never become equal
  pub met_neighbours : (ring : List ℕ) → Met (points_of cs) (count_from 0 (length (points_of cs))) ring → Apart (points_of cs) ring
  met_neighbours ring = cut_neighbours (points_of cs) ring (cut_result cs out ok).outline.neighbours

-- ---- the merger

-- a triangle is not clockwise exactly if it doesn't turn right
pub not_right : (ps : List Pt) (ts : List (Corner ℕ)) → Each (NotClockwise ps) (map ring_of ts) → Each (NotRight ps) ts
unfolding area2
not_right ps [] h = end
not_right ps (t ∷ ts) (p & h) =
    (ap (λ (z : ℤ). lt_z z (pos 0)) (sym (turn-edges (point ps t.before) (point ps t.at) (point ps t.after))) ∙ p) & not_right ps ts h

pub not_clockwise : (ps : List Pt) (ts : List (Corner ℕ)) → Each (NotRight ps) ts → Each (NotClockwise ps) (map ring_of ts)
unfolding area2
not_clockwise ps [] h = end
not_clockwise ps (t ∷ ts) (p & h) =
    (ap (λ (z : ℤ). lt_z z (pos 0)) (turn-edges (point ps t.before) (point ps t.at) (point ps t.after)) ∙ p) & not_clockwise ps ts h

module _ (cs : List Float) (triangles out lens : List ℕ) (ok : (merger cs triangles out lens).number ≡ 0) where
  abbrev ps : List Pt
  ps = points_of cs

  abbrev pieces : List (List ℕ)
  pieces = written_pieces (merger cs triangles out lens)

  pub merge_accepted : InRange cs triangles (length out) (length lens)
  merge_accepted = in_range cs triangles (length out) (length lens) (sym (merger-number cs triangles out lens) ∙ ok)

  written : pieces ≡ merge (may_join ps) (triples triangles)
  written = merger-written cs triangles out lens ok

  -- merging any accepted list keeps the parity at every grid point, the sum of areas and the sum of (corners - 2)
  pub merged_inside : (p : Pt) → odd (λ t. odd_crossings p (points ps t)) pieces ≡ odd (λ t. odd_crossings p (points ps t)) (triples triangles)
  merged_inside p = rw written (pieces-inside ps (may_join ps) (triples triangles) p)

  pub merged_area : total integers (λ t. area2 (points ps t)) pieces ≡ total integers (λ t. area2 (points ps t)) (triples triangles)
  merged_area = rw written (pieces_area ps (may_join ps) (triples triangles))

  pub merged_size : total naturals (λ t. length t - 2) pieces ≡ total naturals (λ t. length t - 2) (triples triangles)
  merged_size = rw written (merging (may_join ps) (triples triangles)).size

  pub merged_indices : Each (Each (λ i. i < length ps)) pieces
  merged_indices = rw written ((merging (may_join ps) (triples triangles)).from (λ i. i < length ps) (triples-each merge_accepted.below))

  pub merged_three : Each (λ t. 3 ≤ length t) pieces
  merged_three = rw written ((merging (may_join ps) (triples triangles)).three (threes (triples_are triangles)))
    where
      threes : {l : List (List ℕ)} → Triangles l → Each (λ t. 3 ≤ length t) l
      threes (those ts) = each_map ring_of (each_all (λ t. lit≤ tt) ts)

  -- no merged corner turns right if no given triangle is clockwise
  pub merged_turns : Each (NotClockwise ps) (triples triangles) → Each (NoneRight ps) pieces
  merged_turns h = rw written (go (triples_are triangles) h)
    where
      go : {l : List (List ℕ)} → Triangles l → Each (NotClockwise ps) l → Each (NoneRight ps) (merge (may_join ps) l)
      go (those ts) k = merge-no-right ps ts (not_right ps ts k)
