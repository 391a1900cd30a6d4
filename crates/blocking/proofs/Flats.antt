-- Points written over point 0, which stands everywhere.
use Prim.Native.Nat.{ℕ, ◌+◌, ◌≤◌, ◌<◌}
use native.Mathlib.Decide.{ℕ_discrete}
use native.Mathlib.Omega.{arith}
use mathlib.Core.Path.{◌≡◌, refl, sym, ap, ◌∙◌}
use mathlib.Core.Bool.{Bool, true, false}
use mathlib.Core.List.{List, map}
use lib.Dec.{ltb}
use lib.ListN.{length, length-map, get_or, set, length-set, replicate, length-replicate, get_or-replicate}
use lib.Seq.{get_or-set_same, get_or-set_other}
use Rattle.std.proofs.lemmas.List.{get_or-map, map-set}
use borrow.Author.Tests.{lt-ltb, le-ltb, ltb-true, ltb-false}
use Rattle.rules.specs.Limits.{most_points}
use Rattle.rules.specs.Plane.{Pt, point}
use Rattle.grid.specs.declared.point.Point.{Point}
use Rattle.grid.specs.Points.{pt_of}
use Rattle.blocking.specs.Outlined.{source, Flat}

pub source-front : (n k : ℕ) → k < n → source n k ≡ k
source-front n k h = rw (lt-ltb k n h)

pub source-rest : (n k : ℕ) → n ≤ k → source n k ≡ 0
source-rest n k h = rw (le-ltb k n h)

-- the point that stands at place k
pub flat_point : {ps : List Pt} {n : ℕ} {points : List Point} → Flat ps n points → (d : Point) (k : ℕ) → k < most_points → pt_of (get_or points k d) ≡ point ps (source n k)
flat_point {points = points} f d k h = sym (get_or-map pt_of points k d _ (omega (arith, f.long))) ∙ f.at k h

-- none is written
pub none_flat : (ps : List Pt) (p : Point) → pt_of p ≡ point ps 0 → Flat ps 0 (replicate 512 p)
none_flat ps p e = record {
  long = length-replicate 512 p;
  at = λ k l. get_or-map pt_of (replicate 512 p) k p _ (rw (length-replicate 512 p) l) ∙ ap pt_of (get_or-replicate 512 k p p l) ∙ e ∙ ap (point ps) (sym (source-rest 0 k (omega arith)));
}

-- one more
pub one_flat : (ps : List Pt) (points : List Point) (n : ℕ) (p : Point) → n < most_points → pt_of p ≡ point ps n → Flat ps n points → Flat ps (n + 1) (set points n p)
one_flat ps points n p h e f = record { long = length-set points n p ∙ f.long; at = λ k l. rw (map-set pt_of points n p) (at k l (ℕ_discrete k n)) }
  where
    pts : List Pt
    pts = map pt_of points

    long : length pts ≡ most_points
    long = length-map points pt_of ∙ f.long

    comes : (k : ℕ) → (k ≡ n → ⊥) → source n k ≡ source (n + 1) k
    comes k q = go (ltb k n) refl
      where
        go : (t : Bool) → ltb k n ≡ t → source n k ≡ source (n + 1) k
        go true i = let h : k < n = omega (arith, ltb-true) in source-front n k h ∙ sym (source-front (n + 1) k (omega arith))
        go false i = let h : n ≤ k = omega (arith, ltb-false) in source-rest n k h ∙ sym (source-rest (n + 1) k (omega arith))

    at : (k : ℕ) → k < most_points → Dec (k ≡ n) → point (set pts n (pt_of p)) k ≡ point ps (source (n + 1) k)
    at k l (yes q) = rw (q, source-front (n + 1) n (omega arith)) (get_or-set_same pts n (pt_of p) _ (omega (arith, long)) ∙ e)
    at k l (no q) = get_or-set_other pts n k (pt_of p) _ q ∙ f.at k l ∙ ap (point ps) (comes k q)
