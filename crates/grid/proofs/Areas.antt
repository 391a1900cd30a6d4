-- The loop that adds up an outline's doubled area: what an edge adds, and how large the sum is.
use Prim.Native.Nat.{ℕ, ◌+◌, ◌*◌, ◌^◌, ◌≤◌, ◌<◌}
use mathlib.Core.Path.{◌≡◌, sym, ap, ◌∙◌}
use mathlib.Core.Bool.{false}
use mathlib.Core.List.{List, [], ◌∷◌}
use native.Mathlib.Omega.{arith}
use lib.Dec.{T, lit≤}
use lib.IntN.{ℤ, pos, negsuc, nat_abs, ◌+ℤ◌, +ℤ_idl, +ℤ_idr, +ℤ_assoc}
use lib.Ieee.{Float, fin, binary32, add, sub, mul, of_int, in_signed, to_signed}
use lib.ListN.{length}
use mir.Syntax.{w32}
use mir.Val.{SFits, to_z, of_z}
use mir.ValLaws.{to_z-of_z}
use Rattle.algebra.specs.Sums.{total, integers}
use Rattle.algebra.specs.Rings.{Edge, edges}
use Rattle.algebra.proofs.Sizes.{nat_abs_add}
use Rattle.rules.specs.Limits.{most_points}
use Rattle.rules.specs.Plane.{Pt, cross, point}
use Rattle.rules.specs.Measure.{area2}
use Rattle.grid.specs.declared.point.Point.{Point}
use Rattle.grid.specs.Points.{pt_of}
use Rattle.grid.proofs.OnGrid.{is_on}
use Rattle.grid.proofs.Value.{Within, signed_back, sub_within, mul-within}
use Rattle.grid.proofs.Canon.{add_zero_canon}
use Rattle.grid.proofs.Turn.{pt_within}
use Rattle.grid.proofs.Walks.{edge, Walk, walk_first, walk_more, walk_last}

-- ---- what an edge adds

-- a product of two coordinates is at most 2^20 in size, and the difference of two such at most 2^21
product_within : (a b : Point) → Within (2 ^ 21) (sub binary32 (mul binary32 a.x b.y) (mul binary32 a.y b.x)) (cross (pt_of a) (pt_of b))
product_within a b =
    let A = pt_within a (is_on a) in
    let B = pt_within b (is_on b) in
    sub_within binary32 (mul-within binary32 A.0 B.1 (lit≤ tt)) (mul-within binary32 A.1 B.0 (lit≤ tt)) (lit≤ tt)

edge_small : (a b : Point) → nat_abs (cross (pt_of a) (pt_of b)) ≤ 2 ^ 21
edge_small a b = (product_within a b).small

-- a number of at most 2^30 in size stands in 32 bits
stands : (z : ℤ) → nat_abs z ≤ 2 ^ 30 → SFits w32 z
stands (pos n) h = record { sfits = omega arith }
stands (negsuc n) h = record { sfits = omega arith }

module _ (a b : Point) {x : Float} (is : x ≡ sub binary32 (mul binary32 a.x b.y) (mul binary32 a.y b.x)) where
  own : add binary32 x (fin false 0 (pos 0)) ≡ of_int binary32 (cross (pt_of a) (pt_of b))
  own = rw is (add_zero_canon binary32 (product_within a b).is)

  back : T (in_signed binary32 31 (of_int binary32 (cross (pt_of a) (pt_of b)))) × (to_signed 31 (of_int binary32 (cross (pt_of a) (pt_of b))) ≡ cross (pt_of a) (pt_of b))
  back = signed_back (cross (pt_of a) (pt_of b)) (omega (arith, edge_small a b))

  pub edge_whole : T (in_signed binary32 31 (add binary32 x (fin false 0 (pos 0))))
  edge_whole = rw own back.0

  pub edge_is : to_z w32 (of_z w32 (to_signed 31 (add binary32 x (fin false 0 (pos 0))))) ≡ cross (pt_of a) (pt_of b)
  edge_is = rw (own, back.1) (to_z-of_z w32 (cross (pt_of a) (pt_of b)) (stands (cross (pt_of a) (pt_of b)) (omega (arith, edge_small a b))))

  pub edge_low : nat_abs (to_z w32 (of_z w32 (to_signed 31 (add binary32 x (fin false 0 (pos 0)))))) ≤ 2 ^ 21
  edge_low = rw edge_is (edge_small a b)

-- ---- the sum

-- what was added, and what is left to add
unfoldable pub Adds : List Pt → ℤ → List (Edge Pt) → Type 0
Adds ps sum es = area2 ps ≡ sum +ℤ total integers (λ e. cross e.from e.to) es

none_added : (ps : List Pt) → Adds ps (pos 0) (edges ps)
unfolding Adds area2
none_added ps = sym (+ℤ_idl (area2 ps))

edge_added : (ps : List Pt) (a b : Point) (sum : ℤ) (es : List (Edge Pt)) → Adds ps sum (edge a b ∷ es) → Adds ps (sum +ℤ cross (pt_of a) (pt_of b)) es
unfolding Adds
edge_added ps a b sum es k = k ∙ sym (+ℤ_assoc sum (cross (pt_of a) (pt_of b)) (total integers (λ e. cross e.from e.to) es))

last_added : (ps : List Pt) (a b : Point) (sum : ℤ) → Adds ps sum (edge a b ∷ []) → sum +ℤ cross (pt_of a) (pt_of b) ≡ area2 ps
unfolding Adds
last_added ps a b sum k = sym (k ∙ rw (+ℤ_idr (cross (pt_of a) (pt_of b))))

-- the sum before point i: at most 2^21 for each edge that was passed
pub record Summed (ps : List Pt) (a : Point) (sum : ℤ) (i : ℕ) : Type 0 where
  pub walk : Walk ps (Adds ps sum) a i
  pub small : nat_abs sum + 2 ^ 21 ≤ 2 ^ 21 * i
  pub passed : i ≤ length ps

pub summed_first : (ps : List Pt) (f : Point) → pt_of f ≡ point ps 0 → 0 < length ps → Summed ps f (pos 0) 1
summed_first ps f e h = record { walk = walk_first ps (Adds ps (pos 0)) f e h (none_added ps); small = lit≤ tt; passed = h }

-- one edge more, as the code adds it in 32 bits
module _ (ps : List Pt) {a : Point} {sum : ℤ} {i : ℕ} (s : Summed ps a sum i) (few : length ps ≤ most_points) (z : ℤ) (low : nat_abs z ≤ 2 ^ 21) where
  abbrev added : ℤ
  added = sum +ℤ to_z w32 (of_z w32 z)

  added_is : added ≡ sum +ℤ z
  added_is = ap (λ (y : ℤ). sum +ℤ y) (to_z-of_z w32 z (stands z (omega (arith, low))))

  added_small : nat_abs added ≤ 2 ^ 21 * i
  added_small = rw added_is (omega (arith, nat_abs_add sum z, low, s.small))

  pub added_fits : SFits w32 added
  added_fits = stands added (omega (arith, added_small, s.passed))

  module _ (b : Point) (is : z ≡ cross (pt_of a) (pt_of b)) where
    read_back : to_z w32 (of_z w32 added) ≡ sum +ℤ cross (pt_of a) (pt_of b)
    read_back = to_z-of_z w32 added added_fits ∙ added_is ∙ ap (λ (y : ℤ). sum +ℤ y) is

    pub summed_more : i < length ps → pt_of b ≡ point ps i → Summed ps b (to_z w32 (of_z w32 added)) (i + 1)
    summed_more h e = record {
      walk = rw read_back (walk_more ps (Adds ps sum) s.walk (Adds ps (sum +ℤ cross (pt_of a) (pt_of b))) h b e (edge_added ps a b sum));
      small = rw (to_z-of_z w32 added added_fits) (omega (arith, added_small));
      passed = omega arith;
    }

    pub summed_last : length ps ≤ i → pt_of b ≡ point ps 0 → to_z w32 (of_z w32 added) ≡ area2 ps
    summed_last h e = read_back ∙ last_added ps a b sum (walk_last ps (Adds ps sum) s.walk h b e)
