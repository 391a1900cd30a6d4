-- Document 01, "Points and the grid": on the grid a coordinate is at most 1024 in size, a difference of two at most 2048, a product of two such
-- at most 2^22, and a sum of two squares at most 2^23.
use Prim.Native.Nat.{ℕ, zero, suc, ◌+◌, ◌*◌, ◌/◌, ◌%◌, ◌^◌, ◌≤◌, ◌<◌}
use mathlib.Core.Path.{◌≡◌, refl, sym, subst}
use mathlib.Core.Logic.{◌≢◌}
use mathlib.Core.Bool.{Bool, true, false, not}
use mathlib.Core.List.{List, [], ◌∷◌}
use native.Mathlib.Omega.{arith}
use native.Mathlib.Nat.{mul-pos, mul-le-mul}
use lib.Dec.{T, eqb, leb, leb→le, lit≤}
use lib.IntN.{ℤ, pos, nat_abs, ◌+ℤ◌, ◌-ℤ◌, ◌*ℤ◌}
use lib.Ieee.{Float, nan, inf, fin, up, down}
use Rattle.algebra.specs.Lists.{Each, end, ◌&◌, any}
use Rattle.algebra.proofs.Equal.{impossible, and_true_r, or-false, not-false}
use Rattle.algebra.proofs.Order.{sub→≡ℤ}
use Rattle.algebra.proofs.Sizes.{nat_abs_sub, nat_abs_mul, nat_abs_zero, square_is}
use Rattle.rules.specs.Limits.{grid_edge}
use Rattle.rules.specs.Plane.{Pt, minus, point}
use Rattle.rules.specs.Grid.{signed, whole_of, on_grid, points_of}
use Rattle.rules.specs.Refusals.{off_grid}

-- ---- coordinates

pub nat_abs_signed : (s : Bool) (n : ℕ) → nat_abs (signed s n) ≡ n
nat_abs_signed false n = refl
nat_abs_signed true zero = refl
nat_abs_signed true (suc n) = refl

pub coordinate-small : (c : Float) → on_grid c ≡ true → nat_abs (whole_of c) ≤ grid_edge
coordinate-small nan h = impossible (cc)
coordinate-small (inf s) h = impossible (cc)
coordinate-small (fin s m e) h =
    let q = m * up e / down e in
    rw (nat_abs_signed s q) (leb→le q grid_edge (subst T (sym (and_true_r (eqb (m * up e % down e) 0) (leb q grid_edge) h)) tt))

pub difference_small : (a b : ℤ) → nat_abs a ≤ grid_edge → nat_abs b ≤ grid_edge → nat_abs (a -ℤ b) ≤ 2048
difference_small a b h k = omega (arith, nat_abs_sub a b)

pub product_small : (a b : ℤ) → nat_abs a ≤ 2048 → nat_abs b ≤ 2048 → nat_abs (a *ℤ b) ≤ 2 ^ 22
product_small a b h k = rw nat_abs_mul (mul-le-mul h k)

-- ---- points

-- both coordinates are from -1024 to 1024
pub record GridPoint (p : Pt) : Type 0 where
  pub x-small : nat_abs p.x ≤ grid_edge
  pub y-small : nat_abs p.y ≤ grid_edge

pub grid_points : (cs : List Float) → off_grid cs ≡ false → Each GridPoint (points_of cs)
unfolding off_grid points_of
grid_points [] h = end
grid_points (x ∷ []) h = end
grid_points (x ∷ y ∷ cs) h =
    let (a, k) = or-false (not (on_grid x)) (any (λ c. not (on_grid c)) (y ∷ cs)) h in
    let (b, l) = or-false (not (on_grid y)) (any (λ c. not (on_grid c)) cs) k in
    record { x-small = coordinate-small x (not-false (on_grid x) a); y-small = coordinate-small y (not-false (on_grid y) b) } & grid_points cs l

pub grid_point_at : (ps : List Pt) (i : ℕ) → Each GridPoint ps → GridPoint (point ps i)
grid_point_at [] i h = record { x-small = lit≤ tt; y-small = lit≤ tt }
grid_point_at (p ∷ ps) zero (h & k) = h
grid_point_at (p ∷ ps) (suc i) (h & k) = grid_point_at ps i k

-- ---- vectors, and the squares of their lengths

-- a vector between two points of the grid
pub record Side (d : Pt) : Type 0 where
  pub x-small : nat_abs d.x ≤ 2048
  pub y-small : nat_abs d.y ≤ 2048

pub side : {q p : Pt} → GridPoint q → GridPoint p → Side (minus q p)
side {q} {p} h k = record { x-small = difference_small q.x p.x h.x-small k.x-small; y-small = difference_small q.y p.y h.y-small k.y-small }

-- dx*dx + dy*dy
abbrev pub square_of : Pt → ℤ
square_of d = d.x *ℤ d.x +ℤ d.y *ℤ d.y

square_sizes : (d : Pt) → square_of d ≡ pos (nat_abs d.x * nat_abs d.x + nat_abs d.y * nat_abs d.y)
square_sizes d = rw (square_is d.x, square_is d.y)

-- it is no negative number
pub square_own : (d : Pt) → square_of d ≡ pos (nat_abs (square_of d))
square_own d = rw (square_sizes d)

pub square_small : {d : Pt} → Side d → nat_abs (square_of d) ≤ 2 ^ 23
square_small {d} s = rw (square_sizes d) (omega (arith, mul-le-mul s.x-small s.x-small, mul-le-mul s.y-small s.y-small))

some_square : (m n : ℕ) → (m ≡ 0 → n ≡ 0 → ⊥) → 1 ≤ m * m + n * n
some_square zero zero h = absurd (h refl refl)
some_square zero (suc n) h = let p : 0 < suc n = omega arith in omega (arith, mul-pos p p)
some_square (suc m) n h = let p : 0 < suc m = omega arith in omega (arith, mul-pos p p)

same_point : (q p : Pt) → q.x ≡ p.x → q.y ≡ p.y → q ≡ p
same_point q p e f = λ i. record { x = e i; y = f i }

-- of two points that differ it is 1 or more
pub square_some : (q p : Pt) → q ≢ p → 1 ≤ nat_abs (square_of (minus q p))
square_some q p n =
    let d = minus q p in
    rw (square_sizes d) (some_square (nat_abs d.x) (nat_abs d.y) (λ a b. n (same_point q p (sub→≡ℤ (nat_abs_zero d.x a)) (sub→≡ℤ (nat_abs_zero d.y b)))))
