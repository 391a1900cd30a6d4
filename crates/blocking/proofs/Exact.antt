-- The turns that the code computes are exact, at most 2 ^ 24 on the way: so its test is the rule's.
use native.Mathlib.Nat.{le_trans}
use mathlib.Core.Path.{◌≡◌, refl, sym, ◌∙◌}
use mathlib.Core.Bool.{true, not, ◌||◌}
use mathlib.Core.List.{[], ◌∷◌}
use lib.Dec.{lit≤}
use lib.IntN.{ℤ, ◌+ℤ◌, ◌-ℤ◌, ◌*ℤ◌}
use lib.Ieee.{Float, binary32, sub}
use Rattle.algebra.specs.Reify.{reify}
use Rattle.algebra.proofs.Solve.{ring}
use Rattle.rules.specs.Plane.{Pt, turn, left}
use Rattle.rules.specs.Ear as rules
use Rattle.rules.proofs.Turns.{coordinates}
use Rattle.grid.specs.declared.point.Point.{Point}
use Rattle.grid.specs.Points.{pt_of}
use Rattle.grid.proofs.OnGrid.{is_on}
use Rattle.grid.proofs.Value.{Is, Within, sub_is, lt_is, add-within, sub_within, mul-within}
use Rattle.grid.proofs.Turn.{pt_within, cross-within, below_zero}
use Rattle.blocking.specs.ByTurns.{beyond, blocks_by_turns}
use Rattle.blocking.specs.InFloats.{weighted, sides_of, beyond_of, blocks_of}
use Rattle.blocking.proofs.ByTurns.{blocks_by_turns_lem}

weighted-within :
    {a b x y : Float} {A B X Y : ℤ} → Within 2048 a A → Within 2048 b B → Within 1024 x X → Within 1024 y Y → Within 4194304 (weighted a b x y) (A *ℤ X +ℤ B *ℤ Y)
weighted-within i j k l = add-within binary32 (mul-within binary32 i k (lit≤ tt)) (mul-within binary32 j l (lit≤ tt)) (lit≤ tt)

-- the turn of q with the side from a to b
turn-weighted : (a b q : Pt) → ((a.y -ℤ b.y) *ℤ q.x +ℤ (b.x -ℤ a.x) *ℤ q.y) -ℤ ((a.y -ℤ b.y) *ℤ a.x +ℤ (b.x -ℤ a.x) *ℤ a.y) ≡ turn a b q
turn-weighted a b q = ring (coordinates (a ∷ b ∷ q ∷ [])) (search reify depth 12) (search reify depth 12) refl

turn-within : (a b q : Point)
    → Within 8388608
    (sub binary32 (weighted (sub binary32 a.y b.y) (sub binary32 b.x a.x) q.x q.y) (weighted (sub binary32 a.y b.y) (sub binary32 b.x a.x) a.x a.y))
    (turn (pt_of a) (pt_of b) (pt_of q))
turn-within a b q =
    let A = pt_within a (is_on a) in
    let B = pt_within b (is_on b) in
    let Q = pt_within q (is_on q) in
    let u = sub_within binary32 A.1 B.1 (lit≤ tt) in
    let v = sub_within binary32 B.0 A.0 (lit≤ tt) in
    rw (turn-weighted (pt_of a) (pt_of b) (pt_of q)) at (sub_within binary32 (weighted-within u v Q.0 Q.1) (weighted-within u v A.0 A.1) (lit≤ tt))

-- the third turn is what the two others leave
third : (a b c q : Pt) → (turn a b c -ℤ turn a b q) -ℤ turn b c q ≡ turn c a q
third a b c q = ring (coordinates (a ∷ b ∷ c ∷ q ∷ [])) (search reify depth 12) (search reify depth 12) refl

beyond_is : {d e : Float} {D E : ℤ} → Is d D → Is e E → beyond_of d e ≡ beyond D E
beyond_is {d} {e} {D} {E} i j = rw (below_zero j, lt_is e d E D j i)

module _ (a b c q : Point) where
  third_is : {d e f : Float} → Within 8388608 d (turn (pt_of a) (pt_of b) (pt_of c)) → Within 8388608 e (turn (pt_of a) (pt_of b) (pt_of q)) → Within 8388608 f (turn (pt_of b) (pt_of c) (pt_of q))
      → Is (sub binary32 (sub binary32 d e) f) (turn (pt_of c) (pt_of a) (pt_of q))
  third_is {d} {e} {f} i j k =
      let t = third (pt_of a) (pt_of b) (pt_of c) (pt_of q) in
      rw t at (sub_is binary32 (sub binary32 d e) f (turn (pt_of a) (pt_of b) (pt_of c) -ℤ turn (pt_of a) (pt_of b) (pt_of q)) (turn (pt_of b) (pt_of c) (pt_of q)) (sub_within binary32 i j (lit≤ tt)).is k.is (rw t (le_trans (cross-within a c q (is_on a) (is_on c) (is_on q)).small (lit≤ tt))))

  pub exact : left (pt_of a) (pt_of b) (pt_of c) ≡ true → blocks_of (sides_of a b c) q ≡ rules.blocks (pt_of a) (pt_of b) (pt_of c) (pt_of q)
  unfolding blocks_of sides_of blocks_by_turns
  exact l =
      let D = turn-within a b c in
      let E = turn-within a b q in
      let F = turn-within b c q in
      (λ i. not (beyond_is D.is E.is i || (beyond_is D.is F.is i || beyond_is D.is (third_is D E F) i)))
      ∙ sym (blocks_by_turns_lem (pt_of a) (pt_of b) (pt_of c) (pt_of q) l)
