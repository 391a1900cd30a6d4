-- What blocks an ear, as request M-103 says it; and that this is document 01's own rule, in which "other" is by index, on an outline that passes
-- no point twice, where points are equal exactly if their numbers are.
use Prim.Native.Nat.{ℕ, ◌<◌}
use mathlib.Core.Path.{◌≡◌, refl, ap}
use mathlib.Core.Logic.{◌⊎◌, inl, inr, ◌≢◌}
use mathlib.Core.Bool.{Bool, true, false, not, ◌&&◌, ◌||◌, and-true, and-false, or-true}
use mathlib.Core.List.{List}
use borrow.Author.Tests.{eqb-true, eqb-false}
use lib.Dec.{eqb}
use lib.IntN.{pos}
use lib.ListN.{length}
use Rattle.algebra.specs.Lists.{Distinct}
use Rattle.algebra.specs.Rings.{Corner}
use Rattle.algebra.proofs.Lists.{distinct-at}
use Rattle.rules.specs.Plane.{Pt, same, in_triangle, point}
use Rattle.rules.specs.Ear.{blocks}
use Rattle.rules.proofs.Points.{equal→same, apart→not_same}

-- ---- a point at a corner does not block; any other point in the triangle does, and one outside does not

module _ (a b c q : Pt) where
  pub corner_free : (q ≡ a) ⊎ ((q ≡ b) ⊎ (q ≡ c)) → blocks a b c q ≡ false
  unfolding blocks
  corner_free (inl e) = rw (equal→same q a e) (and-false (in_triangle a b c q))
  corner_free (inr (inl e)) = rw (equal→same q b e, or-true (same q a)) (and-false (in_triangle a b c q))
  corner_free (inr (inr e)) = rw (equal→same q c e, or-true (same q b), or-true (same q a)) (and-false (in_triangle a b c q))

  pub other-blocks : q ≢ a → q ≢ b → q ≢ c → blocks a b c q ≡ in_triangle a b c q
  unfolding blocks
  other-blocks h k l = rw (apart→not_same q a h, apart→not_same q b k, apart→not_same q c l) (and-true (in_triangle a b c q))

-- ---- document 01's own rule

module _ (ps : List Pt) (once : Distinct ps) where
  same_number : (i j : ℕ) → i < length ps → j < length ps → same (point ps i) (point ps j) ≡ eqb i j
  same_number i j h k = go (eqb i j) refl
    where
      go : (t : Bool) → eqb i j ≡ t → same (point ps i) (point ps j) ≡ t
      go true e = equal→same (point ps i) (point ps j) (ap (point ps) (eqb-true i j e))
      go false e = apart→not_same (point ps i) (point ps j) (λ q. eqb-false i j e (distinct-at (record { x = pos 0; y = pos 0 }) ps once i j h k q))

  -- point number i blocks a corner's triangle if it is in it and i is none of the three corners
  pub by_index :
      (c : Corner ℕ) → c.before < length ps → c.at < length ps → c.after < length ps → (i : ℕ) → i < length ps
      → blocks (point ps c.before) (point ps c.at) (point ps c.after) (point ps i)
      ≡ (in_triangle (point ps c.before) (point ps c.at) (point ps c.after) (point ps i) && not (eqb i c.before || (eqb i c.at || eqb i c.after)))
  unfolding blocks
  by_index c hb ha hf i h = rw (same_number i c.before h hb, same_number i c.at h ha, same_number i c.after h hf)
