-- Laws of the farthest point in a direction: of a list of points, and of all.
use Prim.Native.Nat.{ℕ, ◌<◌}
use mathlib.Core.Path.{◌≡◌, refl}
use mathlib.Core.Bool.{Bool, true, false, cond}
use mathlib.Core.List.{List, [], ◌∷◌}
use native.Mathlib.Omega.{arith}
use lib.ListN.{length}
use lib.IntN.{ℤ}
use lib.Signed.{lt_z, ◌≤ℤ◌}
use Rattle.algebra.specs.Lists.{Each, end, ◌&◌, count_from}
use Rattle.algebra.proofs.Order.{lin, ≤ℤ-trans, ≡→≤ℤ}
use Rattle.algebra.proofs.Counting.{count_below}
use Rattle.algebra.proofs.Occurrences.{each-times, times_in}
use Rattle.rules.specs.Plane.{Pt, point}
use Rattle.rules.specs.Hull.{dot, farthest, support}

module _ (ps : List Pt) (n : Pt) where
  -- the farther of two, of equals the first
  abbrev farther : ℕ → ℕ → ℕ
  farther i j = cond (lt_z (dot n (point ps i)) (dot n (point ps j))) j i

  pub farthest-each : {P : ℕ → Type 0} (i : ℕ) {l : List ℕ} → P i → Each P l → P (farthest ps n i l)
  unfolding farthest
  farthest-each i p end = p
  farthest-each {P} i p (◌&◌ {a = j} {l = l} q qs) = farthest-each (farther i j) (go (lt_z (dot n (point ps i)) (dot n (point ps j)))) qs
    where
      go : (b : Bool) → P (cond b j i)
      go true = q
      go false = p

  abbrev pub Nearer : ℕ → ℕ → Type 0
  Nearer j i = dot n (point ps i) ≤ℤ dot n (point ps j)

  -- it is as far as both
  as_far : (a b : ℤ) (i j : ℕ) → dot n (point ps i) ≡ a → dot n (point ps j) ≡ b → Nearer (cond (lt_z a b) j i) i × Nearer (cond (lt_z a b) j i) j
  as_far a b i j e f = go (lt_z a b) refl
    where
      go : (t : Bool) → lt_z a b ≡ t → Nearer (cond t j i) i × Nearer (cond t j i) j
      go true h = let x : a ≤ℤ b = omega lin in let y : b ≤ℤ b = omega lin in rw (e, f) (x, y)
      go false h = let x : a ≤ℤ a = omega lin in let y : b ≤ℤ a = omega lin in rw (e, f) (x, y)

  farther_is : (i j : ℕ) → Nearer (farther i j) i × Nearer (farther i j) j
  farther_is i j = as_far (dot n (point ps i)) (dot n (point ps j)) i j refl refl

  pub farthest-first : (i : ℕ) (l : List ℕ) → Nearer (farthest ps n i l) i
  unfolding farthest
  farthest-first i [] = ≡→≤ℤ refl
  farthest-first i (j ∷ l) = ≤ℤ-trans (farther_is i j).0 (farthest-first (farther i j) l)

  pub farthest-rest : (i : ℕ) (l : List ℕ) → Each (Nearer (farthest ps n i l)) l
  unfolding farthest
  farthest-rest i [] = end
  farthest-rest i (j ∷ l) = ≤ℤ-trans (farther_is i j).1 (farthest-first (farther i j) l) & farthest-rest (farther i j) l

-- ---- of all points

module _ (ps : List Pt) where
  -- no given point is farther than number v in the direction n
  abbrev pub Top : Pt → ℕ → Type 0
  Top n v = (i : ℕ) → i < length ps → dot n (point ps i) ≤ℤ dot n (point ps v)

  pub support_in : 0 < length ps → (n : Pt) → support ps n < length ps
  unfolding support
  support_in s n = farthest-each ps n 0 s (count_below (length ps))

  pub support_top : (n : Pt) → Top n (support ps n)
  unfolding support
  support_top n i l = each-times i (farthest-rest ps n 0 (count_from 0 (length ps))) (times_in i 0 (length ps) (omega arith) (omega arith))
