-- A ring starts as corners 0 to n - 1, so every ring that is met while it is cut ascends, and its corners stand by their indices.
use Prim.Native.Nat.{ℕ, zero, suc, ◌<◌}
use mathlib.Core.Path.{◌≡◌, sym, ◌∙◌, ap}
use mathlib.Core.Logic.{◌⊎◌, inl, inr}
use mathlib.Core.Bool.{Bool, true, false, cond}
use mathlib.Core.List.Memᴰ
use mathlib.Core.List.{List, [], ◌∷◌, ◌++◌, Memᴰ}
use native.Mathlib.Omega.{arith}
use lib.Dec.{eqb}
use Rattle.algebra.specs.Lists.{Each, end, ◌&◌, count_from}
use Rattle.algebra.specs.Rings.{Corner, bends, corners, last_of}
use Rattle.algebra.proofs.Lists.{each_imp, each_of}
use Rattle.algebra.proofs.Counting.{count-within}
use Rattle.rules.specs.Plane.{Pt}
use Rattle.rules.specs.Cut.{without}
use Rattle.rules.proofs.Cuts.{each-without}
use Rattle.rules.proofs.Neighbours.{Met, at_first, one_less}

-- each index is below all that follow
pub data Ascending {A : Type 0} (index : A → ℕ) : List A → Type 0 where
  empty : Ascending index []
  below : {a : A} {l : List A} → Each (λ b. index a < index b) l → Ascending index l → Ascending index (a ∷ l)

abbrev pub AscendingRing : List ℕ → Type 0
AscendingRing = Ascending (λ i. i)

abbrev pub AscendingCorners : List (Corner ℕ) → Type 0
AscendingCorners = Ascending (λ c. c.at)

-- ---- the rings

count_ascending : (i n : ℕ) → AscendingRing (count_from i n)
count_ascending i zero = empty
count_ascending i (suc n) = below (each_imp (λ j h. h.0) (count-within (suc i) n)) (count_ascending (suc i) n)

without_ascending : (i : ℕ) {l : List ℕ} → AscendingRing l → AscendingRing (without i l)
unfolding without
without_ascending i empty = empty
without_ascending i (below {a} {l} h r) = go (eqb a i) (without_ascending i r)
  where
    go : (t : Bool) → AscendingRing (without i l) → AscendingRing (cond t l (a ∷ without i l))
    go true k = r
    go false k = below (each-without i l h) k

module _ (ps : List Pt) where
  rest_ascending : {ring r : List ℕ} → AscendingRing ring → Met ps ring r → AscendingRing r
  rest_ascending h at_first = h
  rest_ascending h (one_less {c} m e) = without_ascending c.at (rest_ascending h m)

  pub met_ascending : (n : ℕ) {ring : List ℕ} → Met ps (count_from 0 n) ring → AscendingRing ring
  met_ascending n = rest_ascending (count_ascending 0 n)

-- ---- their corners

bends-each : {P : ℕ → Type 0} (a b : ℕ) (l : List ℕ) (z : ℕ) → P b → Each P l → Each (λ c. P c.at) (bends a b (l ++ z ∷ []))
bends-each a b [] z p h = p & end
bends-each a b (x ∷ l) z p (q & h) = p & bends-each b x l z q h

bends_ascending : (a b : ℕ) (l : List ℕ) (z : ℕ) → Each (λ y. b < y) l → AscendingRing l → AscendingCorners (bends a b (l ++ z ∷ []))
bends_ascending a b [] z h r = below end empty
bends_ascending a b (x ∷ l) z (p & h) (below k r) = below (bends-each {P = λ y. b < y} b x l z p h) (bends_ascending b x l z k r)

pub corners_ascending : {ring : List ℕ} → AscendingRing ring → AscendingCorners (corners ring)
corners_ascending empty = empty
corners_ascending (below {a} {l} h r) = bends_ascending (last_of a l) a l a h r

-- two with one index are one
pub same-corner : {cs : List (Corner ℕ)} {c d : Corner ℕ} → AscendingCorners cs → Memᴰ c cs → Memᴰ d cs → c.at ≡ d.at → c ≡ d
same-corner empty m n e = absurd (Memᴰ.not-nil m)
same-corner {c} {d} (below {a} {l} h r) m n e = go (same-corner r) (Memᴰ.cases_cons m) (Memᴰ.cases_cons n)
  where
    apart : {b : Corner ℕ} → Memᴰ b l → a.at < b.at
    apart k = each_of h k

    go : (Memᴰ c l → Memᴰ d l → c.at ≡ d.at → c ≡ d) → (c ≡ a) ⊎ Memᴰ c l → (d ≡ a) ⊎ Memᴰ d l → c ≡ d
    go rec (inl p) (inl q) = p ∙ sym q
    go rec (inl p) (inr n) = let i : c.at ≡ a.at = ap (λ (x : Corner ℕ). x.at) p in absurd (omega (arith, apart n, e))
    go rec (inr m) (inl q) = let i : d.at ≡ a.at = ap (λ (x : Corner ℕ). x.at) q in absurd (omega (arith, apart m, e))
    go rec (inr m) (inr n) = rec m n e
