-- What is written can be read back: triangles three and three, and pieces by their lengths.
use Prim.Native.Nat.{ℕ, ◌+◌, ◌*◌, ◌-◌, ◌≤◌}
use mathlib.Core.Path.{◌≡◌, refl, ◌∙◌, ap, ap₂}
use mathlib.Core.List.{List, [], ◌∷◌, ◌++◌, map, append_assoc}
use native.Mathlib.Omega.{arith}
use lib.ListN.{length, take, drop, length-append, length-drop}
use lib.Seq.{take-append_seam, drop-append_seam}
use Rattle.algebra.specs.Lists.{Each, end, ◌&◌, sum}
use Rattle.algebra.specs.Sums.{total, naturals}
use Rattle.algebra.proofs.Lists.{each_++}
use Rattle.algebra.specs.Rings.{Corner, ring_of}
use Rattle.rules.specs.Layout.{flatten, split, triples, over}

pub take-over : {A : Type 0} (written old : List A) → take (length written) (over written old) ≡ written
take-over written old = take-append_seam written (drop (length written) old)

pub length_over : {A : Type 0} (written old : List A) → length written ≤ length old → length (over written old) ≡ length old
length_over written old h = simp (length-append, length-drop) (omega arith)

-- ---- pieces one behind the other

pub flat-each : {P : ℕ → Type 0} {l : List (List ℕ)} → Each (Each P) l → Each P (flatten l)
unfolding flatten
flat-each end = end
flat-each (p & h) = each_++ p (flat-each h)

pub sum-lengths : (l : List (List ℕ)) → sum (map length l) ≡ length (flatten l)
unfolding sum flatten
sum-lengths [] = refl
sum-lengths (p ∷ l) = omega (arith, sum-lengths l, length-append p (flatten l))

-- of pieces of three corners or more
pub flat_size : {l : List (List ℕ)} → Each (λ t. 3 ≤ length t) l → length (flatten l) ≡ total naturals (λ t. length t - 2) l + 2 * length l
unfolding flatten
flat_size end = refl
flat_size (◌&◌ {a = t} {l = l} h hs) = omega (arith, length-append t (flatten l), flat_size hs)

pub few-pieces : {l : List (List ℕ)} → Each (λ t. 3 ≤ length t) l → length l ≤ total naturals (λ t. length t - 2) l
few-pieces end = omega arith
few-pieces (h & hs) = omega (arith, few-pieces hs)

-- ---- triangles

pub triangles-length : (ts : List (Corner ℕ)) → length (flatten (map ring_of ts)) ≡ 3 * length ts
unfolding flatten
triangles-length [] = refl
triangles-length (t ∷ ts) = omega (arith, triangles-length ts)

pub triangles-back : (ts : List (Corner ℕ)) → triples (flatten (map ring_of ts)) ≡ map ring_of ts
unfolding flatten triples
triangles-back [] = refl
triangles-back (t ∷ ts) = ap (λ (l : List (List ℕ)). ring_of t ∷ l) (triangles-back ts)

-- ---- pieces

pub pieces-back : (pieces : List (List ℕ)) (rest : List ℕ) → split (map length pieces) (flatten pieces ++ rest) ≡ pieces
unfolding flatten split
pieces-back [] rest = refl
pieces-back (p ∷ ps) rest =
    ap₂ ◌∷◌ (ap (take (length p)) (append_assoc p (flatten ps) rest) ∙ take-append_seam p (flatten ps ++ rest))
    (ap (λ (l : List ℕ). split (map length ps) l) (ap (drop (length p)) (append_assoc p (flatten ps) rest) ∙ drop-append_seam p (flatten ps ++ rest)) ∙ pieces-back ps rest)

-- ---- what holds of each index of a list holds of the triangles read from it, and these have three corners each

pub triples-each : {P : ℕ → Type 0} {l : List ℕ} → Each P l → Each (Each P) (triples l)
unfolding triples
triples-each end = end
triples-each (p & end) = end
triples-each (p & q & end) = end
triples-each (p & q & r & h) = (p & q & r & end) & triples-each h

-- read as triangles
pub data Triangles : List (List ℕ) → Type 0 where
  those : (ts : List (Corner ℕ)) → Triangles (map ring_of ts)

pub triples_are : (l : List ℕ) → Triangles (triples l)
unfolding triples
triples_are [] = those []
triples_are (a ∷ []) = those []
triples_are (a ∷ b ∷ []) = those []
triples_are (a ∷ b ∷ c ∷ l) = go (triples_are l)
  where
    go : {m : List (List ℕ)} → Triangles m → Triangles ((a ∷ b ∷ c ∷ []) ∷ m)
    go (those ts) = those (record { before = a; at = b; after = c } ∷ ts)
