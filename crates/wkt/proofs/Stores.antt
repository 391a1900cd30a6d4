-- Coordinates that are held, and one point more.
use Prim.Native.Nat.{ℕ, zero, suc, ◌+◌, ◌*◌, ◌≤◌, ◌<◌}
use native.Mathlib.Omega.{arith}
use mathlib.Core.Path.{◌≡◌, refl, sym, ap, ap₂, ◌∙◌}
use mathlib.Core.Bool.{Bool, true, false, cond}
use mathlib.Core.List.{List, [], ◌∷◌, ◌++◌, append_assoc}
use lib.Dec.{ltb}
use lib.ListN.{length, take, set, length-append, length-set}
use lib.Seq.{take_all, take-append-le, take-set-le, take-suc-set}
use lib.Ieee.{Float}
use borrow.Author.Tests.{ltb-true, ltb-false}
use Rattle.rules.specs.Limits.{most_points, most_coordinates}
use Rattle.rules.specs.Plane.{Pt}
use Rattle.rules.specs.Lines.{coordinate, coordinates}
use Rattle.wkt.specs.Reads.{stored, Held}

pub length-stored : (coords : List Float) (n : ℕ) (x y : Float) → length (stored coords n x y) ≡ length coords
length-stored coords n x y = go (ltb n most_points)
  where
    go : (t : Bool) → length (cond t (set (set coords (2 * n) x) (2 * n + 1) y) coords) ≡ length coords
    go true = simp length-set
    go false = refl

coordinates_snoc : (ps : List Pt) (q : Pt) → coordinates (ps ++ (q ∷ [])) ≡ coordinates ps ++ (coordinate q.x ∷ coordinate q.y ∷ [])
unfolding coordinates
coordinates_snoc [] q = refl
coordinates_snoc (p ∷ ps) q = ap (λ (l : List Float). coordinate p.x ∷ coordinate p.y ∷ l) (coordinates_snoc ps q)

put_two : (l : List Float) (i : ℕ) (x y : Float) → suc i < length l → take (suc (suc i)) (set (set l i x) (suc i) y) ≡ take i l ++ (x ∷ y ∷ [])
put_two l i x y h =
    let a : suc i < length (set l i x) = omega (arith, length-set l i x) in
    let b : i < length l = omega arith in
    take-suc-set (set l i x) (suc i) y a ∙ ap (λ (m : List Float). m ++ (y ∷ [])) (take-suc-set l i x b) ∙ append_assoc (take i l) (x ∷ []) (y ∷ [])

pub held_none : (coords : List Float) → Held 0 [] coords
unfolding Held coordinates
held_none coords zero p q = refl
held_none coords (suc k) p q = absurd (omega arith)

pub held_more : (n : ℕ) (ps : List Pt) (q : Pt) (coords : List Float) (x y : Float) → length ps ≡ n → length coords ≡ most_coordinates → x ≡ coordinate q.x → y ≡ coordinate q.y
    → Held n ps coords → Held (n + 1) (ps ++ (q ∷ [])) (stored coords n x y)
unfolding Held
held_more n ps q coords x y len size ex ey h k below room = go (ltb k (n + 1)) refl (ltb n most_points) refl
  where
    old : k ≤ n → take k (ps ++ (q ∷ [])) ≡ take k ps
    old p = take-append-le k ps (q ∷ []) (omega arith)

    go : (s : Bool) → ltb k (n + 1) ≡ s → (t : Bool) → ltb n most_points ≡ t
        → take (2 * k) (cond t (set (set coords (2 * n) x) (2 * n + 1) y) coords) ≡ coordinates (take k (ps ++ (q ∷ [])))
    go true e true f =
        let p : k ≤ n = omega (arith, ltb-true k (n + 1) e) in
        take-set-le (2 * k) (set coords (2 * n) x) (2 * n + 1) y (omega arith) ∙ take-set-le (2 * k) coords (2 * n) x (omega arith) ∙ h k p room ∙ ap coordinates (sym (old p))
    go true e false f = let p : k ≤ n = omega (arith, ltb-true k (n + 1) e) in h k p room ∙ ap coordinates (sym (old p))
    go false e false f = absurd (omega (arith, ltb-false k (n + 1) e, ltb-false n most_points f))
    go false e true f =
        let p : n < most_points = ltb-true n most_points f in
        let a : k ≡ n + 1 = omega (arith, ltb-false k (n + 1) e) in
        let i : 2 * k ≡ suc (suc (2 * n)) = omega arith in
        let j : 2 * n + 1 ≡ suc (2 * n) = omega arith in
        let w : take (2 * k) (set (set coords (2 * n) x) (2 * n + 1) y) ≡ take (2 * n) coords ++ (x ∷ y ∷ [])
        = ap₂ (λ (u v : ℕ). take u (set (set coords (2 * n) x) v y)) i j ∙ put_two coords (2 * n) x y (omega arith) in
        let v : take (2 * n) coords ≡ coordinates ps = h n (omega arith) (omega arith) ∙ ap coordinates (take_all n ps (omega arith)) in
        let u : take k (ps ++ (q ∷ [])) ≡ ps ++ (q ∷ []) = take_all k (ps ++ (q ∷ [])) (omega (arith, length-append ps (q ∷ []))) in
        w ∙ ap₂ (λ (m : List Float) (l : List Float). m ++ l) v (ap₂ (λ (a b : Float). a ∷ b ∷ []) ex ey) ∙ sym (coordinates_snoc ps q) ∙ ap coordinates (sym u)
