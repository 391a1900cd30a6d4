-- What blocks an ear, by turns. For a left triangle the three turns e1, e2, e3 of a point with the sides add up to d, the triangle's own, and weigh its
-- corners: d q = e2 a + e3 b + e1 c. So a point blocks exactly if none of the three is below zero and none is d, and no point outside the triangle's box does.
use mathlib.Core.Path.{◌≡◌, refl, sym, ap, ◌∙◌}
use mathlib.Core.Bool.{Bool, true, false, not, ◌&&◌, ◌||◌, or-true}
use mathlib.Core.List.{[], ◌∷◌}
use lib.IntN.{ℤ, pos, ◌+ℤ◌, ◌-ℤ◌, ◌*ℤ◌, +ℤ_idr, zero-*ℤ, *ℤ-zero}
use Rattle.algebra.proofs.Integers.{*ℤ-pos1}
use lib.Signed.{lt_z, ◌≤ℤ◌, ◌<ℤ◌}
use Rattle.algebra.specs.Reify.{reify}
use Rattle.algebra.proofs.Solve.{ring}
use Rattle.algebra.proofs.Order.{lin, at+, *ℤ-cancel-≤, *ℤ-mono, ≡→≤ℤ, ≤ℤ-antisym, sub→≡ℤ, <ℤ→sub}
use Rattle.rules.specs.Plane.{Pt, same, turn, left}
use Rattle.rules.specs.Ear.{blocks}
use Rattle.blocking.specs.ByTurns.{blocks_by_turns, Apart, left_of, right_of, under, over}
use Rattle.rules.proofs.Points.{equal→same, same→equal}
use Rattle.rules.proofs.Turns.{coordinates, turn_rotates}

-- ---- the identities

turns_add : (a b c q : Pt) → turn a b q +ℤ (turn b c q +ℤ turn c a q) ≡ turn a b c
turns_add a b c q = ring (coordinates (a ∷ b ∷ c ∷ q ∷ [])) (search reify depth 12) (search reify depth 12) refl

weighs_x : (a b c q : Pt) → turn a b q *ℤ (c.x -ℤ q.x) +ℤ (turn b c q *ℤ (a.x -ℤ q.x) +ℤ turn c a q *ℤ (b.x -ℤ q.x)) ≡ pos 0
weighs_x a b c q = ring (coordinates (a ∷ b ∷ c ∷ q ∷ [])) (search reify depth 12) (search reify depth 12) refl

weighs_y : (a b c q : Pt) → turn a b q *ℤ (c.y -ℤ q.y) +ℤ (turn b c q *ℤ (a.y -ℤ q.y) +ℤ turn c a q *ℤ (b.y -ℤ q.y)) ≡ pos 0
weighs_y a b c q = ring (coordinates (a ∷ b ∷ c ∷ q ∷ [])) (search reify depth 12) (search reify depth 12) refl

back-x : (a b c q : Pt) → turn a b q *ℤ (q.x -ℤ c.x) +ℤ (turn b c q *ℤ (q.x -ℤ a.x) +ℤ turn c a q *ℤ (q.x -ℤ b.x)) ≡ pos 0
back-x a b c q = ring (coordinates (a ∷ b ∷ c ∷ q ∷ [])) (search reify depth 12) (search reify depth 12) refl

back-y : (a b c q : Pt) → turn a b q *ℤ (q.y -ℤ c.y) +ℤ (turn b c q *ℤ (q.y -ℤ a.y) +ℤ turn c a q *ℤ (q.y -ℤ b.y)) ≡ pos 0
back-y a b c q = ring (coordinates (a ∷ b ∷ c ∷ q ∷ [])) (search reify depth 12) (search reify depth 12) refl

-- ---- weights on plain integers

-- a weight against what it weighs
at_least : (e u : ℤ) → pos 0 ≤ℤ e → pos 0 <ℤ u → e ≤ℤ (e *ℤ u)
at_least e u h k = rw *ℤ-pos1 at (*ℤ-mono {a = pos 1} {b = u} e h (omega lin))

-- weights that are not negative balance nothing that lies all on one side
one_sided :
    (e f g u v w d : ℤ) → pos 0 ≤ℤ e → pos 0 ≤ℤ f → pos 0 ≤ℤ g → pos 0 <ℤ d → e +ℤ (f +ℤ g) ≡ d → pos 0 <ℤ u → pos 0 <ℤ v → pos 0 <ℤ w
    → e *ℤ u +ℤ (f *ℤ v +ℤ g *ℤ w) ≡ pos 0 → ⊥
one_sided e f g u v w d he hf hg hd s hu hv hw z =
    heavier (e *ℤ u) (f *ℤ v) (g *ℤ w) (at_least e u he hu) (at_least f v hf hv) (at_least g w hg hw) z
  where
    heavier : (x y t : ℤ) → e ≤ℤ x → f ≤ℤ y → g ≤ℤ t → x +ℤ (y +ℤ t) ≡ pos 0 → ⊥
    heavier x y t hx hy ht z = omega (lin, at+ x (y +ℤ t), at+ y t, at+ e (f +ℤ g), at+ f g)

-- a weight alone balances only what is nothing
alone : (e u v w : ℤ) → pos 0 <ℤ e → e *ℤ u +ℤ (pos 0 *ℤ v +ℤ pos 0 *ℤ w) ≡ pos 0 → u ≡ pos 0
alone e u v w h z = ≤ℤ-antisym (*ℤ-cancel-≤ e h (≡→≤ℤ eq)) (*ℤ-cancel-≤ e h (≡→≤ℤ (sym eq)))
  where
    eq : e *ℤ u ≡ e *ℤ pos 0
    eq = sym (+ℤ_idr (e *ℤ u)) ∙ (rw (zero-*ℤ v, zero-*ℤ w) at z) ∙ sym (*ℤ-zero e)

-- ---- a point that no side has on its right

-- the turns that are left where one is all
none_left : (e f g d : ℤ) → e +ℤ (f +ℤ g) ≡ d → lt_z e d ≡ false → lt_z f (pos 0) ≡ false → lt_z g (pos 0) ≡ false → (f ≡ pos 0) × (g ≡ pos 0)
none_left e f g d s he hf hg = (omega (lin, at+ e (f +ℤ g), at+ f g), omega (lin, at+ e (f +ℤ g), at+ f g))

all_there : (e d : ℤ) → lt_z (pos 0) d ≡ true → lt_z e d ≡ false → pos 0 <ℤ e
all_there e d h k = omega lin

balanced : (e f g u v w : ℤ) → pos 0 <ℤ e → f ≡ pos 0 → g ≡ pos 0 → e *ℤ u +ℤ (f *ℤ v +ℤ g *ℤ w) ≡ pos 0 → u ≡ pos 0
balanced e f g u v w h hf hg z = alone e u v w h (rw (hf, hg) at z)

no_less : (e d : ℤ) → e ≡ d → lt_z e d ≡ true → ⊥
no_less e d h k = omega lin

-- its turn with the side a, b is all of the triangle's at the corner c, and nowhere else
at_corner_lem : (a b c q : Pt) → left a b c ≡ true → lt_z (turn b c q) (pos 0) ≡ false → lt_z (turn c a q) (pos 0) ≡ false → same q c ≡ not (lt_z (turn a b q) (turn a b c))
at_corner_lem a b c q l h k = go (lt_z (turn a b q) (turn a b c)) refl
  where
    other : (t : Bool) → same q c ≡ t → lt_z (turn a b q) (turn a b c) ≡ true → t ≡ false
    other true s e = absurd (no_less (turn a b q) (turn a b c) (ap (turn a b) (same→equal q c s)) e)
    other false s e = refl

    go : (t : Bool) → lt_z (turn a b q) (turn a b c) ≡ t → same q c ≡ not t
    go true e = other (same q c) refl e
    go false e =
        let p = all_there (turn a b q) (turn a b c) l e in
        let z = none_left (turn a b q) (turn b c q) (turn c a q) (turn a b c) (turns_add a b c q) e h k in
        let u = sub→≡ℤ (balanced (turn a b q) (turn b c q) (turn c a q) (q.x -ℤ c.x) (q.x -ℤ a.x) (q.x -ℤ b.x) p z.0 z.1 (back-x a b c q)) in
        let v = sub→≡ℤ (balanced (turn a b q) (turn b c q) (turn c a q) (q.y -ℤ c.y) (q.y -ℤ a.y) (q.y -ℤ b.y) p z.0 z.1 (back-y a b c q)) in
        equal→same q c (λ i. record { x = u i; y = v i })

-- ---- the rule by turns

some_left : (e f g d : ℤ) → e +ℤ (f +ℤ g) ≡ d → lt_z (pos 0) d ≡ true → (lt_z (pos 0) e || lt_z (pos 0) f || lt_z (pos 0) g) ≡ true
some_left e f g d s h = go (lt_z (pos 0) e) (lt_z (pos 0) f) (lt_z (pos 0) g) refl refl refl
  where
    go : (t u v : Bool) → lt_z (pos 0) e ≡ t → lt_z (pos 0) f ≡ u → lt_z (pos 0) g ≡ v → (t || u || v) ≡ true
    go true u v i j k = refl
    go false true v i j k = refl
    go false false true i j k = refl
    go false false false i j k = absurd (omega (lin, at+ e (f +ℤ g), at+ f g))

combined :
    (L r1 r2 r3 t1 t2 t3 sa sb sc : Bool) → L ≡ true → (r2 ≡ false → r3 ≡ false → sc ≡ not t1) → (r3 ≡ false → r1 ≡ false → sa ≡ not t2) → (r1 ≡ false → r2 ≡ false → sb ≡ not t3)
    → (not (L && (r1 || r2 || r3)) && not (sa || (sb || sc))) ≡ not ((r1 || not t1) || ((r2 || not t2) || (r3 || not t3)))
combined L true r2 r3 t1 t2 t3 sa sb sc h i j k = rw h
combined L false true r3 t1 t2 t3 sa sb sc h i j k = rw h (ap not (sym (or-true (not t1))))
combined L false false true t1 t2 t3 sa sb sc h i j k = rw h (ap not (sym (ap (λ (x : Bool). not t1 || x) (or-true (not t2)) ∙ or-true (not t1))))
combined L false false false t1 t2 t3 sa sb sc h i j k = rw (h, i refl refl, j refl refl, k refl refl) (three t1 t2 t3)
  where
    three : (s t u : Bool) → not (not t || (not u || not s)) ≡ not (not s || (not t || not u))
    three true true true = refl
    three true true false = refl
    three true false true = refl
    three true false false = refl
    three false true true = refl
    three false true false = refl
    three false false true = refl
    three false false false = refl

pub blocks_by_turns_lem : (a b c q : Pt) → left a b c ≡ true → blocks a b c q ≡ blocks_by_turns a b c q
unfolding blocks blocks_by_turns
blocks_by_turns_lem a b c q l =
    combined _ (lt_z (turn a b q) (pos 0)) (lt_z (turn b c q) (pos 0)) (lt_z (turn c a q) (pos 0))
    (lt_z (turn a b q) (turn a b c)) (lt_z (turn b c q) (turn a b c)) (lt_z (turn c a q) (turn a b c)) (same q a) (same q b) (same q c)
    (some_left (turn a b q) (turn b c q) (turn c a q) (turn a b c) (turns_add a b c q) l)
    (at_corner_lem a b c q l)
    (λ i j. at_corner_lem b c a q (by (turn_rotates a b c)) i j ∙ whole (turn b c q) (turn_rotates a b c))
    (λ i j. at_corner_lem c a b q (by (sym (turn_rotates c a b))) i j ∙ whole (turn c a q) (sym (turn_rotates c a b)))
  where
    by : {z : ℤ} → turn a b c ≡ z → lt_z (pos 0) z ≡ true
    by e = ap (lt_z (pos 0)) (sym e) ∙ l

    whole : (e : ℤ) {z : ℤ} → turn a b c ≡ z → not (lt_z e z) ≡ not (lt_z e (turn a b c))
    whole e h = ap (λ (d : ℤ). not (lt_z e d)) (sym h)

-- ---- the box

not_in : (L r1 r2 r3 s : Bool) → L ≡ true → (r1 ≡ false → r2 ≡ false → r3 ≡ false → ⊥) → (not (L && (r1 || r2 || r3)) && s) ≡ false
not_in L true r2 r3 s h n = rw h
not_in L false true r3 s h n = rw h
not_in L false false true s h n = rw h
not_in L false false false s h n = absurd (n refl refl refl)

least : (e : ℤ) → lt_z e (pos 0) ≡ false → pos 0 ≤ℤ e
least e h = omega lin

above : (d : ℤ) → lt_z (pos 0) d ≡ true → pos 0 <ℤ d
above d h = omega lin

-- where the turns weigh something that lies all on one side, the point is not in the triangle
unbalanced :
    (a b c q : Pt) → left a b c ≡ true → (u v w : ℤ) → pos 0 <ℤ u → pos 0 <ℤ v → pos 0 <ℤ w → turn a b q *ℤ u +ℤ (turn b c q *ℤ v +ℤ turn c a q *ℤ w) ≡ pos 0
    → blocks a b c q ≡ false
unfolding blocks
unbalanced a b c q l u v w hu hv hw z =
    not_in _ (lt_z (turn a b q) (pos 0)) (lt_z (turn b c q) (pos 0)) (lt_z (turn c a q) (pos 0)) _
    (some_left (turn a b q) (turn b c q) (turn c a q) (turn a b c) (turns_add a b c q) l)
    (λ i j k. tests (turn a b q) (turn b c q) (turn c a q) (turn a b c) l (turns_add a b c q) i j k z)
  where
    tests : (e f g d : ℤ) → lt_z (pos 0) d ≡ true → e +ℤ (f +ℤ g) ≡ d → lt_z e (pos 0) ≡ false → lt_z f (pos 0) ≡ false → lt_z g (pos 0) ≡ false → e *ℤ u +ℤ (f *ℤ v +ℤ g *ℤ w) ≡ pos 0 → ⊥
    tests e f g d h s i j k z =
        one_sided e f g u v w d (least e i) (least f j) (least g k) (above d h) s hu hv hw z

pub apart_free : (a b c q : Pt) → left a b c ≡ true → Apart a b c q → blocks a b c q ≡ false
apart_free a b c q l (left_of i j k) = unbalanced a b c q l (c.x -ℤ q.x) (a.x -ℤ q.x) (b.x -ℤ q.x) (<ℤ→sub k) (<ℤ→sub i) (<ℤ→sub j) (weighs_x a b c q)
apart_free a b c q l (right_of i j k) = unbalanced a b c q l (q.x -ℤ c.x) (q.x -ℤ a.x) (q.x -ℤ b.x) (<ℤ→sub k) (<ℤ→sub i) (<ℤ→sub j) (back-x a b c q)
apart_free a b c q l (under i j k) = unbalanced a b c q l (c.y -ℤ q.y) (a.y -ℤ q.y) (b.y -ℤ q.y) (<ℤ→sub k) (<ℤ→sub i) (<ℤ→sub j) (weighs_y a b c q)
apart_free a b c q l (over i j k) = unbalanced a b c q l (q.y -ℤ c.y) (q.y -ℤ a.y) (q.y -ℤ b.y) (<ℤ→sub k) (<ℤ→sub i) (<ℤ→sub j) (back-y a b c q)
