-- The root of the tree of winners is the choice of the rules.
use Prim.Native.Nat.{ℕ, zero, suc, ◌+◌, ◌-◌, ◌^◌, ◌≤◌, ◌<◌}
use native.Mathlib.Omega.{arith}
use mathlib.Core.Path.{◌≡◌, refl, sym, ap, ◌∙◌, subst}
use mathlib.Core.Bool.{Bool, true, false, cond}
use mathlib.Core.List.{List, [], ◌∷◌, map}
use lib.Ieee.{Float, le, is_nan}
use lib.Pow.{pow_pos}
use Rattle.algebra.specs.Lists.{Each, ◌&◌}
use Rattle.algebra.specs.Rings.{Corner}
use Rattle.algebra.proofs.Equal.{impossible}
use Rattle.rules.specs.Plane.{Pt}
use Rattle.rules.specs.Ear.{Ear, none, pointed, ear}
use Rattle.rules.specs.Cut.{Choice, nothing, best, better, choose}
use Rattle.rules.proofs.FloatOrder.{le_total, le_trans}
use Rattle.winners.specs.Tree.{Stands, together}
use Rattle.winners.specs.Winners as W
use Rattle.winners.specs.Winners.{later, leaf, Number, no_one, number, choice_of, Kept, kept, left_out}
use Rattle.winners.proofs.Repairs.{opposite}
use Rattle.winners.proofs.Levels.{good_together, root_is}

-- ---- the better of three

later-nobody : (a : Choice ℕ) → later nothing a ≡ a
unfolding later better
later-nobody nothing = refl
later-nobody (best i f) = refl

later-number : (a b : Choice ℕ) → Number a → Number b → Number (later a b)
unfolding later better
later-number a nothing p q = p
later-number nothing (best i f) p q = q
later-number (best j g) (best i f) p q = go (le g f)
  where
    go : (t : Bool) → Number (cond t (best i f) (best j g))
    go true = q
    go false = p

later_both : (i j : ℕ) (f g : Float) (t : Bool) → le f g ≡ t → later (best i f) (best j g) ≡ cond t (best j g) (best i f)
unfolding later better
later_both i j f g t e = rw e

three : (i j k : ℕ) (f g h : Float) → is_nan f ≡ false → is_nan g ≡ false → later (later (best i f) (best j g)) (best k h) ≡ later (best i f) (later (best j g) (best k h))
three i j k f g h p q = go (le f g) refl (le g h) refl
  where
    not_less : (t : Bool) → le f h ≡ t → le f g ≡ false → le g h ≡ false → t ≡ false
    not_less true a b c = impossible (opposite (le g h) (le_trans g f h (le_total f g p q b) a) c)
    not_less false a b c = refl

    go : (s : Bool) → le f g ≡ s → (t : Bool) → le g h ≡ t → later (later (best i f) (best j g)) (best k h) ≡ later (best i f) (later (best j g) (best k h))
    go true a true b =
        ap (λ (x : Choice ℕ). later x (best k h)) (later_both i j f g true a) ∙ later_both j k g h true b
        ∙ sym (later_both i k f h true (le_trans f g h a b)) ∙ ap (λ (x : Choice ℕ). later (best i f) x) (sym (later_both j k g h true b))
    go true a false b =
        ap (λ (x : Choice ℕ). later x (best k h)) (later_both i j f g true a) ∙ later_both j k g h false b
        ∙ sym (later_both i j f g true a) ∙ ap (λ (x : Choice ℕ). later (best i f) x) (sym (later_both j k g h false b))
    go false a true b =
        ap (λ (x : Choice ℕ). later x (best k h)) (later_both i j f g false a) ∙ ap (λ (x : Choice ℕ). later (best i f) x) (sym (later_both j k g h true b))
    go false a false b =
        ap (λ (x : Choice ℕ). later x (best k h)) (later_both i j f g false a) ∙ later_both i k f h false (not_less (le f h) refl a b)
        ∙ sym (later_both i j f g false a) ∙ ap (λ (x : Choice ℕ). later (best i f) x) (sym (later_both j k g h false b))

later-assoc : (a b c : Choice ℕ) → Number a → Number b → Number c → later (later a b) c ≡ later a (later b c)
unfolding later better
later-assoc a b nothing p q r = refl
later-assoc a nothing (best k h) p q r = refl
later-assoc nothing (best j g) (best k h) p q r = sym (later-nobody (later (best j g) (best k h)))
later-assoc (best i f) (best j g) (best k h) (number p) (number q) r = three i j k f g h p q

-- ---- the choice

-- b, and then those of a ring one after the other
abbrev then : (ℕ → Choice ℕ) → Choice ℕ → List ℕ → Choice ℕ
then t b [] = b
then t b (i ∷ ring) = then t (later b (t i)) ring

better_is : (corner : ℕ → Corner ℕ) (b : Choice ℕ) (i : ℕ) (e : Ear) → better (choice_of corner b) (corner i) e ≡ choice_of corner (later b (leaf i e))
unfolding better later
better_is corner b i none = refl
better_is corner nothing i (pointed f) = refl
better_is corner (best j g) i (pointed f) = go (le g f)
  where
    go : (t : Bool) → cond t (best (corner i) f) (best (corner j) g) ≡ choice_of corner (cond t (best i f) (best j g))
    go true = refl
    go false = refl

choose-then :
    (ps : List Pt) (corner : ℕ → Corner ℕ) (t : ℕ → Choice ℕ) (b : Choice ℕ) (ring : List ℕ) → Each (λ i. t i ≡ leaf i (ear ps (corner i))) ring
    → choose ps (choice_of corner b) (map corner ring) ≡ choice_of corner (then t b ring)
unfolding choose
choose-then ps corner t b [] h = refl
choose-then ps corner t b (i ∷ ring) (e & h) =
    ap (λ (c : Choice (Corner ℕ)). choose ps c (map corner ring)) (better_is corner b i (ear ps (corner i)) ∙ ap (λ (x : Choice ℕ). choice_of corner (later b x)) (sym e))
    ∙ choose-then ps corner t (later b (t i)) ring h

then-together :
    (t : ℕ → Choice ℕ) (b : Choice ℕ) (k n : ℕ) (ring : List ℕ) → Kept t k (suc n) ring → Number b → ((i : ℕ) → k ≤ i → i ≤ k + n → Number (t i))
    → then t b ring ≡ later b (together later t k n)
unfolding later better
then-together t b k zero ring (kept W.end) p g = refl
then-together t b k zero ring (left_out e W.end) p g = ap (later b) (sym e)
then-together t b k (suc n) ring (kept {ring = rest} r) p g =
    let q = g k (omega arith) (omega arith) in
    then-together t (later b (t k)) (suc k) n rest r (later-number b (t k) p q) (λ i x y. g i (omega arith) (omega arith))
    ∙ later-assoc b (t k) (together later t (suc k) n) p q (good_together later Number later-number later-assoc t (suc k) n (λ i x y. g i (omega arith) (omega arith)))
then-together t b k (suc n) ring (left_out e r) p g =
    then-together t b (suc k) n ring r p (λ i x y. g i (omega arith) (omega arith))
    ∙ ap (later b) (sym (later-nobody (together later t (suc k) n)) ∙ ap (λ (x : Choice ℕ). later x (together later t (suc k) n)) (sym e))

shifted : (t : ℕ → Choice ℕ) (m k n : ℕ) → together later t (m + k) n ≡ together later (λ i. t (m + i)) k n
shifted t m k zero = refl
shifted t m k (suc n) =
    let e : suc (m + k) ≡ m + suc k = omega arith in
    ap (later (t (m + k))) (ap (λ (x : ℕ). together later t x n) e ∙ shifted t m (suc k) n)

-- the root of a tree that stands, whose leaves are the ears of the ring's corners and else nothing's
pub root_chosen :
    (ps : List Pt) (corner : ℕ → Corner ℕ) (t : ℕ → Choice ℕ) (m h : ℕ) → m ≡ 2 ^ h → Stands later t m → ((k : ℕ) → m ≤ k → k < m + m → Number (t k))
    → (ring : List ℕ) → Kept (λ i. t (m + i)) 0 m ring → Each (λ i. t (m + i) ≡ leaf i (ear ps (corner i))) ring
    → choose ps nothing (map corner ring) ≡ choice_of corner (t 1)
root_chosen ps corner t m h e s g ring r ears =
    let p : 0 < m = rw e (pow_pos h) in
    let z : m + 0 ≡ m = omega arith in
    let q : m ≡ suc (m - 1) = omega arith in
    choose-then ps corner (λ i. t (m + i)) nothing ring ears
    ∙ ap (choice_of corner)
    (then-together (λ i. t (m + i)) nothing 0 (m - 1) ring (subst (λ (n : ℕ). Kept (λ i. t (m + i)) 0 n ring) q r) no_one (λ i x y. g (m + i) (omega arith) (omega arith))
    ∙ later-nobody (together later (λ i. t (m + i)) 0 (m - 1))
    ∙ sym (shifted t m 0 (m - 1))
    ∙ ap (λ (x : ℕ). together later t x (m - 1)) z
    ∙ sym (root_is later Number later-number later-assoc t m s g h e))
