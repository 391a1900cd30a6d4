-- Two facets written one behind the other, and a facet split.
use Prim.Native.Nat.{ℕ, suc, ◌+◌, ◌≤◌, ◌<◌}
use native.Mathlib.Omega.{arith}
use mathlib.Core.Path.{◌≡◌, refl, sym, ◌∙◌, ap}
use mathlib.Core.List.{List, [], ◌∷◌, ◌++◌, append-nil, append_assoc}
use lib.ListN.{length, get_or, length-append}
use Rattle.algebra.specs.Lists.{Each, end, ◌&◌}
use Rattle.rules.specs.Limits.{most_points}
use Rattle.rules.specs.Plane.{Pt, point}
use Rattle.rules.specs.Hull.{normal, before}
use Rattle.hulls.proofs.Farthest.{farthest-each}
use Rattle.seeing.specs.Seeing.{farthest_of, seeing}
use Rattle.facets.specs.Laid.{mark_of, laid, two, parts}

-- by points, and by their numbers
seeing-before : (ps : List Pt) (u w : ℕ) (a b : Pt) (l : List ℕ) → a ≡ point ps u → b ≡ point ps w → seeing ps a b l ≡ before ps u w l
unfolding seeing
seeing-before ps u w a b l e f = λ i. seeing ps (e i) (f i) l

module _ (ps : List Pt) (l : List ℕ) (u w v : ℕ) where
  two_is : laid (two ps l u w v) ≡ mark_of u ∷ (before ps u w l ++ (mark_of w ∷ before ps w v l))
  unfolding laid
  two_is = ap (λ (m : List ℕ). mark_of u ∷ (before ps u w l ++ (mark_of w ∷ m))) (append-nil (before ps w v l))

  two-length : length (laid (two ps l u w v)) ≡ suc (length (before ps u w l) + suc (length (before ps w v l)))
  two-length = ap length two_is ∙ ap suc (length-append (before ps u w l) (mark_of w ∷ before ps w v l))

  -- u's mark, those that see the first facet, w's mark, those that see the second
  module _ (out : List ℕ) (room : length out + length (laid (two ps l u w v)) ≤ most_points) {a b c : Pt} (a_is : a ≡ point ps u) (b_is : b ≡ point ps w) (c_is : c ≡ point ps v) where
    pub first_fits : length out < most_points
    first_fits = omega (arith, two-length)

    module _ {x : ℕ} (x_is : x ≡ mark_of u) {out₁ : List ℕ} (e₁ : out₁ ≡ out ++ (x ∷ [])) where
      size₁ : length out₁ ≡ length out + 1
      size₁ = ap length e₁ ∙ length-append out (x ∷ [])

      first-seen : length (seeing ps a b l) ≡ length (before ps u w l)
      first-seen = ap length (seeing-before ps u w a b l a_is b_is)

      pub first_seen_fit : length out₁ + length (seeing ps a b l) ≤ most_points
      first_seen_fit = omega (arith, two-length, size₁, first-seen)

      module _ {out₂ : List ℕ} (e₂ : out₂ ≡ out₁ ++ seeing ps a b l) where
        size₂ : length out₂ ≡ length out + 1 + length (before ps u w l)
        size₂ = omega (arith, ap length e₂, length-append out₁ (seeing ps a b l), size₁, first-seen)

        pub second_fits : length out₂ < most_points
        second_fits = omega (arith, two-length, size₂)

        module _ {y : ℕ} (y_is : y ≡ mark_of w) {out₃ : List ℕ} (e₃ : out₃ ≡ out₂ ++ (y ∷ [])) where
          size₃ : length out₃ ≡ length out₂ + 1
          size₃ = ap length e₃ ∙ length-append out₂ (y ∷ [])

          second-seen : length (seeing ps b c l) ≡ length (before ps w v l)
          second-seen = ap length (seeing-before ps w v b c l b_is c_is)

          pub second_seen_fit : length out₃ + length (seeing ps b c l) ≤ most_points
          second_seen_fit = omega (arith, two-length, size₂, size₃, second-seen)

          pub two_laid : {out₄ : List ℕ} → out₄ ≡ out₃ ++ seeing ps b c l → out₄ ≡ out ++ laid (two ps l u w v)
          two_laid e₄ =
              rw (e₄, e₃, e₂, e₁, x_is, y_is, seeing-before ps u w a b l a_is b_is, seeing-before ps w v b c l b_is c_is)
              (regroup out (before ps u w l) (before ps w v l) ∙ ap (λ (s : List ℕ). out ++ s) (sym two_is))
            where
              regroup : (r s t : List ℕ) → (((r ++ (mark_of u ∷ [])) ++ s) ++ (mark_of w ∷ [])) ++ t ≡ r ++ (mark_of u ∷ (s ++ (mark_of w ∷ t)))
              regroup r s t = simp append_assoc

-- ---- a facet split

pub parts_none : (ps : List Pt) (l : List ℕ) (u v : ℕ) → length l ≡ 0 → laid (parts ps l u v) ≡ mark_of u ∷ []
unfolding parts laid
parts_none ps [] u v e = refl
parts_none ps (i ∷ l) u v e = absurd (omega arith)

pub parts_some : (ps : List Pt) (l : List ℕ) (u v : ℕ) {a b : Pt} → a ≡ point ps u → b ≡ point ps v → 0 < length l → {w : ℕ} → w ≡ farthest_of ps (normal a b) l → parts ps l u v ≡ two ps l u w v
unfolding parts
parts_some ps [] u v p q h e = absurd (omega arith)
parts_some ps (i ∷ l) u v p q h e = ap (λ (x : ℕ). two ps (i ∷ l) u x v) (sym (e ∙ (λ k. farthest_of ps (normal (p k) (q k)) (i ∷ l))))

each_below : (n : ℕ) (l : List ℕ) → ((k : ℕ) → k < length l → get_or l k 0 < n) → Each (λ i. i < n) l
each_below n [] h = end
each_below n (i ∷ l) h = h 0 (omega arith) & each_below n l (λ k j. h (suc k) (omega arith))

far_below : (ps : List Pt) (N : Pt) (n : ℕ) (l : List ℕ) → 0 < length l → Each (λ i. i < n) l → farthest_of ps N l < n
unfolding farthest_of
far_below ps N n [] h e = absurd (omega arith)
far_below ps N n (i ∷ l) h (p & ps') = farthest-each ps N i p ps'

pub farthest_in : (ps : List Pt) (N : Pt) (n : ℕ) (l : List ℕ) → 0 < length l → ((k : ℕ) → k < length l → get_or l k 0 < n) → farthest_of ps N l < n
farthest_in ps N n l h within = far_below ps N n l h (each_below n l within)
