-- What unlinking does to the links, and what links say of a corner's neighbours.
use Prim.Native.Nat.{ℕ, suc, ◌≤◌}
use native.Mathlib.Omega.{arith}
use mathlib.Core.Path.{◌≡◌, refl, ap, sym, ◌∙◌, subst}
use mathlib.Core.List.{List, [], ◌∷◌, ◌++◌, map}
use lib.ListN.{length}
use borrow.Author.Tests.{eq-eqb, ne_eqb}
use Rattle.algebra.specs.Lists.{Each, end, ◌&◌}
use Rattle.algebra.specs.Rings.{corners, bends, last_of}
use Rattle.rules.specs.Cut.{without}
use Rattle.vertices.specs.Vertices.{linked_corner, Follows, Way, Links}

abbrev pub NotIn : ℕ → List ℕ → Type 0
NotIn i [] = Unit
NotIn i (b ∷ bs) = (b ≡ i → ⊥) × NotIn i bs

pub data Once (i : ℕ) : List ℕ → Type 0 where
  here : {b : ℕ} {bs : List ℕ} → b ≡ i → NotIn i bs → Once i (b ∷ bs)
  there : {b : ℕ} {bs : List ℕ} → (b ≡ i → ⊥) → Once i bs → Once i (b ∷ bs)

pub record Unlinked (p n p' n' : ℕ → ℕ) (i : ℕ) : Type 0 where
  pub next : n' (p i) ≡ n i
  pub prev : p' (n i) ≡ p i
  pub nexts : (j : ℕ) → (j ≡ p i → ⊥) → n' j ≡ n j
  pub prevs : (j : ℕ) → (j ≡ n i → ⊥) → p' j ≡ p j

module _ (p n p' n' : ℕ → ℕ) (i : ℕ) (h : Unlinked p n p' n' i) (ei : n (p i) ≡ i) (ie : p (n i) ≡ i) where
  frame : (u v : ℕ) → (u ≡ i → ⊥) → (v ≡ i → ⊥) → Follows p n u v → Follows p' n' u v
  frame u v hu hv e =
      (h.nexts u (λ q. hv (sym e.0 ∙ ap n q ∙ ei)) ∙ e.0, h.prevs v (λ q. hu (sym e.1 ∙ ap p q ∙ ie)) ∙ e.1)

  join : (u v : ℕ) → Follows p n u i → Follows p n i v → Follows p' n' u v
  join u v e f = (ap n' (sym e.1) ∙ h.next ∙ f.0, ap p' (sym f.0) ∙ h.prev ∙ e.1)

  -- a way that i is not on
  kept : (close prev : ℕ) (l : List ℕ) → (close ≡ i → ⊥) → (prev ≡ i → ⊥) → NotIn i l → Way p n close prev l → Way p' n' close prev l
  kept close prev [] hc hp nin w = frame prev close hp hc w
  kept close prev (b ∷ bs) hc hp nin w = (frame prev b hp nin.0 w.0, kept close b bs hc nin.0 nin.1 w.1)

  -- the way leads back to i, which was the first
  closed : (prev : ℕ) (l : List ℕ) (y : ℕ) → Follows p n i y → (prev ≡ i → ⊥) → NotIn i l → Way p n i prev l → Way p' n' y prev l
  closed prev [] y f hp nin w = join prev y w f
  closed prev (b ∷ bs) y f hp nin w = (frame prev b hp nin.0 w.0, closed b bs y f nin.0 nin.1 w.1)

  -- i is taken out of the way
  past : (close prev : ℕ) (l : List ℕ) → (close ≡ i → ⊥) → Follows p n prev i → NotIn i l → Way p n close i l → Way p' n' close prev l
  past close prev [] hc e nin w = join prev close e w
  past close prev (b ∷ bs) hc e nin w = (join prev b e w.0, kept close b bs hc nin.0 nin.1 w.1)

  out : (close prev : ℕ) {l : List ℕ} → (close ≡ i → ⊥) → (prev ≡ i → ⊥) → Once i l → Way p n close prev l → Way p' n' close prev (without i l)
  unfolding without
  out close prev hc hp (here {b} {bs} q nin) w =
      rw (eq-eqb b i q) (past close prev bs hc (rw q at w.0) nin (rw q at w.1))
  out close prev hc hp (there {b} {bs} q on) w =
      rw (ne_eqb b i q) (frame prev b hp q w.0, out close b hc q on w.1)

  alone : (bs : List ℕ) → NotIn i bs → Way p n i i bs → Links p' n' bs
  alone [] nin w = tt
  alone (d ∷ ds) nin w = closed d ds d w.0 nin.0 nin.1 w.1

  pub unlinks : {l : List ℕ} → Once i l → Links p n l → Links p' n' (without i l)
  unfolding without
  unlinks (here {b} {bs} q nin) w = rw (eq-eqb b i q) (alone bs nin (rw q at w))
  unlinks (there {b} {bs} q on) w = rw (ne_eqb b i q) (out b b q q on w)

pub without-length : (i : ℕ) {l : List ℕ} → Once i l → length l ≡ suc (length (without i l))
unfolding without
without-length i (here {b} {bs} q nin) = rw (eq-eqb b i q)
without-length i (there {b} {bs} q on) = rw (ne_eqb b i q) (ap suc (without-length i on))

module _ (p n : ℕ → ℕ) where
  last : (close prev : ℕ) (l : List ℕ) → Way p n close prev l → p close ≡ last_of prev l
  last close prev [] w = w.1
  last close prev (b ∷ bs) w = last close b bs w.1

  from : (first prev at : ℕ) (l : List ℕ) → p at ≡ prev → Way p n first at l → bends prev at (l ++ first ∷ []) ≡ map (linked_corner p n) (at ∷ l)
  from first prev at [] e w = simp (e, w.0)
  from first prev at (b ∷ bs) e w = simp (e, w.0.0, from first at b bs w.0.1 w.1)

  pub corners-map : (l : List ℕ) → Links p n l → corners l ≡ map (linked_corner p n) l
  corners-map [] w = refl
  corners-map (a ∷ rest) w = from a (last_of a rest) a rest (last a a rest w) w

-- ---- both ends of each edge, and what holds of all corners of a ring holds of a corner's neighbours

module _ (p n : ℕ → ℕ) where
  closing : (close prev : ℕ) (l : List ℕ) → Way p n close prev l → n (p close) ≡ close
  closing close prev [] w = ap n w.1 ∙ w.0
  closing close prev (b ∷ bs) w = closing close b bs w.1

  starting : (close prev : ℕ) (l : List ℕ) → Way p n close prev l → p (n prev) ≡ prev
  starting close prev [] w = ap p w.0 ∙ w.1
  starting close prev (b ∷ bs) w = ap p w.0.0 ∙ w.0.1

  to : (i close prev : ℕ) {l : List ℕ} → Once i l → Way p n close prev l → (n (p i) ≡ i) × (p (n i) ≡ i)
  to i close prev (here {b} {bs} q nin) w =
      let r : (n (p b) ≡ b) × (p (n b) ≡ b) = (ap n w.0.1 ∙ w.0.0, starting close b bs w.1) in
      rw q at r
  to i close prev (there {b} {bs} q on) w = to i close b on w.1

  pub ends : (i : ℕ) {l : List ℕ} → Once i l → Links p n l → (n (p i) ≡ i) × (p (n i) ≡ i)
  ends i (here {b} {bs} q nin) w =
      let r : (n (p b) ≡ b) × (p (n b) ≡ b) = (closing b b bs w, starting b b bs w) in
      rw q at r
  ends i (there {b} {bs} q on) w = to i b b on w

  module _ (P : ℕ → Type 0) where
    ahead : (close prev : ℕ) {l : List ℕ} → Each P l → P close → Way p n close prev l → P (n prev)
    ahead close prev end h w = subst P (sym w.0) h
    ahead close prev (g & gs) h w = subst P (sym w.0.0) g

    behind : (close prev : ℕ) {l : List ℕ} → Each P l → P prev → Way p n close prev l → P (p close)
    behind close prev end h w = subst P (sym w.1) h
    behind close prev (◌&◌ {a = b} g gs) h w = behind close b gs g w.1

    along : (i close prev : ℕ) {l : List ℕ} → Once i l → Each P l → P close → P prev → Way p n close prev l → P (p i) × P (n i)
    along i close prev (here {b} {bs} q nin) (g & gs) c h w =
        let r : P (p b) × P (n b) = (subst P (sym w.0.1) h, ahead close b gs c w.1) in
        rw q at r
    along i close prev (there {b} {bs} q on) (g & gs) c h w = along i close b on gs c g w.1

    pub near : (i : ℕ) {l : List ℕ} → Once i l → Each P l → Links p n l → P (p i) × P (n i)
    near i (here {b} {bs} q nin) (g & gs) w =
        let r : P (p b) × P (n b) = (behind b b gs g w, ahead b b gs g w) in
        rw q at r
    near i (there {b} {bs} q on) (g & gs) w = along i b b on gs g g w

  last-not : (i b : ℕ) (l : List ℕ) → (b ≡ i → ⊥) → NotIn i l → last_of b l ≡ i → ⊥
  last-not i b [] h nin e = h e
  last-not i b (d ∷ ds) h nin e = last-not i d ds nin.0 nin.1 e

  on_the_way : (i close prev : ℕ) {l : List ℕ} → Once i l → (prev ≡ i → ⊥) → Way p n close prev l → p i ≡ i → ⊥
  on_the_way i close prev (here {b} {bs} q nin) h w e = h (sym w.0.1 ∙ ap p q ∙ e)
  on_the_way i close prev (there {b} {bs} q on) h w e = on_the_way i close b on q w.1 e

  -- in a ring of two or more no corner is its own neighbour
  pub not_own : (i : ℕ) {l : List ℕ} → Once i l → 2 ≤ length l → Links p n l → p i ≡ i → ⊥
  not_own i (here {b} {bs = []} q nin) two w e = omega arith
  not_own i (here {b} {bs = d ∷ ds} q nin) two w e = last-not i d ds nin.0 nin.1 (sym (last p n b b (d ∷ ds) w) ∙ ap p q ∙ e)
  not_own i (there {b} {bs} q on) two w e = on_the_way i b b on q w e
