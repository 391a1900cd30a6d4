-- A ring written out along its links.
use Prim.Native.Nat.{ℕ, suc, ◌+◌, ◌-◌, ◌≤◌, ◌<◌}
use native.Mathlib.Omega.{arith}
use native.Mathlib.Numerals.{add-one}
use native.Mathlib.Nat.{sub-zero}
use mathlib.Core.Path.{◌≡◌, refl, sym, ◌∙◌, ap, subst}
use mathlib.Core.List.{List, [], ◌∷◌, ◌++◌, append-nil}
use lib.ListN.{length, get_or, set, drop, length-append, length-drop}
use lib.Seq.{drop-cons, set_at, append_snoc}
use Rattle.algebra.specs.Lists.{Each}
use Rattle.algebra.proofs.Lists.{each_head, each_tail}
use Rattle.rules.specs.Layout.{over}
use Rattle.rules.specs.MergeQueue.{places_from, ring_at}

-- i corners are written, and the next stands at a place
pub record Writing (vert succ : List ℕ) (start len : ℕ) (out₀ out : List ℕ) (at i : ℕ) : Type 0 where
  pub done : List ℕ
  pub size : length done ≡ i
  pub most : i ≤ len
  pub out_is : out ≡ done ++ drop i out₀
  pub ring_is : ring_at vert succ start len ≡ done ++ ring_at vert succ at (len - i)
  pub places : Each (λ j. j < 512) (places_from succ at (len - i))

module _ (vert succ : List ℕ) (start len : ℕ) (out₀ : List ℕ) (room : len ≤ length out₀) where
  pub writing-first : Each (λ j. j < 512) (places_from succ start len) → Writing vert succ start len out₀ out₀ start 0
  writing-first h = record { done = []; size = refl; most = omega arith; out_is = refl; ring_is = rw (sub-zero len); places = rw (sub-zero len) h }

  module _ (out : List ℕ) (at i : ℕ) (w : Writing vert succ start len out₀ out at i) where
    pub out_size : length out ≡ length out₀
    out_size = ap length w.out_is ∙ length-append w.done (drop i out₀) ∙ omega (arith, w.size, w.most, length-drop i out₀)

    module _ (h : i < len) where
      next : len - i ≡ suc (len - (i + 1))
      next = omega arith

      here : Each (λ j. j < 512) (at ∷ places_from succ (get_or succ at 0) (len - (i + 1)))
      here = subst (λ (m : ℕ). Each (λ j. j < 512) (places_from succ at m)) next w.places

      pub place_low : at < 512
      place_low = each_head here

      pub writing_more : (x at' : ℕ) → x ≡ get_or vert at 0 → at' ≡ get_or succ at 0 → Writing vert succ start len out₀ (set out i x) at' (i + 1)
      writing_more x at' is_x is_at = record {
        done = w.done ++ x ∷ [];
        size = length-append w.done (x ∷ []) ∙ omega (arith, w.size);
        most = omega arith;
        out_is =
            ap (λ (l : List ℕ). set l i x) (w.out_is ∙ ap (λ (l : List ℕ). w.done ++ l) (drop-cons out₀ i 0 (omega arith)))
            ∙ set_at w.done (get_or out₀ i 0) (drop (suc i) out₀) x i w.size
            ∙ rw (add-one i) (sym (append_snoc w.done x (drop (suc i) out₀)));
        ring_is =
            w.ring_is
            ∙ ap (λ (m : ℕ). w.done ++ ring_at vert succ at m) next
            ∙ rw (is_x, is_at) (sym (append_snoc w.done (get_or vert at 0) (ring_at vert succ (get_or succ at 0) (len - (i + 1)))));
        places = rw is_at (each_tail here);
      }

    pub writing-end : len ≤ i → out ≡ over (ring_at vert succ start len) out₀
    writing-end h =
        let e : len - i ≡ 0 = omega arith in
        let r : ring_at vert succ start len ≡ w.done = w.ring_is ∙ ap (λ (m : ℕ). w.done ++ ring_at vert succ at m) e ∙ append-nil w.done in
        rw (r, w.size) w.out_is
