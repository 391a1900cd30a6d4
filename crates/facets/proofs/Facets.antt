-- Laws of a ring as it stands in an array: its marks tell the facets apart.
use Prim.Native.Nat.{ℕ, suc, ◌+◌, ◌-◌, ◌≤◌, ◌<◌}
use native.Mathlib.Omega.{arith}
use native.Mathlib.Nat.{add-zero}
use mathlib.Core.Path.{◌≡◌, refl, sym, ◌∙◌, ap}
use mathlib.Core.Bool.{Bool, cond}
use mathlib.Core.List.{List, [], ◌∷◌, ◌++◌, append_assoc}
use borrow.Author.Tests.{lt-ltb, le-ltb}
use lib.ListN.{length, get_or, take, drop, length-drop}
use lib.Seq.{take_at, take_all, drop-drop, drop-append_seam, get_or-drop}
use Rattle.algebra.specs.Lists.{Each, end, ◌&◌}
use Rattle.algebra.specs.Rings.{first_of}
use Rattle.rules.specs.Limits.{most_points}
use Rattle.hulls.specs.Rounds.{Facet, Way, stay, along}
use Rattle.facets.specs.Laid.{mark_of, corner_of, leading, one_laid, laid}

-- every list holds unmarked numbers
abbrev pub Low : List Facet → Type 0
Low facets = Each (λ f. Each (λ i. i < most_points) f.seen) facets

-- ---- marks

pub mark_back : (i : ℕ) → corner_of (mark_of i) ≡ i
mark_back i = omega arith

pub mark_high : (i : ℕ) → most_points ≤ mark_of i
mark_high i = omega arith

-- ---- one behind the other

pub laid_cons : (f : Facet) (l : List Facet) → laid (f ∷ l) ≡ mark_of f.from ∷ (f.seen ++ laid l)
unfolding laid
laid_cons f l = refl

pub laid_nil : laid [] ≡ []
unfolding laid
laid_nil = refl

pub laid_++ : (l m : List Facet) → laid (l ++ m) ≡ laid l ++ laid m
unfolding laid
laid_++ [] m = refl
laid_++ (f ∷ l) m = ap (λ (k : List ℕ). one_laid f ++ k) (laid_++ l m) ∙ sym (append_assoc (one_laid f) (laid l) (laid m))

-- ---- where a list ends

-- what stands from place k on, as a part of the ring
pub led_from : (ring : List ℕ) (k : ℕ) {led : ℕ} → led ≡ leading (take (length ring - k) (drop k ring)) → led ≡ leading (drop k ring)
led_from ring k e = e ∙ ap leading (take_all (length ring - k) (drop k ring) (omega (arith, length-drop k ring)))

lead_laid : (l : List Facet) → leading (laid l) ≡ 0
unfolding laid
lead_laid [] = refl
lead_laid (f ∷ l) = ap (λ (t : Bool). cond t (1 + leading (f.seen ++ laid l)) 0) (le-ltb (mark_of f.from) most_points (mark_high f.from))

pub lead_list : {s : List ℕ} → Each (λ i. i < most_points) s → (l : List Facet) → leading (s ++ laid l) ≡ length s
lead_list end l = lead_laid l
lead_list (◌&◌ {a = i} {l = s} h hs) l =
    let one : 1 + length s ≡ suc (length s) = omega arith in
    ap (λ (t : Bool). cond t (1 + leading (s ++ laid l)) 0) (lt-ltb i most_points h) ∙ ap (λ (n : ℕ). 1 + n) (lead_list hs l) ∙ one

-- ---- the facet that stands at place p: its corner, its list, and where the next one stands

module _ (ring : List ℕ) (p : ℕ) (f : Facet) (rest : List Facet) (here : drop p ring ≡ laid (f ∷ rest)) where
  pub corner_at_lem : get_or ring p 0 ≡ mark_of f.from
  corner_at_lem =
      ap (λ (n : ℕ). get_or ring n 0) (sym (add-zero p)) ∙ sym (get_or-drop p ring 0 0) ∙ ap (λ (l : List ℕ). get_or l 0 0) (here ∙ laid_cons f rest)

  behind : drop (p + 1) ring ≡ f.seen ++ laid rest
  behind = sym (drop-drop 1 p ring) ∙ ap (drop 1) (here ∙ laid_cons f rest)

  pub ends_at : Each (λ i. i < most_points) f.seen → leading (drop (p + 1) ring) ≡ length f.seen
  ends_at h = ap leading behind ∙ lead_list h rest

  module _ (q : ℕ) (e : q ≡ p + 1 + length f.seen) where
    pub list_at : take (q - (p + 1)) (drop (p + 1) ring) ≡ f.seen
    list_at =
        let n : length f.seen ≡ q - (p + 1) = omega arith in
        ap (take (q - (p + 1))) behind ∙ take_at f.seen (laid rest) (q - (p + 1)) n

    pub rest_at : drop q ring ≡ laid rest
    rest_at = ap (λ (n : ℕ). drop n ring) e ∙ sym (drop-drop (length f.seen) (p + 1) ring) ∙ ap (drop (length f.seen)) behind ∙ drop-append_seam f.seen (laid rest)

-- a place in the ring, or its end
pub some_facet : (ring : List ℕ) (p : ℕ) (rest : List Facet) → p < length ring → drop p ring ≡ laid rest → (f : Facet) × (l : List Facet) × (rest ≡ f ∷ l)
some_facet ring p [] h e = absurd (omega (arith, length-drop p ring, ap length (e ∙ laid_nil)))
some_facet ring p (f ∷ l) h e = (f, l, refl)

pub no_facet : (ring : List ℕ) (p : ℕ) (rest : List Facet) → length ring ≤ p → drop p ring ≡ laid rest → rest ≡ []
no_facet ring p [] h e = refl
no_facet ring p (f ∷ l) h e = absurd (omega (arith, length-drop p ring, ap length (e ∙ laid_cons f l)))

-- the corner at which the next facet begins, or the first
pub next-at : {a c : ℕ} (rest : List Facet) → Way a rest c → corner_of (first_of (mark_of c) (laid rest)) ≡ a
unfolding laid
next-at {c} [] (stay e) = mark_back c ∙ sym e
next-at (f ∷ l) (along e w) = mark_back f.from ∙ e

pub next_marked : (c : ℕ) (rest : List Facet) → most_points ≤ first_of (mark_of c) (laid rest)
unfolding laid
next_marked c [] = mark_high c
next_marked c (f ∷ l) = mark_high f.from
