-- One turn of a sweep: the facet that stands at place p is written as it is split, and the next one stands behind its list.
use Prim.Native.Nat.{ℕ, ◌+◌, ◌-◌, ◌≤◌, ◌<◌}
use native.Mathlib.Omega.{arith}
use native.Mathlib.Nat.{lt_of_lt_of_le}
use mathlib.Core.Path.{◌≡◌, refl, sym, ◌∙◌, ap, subst}
use mathlib.Core.List.{List, [], ◌∷◌, ◌++◌, append-nil, append_assoc}
use lib.ListN.{length, get_or, take, drop, length-append}
use Rattle.algebra.specs.Lists.{Each, ◌&◌}
use Rattle.algebra.specs.Rings.{first_of}
use Rattle.algebra.proofs.Lists.{each_at, each_head, each_tail, each_imp}
use Rattle.rules.specs.Limits.{most_points}
use Rattle.rules.specs.Plane.{Pt}
use Rattle.hulls.specs.Rounds.{Facet, Way, stay, along}
use Rattle.facets.specs.Laid.{mark_of, corner_of, leading, laid, parts, sweep_of, Held}
use Rattle.facets.proofs.Facets.{laid_cons, laid_nil, laid_++, mark_back, mark_high, corner_at_lem, ends_at, list_at, rest_at, some_facet, no_facet, next-at, next_marked}

sweep_nil : (ps : List Pt) → sweep_of ps [] ≡ []
unfolding sweep_of
sweep_nil ps = refl

sweep_cons : (ps : List Pt) (f : Facet) (l : List Facet) → sweep_of ps (f ∷ l) ≡ parts ps f.seen f.from f.to ++ sweep_of ps l
unfolding sweep_of
sweep_cons ps f l = refl

way_in : {n a c : ℕ} (rest : List Facet) → Way a rest c → Each (λ f. f.from < n) rest → c < n → a < n
way_in {n} [] (stay e) h k = subst (λ (i : ℕ). i < n) (sym e) k
way_in {n} (f ∷ l) (along e w) (h & hs) k = subst (λ (i : ℕ). i < n) e h

-- the first corner
first-at : {c : ℕ} (ring : List ℕ) (facets : List Facet) → 0 < length ring → ring ≡ laid facets → Way c facets c → get_or ring 0 0 ≡ mark_of c
first-at ring [] h e w = absurd (omega (arith, ap length (e ∙ laid_nil)))
first-at ring (f ∷ l) h e (along q w) = ap (λ (s : List ℕ). get_or s 0 0) (e ∙ laid_cons f l) ∙ ap mark_of q

first_in : {n c : ℕ} (ring : List ℕ) (facets : List Facet) → 0 < length ring → ring ≡ laid facets → Way c facets c → Each (λ f. f.from < n) facets → c < n
first_in ring [] h e w k = absurd (omega (arith, ap length (e ∙ laid_nil)))
first_in {n} ring (f ∷ l) h e (along q w) (k & ks) = subst (λ (i : ℕ). i < n) q k

module _ (ps : List Pt) (few : length ps ≤ most_points) (ring : List ℕ) (facets : List Facet) (h : Held ps ring facets) where
  abbrev n : ℕ
  n = length ps

  abbrev c : ℕ
  c = h.sound.corner

  -- the facets from place p on are still to be swept, and what came of the others is written
  pub record Sweeping (out : List ℕ) (p : ℕ) : Type 0 where
    pub rest : List Facet
    pub here : drop p ring ≡ laid rest
    pub corners : Each (λ f. f.from < n) rest
    pub lists : Each (λ f. Each (λ i. i < n) f.seen) rest
    pub at : ℕ
    pub way : Way at rest c
    pub so_far : out ++ laid (sweep_of ps rest) ≡ laid (sweep_of ps facets)

  pub sweeping_last : {out : List ℕ} {p : ℕ} → Sweeping out p → length ring ≤ p → out ≡ laid (sweep_of ps facets)
  sweeping_last {out} {p} s l =
      let e = no_facet ring p s.rest l s.here in
      sym (append-nil out) ∙ ap (λ (x : List ℕ). out ++ x) (sym (ap (λ (r : List Facet). laid (sweep_of ps r)) e ∙ ap laid (sweep_nil ps) ∙ laid_nil)) ∙ s.so_far

  -- what a turn needs, and what it leaves: q is behind the list, u and v are the facet's ends
  pub record Ready (out : List ℕ) (p q u v : ℕ) (list : List ℕ) : Type 0 where
    pub in_list : (k : ℕ) → k < length list → get_or list k 0 < n
    pub u_in : u < n
    pub v_in : v < n
    pub fits : length out + length (laid (parts ps list u v)) ≤ most_points
    pub next : (out' : List ℕ) → out' ≡ out ++ laid (parts ps list u v) → Sweeping out' q

  module _ {out : List ℕ} {p : ℕ} (s : Sweeping out p) (low : p < length ring) where
    some : 0 < length ring
    some = omega arith

    module _ (f : Facet) (l : List Facet) (e : s.rest ≡ f ∷ l) where
      at_p : drop p ring ≡ laid (f ∷ l)
      at_p = s.here ∙ ap laid e

      seen_in : Each (λ i. i < n) f.seen
      seen_in = each_head (rw e at s.lists)

      marked : most_points ≤ get_or ring p 0
      marked = rw (corner_at_lem ring p f l at_p) (mark_high f.from)

      way_on : Way f.to l c
      way_on = go (rw e at s.way)
        where
          go : {a : ℕ} → Way a (f ∷ l) c → Way f.to l c
          go (along q w) = w

      module _ (q : ℕ) (ends : q ≡ p + 1 + leading (drop (p + 1) ring)) where
        q_is : q ≡ p + 1 + length f.seen
        q_is = ends ∙ ap (λ (m : ℕ). p + 1 + m) (ends_at ring p f l at_p (each_imp (λ i k. lt_of_lt_of_le k few) seen_in))

        next_is : first_of (get_or ring 0 0) (drop q ring) ≡ first_of (mark_of c) (laid l)
        next_is = (λ i. first_of (first-at ring facets some h.is h.sound.way i) (rest_at ring p f l at_p q q_is i))

        module _ (u v : ℕ) (list : List ℕ) (u-is : u ≡ corner_of (get_or ring p 0)) (v-is : v ≡ corner_of (first_of (get_or ring 0 0) (drop q ring))) (list-is : list ≡ take (q - (p + 1)) (drop (p + 1) ring)) where
          from_is : u ≡ f.from
          from_is = u-is ∙ ap corner_of (corner_at_lem ring p f l at_p) ∙ mark_back f.from

          to_is : v ≡ f.to
          to_is = v-is ∙ ap corner_of next_is ∙ next-at l way_on

          seen_is : list ≡ f.seen
          seen_is = list-is ∙ list_at ring p f l at_p q q_is

          listed_in : Each (λ i. i < n) list
          listed_in = rw seen_is seen_in

          parts_are : laid (parts ps list u v) ≡ laid (parts ps f.seen f.from f.to)
          parts_are = λ i. laid (parts ps (seen_is i) (from_is i) (to_is i))

          whole : out ++ (laid (parts ps list u v) ++ laid (sweep_of ps l)) ≡ laid (sweep_of ps facets)
          whole =
              ap (λ (x : List ℕ). out ++ (x ++ laid (sweep_of ps l))) parts_are
              ∙ ap (λ (x : List ℕ). out ++ x) (sym (laid_++ (parts ps f.seen f.from f.to) (sweep_of ps l)) ∙ ap laid (sym (sweep_cons ps f l)) ∙ ap (λ (r : List Facet). laid (sweep_of ps r)) (sym e))
              ∙ s.so_far

          room : length out + length (laid (parts ps list u v)) ≤ most_points
          room =
              omega (
                arith,
                ap length whole,
                length-append out (laid (parts ps list u v) ++ laid (sweep_of ps l)),
                length-append (laid (parts ps list u v)) (laid (sweep_of ps l)),
                h.fits,
              )

          ready_for : Ready out p q u v list
          ready_for = record {
            in_list = λ k j. each_at 0 list k j listed_in;
            u_in = rw from_is (each_head (rw e at s.corners));
            v_in = rw to_is (way_in l way_on (each_tail (rw e at s.corners)) (first_in ring facets some h.is h.sound.way h.sound.corners));
            fits = room;
            next = λ out' t. record {
              rest = l;
              here = rest_at ring p f l at_p q q_is;
              corners = each_tail (rw e at s.corners);
              lists = each_tail (rw e at s.lists);
              at = f.to;
              way = way_on;
              so_far = ap (λ (x : List ℕ). x ++ laid (sweep_of ps l)) t ∙ append_assoc out (laid (parts ps list u v)) (laid (sweep_of ps l)) ∙ whole;
            };
          }

    pub corner_marked : most_points ≤ get_or ring p 0
    corner_marked = let (f, l, e) = some_facet ring p s.rest low s.here in marked f l e

    module _ (q : ℕ) (ends : q ≡ p + 1 + leading (drop (p + 1) ring)) where
      pub next_high : most_points ≤ first_of (get_or ring 0 0) (drop q ring)
      next_high = let (f, l, e) = some_facet ring p s.rest low s.here in rw (next_is f l e q ends) (next_marked c l)

      pub ready :
          (u v : ℕ) (list : List ℕ) → u ≡ corner_of (get_or ring p 0) → v ≡ corner_of (first_of (get_or ring 0 0) (drop q ring)) → list ≡ take (q - (p + 1)) (drop (p + 1) ring)
          → Ready out p q u v list
      ready u v list a b d = let (f, l, e) = some_facet ring p s.rest low s.here in ready_for f l e q ends u v list a b d
