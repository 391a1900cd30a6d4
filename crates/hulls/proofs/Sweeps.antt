-- The crate's loop looks at the facets in the order in which they were made: a round of the ring at a time.
use Prim.Native.Nat.{ℕ, zero, suc, ◌+◌, ◌≤◌, ◌<◌}
use mathlib.Core.Path.{◌≡◌, refl, sym, ◌∙◌, ap, subst}
use mathlib.Core.Bool.{Bool, cond}
use mathlib.Core.List.{List, [], ◌∷◌, ◌++◌, map, map-append, append_assoc}
use native.Mathlib.Omega.{arith}
use lib.Dec.{eqb}
use lib.ListN.{length}
use Rattle.algebra.proofs.Lists.{each_head, each_back}
use Rattle.algebra.proofs.Equal.{eqb_same, eqb-other}
use Rattle.rules.specs.Plane.{Pt}
use Rattle.rules.specs.Hull.{Walk, at, look, loop}
use Rattle.hulls.proofs.Numbers.{Num, num_of, Stays, Run, over, old, due, end_from, end_from_as, far_of, parts, round_from, round_from_as}
use Rattle.hulls.proofs.Links.{Shown}
use Rattle.hulls.proofs.Looks.{State, Split, split-any, look-unseen}

-- ---- the loop

module _ (ps : List Pt) where
  -- looks at the facets from number i to number j lead from one walk to another
  pub data Goes : ℕ → Walk → ℕ → Walk → Type 0 where
    there : {i : ℕ} {k : Walk} → Goes i k i k
    onward : {i j : ℕ} {k k' : Walk} → i < length k.segments → Goes (suc i) (look ps k i) j k' → Goes i k j k'

  pub goes_++ : {i j n : ℕ} {k k' k'' : Walk} → Goes i k j k' → Goes j k' n k'' → Goes i k n k''
  goes_++ there h = h
  goes_++ (onward l g) h = onward l (goes_++ g h)

  goes_le : {i j : ℕ} {k k' : Walk} → Goes i k j k' → i ≤ j
  goes_le there = omega arith
  goes_le (onward l g) = omega (arith, goes_le g)

  loop-there : (t i : ℕ) (k : Walk) → i ≡ length k.segments → loop t ps i k ≡ k
  unfolding loop
  loop-there zero i k e = refl
  loop-there (suc t) i k e = ap (λ (b : Bool). cond b k (loop t ps (suc i) (look ps k i))) (ap (eqb i) (sym e) ∙ eqb_same i)

  pub goes_loop : {i j : ℕ} {k k' : Walk} (t : ℕ) → Goes i k j k' → j ≡ length k'.segments → j ≤ i + t → loop t ps i k ≡ k'
  unfolding loop
  goes_loop {i} {k} t there e h = loop-there t i k e
  goes_loop zero (onward l g) e h = absurd (omega (arith, goes_le g))
  goes_loop {i} {k} (suc t) (onward l g) e h =
      ap (λ (b : Bool). cond b k (loop t ps (suc i) (look ps k i))) (eqb-other i (length k.segments) (λ q. omega arith)) ∙ goes_loop t g e (omega arith)

-- ---- one round

module _ (ps : List Pt) (c : ℕ → ℕ) (m : ℕ) where
  abbrev St : Walk → List Num → Type 0
  St = State ps c m

  -- the walk after the facets r, from number i to number hi, have been looked at; l stands in front of them
  pub record Swept (k : Walk) (i : ℕ) (l r : List Num) (hi : ℕ) : Type 0 where
    pub walk : Walk
    pub goes : Goes ps i k hi walk
    pub state : State ps c m walk (l ++ round_from ps (length k.segments) r)
    pub long : length walk.segments ≡ end_from (length k.segments) r

  shown-at : (k : Walk) (l : List Num) (x : Num) (r : List Num) → St k (l ++ x ∷ r) → Shown (at k.segments x.num) x.facet
  shown-at k l x r s = each_head (each_back l (x ∷ r) s.shows.shown)

  in_list : (k : Walk) (l : List Num) (x : Num) (r : List Num) → St k (l ++ x ∷ r) → x.num < length k.segments
  in_list k l x r s = each_head (each_back (map num_of l) (map num_of (x ∷ r)) (rw (map-append num_of l (x ∷ r)) at s.shows.below))

  -- x is passed over, and the rest of the ring follows
  past : (k : Walk) (i hi : ℕ) (l : List Num) (x : Num) (r : List Num) → Stays x → Swept k i (l ++ x ∷ []) r hi → Swept k i l (x ∷ r) hi
  past k i hi l x r e w =
      let id = length k.segments in
      record {
        walk = w.walk;
        goes = w.goes;
        state = subst (St w.walk) (append_assoc l (x ∷ []) (round_from ps id r) ∙ ap (λ (q : List Num). l ++ q) (sym (round_from_as ps id x r e))) w.state;
        long = w.long ∙ sym (end_from_as id x r e);
      }

  -- x is looked at, and the rest of the ring follows
  sweep_due :
      {i hi : ℕ} (k : Walk) (l : List Num) (x : Num) (r : List Num) → x.num ≡ i → St k (l ++ x ∷ r)
      → ((l' : List Num) (k' : Walk) → St k' (l' ++ r) → Swept k' (suc i) l' r hi) → (seen : List ℕ) → x.facet.seen ≡ seen → Swept k i l (x ∷ r) hi
  sweep_due {i} {hi} k l x r q s rec [] e =
      let w = rec (l ++ x ∷ []) k (subst (St k) (sym (append_assoc l (x ∷ []) r)) s) in
      let same : look ps k i ≡ k = ap (look ps k) (sym q) ∙ look-unseen ps k x (shown-at k l x r s) e in
      let in-it : i < length k.segments = subst (λ (n : ℕ). n < length k.segments) q (in_list k l x r s) in
      past k i hi l x r e
      (record { walk = w.walk; goes = onward in-it (subst (λ (k' : Walk). Goes ps (suc i) k' hi w.walk) (sym same) w.goes); state = w.state; long = w.long })
  sweep_due {i} {hi} k l x r q s rec (j ∷ seen) e =
      let id = length k.segments in
      let k' = look ps k i in
      let two = parts ps id x.facet (far_of ps x.facet j seen) in
      let p : Split ps c m k (l ++ (two ++ r)) k' = subst (λ (n : ℕ). Split ps c m k (l ++ (two ++ r)) (look ps k n)) q (split-any ps c m k l x r s j seen e) in
      let w = rec (l ++ two) k' (subst (St k') (sym (append_assoc l two r)) p.state) in
      let in-it : i < length k.segments = subst (λ (n : ℕ). n < length k.segments) q (in_list k l x r s) in
      let same = ap (λ (n : ℕ). l ++ (two ++ round_from ps n r)) p.longer ∙ ap (λ (g : List Num). l ++ g) (sym (round_from_as ps id x r e)) in
      record {
        walk = w.walk;
        goes = onward in-it w.goes;
        state = subst (St w.walk) (append_assoc l two (round_from ps (length k'.segments) r) ∙ same) w.state;
        long = w.long ∙ ap (λ (n : ℕ). end_from n r) p.longer ∙ sym (end_from_as id x r e);
      }

  pub sweep : {b i hi : ℕ} (l r : List Num) (k : Walk) → Run b i r hi → St k (l ++ r) → Swept k i l r hi
  sweep l [] k over s = record { walk = k; goes = there; state = s; long = refl }
  sweep {i} {hi} l (x ∷ r) k (old p e t) s = past k i hi l x r e (sweep (l ++ x ∷ []) r k t (subst (St k) (sym (append_assoc l (x ∷ []) r)) s))
  sweep l (x ∷ r) k (due q t) s = sweep_due k l x r q s (λ l' k' s'. sweep l' r k' t s') x.facet.seen refl
