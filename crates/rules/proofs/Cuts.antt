-- What is kept while a ring is cut: the sum of a weight that changes sign with an edge's direction, the indices, the number of corners.
use Prim.Native.Nat.{ℕ, zero, suc, ◌+◌}
use mathlib.Core.Path.{◌≡◌, refl, sym, ◌∙◌, ap, subst}
use mathlib.Core.Logic.{◌≢◌}
use mathlib.Core.Bool.{Bool, true, false, cond}
use mathlib.Core.List.{List, [], ◌∷◌, ◌++◌, map, Memᴰ}
use native.Mathlib.Omega.{arith}
use lib.Dec.{eqb}
use lib.ListN.{length, length-append}
use lib.Ieee.{Float, le}
use Rattle.algebra.specs.Lists.{Each, end, ◌&◌, Distinct}
use Rattle.algebra.proofs.Lists.{each_back, each_head, each_tail, each_swap, each_member, distinct-before, distinct_without}
use Rattle.algebra.proofs.Equal.{impossible, eqb_same, eqb-other}
use Rattle.algebra.specs.Sums.{Sums, total}
use Rattle.algebra.proofs.Sums.{idr}
use Rattle.rules.specs.Plane.{Pt}
use Rattle.algebra.specs.Rings.{Corner, corners, ring_of, around, last_of, first_of}
use Rattle.rules.specs.Ear.{Ear, none, pointed, ear}
use Rattle.rules.specs.Cut.{Choice, nothing, best, better, choose, without, Cut, stuck, done, write, cut_ring}
use Rattle.algebra.proofs.Rings.{Place, places, swapped, around_rotated, remove}

-- the steps of a cut that ends well: k corners are cut from the ring and three are left
pub data Cuts (ps : List Pt) : ℕ → List ℕ → List (Corner ℕ) → Type 0 where
  three : {ring : List ℕ} {c : Corner ℕ} {cs : List (Corner ℕ)} → corners ring ≡ c ∷ cs → Cuts ps zero ring (c ∷ [])
  one_more : {k : ℕ} {ring : List ℕ} {c : Corner ℕ} {f : Float} {ts : List (Corner ℕ)} → choose ps nothing (corners ring) ≡ best c f → Cuts ps k (without c.at ring) ts → Cuts ps (suc k) ring (c ∷ ts)

write_done : (c : Corner ℕ) (r : Cut) (ts : List (Corner ℕ)) → write c r ≡ done ts → (us : List (Corner ℕ)) × (r ≡ done us) × (c ∷ us ≡ ts)
write_done c stuck ts h = impossible (cc)
write_done c (done us) ts h = (us, refl, cc)

pub cuts : (k : ℕ) (ps : List Pt) (ring : List ℕ) (ts : List (Corner ℕ)) → cut_ring k ps ring ≡ done ts → Cuts ps k ring ts
unfolding cut_ring
cuts zero ps ring ts h = go (corners ring) refl
  where
    go : (cs : List (Corner ℕ)) → corners ring ≡ cs → Cuts ps zero ring ts
    go [] e = impossible (cc)
    go (c ∷ cs) e = let q : c ∷ [] ≡ ts = cc in subst (Cuts ps zero ring) q (three e)
cuts (suc k) ps ring ts h = go (λ c. cuts k ps (without c.at ring)) (choose ps nothing (corners ring)) refl
  where
    go : ((c : Corner ℕ) (us : List (Corner ℕ)) → cut_ring k ps (without c.at ring) ≡ done us → Cuts ps k (without c.at ring) us) → (b : Choice (Corner ℕ)) → choose ps nothing (corners ring) ≡ b → Cuts ps (suc k) ring ts
    go rec nothing e = impossible (cc)
    go rec (best c f) e =
        let (us, i, q) = write_done c (cut_ring k ps (without c.at ring)) ts (rw (e, cut_ring) at h) in
        subst (Cuts ps (suc k) ring) q (one_more e (rec c us i))

-- the number of triangles
pub cuts_length : {ps : List Pt} {k : ℕ} {ring : List ℕ} {ts : List (Corner ℕ)} → Cuts ps k ring ts → length ts ≡ k + 1
cuts_length (three e) = refl
cuts_length (one_more {k} e r) = omega (arith, cuts_length r)

-- the ear that is chosen is one of the corners
module _ (ps : List Pt) (Q : Corner ℕ → Type 0) where
  data Chosen : Choice (Corner ℕ) → Type 0 where
    none_yet : Chosen nothing
    chosen : {c : Corner ℕ} {f : Float} → Q c → ear ps c ≡ pointed f → Chosen (best c f)

  better_chosen : (b : Choice (Corner ℕ)) (c : Corner ℕ) (e : Ear) → Chosen b → Q c → ear ps c ≡ e → Chosen (better b c e)
  unfolding better
  better_chosen b c none h q i = h
  better_chosen nothing c (pointed f) h q i = chosen q i
  better_chosen (best d g) c (pointed f) h q i = go (le g f)
    where
      go : (t : Bool) → Chosen (cond t (best c f) (best d g))
      go true = chosen q i
      go false = h

  choose_chosen : (b : Choice (Corner ℕ)) (cs : List (Corner ℕ)) → Chosen b → Each Q cs → Chosen (choose ps b cs)
  unfolding choose
  choose_chosen b [] h end = h
  choose_chosen b (c ∷ cs) h (q & qs) = choose_chosen (better b c (ear ps c)) cs (better_chosen b c (ear ps c) h q refl) qs

  pub chosen_in : {cs : List (Corner ℕ)} {c : Corner ℕ} {f : Float} → Each Q cs → choose ps nothing cs ≡ best c f → Q c × (ear ps c ≡ pointed f)
  chosen_in {cs} {c} {f} qs e = take (subst Chosen e (choose_chosen nothing cs none_yet qs))
    where
      take : Chosen (best c f) → Q c × (ear ps c ≡ pointed f)
      take (chosen q i) = (q, i)

-- ---- what is left of the ring

without-place : (xs : List ℕ) (p : ℕ) (ys : List ℕ) → Each (λ x. x ≢ p) xs → without p (xs ++ p ∷ ys) ≡ xs ++ ys
unfolding without
without-place [] p ys h = rw (eqb_same p)
without-place (x ∷ xs) p ys (n & h) = rw (eqb-other x p n) (ap (λ (l : List ℕ). x ∷ l) (without-place xs p ys h))

pub each-without : {P : ℕ → Type 0} (i : ℕ) (l : List ℕ) → Each P l → Each P (without i l)
unfolding without
each-without i [] h = end
each-without {P} i (j ∷ l) (p & h) = go (eqb j i) (each-without i l h)
  where
    go : (t : Bool) → Each P (without i l) → Each P (cond t l (j ∷ without i l))
    go true k = h
    go false k = p & k

module _ {ring : List ℕ} (d : Distinct ring) {c : Corner ℕ} (at : Place ring c) where
  d' : Distinct (at.front ++ c.at ∷ at.back)
  d' = rw at.whole at d

  pub rest_is : without c.at ring ≡ at.front ++ at.back
  rest_is = rw at.whole (without-place at.front c.at at.back (distinct-before at.front c.at at.back d'))

  pub rest-distinct : Distinct (without c.at ring)
  rest-distinct = rw rest_is (distinct_without at.front c.at at.back d')

  pub rest-length : length ring ≡ suc (length (without c.at ring))
  rest-length = rw (rest_is, at.whole, length-append at.front (c.at ∷ at.back), length-append at.front at.back) (omega arith)

  -- the triangle and the rest have the ring's sum
  rest_sum : {G : Type 0} (S : Sums G) (w : ℕ → ℕ → G) → ((a b : ℕ) → S.◌⊕◌ (w a b) (w b a) ≡ S.nil) → around S w ring ≡ S.◌⊕◌ (around S w (ring_of c)) (around S w (without c.at ring))
  rest_sum S w back = rw (rest_is, at.before, at.after) (ap (around S w) at.whole ∙ remove S w back at.front c.at at.back)

-- ---- the steps keep the sum, and the indices

three-sum : {G : Type 0} (S : Sums G) (w : ℕ → ℕ → G) (ring : List ℕ) (c : Corner ℕ) (cs : List (Corner ℕ)) → length ring ≡ 3 → corners ring ≡ c ∷ cs → around S w ring ≡ around S w (ring_of c)
three-sum S w [] c cs n e = absurd (omega arith)
three-sum S w (x ∷ []) c cs n e = absurd (omega arith)
three-sum S w (x ∷ y ∷ []) c cs n e = absurd (omega arith)
three-sum S w (x ∷ y ∷ z ∷ []) c cs n e =
    let q : record { before = z; at = x; after = y } ≡ c = cc in
    subst (λ (c : Corner ℕ). around S w (x ∷ y ∷ z ∷ []) ≡ around S w (ring_of c)) q (around_rotated S w (swapped (x ∷ y ∷ []) (z ∷ [])))
three-sum S w (x ∷ y ∷ z ∷ u ∷ l) c cs n e = absurd (omega arith)

module _ {G : Type 0} (S : Sums G) (w : ℕ → ℕ → G) (back : (a b : ℕ) → S.◌⊕◌ (w a b) (w b a) ≡ S.nil) where
  cuts_sum : {ps : List Pt} {k : ℕ} {ring : List ℕ} {ts : List (Corner ℕ)} → Cuts ps k ring ts → length ring ≡ k + 3 → Distinct ring → around S w ring ≡ total S (around S w) (map ring_of ts)
  cuts_sum (three {ring} {c} {cs} e) n d = three-sum S w ring c cs n e ∙ sym (idr S (around S w (ring_of c)))
  cuts_sum {ps} (one_more {k} {ring} {c} e r) n d =
      let at = (chosen_in ps (Place ring) (places ring) e).0 in
      let l : length (without c.at ring) ≡ k + 3 = omega (arith, rest-length d at) in
      rest_sum d at S w back ∙ ap (λ (x : G). S.◌⊕◌ (around S w (ring_of c)) x) (cuts_sum r l (rest-distinct d at))

module _ {P : ℕ → Type 0} where
  last-each : (a : ℕ) {l : List ℕ} → P a → Each P l → P (last_of a l)
  last-each a p end = p
  last-each a p (q & h) = last-each _ q h

  first-each : (a : ℕ) {l : List ℕ} → P a → Each P l → P (first_of a l)
  first-each a p end = p
  first-each a p (q & h) = q

  place-each : {ring : List ℕ} {c : Corner ℕ} → Place ring c → Each P ring → Each P (ring_of c)
  place-each {c} at h = go (rw at.whole at h)
    where
      go : Each P (at.front ++ c.at ∷ at.back) → Each P (ring_of c)
      go k =
          let p = each_head (each_back at.front (c.at ∷ at.back) k) in
          let rest = each_tail (each_swap at.front (c.at ∷ at.back) k) in
          subst P (sym at.before) (last-each c.at p rest) & p & subst P (sym at.after) (first-each c.at p rest) & end

  pub cuts_each : {ps : List Pt} {k : ℕ} {ring : List ℕ} {ts : List (Corner ℕ)} → Cuts ps k ring ts → Each P ring → Each (λ t. Each P (ring_of t)) ts
  cuts_each (three {ring} {c} e) h = place-each (each_head (subst (Each (Place ring)) e (places ring))) h & end
  cuts_each {ps} (one_more {ring} {c} e r) h = place-each (chosen_in ps (Place ring) (places ring) e).0 h & cuts_each r (each-without c.at ring h)

-- ---- the theorems

pub record Triangulation (k : ℕ) (ring : List ℕ) (ts : List (Corner ℕ)) : Type 1 where
  pub count : length ts ≡ k + 1
  pub from : Each (λ t. Each (λ i. Memᴰ i ring) (ring_of t)) ts
  pub sum : {G : Type 0} (S : Sums G) (w : ℕ → ℕ → G) → ((a b : ℕ) → S.◌⊕◌ (w a b) (w b a) ≡ S.nil) → around S w ring ≡ total S (around S w) (map ring_of ts)

-- a ring of k + 3 corners, none twice, is cut into k + 1 triangles of its corners, which have its sum
pub triangulation : (k : ℕ) (ps : List Pt) (ring : List ℕ) (ts : List (Corner ℕ)) → length ring ≡ k + 3 → Distinct ring → cut_ring k ps ring ≡ done ts → Triangulation k ring ts
triangulation k ps ring ts n d e =
    let r = cuts k ps ring ts e in
    record { count = cuts_length r; from = cuts_each r (each_member ring); sum = λ S w back. cuts_sum S w back r n d }
