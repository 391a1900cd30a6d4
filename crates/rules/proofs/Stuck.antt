-- Refusal 7 exactly: a cut is stuck where some ring of four or more, met on the way, has no ear, and nowhere else.
use Prim.Native.Nat.{ℕ, zero, suc, ◌+◌, ◌-◌, ◌≤◌}
use mathlib.Core.Path.{◌≡◌, refl, sym, ◌∙◌, ap}
use mathlib.Core.List.{List, [], ◌∷◌}
use native.Mathlib.Omega.{arith}
use lib.ListN.{length}
use mathlib.Core.Bool.{Bool, true, false, cond}
use lib.Ieee as Ieee
use lib.Ieee.{Float}
use Rattle.algebra.specs.Lists.{Each, end, ◌&◌, Distinct, count_from}
use Rattle.algebra.specs.Rings.{Corner, corners}
use Rattle.algebra.proofs.Equal.{impossible}
use Rattle.algebra.proofs.Counting.{count-distinct, count-length}
use Rattle.algebra.proofs.Rings.{Place, places}
use Rattle.rules.specs.Plane.{Pt}
use Rattle.rules.specs.Ear.{Ear, none, pointed, ear}
use Rattle.rules.specs.Cut.{Choice, nothing, best, better, choose, without, Cut, stuck, done, write, lowest, cut_ring, cut}
use Rattle.rules.proofs.Cuts.{chosen_in, rest-length, rest-distinct}
use Rattle.rules.proofs.Neighbours.{Met, at_first, one_less, met_distinct}

-- a ring of four or more that is met on the way from `ring`, and has no ear
pub record NoEarLeft (ps : List Pt) (ring : List ℕ) : Type 0 where
  pub met : List ℕ
  pub is_met : Met ps ring met
  pub four : 4 ≤ length met
  pub no_ear : Each (λ c. ear ps c ≡ none) (corners met)

-- ---- no ear is chosen where no corner is one

module _ (ps : List Pt) where
  none_chosen : {cs : List (Corner ℕ)} → Each (λ c. ear ps c ≡ none) cs → choose ps nothing cs ≡ nothing
  unfolding choose better
  none_chosen end = refl
  none_chosen (e & h) = rw e (none_chosen h)

  better-stays : (c d : Corner ℕ) (f : Float) (e : Ear) → (d' : Corner ℕ) × (g : Float) × (better (best c f) d e ≡ best d' g)
  unfolding better
  better-stays c d f none = (c, f, refl)
  better-stays c d f (pointed g) = go (Ieee.le f g)
    where
      go : (t : Bool) → (d' : Corner ℕ) × (h : Float) × (cond t (best d g) (best c f) ≡ best d' h)
      go true = (d, g, refl)
      go false = (c, f, refl)

  some_chosen : (c : Corner ℕ) (f : Float) (cs : List (Corner ℕ)) → choose ps (best c f) cs ≡ nothing → ⊥
  unfolding choose
  some_chosen c f [] e = impossible (cc)
  some_chosen c f (d ∷ cs) e =
      let (d', g, q) = better-stays c d f (ear ps d) in
      some_chosen d' g cs (ap (λ (b : Choice (Corner ℕ)). choose ps b cs) (sym q) ∙ e)

  no-ears : (cs : List (Corner ℕ)) → choose ps nothing cs ≡ nothing → Each (λ c. ear ps c ≡ none) cs
  unfolding choose better
  no-ears [] e = end
  no-ears (c ∷ cs) e = go (ear ps c) refl (no-ears cs)
    where
      go : (r : Ear) → ear ps c ≡ r → (choose ps nothing cs ≡ nothing → Each (λ c. ear ps c ≡ none) cs) → Each (λ c. ear ps c ≡ none) (c ∷ cs)
      go none i rec = i & rec (rw (i, choose) at e)
      go (pointed f) i rec = absurd (some_chosen c f cs (rw (i, choose) at e))

-- ---- from a stuck cut to the ring

module _ (ps : List Pt) where
  met_after : {ring : List ℕ} {c : Corner ℕ} {r : List ℕ} {f : Float} → choose ps nothing (corners ring) ≡ best c f → Met ps (without c.at ring) r → Met ps ring r
  met_after e at_first = one_less at_first e
  met_after e (one_less m i) = one_less (met_after e m) i

  three-left : (ring : List ℕ) → length ring ≡ 3 → lowest (corners ring) ≡ stuck → ⊥
  three-left [] n e = omega arith
  three-left (x ∷ []) n e = omega arith
  three-left (x ∷ y ∷ []) n e = omega arith
  three-left (x ∷ y ∷ z ∷ l) n e = impossible (cc)

  write-stuck : (c : Corner ℕ) (r : Cut) → write c r ≡ stuck → r ≡ stuck
  write-stuck c stuck e = refl
  write-stuck c (done ts) e = impossible (cc)

  stuck_at : (k : ℕ) (ring : List ℕ) → length ring ≡ k + 3 → Distinct ring → cut_ring k ps ring ≡ stuck → NoEarLeft ps ring
  unfolding cut_ring
  stuck_at zero ring n d e = absurd (three-left ring n e)
  stuck_at (suc k) ring n d e = go (stuck_at k) (choose ps nothing (corners ring)) refl
    where
      go :
          ((r : List ℕ) → length r ≡ k + 3 → Distinct r → cut_ring k ps r ≡ stuck → NoEarLeft ps r)
          → (b : Choice (Corner ℕ)) → choose ps nothing (corners ring) ≡ b → NoEarLeft ps ring
      go rec nothing i = record { met = ring; is_met = at_first; four = omega arith; no_ear = no-ears ps (corners ring) i }
      go rec (best c f) i =
          let at = (chosen_in ps (Place ring) (places ring) i).0 in
          let l : length (without c.at ring) ≡ k + 3 = omega (arith, rest-length d at) in
          let r = rec (without c.at ring) l (rest-distinct d at) (write-stuck c (cut_ring k ps (without c.at ring)) (rw (i, cut_ring) at e)) in
          record { met = r.met; is_met = met_after i r.is_met; four = r.four; no_ear = r.no_ear }

  -- ---- and back

  cut-without : (j : ℕ) (r : List ℕ) (c : Corner ℕ) (f : Float) → choose ps nothing (corners r) ≡ best c f → cut_ring j ps (without c.at r) ≡ stuck → cut_ring (suc j) ps r ≡ stuck
  unfolding cut_ring
  cut-without j r c f e i = rw (e, cut_ring) (ap (write c) i)

  met_stuck : {ring r : List ℕ} → Distinct ring → Met ps ring r → (j k : ℕ) → length r ≡ j + 3 → length ring ≡ k + 3 → cut_ring j ps r ≡ stuck → cut_ring k ps ring ≡ stuck
  met_stuck d at_first j k m n e = let q : j ≡ k = omega arith in rw q at e
  met_stuck d (one_less {r} {c} {f} met i) j k m n e =
      let at = (chosen_in ps (Place r) (places r) i).0 in
      met_stuck d met (suc j) k (omega (arith, rest-length (met_distinct ps d met) at)) n (cut-without j r c f i e)

  none_stuck : (j : ℕ) (r : List ℕ) → Each (λ c. ear ps c ≡ none) (corners r) → cut_ring (suc j) ps r ≡ stuck
  unfolding cut_ring
  none_stuck j r h = rw (none_chosen ps h, cut_ring)

  at-stuck : (k : ℕ) (ring : List ℕ) → length ring ≡ k + 3 → Distinct ring → NoEarLeft ps ring → cut_ring k ps ring ≡ stuck
  at-stuck k ring n d h =
      let j = length h.met - 4 in
      met_stuck d h.is_met (suc j) k (omega (arith, h.four)) n (none_stuck j h.met h.no_ear)

-- ---- the theorem, for an outline of three or more

module _ (ps : List Pt) (three : 3 ≤ length ps) where
  whole : length (count_from 0 (length ps)) ≡ (length ps - 3) + 3
  whole = rw (count-length 0 (length ps)) (omega arith)

  pub stuck→no_ear : cut ps ≡ stuck → NoEarLeft ps (count_from 0 (length ps))
  unfolding cut
  stuck→no_ear = stuck_at ps (length ps - 3) (count_from 0 (length ps)) whole (count-distinct 0 (length ps))

  pub no_ear→stuck : NoEarLeft ps (count_from 0 (length ps)) → cut ps ≡ stuck
  unfolding cut
  no_ear→stuck = at-stuck ps (length ps - 3) (count_from 0 (length ps)) whole (count-distinct 0 (length ps))
