-- The array of the tree: one node set, and the two loops over nodes.
use Prim.Native.Nat.{ℕ, ◌+◌, ◌*◌, ◌-◌, ◌/◌, ◌≤◌, ◌<◌}
use native.Mathlib.Omega.{arith}
use mathlib.Core.Path.{◌≡◌, refl, sym, ap, ◌∙◌, subst}
use mathlib.Core.Logic.{◌≢◌, ◌⊎◌, inl, inr}
use mathlib.Core.Bool.{Bool, true, false, cond}
use lib.Dec.{T, eqb}
use lib.ListN.{length, length-set, get_or, replicate, length-replicate, get_or-replicate}
use lib.Seq.{get_or-set_same, get_or-set_other}
use mathlib.Core.List.{List}
use lib.Ieee.{Float, nan, binary32, lt, eq, le, is_nan, fits, of_bits, to_bits}
use lib.Ieee.Bits.{of_bits-to_bits}
use Rattle.std.specs.Prelude.{Option, None}
use Rattle.algebra.proofs.Equal.{eqb-true, or-false}
use Rattle.winners.specs.Tree.{Right, StandsBut, Differs}
use Rattle.rules.specs.Ear as rules
use Rattle.rules.specs.Cut.{Choice, nothing, better}
use Rattle.rules.proofs.FloatOrder.{le_total}
use Rattle.winners.specs.Winners.{later}
use Rattle.winners.specs.Keys.{to_ear, from_ear, lowest, key_of, ear_in, Proper, no, pointed, Fair, none, some, ear_entry, decode, node, with_node, winner_in, BetterOf, Nobody, Numbers, Leaves, Tree, LeafSame, LeafSet, root_of}
use Rattle.winners.specs.declared.Entry.{Entry}
use Rattle.winners.specs.declared.Winners.{Winners}
use Rattle.winners.proofs.Repairs.{eqb_apart, unchanged, set-right, leaf-set, parent_set, parent_same, root-set}

-- ---- the better of two entries

pub lowest-number : is_nan lowest ≡ false
unfolding is_nan
lowest-number = refl

pub to-from : (e : rules.Ear) → to_ear (from_ear e) ≡ e
to-from rules.none = refl
to-from (rules.pointed v) = refl

-- what a part and one more corner give together
later_one : (b : Choice ℕ) (i : ℕ) (e : rules.Ear) → later b (better nothing i e) ≡ better b i e
unfolding later better
later_one b i rules.none = refl
later_one b i (rules.pointed f) = refl

pub not-lowest : (v : Float) → le v lowest ≡ false → eq v lowest ≡ false
unfolding le
not-lowest v h = (or-false (lt v lowest) (eq v lowest) h).1

pub ear_none : ear_in lowest ≡ rules.none
unfolding ear_in eq
ear_none = refl

pub ear_some : (v : Float) → le v lowest ≡ false → ear_in v ≡ rules.pointed v
unfolding ear_in
ear_some v h = rw (not-lowest v h)

-- what stands for an ear is its key
pub fair_ear : {key : Float} → Fair key → Proper (from_ear (ear_in key))
fair_ear none = rw ear_none no
fair_ear (some {v = v} n h) = rw (ear_some v h) (pointed n h)

-- a tree in which each node holds the same key, that of no ear, holds nobody's
pub nobody : (e : Entry) (w : Winners) → e.key ≡ lowest → w.nodes ≡ replicate 1024 e → Nobody w
nobody e w h is = record {
  long = ap length is ∙ length-replicate 1024 e;
  each = λ k l. ap (λ (x : List Entry). (get_or x k (record { key = nan; corner = 0 })).key) is ∙ ap (λ (x : Entry). x.key) (get_or-replicate 1024 k e _ l) ∙ h;
}

-- and has no ear to be cut
pub nobody_chosen : (w : Winners) → Nobody w → root_of w ≡ None
unfolding root_of ear_in eq
nobody_chosen w h = rw (h.each 1 (omega arith)) refl

neither : (t : Bool) → ◌≡◌ {A = Choice ℕ} nothing (cond t nothing nothing)
neither true = refl
neither false = refl

-- the better of two by their keys
by_keys : (i j : ℕ) {a b : Float} → Fair a → Fair b
    → better (better nothing i (ear_in a)) j (ear_in b) ≡ cond (le a b) (better nothing j (ear_in b)) (better nothing i (ear_in a))
unfolding better
by_keys i j none none = rw ear_none (neither (le lowest lowest))
by_keys i j none (some {v = w} n h) = rw (ear_none, ear_some w h, le_total w lowest n lowest-number h)
by_keys i j (some {v = v} n h) none = rw (ear_none, ear_some v h, h)
by_keys i j (some {v = v} n h) (some {v = w} m k) = rw (ear_some v h, ear_some w k)

pub better_entry : (a b : Entry) (t : Bool) → Fair a.key → Fair b.key → le a.key b.key ≡ t → BetterOf a b (cond t b a)
unfolding decode
better_entry a b t p q e = record {
  wins = taken t ∙ sym (by_keys a.corner b.corner p q ∙ rw e) ∙ sym (later_one (decode a) b.corner (ear_in b.key));
  one = which t;
}
  where
    taken : (t : Bool) → decode (cond t b a) ≡ cond t (decode b) (decode a)
    taken true = refl
    taken false = refl

    which : (t : Bool) → (cond t b a ≡ a) ⊎ (cond t b a ≡ b)
    which true = inr refl
    which false = inl refl

fair_better : (a b r : Entry) → BetterOf a b r → Fair a.key → Fair b.key → Fair r.key
fair_better a b r w p q = go w.one
  where
    go : (r ≡ a) ⊎ (r ≡ b) → Fair r.key
    go (inl e) = subst (λ (x : Entry). Fair x.key) (sym e) p
    go (inr e) = subst (λ (x : Entry). Fair x.key) (sym e) q

pub fair_number : {key : Float} → Fair key → is_nan key ≡ false
fair_number none = lowest-number
fair_number (some n h) = n

pub proper_fair : {e : Option Float} → Proper e → Fair (key_of e)
proper_fair no = none
proper_fair (pointed n h) = some n h

-- ---- one entry set

module _ (w : Winners) (k : ℕ) (e : Entry) where
  abbrev w' : Winners
  w' = with_node w k e

  pub set_same : k < length w.nodes → node w' k ≡ e
  set_same h = get_or-set_same w.nodes k e _ h

  pub set_other : (j : ℕ) → j ≢ k → node w' j ≡ node w j
  set_other j n = get_or-set_other w.nodes k j e _ n

  differs : Differs (winner_in w) (winner_in w') k
  differs = record { other = λ j n. ap decode (set_other j n) }

  -- f was the first number, and now g is
  numbers-set : (f g : ℕ) → k < w.leaves + w.leaves → Fair e.key → ((j : ℕ) → g ≤ j → j ≢ k → f ≤ j) → Numbers w f → Numbers w' g
  numbers-set f g h n reach s =
      record {
        long = length-set w.nodes k e ∙ s.long;
        least = s.least;
        small = s.small;
        numbers = λ j p q. go j p q (eqb j k) refl;
      }
    where
      go : (j : ℕ) → g ≤ j → j < w.leaves + w.leaves → (b : Bool) → eqb j k ≡ b → Fair (node w' j).key
      go j p q true z = rw (eqb-true j k z, set_same (omega (arith, s.long, s.small))) n
      go j p q false z = rw (set_other j (eqb_apart j k z)) (s.numbers j (reach j p (eqb_apart j k z)) q)

  same_set : (w₀ : Winners) → k < w₀.leaves → LeafSame w₀ w → LeafSame w₀ w'
  same_set w₀ h s = record { leaves = s.leaves; same = λ j p. set_other j (away j p) ∙ s.same j p }
    where
      away : (j : ℕ) → w₀.leaves ≤ j → j ≢ k
      away j p x = omega arith

-- node k becomes what its children give
put_right : (w : Winners) (f k : ℕ) (e : Entry) → f ≤ k * 2 → k < w.leaves → Numbers w f → BetterOf (node w (k * 2)) (node w (k * 2 + 1)) e
    → Fair e.key × (decode e ≡ later (winner_in w (k * 2)) (winner_in w (k * 2 + 1)))
put_right w f k e h p s g =
    let a = s.numbers (k * 2) h (omega arith) in
    let b = s.numbers (k * 2 + 1) (omega arith) (omega arith) in
    (fair_better (node w (k * 2)) (node w (k * 2 + 1)) e g a b, g.wins)

pub number-children : (w : Winners) (k : ℕ) (e : Entry) → 1 ≤ k → k < w.leaves → Numbers w 1 → BetterOf (node w (k * 2)) (node w (k * 2 + 1)) e
    → (is_nan e.key ≡ false) × (is_nan (node w k).key ≡ false)
number-children w k e h p s g = (fair_number (put_right w 1 k e (omega arith) p s g).0, fair_number (s.numbers k h (omega arith)))

-- an entry that is set is what stands there
pub own_entry : (w : Winners) (f k : ℕ) (e : Entry) → Numbers w f → k < w.leaves + w.leaves → e ≡ node (with_node w k e) k
own_entry w f k e s h = sym (set_same w k e (omega (arith, s.long, s.small)))

-- ---- up from a leaf

pub record Climb (w₀ w : Winners) (k : ℕ) : Type 0 where
  pub numbers : Numbers w 1
  pub stands : StandsBut later (winner_in w) w.leaves k
  pub same : LeafSame w₀ w
  pub above : 1 ≤ k
  pub inside : k < w.leaves + w.leaves

pub climb_start : (w : Winners) (i : ℕ) (e : Entry) → Tree w → i < w.leaves → Fair e.key → Climb (with_node w (w.leaves + i) e) (with_node w (w.leaves + i) e) (w.leaves + i)
climb_start w i e t h n =
    record {
      numbers = numbers-set w (w.leaves + i) e 1 1 (omega arith) n (λ j p q. p) t.numbers;
      stands = leaf-set later w.leaves (winner_in w) (winner_in (with_node w (w.leaves + i) e)) (w.leaves + i) (omega arith) t.stands (differs w (w.leaves + i) e);
      same = record { leaves = refl; same = λ j p. refl };
      above = omega (arith, t.numbers.least);
      inside = omega arith;
    }

pub climb_step : (w₀ w : Winners) (k : ℕ) (e : Entry) → 1 < k → Climb w₀ w k → BetterOf (node w (k / 2 * 2)) (node w (k / 2 * 2 + 1)) e → Climb w₀ (with_node w (k / 2) e) (k / 2)
climb_step w₀ w k e h c g =
    let l : k / 2 < w.leaves = omega (arith, c.inside) in
    let u : 1 ≤ k / 2 = omega arith in
    let r = put_right w 1 (k / 2) e (omega arith) l c.numbers g in
    record {
      numbers = numbers-set w (k / 2) e 1 1 (omega arith) r.0 (λ j p q. p) c.numbers;
      stands = parent_set later w.leaves (winner_in w) (winner_in (with_node w (k / 2) e)) k h c.stands (differs w (k / 2) e)
          (ap decode (set_same w (k / 2) e (omega (arith, c.numbers.long, c.numbers.small))) ∙ r.1);
      same = same_set w (k / 2) e w₀ (omega (arith, c.same.leaves)) c.same;
      above = u;
      inside = omega arith;
    }

pub climb_end : (w₀ w : Winners) (k : ℕ) → k ≤ 1 → Climb w₀ w k → Tree w
climb_end w₀ w k h c =
    let e : k ≡ 1 = omega (arith, c.above) in
    record { numbers = c.numbers; stands = root-set later w.leaves (winner_in w) (rw e at c.stands) }

-- the parent of k holds already what its children give
pub climb_same : (w₀ w : Winners) (k : ℕ) (e : Entry) → 1 < k → Climb w₀ w k → BetterOf (node w (k / 2 * 2)) (node w (k / 2 * 2 + 1)) e → e ≡ node w (k / 2) → Tree w
climb_same w₀ w k e h c g s =
    let l : k / 2 < w.leaves = omega (arith, c.inside) in
    let r = put_right w 1 (k / 2) e (omega arith) l c.numbers g in
    record { numbers = c.numbers; stands = parent_same later w.leaves (winner_in w) k c.stands (sym (ap decode s) ∙ r.1) }

pub climbed : (w : Winners) (i : ℕ) (e : Option Float) → Tree w → i < w.leaves → (w' : Winners) → LeafSame (with_node w (w.leaves + i) (ear_entry i e)) w' → LeafSet w i e w'
climbed w i e t h w' s =
    record {
      leaves = s.leaves;
      there = s.same (w.leaves + i) (omega arith) ∙ set_same w (w.leaves + i) (ear_entry i e) (omega (arith, t.numbers.long, t.numbers.small));
      others = λ k p n. s.same k p ∙ set_other w (w.leaves + i) (ear_entry i e) k n;
    }

-- ---- down to the root

pub record Built (w₀ w : Winners) (k : ℕ) : Type 0 where
  pub numbers : Numbers w k
  pub right : (j : ℕ) → k ≤ j → j < w.leaves → Right later (winner_in w) j
  pub same : LeafSame w₀ w
  pub above : 1 ≤ k
  pub most : k ≤ w.leaves

pub build_start : (w : Winners) → Leaves w → Built w w w.leaves
build_start w s = record { numbers = s; right = λ j p q. absurd (omega arith); same = record { leaves = refl; same = λ j p. refl }; above = s.least; most = omega arith }

pub build_step : (w₀ w : Winners) (k : ℕ) (e : Entry) → 1 < k → Built w₀ w k → BetterOf (node w ((k - 1) * 2)) (node w ((k - 1) * 2 + 1)) e → Built w₀ (with_node w (k - 1) e) (k - 1)
build_step w₀ w k e h b g =
    let l : k - 1 < w.leaves = omega (arith, b.most) in
    let r = put_right w k (k - 1) e (omega arith) l b.numbers g in
    record {
      numbers = numbers-set w (k - 1) e k (k - 1) (omega arith) r.0 (λ j p q. reach j p q) b.numbers;
      right = λ j p q. at j p q (eqb j (k - 1)) refl l r;
      same = same_set w (k - 1) e w₀ (omega (arith, b.same.leaves)) b.same;
      above = omega arith;
      most = omega arith;
    }
  where
    reach : (j : ℕ) → k - 1 ≤ j → j ≢ k - 1 → k ≤ j
    reach j p q = go (eqb j (k - 1)) refl
      where
        go : (t : Bool) → eqb j (k - 1) ≡ t → k ≤ j
        go true z = absurd (q (eqb-true j (k - 1) z))
        go false z = omega arith

    at : (j : ℕ) → k - 1 ≤ j → j < w.leaves → (t : Bool) → eqb j (k - 1) ≡ t → k - 1 < w.leaves
        → Fair e.key × (decode e ≡ later (winner_in w ((k - 1) * 2)) (winner_in w ((k - 1) * 2 + 1)))
        → Right later (winner_in (with_node w (k - 1) e)) j
    at j p q true z l r =
        let s : j ≡ k - 1 = eqb-true j (k - 1) z in
        rw s
        (set-right later w.leaves (winner_in w) (winner_in (with_node w (k - 1) e)) (k - 1) (omega arith) (differs w (k - 1) e)
        (ap decode (set_same w (k - 1) e (omega (arith, b.numbers.long, b.numbers.small))) ∙ r.1))
    at j p q false z l r =
        let n = eqb_apart j (k - 1) z in
        unchanged later w.leaves (winner_in w) (winner_in (with_node w (k - 1) e)) j (k - 1) (differs w (k - 1) e) n (λ x. omega arith) (b.right j (reach j p n) q)

pub build_end : (w₀ w : Winners) (k : ℕ) → k ≤ 1 → Built w₀ w k → Tree w
build_end w₀ w k h b =
    let e : k ≡ 1 = omega (arith, b.above) in
    record { numbers = rw e at b.numbers; stands = record { right = λ j p q. b.right j (omega arith) q } }

-- ---- keys by their bits

pub bits_same : (x y : Float) → fits binary32 x ≡ true → fits binary32 y ≡ true → eqb (to_bits binary32 x) (to_bits binary32 y) ≡ true → x ≡ y
bits_same x y p q h =
    sym (of_bits-to_bits binary32 x (subst T (sym p) tt)) ∙ ap (of_bits binary32) (eqb-true (to_bits binary32 x) (to_bits binary32 y) h) ∙ of_bits-to_bits binary32 y (subst T (sym q) tt)
