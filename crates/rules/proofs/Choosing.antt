-- The ear that is taken is the one that document 01 names: of greatest pointiness, of equals the highest index; and no other is. For that pointiness has
-- to be a number, as it is on the grid, and the corners have to stand by their indices, as they do in every ring that is met.
use Prim.Native.Nat.{ℕ, ◌≤◌, ◌<◌}
use mathlib.Core.Path.{◌≡◌, refl, sym, ◌∙◌, ap, subst}
use mathlib.Core.Bool.{Bool, true, false, cond}
use mathlib.Core.List.Memᴰ
use mathlib.Core.List.{List, [], ◌∷◌, ◌++◌, append_assoc, append-nil}
use native.Mathlib.Omega.{arith}
use lib.ListN.{length}
use lib.Ieee.{Float, le, is_nan}
use Rattle.algebra.specs.Lists.{Each, end, ◌&◌, count_from}
use Rattle.algebra.specs.Rings.{Corner, corners}
use Rattle.algebra.proofs.Lists.{each_++, each_imp, each_all, each_head, each_tail, each_of}
use Rattle.algebra.proofs.Equal.{impossible}
use Rattle.rules.specs.Plane.{Pt}
use Rattle.rules.specs.Ear.{Ear, none, pointed, ear}
use Rattle.rules.specs.Cut.{Choice, nothing, best, better, choose}
use Rattle.rules.specs.Choosing.{EachEar, Pointiest}
use Rattle.rules.specs.Grid.{points_of}
use Rattle.rules.specs.Refusals.{off_grid}
use Rattle.rules.proofs.Ascending.{below, AscendingCorners, met_ascending, corners_ascending, same-corner}
use Rattle.rules.proofs.FloatOrder.{le_refl, le_total, le_trans}
use Rattle.rules.proofs.Neighbours.{Met}
use Rattle.rules.proofs.Pointiness.{ear-number}

same-pointed : {f g : Float} → pointed f ≡ pointed g → f ≡ g
same-pointed e = cc

module _ (ps : List Pt) where
  abbrev Numbers : List (Corner ℕ) → Type 0
  Numbers cs = EachEar ps cs (λ d g. is_nan g ≡ false)

  -- ---- what was found in the corners that were passed

  data Found (passed : List (Corner ℕ)) : Choice (Corner ℕ) → Type 0 where
    no_ear_yet : EachEar ps passed (λ d g. ⊥) → Found passed nothing
    found : {c : Corner ℕ} {f : Float} → is_nan f ≡ false → Pointiest ps passed c f → Found passed (best c f)

  -- one corner c more, whose index is above those passed
  module _ (passed : List (Corner ℕ)) (c : Corner ℕ) where
    -- it is the pointiest now
    taken : (f : Float) → is_nan f ≡ false → ear ps c ≡ pointed f → EachEar ps passed (λ d g. le g f ≡ true) → Each (λ d. d.at < c.at) passed → Pointiest ps (passed ++ c ∷ []) c f
    taken f n i most lower =
        record {
          among = Memᴰ.append_right passed (Memᴰ.head refl);
          is_ear = i;
          greatest = each_++ most ((λ g j. subst (λ (x : Float). le x f ≡ true) (same-pointed (sym i ∙ j)) (le_refl f n)) & end);
          highest = each_++ (each_imp (λ d l g j q. omega arith) lower) ((λ g j q. omega arith) & end);
        }

    -- the one found before still is: c is no ear, or a less pointed one
    kept : {d : Corner ℕ} {g : Float} → Pointiest ps passed d g → ((f : Float) → ear ps c ≡ pointed f → (le f g ≡ true) × (le g f ≡ false)) → Pointiest ps (passed ++ c ∷ []) d g
    kept h less =
        record {
          among = Memᴰ.append_left (c ∷ []) h.among;
          is_ear = h.is_ear;
          greatest = each_++ h.greatest ((λ f i. (less f i).0) & end);
          highest = each_++ h.highest ((λ f i q. impossible (cc (less f i).1)) & end);
        }

    step : (b : Choice (Corner ℕ)) (e : Ear) → Found passed b → Each (λ d. d.at < c.at) passed → ((g : Float) → ear ps c ≡ pointed g → is_nan g ≡ false) → ear ps c ≡ e → Found (passed ++ c ∷ []) (better b c e)
    unfolding better
    step nothing none (no_ear_yet h) l n i = no_ear_yet (each_++ h ((λ g j. impossible (cc)) & end))
    step (best d g) none (found m h) l n i = found m (kept h (λ f j. impossible (cc)))
    step nothing (pointed f) (no_ear_yet h) l n i = found (n f i) (taken f (n f i) i (each_imp (λ d k g j. absurd (k g j)) h) l)
    step (best d g) (pointed f) (found m h) l n i = go (le g f) refl
      where
        less : le g f ≡ false → (x : Float) → ear ps c ≡ pointed x → (le x g ≡ true) × (le g x ≡ false)
        less e x j = subst (λ (x : Float). (le x g ≡ true) × (le g x ≡ false)) (same-pointed (sym i ∙ j)) (le_total g f m (n f i) e, e)

        go : (t : Bool) → le g f ≡ t → Found (passed ++ c ∷ []) (cond t (best c f) (best d g))
        go true e = found (n f i) (taken f (n f i) i (each_imp (λ d k x j. le_trans x g f (k x j) e) h.greatest) l)
        go false e = found m (kept h (less e))

  along : (passed : List (Corner ℕ)) (b : Choice (Corner ℕ)) (cs : List (Corner ℕ)) → Found passed b → Each (λ d. Each (λ c. d.at < c.at) cs) passed → AscendingCorners cs → Numbers cs → Found (passed ++ cs) (choose ps b cs)
  unfolding choose
  along passed b [] h l a n = rw (append-nil passed) h
  along passed b (c ∷ cs) h l (below u a) (n & ns) =
      let next = better b c (ear ps c) in
      subst (λ (all : List (Corner ℕ)). Found all (choose ps next cs)) (append_assoc passed (c ∷ []) cs)
      (along (passed ++ c ∷ []) next cs (step passed c b (ear ps c) h (each_imp (λ d k. each_head k) l) n refl) (each_++ (each_imp (λ d k. each_tail k) l) (u & end)) a ns)

  -- ---- of corners that ascend, with numbers for pointiness, the pointiest is chosen

  -- two that are the pointiest are one
  pointiest_unique : {cs : List (Corner ℕ)} {c d : Corner ℕ} {f g : Float} → AscendingCorners cs → Pointiest ps cs c f → Pointiest ps cs d g → best c f ≡ best d g
  pointiest_unique {c} {d} {f} {g} a h k =
      let c≤ : c.at ≤ d.at = each_of k.highest h.among f h.is_ear (each_of h.greatest k.among g k.is_ear) in
      let d≤ : d.at ≤ c.at = each_of h.highest k.among g k.is_ear (each_of k.greatest h.among f h.is_ear) in
      let e : c ≡ d = same-corner a h.among k.among (omega arith) in
      let q : f ≡ g = same-pointed (sym h.is_ear ∙ ap (ear ps) e ∙ k.is_ear) in
      cc

  module _ {cs : List (Corner ℕ)} (a : AscendingCorners cs) (n : Numbers cs) where
    choice_found : Found cs (choose ps nothing cs)
    choice_found = along [] nothing cs (no_ear_yet end) end a n

    chosen_pointiest : {c : Corner ℕ} {f : Float} → choose ps nothing cs ≡ best c f → Pointiest ps cs c f
    chosen_pointiest {c} {f} e = take (subst (Found cs) e choice_found)
      where
        take : Found cs (best c f) → Pointiest ps cs c f
        take (found m h) = h

    pointiest_chosen : {c : Corner ℕ} {f : Float} → Pointiest ps cs c f → choose ps nothing cs ≡ best c f
    pointiest_chosen {c} {f} h = go choice_found
      where
        go : {b : Choice (Corner ℕ)} → Found cs b → b ≡ best c f
        go (no_ear_yet k) = absurd (each_of k h.among f h.is_ear)
        go (found m k) = pointiest_unique a k h

-- ---- the theorem: of every ring that is met while an outline on the grid is cut, the ear that is taken is the pointiest, and the pointiest is taken

module _ (cs : List Float) (grid : off_grid cs ≡ false) {ring : List ℕ} (met : Met (points_of cs) (count_from 0 (length (points_of cs))) ring) where
  ascending : AscendingCorners (corners ring)
  ascending = corners_ascending (met_ascending (points_of cs) (length (points_of cs)) met)

  numbers : Numbers (points_of cs) (corners ring)
  numbers = each_all (ear-number cs grid) (corners ring)

  pub taken→pointiest : {c : Corner ℕ} {f : Float} → choose (points_of cs) nothing (corners ring) ≡ best c f → Pointiest (points_of cs) (corners ring) c f
  taken→pointiest = chosen_pointiest (points_of cs) ascending numbers

  pub pointiest→taken : {c : Corner ℕ} {f : Float} → Pointiest (points_of cs) (corners ring) c f → choose (points_of cs) nothing (corners ring) ≡ best c f
  pointiest→taken = pointiest_chosen (points_of cs) ascending numbers
