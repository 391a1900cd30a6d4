-- A's ring in a program's arrays: its places are numbered as they are made, and each is linked with the next and the one before.
use Prim.Native.Nat.{ℕ, suc, ◌<◌}
use native.Mathlib.Omega.{arith}
use mathlib.Core.Path.{◌≡◌, refl, sym, ◌∙◌, ap₂, subst}
use mathlib.Core.Logic.{◌≢◌}
use mathlib.Core.List.{List, [], ◌∷◌, ◌++◌, map, append_assoc}
use lib.ListN.{length, length-append, length-set, get_or, set}
use lib.Seq.{get_or-set_same, get_or-set_other}
use Rattle.algebra.specs.Lists.{Each, end, ◌&◌, Distinct, new}
use Rattle.algebra.proofs.Lists.{each_++, each_back, each_swap, each_imp, each_head, each_both, distinct_swap}
use Rattle.algebra.proofs.Counting.{count_below, count-distinct}
use Rattle.algebra.specs.Rings.{Edge, steps, edges, last_of, first_of}
use Rattle.algebra.proofs.Rings.{Rotated, steps-last, edges-two, edges_rotated, each_rotated, distinct_rotated, rotated_length}
use Rattle.rules.specs.Merge.{JoinTest}
use Rattle.rules.proofs.QueueSlots.{may_meet}

-- ---- numbers

-- the places are distinct, and numbered below their count
pub record Numbered (places : List ℕ) : Type 0 where
  pub distinct : Distinct places
  pub below : Each (λ i. i < length places) places

pub numbered_begins : Numbered (0 ∷ 1 ∷ 2 ∷ [])
numbered_begins = record {
  distinct = count-distinct 0 3;
  below = count_below 3;
}

module _ {places : List ℕ} {n e : ℕ} {more : List ℕ} (t : Rotated places (n ∷ e ∷ more)) where
  pub numbered_joined : Numbered places → Numbered ((e ∷ more) ++ (n ∷ length places ∷ []))
  numbered_joined h = record { distinct = subst Distinct whole apart; below = subst (Each (λ i. i < length ((e ∷ more) ++ (n ∷ length places ∷ [])))) whole small }
    where
      whole : ((e ∷ more) ++ n ∷ []) ++ length places ∷ [] ≡ (e ∷ more) ++ (n ∷ length places ∷ [])
      whole = append_assoc (e ∷ more) (n ∷ []) (length places ∷ [])

      turned : Each (λ i. i < length places) ((e ∷ more) ++ n ∷ [])
      turned = each_swap (n ∷ []) (e ∷ more) (each_rotated t h.below)

      apart : Distinct (((e ∷ more) ++ n ∷ []) ++ length places ∷ [])
      apart = distinct_swap (length places ∷ []) ((e ∷ more) ++ n ∷ []) (new (each_imp (λ i b q. omega arith) turned) (distinct_swap (n ∷ []) (e ∷ more) (distinct_rotated t h.distinct)))

      size : length ((e ∷ more) ++ (n ∷ length places ∷ [])) ≡ suc (length places)
      size = omega (arith, rotated_length t, length-append (e ∷ more) (n ∷ length places ∷ []))

      last : length places < length ((e ∷ more) ++ (n ∷ length places ∷ []))
      last = omega (arith, size)

      small : Each (λ i. i < length ((e ∷ more) ++ (n ∷ length places ∷ []))) (((e ∷ more) ++ n ∷ []) ++ length places ∷ [])
      small = each_++ (each_imp (λ i b. omega (arith, size)) turned) (last & end)

-- ---- links

pub record Link (succ pred : List ℕ) (e : Edge ℕ) : Type 0 where
  pub on : get_or succ e.from 0 ≡ e.to
  pub back : get_or pred e.to 0 ≡ e.from

-- along each edge of the ring
abbrev pub Linked : List ℕ → List ℕ → List ℕ → Type 0
Linked succ pred places = Each (Link succ pred) (edges places)

-- the neighbours of n and e, read along the links of a ring that begins n, e
pub record Here (succ pred : List ℕ) (n e : ℕ) (more : List ℕ) : Type 0 where
  pub next : get_or succ n 0 ≡ e
  pub before : get_or pred n 0 ≡ last_of e more
  pub after : get_or succ e 0 ≡ first_of n more

module _ {succ pred : List ℕ} where
  -- from a place to the next, to the one before and to the second next
  linked_from : (n e : ℕ) (more : List ℕ) → Linked succ pred (n ∷ e ∷ more) → Here succ pred n e more
  linked_from n e [] (h & k & end) = record { next = h.on; before = k.back; after = k.on }
  linked_from n e (f ∷ more) (h & k & hs) = record { next = h.on; before = (each_head (each_back (steps f more) (record { from = last_of f more; to = n } ∷ []) (rw (steps-last f more n) at hs))).back; after = k.on }

  pub linked_at : {places : List ℕ} {n e : ℕ} {more : List ℕ} → Rotated places (n ∷ e ∷ more) → Linked succ pred places → Here succ pred n e more
  linked_at {n = n} {e = e} {more = more} t h = linked_from n e more (each_rotated (edges_rotated t) h)

-- ---- a place t put between n and e

module _ (succ pred : List ℕ) (n e t : ℕ) where
  abbrev succ' : List ℕ
  succ' = set (set succ n t) t e

  abbrev pred' : List ℕ
  pred' = set (set pred t n) e t

  kept_link : (a b : ℕ) → (a ≢ n) × (a ≢ t) → (b ≢ e) × (b ≢ t) → Link succ pred (record { from = a; to = b }) → Link succ' pred' (record { from = a; to = b })
  kept_link a b f g h = record {
    on = get_or-set_other (set succ n t) t a e 0 f.1 ∙ get_or-set_other succ n a t 0 f.0 ∙ h.on;
    back = get_or-set_other (set pred t n) e b t 0 g.0 ∙ get_or-set_other pred t b n 0 g.1 ∙ h.back;
  }

  kept_links :
      (a : ℕ) (l : List ℕ) → Each (λ i. (i ≢ n) × (i ≢ t)) (a ∷ l) → Each (λ i. (i ≢ e) × (i ≢ t)) (l ++ n ∷ [])
      → Each (Link succ pred) (steps a (l ++ n ∷ [])) → Each (Link succ' pred') (steps a (l ++ n ∷ []))
  kept_links a [] (f & _) (g & _) (h & end) = kept_link a n f g h & end
  kept_links a (b ∷ l) (f & fs) (g & gs) (h & hs) = kept_link a b f g h & kept_links b l fs gs hs

  module _ (n-low : n < t) (e_low : e < t) (fits : t < length succ) (fits' : t < length pred) where
    link_in : Link succ' pred' (record { from = n; to = t })
    link_in = record {
      on = get_or-set_other (set succ n t) t n e 0 (λ q. omega arith) ∙ get_or-set_same succ n t 0 (omega arith);
      back = get_or-set_other (set pred t n) e t t 0 (λ q. omega arith) ∙ get_or-set_same pred t n 0 (omega arith);
    }

    link_out : Link succ' pred' (record { from = t; to = e })
    link_out = record {
      on = get_or-set_same (set succ n t) t e 0 (omega (arith, length-set succ n t));
      back = get_or-set_same (set pred t n) e t 0 (omega (arith, length-set pred t n));
    }

-- the links of A joined; the arrays have room for the new place, whose number is the count of places
module _ {succ pred : List ℕ} {places : List ℕ} {n e : ℕ} {more : List ℕ} (r : Rotated places (n ∷ e ∷ more)) (numbered : Numbered places) where
  pub linked_joined :
      Linked succ pred places → length places < length succ → length places < length pred
      → Linked (set (set succ n (length places)) (length places) e) (set (set pred (length places) n) e (length places)) ((e ∷ more) ++ (n ∷ length places ∷ []))
  linked_joined linked fits fits' = go (each_rotated (edges_rotated r) linked) (distinct_rotated r numbered.distinct) (each_rotated r numbered.below)
    where
      go :
          Each (Link succ pred) (edges (n ∷ e ∷ more)) → Distinct (n ∷ e ∷ more) → Each (λ i. i < length places) (n ∷ e ∷ more)
          → Linked (set (set succ n (length places)) (length places) e) (set (set pred (length places) n) e (length places)) ((e ∷ more) ++ (n ∷ length places ∷ []))
      go (_ & old) (new other (new other' d)) (n-low & e_low & low) =
          let t = length places in
          let from : Each (λ i. (i ≢ n) × (i ≢ t)) (e ∷ more) = each_imp (λ i h. ((λ q. h.0 (sym q)), (λ q. omega (arith, h.1, q)))) (each_both other (e_low & low)) in
          let to : Each (λ i. (i ≢ e) × (i ≢ t)) (more ++ n ∷ []) =
          each_++ (each_imp (λ i h. ((λ q. h.0 (sym q)), (λ q. omega (arith, h.1, q)))) (each_both other' low)) (((λ q. each_head other q), (λ q. omega (arith, n-low, q))) & end) in
          rw (edges-two e more n (t ∷ [])) (each_++ (kept_links succ pred n e t e more from to old) (link_in succ pred n e t n-low e_low fits fits' & link_out succ pred n e t n-low e_low fits fits' & end))

-- ---- the corners of a join with a triangle

last-map : (f : ℕ → ℕ) (a : ℕ) (l : List ℕ) → last_of (f a) (map f l) ≡ f (last_of a l)
last-map f a [] = refl
last-map f a (b ∷ l) = last-map f b l

first-map : (f : ℕ → ℕ) (a : ℕ) (l : List ℕ) → first_of (f a) (map f l) ≡ f (first_of a l)
first-map f a [] = refl
first-map f a (b ∷ l) = refl

-- by the places before n and after e
pub may_corners :
    (may : JoinTest) (corner : ℕ → ℕ) (n e : ℕ) (more : List ℕ) (t : ℕ)
    → may_meet may (corner n) (corner e) (map corner more) (t ∷ [])
    ≡ may (record { before = corner (last_of e more); at = corner n; after = t }) (record { before = t; at = corner e; after = corner (first_of n more) })
may_corners may corner n e more t =
    ap₂ (λ (a : ℕ) (b : ℕ). may (record { before = a; at = corner n; after = t }) (record { before = t; at = corner e; after = b })) (last-map corner e more) (first-map corner n more)
