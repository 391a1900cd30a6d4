-- The crate's linked facets show a ring. What they show once a facet is taken out and two are put in its place.
use Prim.Native.Nat.{ℕ, suc, ◌+◌, ◌<◌}
use mathlib.Core.Path.{◌≡◌, refl, sym, ◌∙◌, ap}
use mathlib.Core.Logic.{◌≢◌}
use mathlib.Core.Bool.{Bool, true, false}
use mathlib.Core.List.{List, [], ◌∷◌, ◌++◌, map}
use native.Mathlib.Omega.{arith}
use borrow.Author.Tests.{eqb-false}
use lib.Dec.{eqb}
use lib.ListN.{length, length-append, get_or-append}
use lib.Seq.{get_or-append_seam, get_or-append-add}
use Rattle.algebra.specs.Lists.{Each, end, ◌&◌, Distinct, new, change}
use Rattle.algebra.specs.Rings.{Edge, steps, edges, last_of}
use Rattle.algebra.proofs.Lists.{each_imp, each_both, each_unmap, each_head, each_tail, each-front, each_back, each_++, change-length, change-same, change-other, change_keeps}
use Rattle.algebra.proofs.Equal.{eqb-true}
use Rattle.algebra.proofs.Rings.{Rotated, rotated_back, steps-last, each_last, each_from, each_to, not-from-last, edges_rotated, each_rotated, distinct_rotated, map_rotated}
use Rattle.rules.specs.Hull.{SegmentFacet, at, next_to, prev_to, taken}
use Rattle.hulls.specs.Rounds.{Facet}
use Rattle.hulls.proofs.Numbers.{Num, num_of}

pub record Shown (s : SegmentFacet) (f : Facet) : Type 0 where
  pub valid : s.valid ≡ true
  pub from : s.from ≡ f.from
  pub to : s.to ≡ f.to
  pub visible : s.visible ≡ f.seen

abbrev pub Linked : List SegmentFacet → Edge ℕ → Type 0
Linked segs e = ((at segs e.from).next ≡ e.to) × ((at segs e.to).prev ≡ e.from)

-- the facets of the ring are in the list, linked, and valid; no other is valid
pub record Shows (segs : List SegmentFacet) (ring : List Num) : Type 0 where
  pub shown : Each (λ x. Shown (at segs x.num) x.facet) ring
  pub linked : Each (Linked segs) (edges (map num_of ring))
  pub distinct : Distinct (map num_of ring)
  pub below : Each (λ n. n < length segs) (map num_of ring)
  pub dead : (n : ℕ) → n < length segs → Each (λ m. n ≢ m) (map num_of ring) → (at segs n).valid ≡ false

pub shows_rotated : {segs : List SegmentFacet} {l m : List Num} → Rotated l m → Shows segs l → Shows segs m
shows_rotated t h =
    let u = map_rotated num_of t in
    record {
      shown = each_rotated t h.shown;
      linked = each_rotated (edges_rotated u) h.linked;
      distinct = distinct_rotated u h.distinct;
      below = each_rotated u h.below;
      dead = λ n l e. h.dead n l (each_rotated (rotated_back u) e);
    }

-- ---- one facet taken out and two put in its place

-- what is read past the end
abbrev none : SegmentFacet
none = record { valid = false; from = 0; to = 0; prev = 0; next = 0; visible = [] }

module _ (segs : List SegmentFacet) (x y : Num) (z : List Num) (h : Shows segs (x ∷ y ∷ z)) where
  abbrev id : ℕ
  id = length segs

  abbrev i : ℕ
  i = x.num

  abbrev rest : List ℕ
  rest = map num_of z

  abbrev last : ℕ
  last = last_of y.num rest

  in_order : Each (Linked segs) (steps y.num rest ++ record { from = last; to = i } ∷ [])
  in_order = rw (steps-last y.num rest i) at (each_tail h.linked)

  pub next_is : (at segs i).next ≡ y.num
  next_is = (each_head h.linked).0

  pub prev_is : (at segs i).prev ≡ last
  prev_is = (each_head (each_back (steps y.num rest) (record { from = last; to = i } ∷ []) in_order)).1

  inner : Each (Linked segs) (steps y.num rest)
  inner = each-front (steps y.num rest) (record { from = last; to = i } ∷ []) in_order

  rest_below : Each (λ n. n < id) (y.num ∷ rest)
  rest_below = each_tail h.below

  -- x is met once
  apart : Distinct (i ∷ y.num ∷ rest) → Each (λ n. i ≢ n) (y.num ∷ rest) × Distinct (y.num ∷ rest)
  apart (new n d) = (n, d)

  rest_apart : Each (λ n. i ≢ n) (y.num ∷ rest)
  rest_apart = (apart h.distinct).0

  rest-distinct : Distinct (y.num ∷ rest)
  rest-distinct = (apart h.distinct).1

  -- ---- the list with x taken out and its neighbours linked to the two new facets

  abbrev out : List SegmentFacet
  out = change taken i segs

  abbrev from_last : List SegmentFacet
  from_last = change (next_to id) last out

  abbrev base : List SegmentFacet
  base = change (prev_to (suc id)) y.num from_last

  from-last-length : length from_last ≡ id
  from-last-length = change-length (next_to id) last out ∙ change-length taken i segs

  pub base_length : length base ≡ id
  base_length = change-length (prev_to (suc id)) y.num from_last ∙ from-last-length

  -- what neither link touches, and what is not touched at all
  unlinked :
      {X : Type 0} (g : SegmentFacet → X) → ((s : SegmentFacet) → g (prev_to (suc id) s) ≡ g s) → ((s : SegmentFacet) → g (next_to id s) ≡ g s)
      → (j : ℕ) → g (at base j) ≡ g (at out j)
  unlinked g p n j = change_keeps (prev_to (suc id)) none g p y.num j from_last ∙ change_keeps (next_to id) none g n last j out

  base_from : (j : ℕ) → (at base j).from ≡ (at segs j).from
  base_from j = unlinked (λ s. s.from) (λ s. refl) (λ s. refl) j ∙ change_keeps taken none (λ s. s.from) (λ s. refl) i j segs

  base_to : (j : ℕ) → (at base j).to ≡ (at segs j).to
  base_to j = unlinked (λ s. s.to) (λ s. refl) (λ s. refl) j ∙ change_keeps taken none (λ s. s.to) (λ s. refl) i j segs

  base_visible : (j : ℕ) → (at base j).visible ≡ (at segs j).visible
  base_visible j = unlinked (λ s. s.visible) (λ s. refl) (λ s. refl) j ∙ change_keeps taken none (λ s. s.visible) (λ s. refl) i j segs

  base_valid : (j : ℕ) → i ≢ j → (at base j).valid ≡ (at segs j).valid
  base_valid j n = unlinked (λ s. s.valid) (λ s. refl) (λ s. refl) j ∙ ap (λ (s : SegmentFacet). s.valid) (change-other taken none i j segs n)

  base_taken : (at base i).valid ≡ false
  base_taken = unlinked (λ s. s.valid) (λ s. refl) (λ s. refl) i ∙ ap (λ (s : SegmentFacet). s.valid) (change-same taken none i segs (each_head h.below))

  -- the links
  base_next : (j : ℕ) → (at base j).next ≡ (at from_last j).next
  base_next j = change_keeps (prev_to (suc id)) none (λ s. s.next) (λ s. refl) y.num j from_last

  base_next_other : (j : ℕ) → last ≢ j → (at base j).next ≡ (at segs j).next
  base_next_other j n =
      base_next j
      ∙ ap (λ (s : SegmentFacet). s.next) (change-other (next_to id) none last j out n)
      ∙ change_keeps taken none (λ s. s.next) (λ s. refl) i j segs

  base_prev_other : (j : ℕ) → y.num ≢ j → (at base j).prev ≡ (at segs j).prev
  base_prev_other j n =
      ap (λ (s : SegmentFacet). s.prev) (change-other (prev_to (suc id)) none y.num j from_last n)
      ∙ change_keeps (next_to id) none (λ s. s.prev) (λ s. refl) last j out
      ∙ change_keeps taken none (λ s. s.prev) (λ s. refl) i j segs

  base_last : (at base last).next ≡ id
  base_last = base_next last ∙ ap (λ (s : SegmentFacet). s.next) (change-same (next_to id) none last out (rw (change-length taken i segs) (each_last rest_below)))

  base_first : (at base y.num).prev ≡ suc id
  base_first = ap (λ (s : SegmentFacet). s.prev) (change-same (prev_to (suc id)) none y.num from_last (rw from-last-length (each_head rest_below)))

  -- ---- the two new facets behind it

  module _ (f1 f2 : Facet) (s t : SegmentFacet) (ss : Shown s f1) (st : Shown t f2) (sn : s.next ≡ suc id) (sp : s.prev ≡ last) (tn : t.next ≡ y.num) (tp : t.prev ≡ id) where
    abbrev both : List SegmentFacet
    both = base ++ s ∷ t ∷ []

    abbrev ring : List Num
    ring = record { num = id; facet = f1 } ∷ record { num = suc id; facet = f2 } ∷ y ∷ z

    both_length : length both ≡ suc (suc id)
    both_length = omega (arith, length-append base (s ∷ t ∷ []), base_length)

    old_at : (j : ℕ) → j < id → at both j ≡ at base j
    old_at j l = get_or-append base (s ∷ t ∷ []) none j (rw base_length l)

    s_at : at both id ≡ s
    s_at = ap (at both) (sym base_length) ∙ get_or-append_seam base s (t ∷ []) none

    t_at : at both (suc id) ≡ t
    t_at = let e : suc id ≡ length base + 1 = omega (arith, base_length) in ap (at both) e ∙ get_or-append-add base (s ∷ t ∷ []) 1 none

    -- the others are shown as they were
    still : (x : Num) → (x.num < id) × ((i ≢ x.num) × Shown (at segs x.num) x.facet) → Shown (at both x.num) x.facet
    still x (l, (n, k)) = rw (old_at x.num l) (record {
      valid = base_valid x.num n ∙ k.valid;
      from = base_from x.num ∙ k.from;
      to = base_to x.num ∙ k.to;
      visible = base_visible x.num ∙ k.visible;
    })

    all_shown : Each (λ x. Shown (at both x.num) x.facet) ring
    all_shown =
        let a : Shown (at both id) f1 = rw s_at ss in
        let b : Shown (at both (suc id)) f2 = rw t_at st in
        a & b & each_imp still (each_both (each_unmap num_of (y ∷ z) rest_below) (each_both (each_unmap num_of (y ∷ z) rest_apart) (each_tail h.shown)))

    -- so are the links between them
    link : (e : Edge ℕ) → ((e.from < id) × (e.to < id)) × (((e.from ≢ last) × (e.to ≢ y.num)) × Linked segs e) → Linked both e
    link e ((p, q), ((m, n), k)) = rw (old_at e.from p, old_at e.to q) (base_next_other e.from (λ r. m (sym r)) ∙ k.0, base_prev_other e.to (λ r. n (sym r)) ∙ k.1)

    not-to-first : Distinct (y.num ∷ rest) → Each (λ e. e.to ≢ y.num) (steps y.num rest)
    not-to-first (new n d) = each_to y.num (each_imp (λ m k e. k (sym e)) n)

    inner_linked : Each (Linked both) (steps y.num rest)
    inner_linked =
        let ends = each_both (each_from rest_below) (each_to y.num (each_tail rest_below)) in
        each_imp link (each_both ends (each_both (each_both (not-from-last rest-distinct) (not-to-first rest-distinct)) inner))

    all_linked : Each (Linked both) (edges (map num_of ring))
    all_linked =
        let a : Linked both (record { from = id; to = suc id }) = rw (s_at, t_at) (sn, tp) in
        let b : Linked both (record { from = suc id; to = y.num }) = rw (t_at, old_at y.num (each_head rest_below)) (tn, base_first) in
        let c : Linked both (record { from = last; to = id }) = rw (s_at, old_at last (each_last rest_below)) (base_last, sp) in
        let e : Each (Linked both) (steps y.num (rest ++ id ∷ [])) = rw (steps-last y.num rest id) (each_++ inner_linked (c & end)) in
        a & b & e

    all-distinct : Distinct (map num_of ring)
    all-distinct =
        let first : Each (λ n. id ≢ n) (y.num ∷ rest) = each_imp (λ n l e. omega arith) rest_below in
        let second : Each (λ n. suc id ≢ n) (y.num ∷ rest) = each_imp (λ n l e. omega arith) rest_below in
        let ids : id ≢ suc id = (λ e. omega arith) in
        new (ids & first) (new second rest-distinct)

    all_below : Each (λ n. n < length both) (map num_of ring)
    all_below =
        let a : id < length both = omega (arith, both_length) in
        let b : suc id < length both = omega (arith, both_length) in
        a & b & each_imp (λ n l. let k : n < length both = omega (arith, both_length) in k) rest_below

    others_dead : (n : ℕ) → n < length both → Each (λ m. n ≢ m) (map num_of ring) → (at both n).valid ≡ false
    others_dead n l (p & (q & ns)) =
        let old : n < id = omega (arith, both_length) in
        ap (λ (s : SegmentFacet). s.valid) (old_at n old) ∙ go old (eqb i n) refl
      where
        go : n < id → (b : Bool) → eqb i n ≡ b → (at base n).valid ≡ false
        go l true e = ap (λ (j : ℕ). (at base j).valid) (sym (eqb-true i n e)) ∙ base_taken
        go l false e = let m = eqb-false i n e in base_valid n m ∙ h.dead n l ((λ r. m (sym r)) & ns)

    pub attached : Shows both ring
    attached = record { shown = all_shown; linked = all_linked; distinct = all-distinct; below = all_below; dead = others_dead }
