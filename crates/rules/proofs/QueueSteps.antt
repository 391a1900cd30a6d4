-- The merger's steps with a queue, as a program takes them: A is a ring of numbered places, read from its corner 0 on, with the corner at
-- each; the queue is a list of place numbers; the count says how many of its last were refused since A's last join.
use Prim.Native.Nat.{ℕ, suc, ◌+◌, ◌≤◌, ◌<◌}
use native.Mathlib.Omega.{arith}
use mathlib.Core.Path.{◌≡◌, refl, sym, ◌∙◌, ap, ap₂, subst}
use mathlib.Core.Bool.{Bool, true, false, cond}
use mathlib.Core.List.{List, [], ◌∷◌, ◌++◌, map, map-append, append_assoc, append-nil}
use mathlib.Core.Option.{none, some}
use lib.ListN.{length, length-append}
use Rattle.algebra.specs.Lists.{Each, end, ◌&◌}
use Rattle.algebra.proofs.Lists.{each_++, each-front, each_back, each_swap, each_imp, each_unmap, each_both}
use Rattle.algebra.proofs.Equal.{impossible}
use Rattle.algebra.proofs.Rings.{Rotated}
use Rattle.rules.specs.Merge.{Part, mate, JoinTest, next_join, merge}
use Rattle.rules.proofs.QueueSlots.{may_meet, Slot, corners_of, fresh, out, joins, judged, look, look_at, queued}
use Rattle.rules.proofs.Merges.{mated_in, merge-next, merge-join}
use Rattle.rules.proofs.Queues.{Stands, begins, lone_stands, refused_stands, joined-next, joined-stands, stands-end}
use Rattle.rules.proofs.QueueMates.{picked_length}

abbrev pub places_of : List Slot → List ℕ
places_of slots = map (λ p. p.at) slots

-- ---- lists of slots

queued_++ : (l m : List Slot) → queued (l ++ m) ≡ queued l ++ queued m
queued_++ [] m = refl
queued_++ (p ∷ l) m = go (queued_++ l m) p.live
  where
    go : queued (l ++ m) ≡ queued l ++ queued m → (t : Bool) → cond t (p.at ∷ queued (l ++ m)) (queued (l ++ m)) ≡ cond t (p.at ∷ queued l) (queued l) ++ queued m
    go rec true = ap (λ (z : List ℕ). p.at ∷ z) rec
    go rec false = rec

abbrev Dead : Slot → Type 0
Dead p = p.live ≡ false

queued_dead : {l : List Slot} → Each Dead l → queued l ≡ []
queued_dead end = refl
queued_dead (h & hs) = rw (h, queued_dead hs)

all_dead : (l : List Slot) → queued l ≡ [] → Each Dead l
all_dead [] h = end
all_dead (p ∷ l) h = go (all_dead l) p.live refl h
  where
    go : (queued l ≡ [] → Each Dead l) → (t : Bool) → p.live ≡ t → cond t (p.at ∷ queued l) (queued l) ≡ [] → Each Dead (p ∷ l)
    go rec true i h = impossible (cc)
    go rec false i h = i & rec h

-- the first live place
record Head (coming : List Slot) (n : ℕ) (q : List ℕ) : Type 0 where
  dead : List Slot
  slot : Slot
  more : List Slot
  is : coming ≡ dead ++ slot ∷ more
  all : Each Dead dead
  live : slot.live ≡ true
  number : slot.at ≡ n
  rest : queued more ≡ q

head_of : (coming : List Slot) (n : ℕ) (q : List ℕ) → queued coming ≡ n ∷ q → Head coming n q
head_of [] n q h = impossible (cc)
head_of (p ∷ coming) n q h = go (head_of coming n q) p.live refl h
  where
    go : (queued coming ≡ n ∷ q → Head coming n q) → (t : Bool) → p.live ≡ t → cond t (p.at ∷ queued coming) (queued coming) ≡ n ∷ q → Head (p ∷ coming) n q
    go rec true i h = record { dead = []; slot = p; more = coming; is = refl; all = end; live = i; number = cc; rest = cc }
    go rec false i h =
        let r = rec h in
        record { dead = p ∷ r.dead; slot = r.slot; more = r.more; is = ap (λ (z : List Slot). p ∷ z) r.is; all = i & r.all; live = r.live; number = r.number; rest = r.rest }

-- ---- A's state

pub record Queue (may : JoinTest) (later : List (List ℕ)) (corner : ℕ → ℕ) (places queue : List ℕ) (count : ℕ) : Type 0 where
  pub passed : List Slot
  pub coming : List Slot
  pub stands : Stands may later passed coming
  pub places_are : places ≡ places_of (passed ++ coming)
  pub corners_are : Each (λ p. p.corner ≡ corner p.at) (passed ++ coming)
  pub queue_is : queue ≡ queued coming ++ queued passed
  pub count_is : count ≡ length (queued passed)

corners-places : (corner : ℕ → ℕ) {l : List Slot} → Each (λ p. p.corner ≡ corner p.at) l → corners_of l ≡ map corner (places_of l)
corners-places corner end = refl
corners-places corner (h & hs) = ap₂ (λ c l. c ∷ l) h (corners-places corner hs)

-- A begins as a triangle, each place in the queue
pub queue_begins : (may : JoinTest) (later : List (List ℕ)) (corner : ℕ → ℕ) → Queue may later corner (0 ∷ 1 ∷ 2 ∷ []) (0 ∷ 1 ∷ 2 ∷ []) 0
queue_begins may later corner = record {
  passed = [];
  coming = fresh 0 (corner 0 ∷ corner 1 ∷ corner 2 ∷ []);
  stands = begins may later (corner 0 ∷ corner 1 ∷ corner 2 ∷ []);
  places_are = refl;
  corners_are = refl & refl & refl & end;
  queue_is = refl;
  count_is = refl;
}

out_dead : (p : Slot) → p.live ≡ false → out p ≡ p
out_dead p h = ap (λ (t : Bool). record { at = p.at; corner = p.corner; live = t }) (sym h)

-- places out of the queue are passed without a look
skip : {may : JoinTest} {later : List (List ℕ)} (passed : List Slot) {dead : List Slot} (coming : List Slot) → Each Dead dead → Stands may later passed (dead ++ coming) → Stands may later (passed ++ dead) coming
unfolding look_at
skip passed coming end at = rw append-nil at
skip {may} {later} passed coming (◌&◌ {a = p} {l = l} h hs) at =
    let next : Stands may later (passed ++ p ∷ []) (l ++ coming) = subst (λ (x : Slot). Stands may later (passed ++ x ∷ []) (l ++ coming)) (out_dead p h) (lone_stands at (rw h)) in
    rw append_assoc at (skip (passed ++ p ∷ []) coming hs next)

-- every one in the queue was refused since A's last join: A is finished
pub queue_ends :
    (may : JoinTest) (later : List (List ℕ)) (corner : ℕ → ℕ) (places queue : List ℕ) (count : ℕ) → Queue may later corner places queue count → length queue ≤ count
    → merge may (map corner places ∷ later) ≡ map corner places ∷ merge may later
queue_ends may later corner places queue count q h = merge-next may (map corner places) later (rw (q.places_are, ← corners-places corner q.corners_are) (stands-end (skip q.passed [] dead (rw append-nil q.stands))))
  where
    nothing : (l : List ℕ) → length (l ++ queued q.passed) ≤ length (queued q.passed) → l ≡ []
    nothing [] h = refl
    nothing (n ∷ l) h = absurd (omega (arith, length-append l (queued q.passed)))

    dead : Each Dead q.coming
    dead = all_dead q.coming (nothing (queued q.coming) (rw (q.queue_is, q.count_is) at h))

look_live :
    (may : JoinTest) (later : List (List ℕ)) (p : Slot) (rest : List Slot) (c e : ℕ) (more : List ℕ) → p.live ≡ true → p.corner ≡ c → corners_of rest ≡ e ∷ more
    → look_at may later p rest ≡ judged may c e more (mate e c [] later)
unfolding look_at look
look_live may later p rest c e more l i j = rw (l, i, j)

queued_live : (p : Slot) (n : ℕ) (l : List Slot) → p.live ≡ true → p.at ≡ n → queued (p ∷ l) ≡ n ∷ queued l
queued_live p n l h i = rw (h, i)

length-places : (l : List Slot) → length (places_of l) ≡ length l
length-places [] = refl
length-places (p ∷ l) = ap suc (length-places l)

queued_short : (l : List Slot) → length (queued l) ≤ length l
queued_short [] = omega arith
queued_short (p ∷ l) = go (queued_short l) p.live
  where
    go : length (queued l) ≤ length l → (t : Bool) → length (cond t (p.at ∷ queued l) (queued l)) ≤ suc (length l)
    go rec true = omega arith
    go rec false = omega arith

-- the queue is no longer than the ring
pub queue_short : (may : JoinTest) (later : List (List ℕ)) (corner : ℕ → ℕ) (places queue : List ℕ) (count : ℕ) → Queue may later corner places queue count → (length queue ≤ length places) × (count ≤ length queue)
queue_short may later corner places queue count q =
    let a : length queue ≡ length (queued q.coming) + length (queued q.passed) = ap length q.queue_is ∙ length-append (queued q.coming) (queued q.passed) in
    let b : length places ≡ length q.passed + length q.coming = ap length q.places_are ∙ length-places (q.passed ++ q.coming) ∙ length-append q.passed q.coming in
    let c = queued_short q.passed in
    let d = queued_short q.coming in
    let r : length queue ≤ length places = omega (arith, a, b, c, d) in
    let s : count ≤ length queue = omega (arith, a, q.count_is) in
    (r, s)

-- ---- one look: n is the head of the queue, and rest is what is behind it

pub record Opened (may : JoinTest) (later : List (List ℕ)) (corner : ℕ → ℕ) (places : List ℕ) (n : ℕ) (rest : List ℕ) (count : ℕ) : Type 0 where
  pub passed : List Slot
  pub slot : Slot
  pub coming : List Slot
  pub stands : Stands may later passed (slot ∷ coming)
  pub live : slot.live ≡ true
  pub number : slot.at ≡ n
  pub places_are : places ≡ places_of (passed ++ slot ∷ coming)
  pub corners_are : Each (λ p. p.corner ≡ corner p.at) (passed ++ slot ∷ coming)
  pub rest_is : rest ≡ queued coming ++ queued passed
  pub count_is : count ≡ length (queued passed)

module _ {may : JoinTest} {later : List (List ℕ)} {corner : ℕ → ℕ} {places : List ℕ} {n : ℕ} {rest : List ℕ} {count : ℕ} where
  pub opened : Queue may later corner places (n ∷ rest) count → count < length (n ∷ rest) → Opened may later corner places n rest count
  opened q h = go (queued q.coming) refl
    where
      go : (l : List ℕ) → queued q.coming ≡ l → Opened may later corner places n rest count
      go [] i = let e : n ∷ rest ≡ queued q.passed = rw i at q.queue_is in absurd (omega (arith, ap length e, q.count_is))
      go (m ∷ l) i =
          let e : n ∷ rest ≡ m ∷ l ++ queued q.passed = rw i at q.queue_is in
          let r = head_of q.coming m l i in
          let w : (q.passed ++ r.dead) ++ r.slot ∷ r.more ≡ q.passed ++ q.coming = append_assoc q.passed r.dead (r.slot ∷ r.more) ∙ ap (λ (z : List Slot). q.passed ++ z) (sym r.is) in
          let d : queued (q.passed ++ r.dead) ≡ queued q.passed = queued_++ q.passed r.dead ∙ (rw (queued_dead r.all) (append-nil (queued q.passed))) in
          record {
            passed = q.passed ++ r.dead;
            slot = r.slot;
            coming = r.more;
            stands = skip q.passed (r.slot ∷ r.more) r.all (subst (Stands may later q.passed) r.is q.stands);
            live = r.live;
            number = cc r.number;
            places_are = q.places_are ∙ sym (ap places_of w);
            corners_are = subst (Each (λ p. p.corner ≡ corner p.at)) (sym w) q.corners_are;
            rest_is = let k : rest ≡ l ++ queued q.passed = cc in rw (d, r.rest) k;
            count_is = rw d q.count_is;
          }

  -- places, queue and corners where a place goes behind
  module _ (o : Opened may later corner places n rest count) where
    abbrev P : List Slot
    P = o.passed

    abbrev C : List Slot
    C = o.coming

    places-two : places ≡ places_of P ++ n ∷ places_of C
    places-two = o.places_are ∙ map-append (λ (x : Slot). x.at) P (o.slot ∷ C) ∙ ap (λ (m : ℕ). places_of P ++ m ∷ places_of C) o.number

    -- A begun at n: the place behind it is e
    pub begun_at_lem : 2 ≤ length places → (e : ℕ) × (more : List ℕ) × (places_of C ++ places_of P ≡ e ∷ more) × Rotated places (n ∷ e ∷ more)
    begun_at_lem h = go (places_of C ++ places_of P) refl
      where
        go : (l : List ℕ) → places_of C ++ places_of P ≡ l → (e : ℕ) × (more : List ℕ) × (places_of C ++ places_of P ≡ e ∷ more) × Rotated places (n ∷ e ∷ more)
        go [] i = absurd (omega (arith, ap length places-two, length-append (places_of P) (n ∷ places_of C), ap length i, length-append (places_of C) (places_of P)))
        go (e ∷ more) i = (e, more, i, record { front = places_of P; back = n ∷ places_of C; was = places-two; now = ap (λ (z : List ℕ). n ∷ z) (sym i) })

    behind : (q : Slot) → (P ++ q ∷ []) ++ C ≡ P ++ q ∷ C
    behind q = append_assoc P (q ∷ []) C

    places_behind : (q : Slot) → q.at ≡ o.slot.at → places ≡ places_of ((P ++ q ∷ []) ++ C)
    places_behind q e =
        o.places_are ∙ map-append (λ (x : Slot). x.at) P (o.slot ∷ C) ∙ ap (λ (m : ℕ). places_of P ++ m ∷ places_of C) (sym e)
        ∙ sym (ap places_of (behind q) ∙ map-append (λ (x : Slot). x.at) P (q ∷ C))

    corners-behind : (q : Slot) → q.at ≡ o.slot.at → q.corner ≡ o.slot.corner → Each (λ p. p.corner ≡ corner p.at) ((P ++ q ∷ []) ++ C)
    corners-behind q e f = rw (behind q) (each_++ (each-front P (o.slot ∷ C) o.corners_are) (middle (each_back P (o.slot ∷ C) o.corners_are)))
      where
        middle : Each (λ p. p.corner ≡ corner p.at) (o.slot ∷ C) → Each (λ p. p.corner ≡ corner p.at) (q ∷ C)
        middle (h & hs) = (f ∙ h ∙ ap corner (sym e)) & hs

    corners_swap : Each (λ p. p.corner ≡ corner p.at) (o.slot ∷ (C ++ P))
    corners_swap = each_swap P (o.slot ∷ C) o.corners_are

    slot_corner : o.slot.corner ≡ corner n
    slot_corner = go corners_swap ∙ ap corner o.number
      where
        go : Each (λ p. p.corner ≡ corner p.at) (o.slot ∷ (C ++ P)) → o.slot.corner ≡ corner o.slot.at
        go (h & _) = h

    others-corners : corners_of (C ++ P) ≡ map corner (places_of C ++ places_of P)
    others-corners = go corners_swap ∙ ap (map corner) (map-append (λ (x : Slot). x.at) C P)
      where
        go : Each (λ p. p.corner ≡ corner p.at) (o.slot ∷ (C ++ P)) → corners_of (C ++ P) ≡ map corner (places_of (C ++ P))
        go (_ & hs) = corners-places corner hs

    -- A is n, e and more
    module _ (e : ℕ) (more : List ℕ) (is : places_of C ++ places_of P ≡ e ∷ more) where
      look_is : look_at may later o.slot (C ++ P) ≡ judged may (corner n) (corner e) (map corner more) (mate (corner e) (corner n) [] later)
      look_is = look_live may later o.slot (C ++ P) (corner n) (corner e) (map corner more) o.live slot_corner (others-corners ∙ ap (map corner) is)

      -- the edge from n to e has no mate
      pub lone_step : mate (corner e) (corner n) [] later ≡ none → Queue may later corner places rest count
      lone_step m = record {
        passed = P ++ out o.slot ∷ [];
        coming = C;
        stands = lone_stands o.stands (look_is ∙ rw m);
        places_are = places_behind (out o.slot) refl;
        corners_are = corners-behind (out o.slot) refl refl;
        queue_is = o.rest_is ∙ ap (λ (z : List ℕ). queued C ++ z) (sym (queued_++ P (out o.slot ∷ []) ∙ append-nil (queued P)));
        count_is = o.count_is ∙ ap length (sym (queued_++ P (out o.slot ∷ []) ∙ append-nil (queued P)));
      }

      module _ (b : Part) (m : mate (corner e) (corner n) [] later ≡ some b) where
        queued_last : queued (P ++ o.slot ∷ []) ≡ queued P ++ n ∷ []
        queued_last = queued_++ P (o.slot ∷ []) ∙ ap (λ (z : List ℕ). queued P ++ z) (queued_live o.slot n [] o.live o.number)

        -- the join is refused
        pub refused_step : may_meet may (corner n) (corner e) (map corner more) b.piece ≡ false → Queue may later corner places (rest ++ n ∷ []) (suc count)
        refused_step allowed = record {
          passed = P ++ o.slot ∷ [];
          coming = C;
          stands = refused_stands o.stands (look_is ∙ rw (m, allowed));
          places_are = places_behind o.slot refl;
          corners_are = corners-behind o.slot refl refl;
          queue_is = ap (λ (z : List ℕ). z ++ n ∷ []) o.rest_is ∙ append_assoc (queued C) (queued P) (n ∷ []) ∙ ap (λ (z : List ℕ). queued C ++ z) (sym queued_last);
          count_is = omega (arith, ap length queued_last, length-append (queued P) (n ∷ []), o.count_is);
        }

      -- the join with a triangle, whose third corner is t: t's place goes between n and e, and corner 0 is e
      module _ (t : ℕ) (others : List (List ℕ)) (m : mate (corner e) (corner n) [] later ≡ some (record { piece = t ∷ []; others = others }))
          (allowed : may_meet may (corner n) (corner e) (map corner more) (t ∷ []) ≡ true)
          (corner' : ℕ → ℕ) (same : Each (λ i. corner' i ≡ corner i) places) (added : corner' (length places) ≡ t) where
        abbrev B : Part
        B = record { piece = t ∷ []; others = others }

        joins_B : look_at may later o.slot (C ++ P) ≡ joins B
        joins_B = look_is ∙ rw (m, allowed)

        size : length places ≡ suc (length (C ++ P))
        size = ap length o.places_are ∙ length-places (P ++ o.slot ∷ C) ∙ omega (arith, length-append P (o.slot ∷ C), length-append C P)

        abbrev last-two : List Slot
        last-two = o.slot ∷ fresh (suc (length (C ++ P))) (t ∷ [])

        grown_places : places_of ((C ++ P) ++ last-two) ≡ (e ∷ more) ++ (n ∷ length places ∷ [])
        grown_places =
            map-append (λ (x : Slot). x.at) (C ++ P) last-two
            ∙ ap₂ (λ (z : List ℕ) (w : List ℕ). z ++ w) (map-append (λ (x : Slot). x.at) C P ∙ is) (ap₂ (λ (i : ℕ) (j : ℕ). i ∷ j ∷ []) o.number (sym size))

        grown_corners : Each (λ p. p.corner ≡ corner' p.at) ((C ++ P) ++ last-two)
        grown_corners = go (each_both corners_swap (each_swap P (o.slot ∷ C) (each_unmap (λ (x : Slot). x.at) (P ++ o.slot ∷ C) (subst (Each (λ i. corner' i ≡ corner i)) o.places_are same))))
          where
            go : Each (λ p. (p.corner ≡ corner p.at) × (corner' p.at ≡ corner p.at)) (o.slot ∷ (C ++ P)) → Each (λ p. p.corner ≡ corner' p.at) ((C ++ P) ++ last-two)
            go (h & hs) = each_++ (each_imp (λ p k. k.0 ∙ sym k.1) hs) ((h.0 ∙ sym h.1) & (sym added ∙ ap corner' size) & end)

        pub joined_step : Queue may others corner' ((e ∷ more) ++ (n ∷ length places ∷ [])) (rest ++ (n ∷ length places ∷ [])) 0
        joined_step = record {
          passed = [];
          coming = (C ++ P) ++ last-two;
          stands = joined-stands o.stands B joins_B;
          places_are = sym grown_places;
          corners_are = grown_corners;
          queue_is =
              sym (append-nil (queued ((C ++ P) ++ last-two)) ∙ queued_++ (C ++ P) last-two
              ∙ ap₂ (λ (z : List ℕ) (w : List ℕ). z ++ w) (queued_++ C P ∙ sym o.rest_is) (queued_live o.slot n (fresh (suc (length (C ++ P))) (t ∷ [])) o.live o.number ∙ ap (λ (j : ℕ). n ∷ j ∷ []) (sym size)));
          count_is = refl;
        }

        pub joined-merge : merge may (map corner places ∷ later) ≡ merge may (map corner' ((e ∷ more) ++ (n ∷ length places ∷ [])) ∷ others)
        joined-merge =
            merge-join may (map corner places) later (record { piece = corners_of ((C ++ P) ++ last-two); others = others })
            (ap (λ (l : List ℕ). next_join may l later) (ap (map corner) o.places_are ∙ sym (corners-places corner o.corners_are)) ∙ joined-next o.stands B joins_B)
            (picked_length (mated_in (corner e) (corner n) [] later B m).picked)
            ∙ ap (λ (l : List ℕ). merge may (l ∷ others)) (corners-places corner' grown_corners ∙ ap (map corner') grown_places)
