-- Request M-104: the hull of a cloud, by the walk of the crate's `convex_hull2_idx`, part by part, over whole numbers. The facets stand in one
-- list with links, and each is looked at once, in the order in which they were made. Two things are not the crate's: a point sees a facet
-- by the sign of its turn, and the farthest point is found by a normal that is not scaled.
use Rattle.std.specs.Prelude.{ℕ, zero, suc, ◌+◌, ◌-◌, Bool, false, cond, not, ◌&&◌, List, [], ◌∷◌, ◌++◌, eqb, length, get_or, ℤ, pos, negsuc, ◌+ℤ◌, ◌-ℤ◌, ◌*ℤ◌}
use Rattle.std.specs.Int.Signed.{lt_z}
use Rattle.algebra.specs.Lists.{keep, change, count_from}
use Rattle.algebra.specs.Rings.{begun_at}
use Rattle.rules.specs.Plane.{Pt, minus, point, turns_right}

-- ---- directions

-- n . p
abbrev pub dot : Pt → Pt → ℤ
dot n p = n.x *ℤ p.x +ℤ n.y *ℤ p.y

-- the normal of the facet from a to b, not scaled
abbrev pub normal : Pt → Pt → Pt
normal a b = record { x = b.y -ℤ a.y; y = a.x -ℤ b.x }

-- the farthest of point i and those of the list in the direction n, of equals the first
unfoldable pub farthest : List Pt → Pt → ℕ → List ℕ → ℕ
farthest ps n i [] = i
farthest ps n i (j ∷ l) = farthest ps n (cond (lt_z (dot n (point ps i)) (dot n (point ps j))) j i) l

abbrev pub rightward : Pt
rightward = record { x = pos 1; y = pos 0 }

abbrev pub leftward : Pt
leftward = record { x = negsuc 0; y = pos 0 }

-- of all points the farthest in a direction, of equals the first
unfoldable pub support : List Pt → Pt → ℕ
unfolding farthest
support ps n = farthest ps n 0 (count_from 0 (length ps))

-- ---- which points see a facet

-- of the points of l, those that see the facet from a to b: they stand right of it
abbrev pub before : List Pt → ℕ → ℕ → List ℕ → List ℕ
before ps a b l = keep (turns_right ps a b) l

-- those that do not see the facet from a to b, but the one from b to c
abbrev pub behind : List Pt → ℕ → ℕ → ℕ → List ℕ → List ℕ
behind ps a b c l = keep (λ i. not (turns_right ps a b i) && turns_right ps b c i) l

-- those that see neither
abbrev pub beside : List Pt → ℕ → ℕ → ℕ → List ℕ → List ℕ
beside ps a b c l = keep (λ i. not (turns_right ps a b i) && not (turns_right ps b c i)) l

-- all of them but w
abbrev pub without : ℕ → List ℕ → List ℕ
without w l = keep (λ i. not (eqb i w)) l

-- ---- facets

-- from one corner of the hull so far to the next; `visible` are the points that see it
pub record SegmentFacet : Type 0 where
  pub valid : Bool
  pub from : ℕ
  pub to : ℕ
  pub prev : ℕ
  pub next : ℕ
  pub visible : List ℕ

abbrev pub at : List SegmentFacet → ℕ → SegmentFacet
at segments i = get_or segments i (record { valid = false; from = 0; to = 0; prev = 0; next = 0; visible = [] })

-- two points that are not one
abbrev pub differ : Pt → Pt → Bool
differ a b = lt_z (pos 0) (dot (minus b a) (minus b a))

-- `SegmentFacet::new`
abbrev pub new_facet : List Pt → ℕ → ℕ → ℕ → ℕ → List ℕ → SegmentFacet
new_facet ps a b p n l = record { valid = differ (point ps a) (point ps b); from = a; to = b; prev = p; next = n; visible = l }

abbrev pub taken : SegmentFacet → SegmentFacet
taken s = record { valid = false; from = s.from; to = s.to; prev = s.prev; next = s.next; visible = s.visible }

abbrev pub next_to : ℕ → SegmentFacet → SegmentFacet
next_to n s = record { valid = s.valid; from = s.from; to = s.to; prev = s.prev; next = n; visible = s.visible }

abbrev pub prev_to : ℕ → SegmentFacet → SegmentFacet
prev_to p s = record { valid = s.valid; from = s.from; to = s.to; prev = p; next = s.next; visible = s.visible }

-- ---- `get_initial_polyline`

-- the facets, and the points that stand beside
pub record Walk : Type 0 where
  pub segments : List SegmentFacet
  pub undecidable : List ℕ

-- the first end is the rightmost point, and the second the leftmost, or the lowest or highest where that is the same point: but then all points
-- have one x, and the cloud is refused
unfoldable pub second_end : List Pt → ℕ
unfolding support
second_end ps =
    let a = point ps (support ps rightward) in
    let left = support ps leftward in
    let low = support ps (record { x = pos 0; y = negsuc 0 }) in
    let high = support ps (record { x = pos 0; y = pos 1 }) in
    cond (differ a (point ps left)) left (cond (differ a (point ps low)) low high)

-- two facets, there and back; a point on the line through both ends sees neither and stands beside
abbrev pub polyline : List Pt → ℕ → ℕ → Walk
polyline ps a b =
    let others = keep (λ i. not (eqb i a) && not (eqb i b)) (count_from 0 (length ps)) in
    record {
      segments = new_facet ps a b 1 1 (before ps a b others) ∷ new_facet ps b a 0 0 (behind ps a b a others) ∷ [];
      undecidable = beside ps a b a others;
    }

-- ---- `attach_and_push_facets2`

pub record Sifted : Type 0 where
  pub first : List ℕ
  pub second : List ℕ
  pub rest : List ℕ

-- the points that stand beside, given to the new facets from a to w and from w to b where they see them: `swap_remove` moves the last into the gap.
-- No accepted cloud has one that sees them
unfoldable pub sift : ℕ → List Pt → ℕ → ℕ → ℕ → List ℕ → List ℕ → List ℕ → List ℕ → Sifted
sift zero ps a w b f s passed l = record { first = f; second = s; rest = passed ++ l }
sift (suc k) ps a w b f s passed [] = record { first = f; second = s; rest = passed }
sift (suc k) ps a w b f s passed (i ∷ l) =
    cond (turns_right ps a w i) (sift k ps a w b (f ++ i ∷ []) s passed (begun_at (length l - 1) l))
    (cond (turns_right ps w b i) (sift k ps a w b f (s ++ i ∷ []) passed (begun_at (length l - 1) l)) (sift k ps a w b f s (passed ++ i ∷ []) l))

-- facet i is taken out, and two through point w are put in its place
unfoldable pub attach : List Pt → Walk → ℕ → ℕ → Walk
unfolding sift
attach ps k i w =
    let segments = k.segments in
    let id = length segments in
    let p = (at segments i).prev in
    let n = (at segments i).next in
    let a = (at segments p).to in
    let b = (at segments n).from in
    let l = without w (at segments i).visible in
    let r = sift (length k.undecidable) ps a w b (before ps a w l) (behind ps a w b l) [] k.undecidable in
    record {
      segments = change (prev_to (suc id)) n (change (next_to id) p (change taken i segments)) ++ new_facet ps a w p (suc id) r.first ∷ new_facet ps w b id n r.second ∷ [];
      undecidable = r.rest;
    }

-- ---- `convex_hull2_idx`

-- a facet that points see is split at the farthest of them
abbrev pub split_of : List Pt → Walk → ℕ → List ℕ → Walk
split_of ps k i [] = k
split_of ps k i (j ∷ l) = attach ps k i (farthest ps (normal (point ps (at k.segments i).from) (point ps (at k.segments i).to)) j l)

unfoldable pub look : List Pt → Walk → ℕ → Walk
unfolding attach farthest
look ps k i = cond (at k.segments i).valid (split_of ps k i (at k.segments i).visible) k

-- the loop over the facets, from number i on
unfoldable pub loop : ℕ → List Pt → ℕ → Walk → Walk
unfolding look
loop zero ps i k = k
loop (suc t) ps i k = cond (eqb i (length k.segments)) k (loop t ps (suc i) (look ps k i))

-- the first valid facet
unfoldable pub first_valid : List SegmentFacet → ℕ
first_valid [] = 0
first_valid (s ∷ l) = cond s.valid 0 (suc (first_valid l))

-- along the links from facet i back to the first, the corner at which each valid one begins
unfoldable pub follow : ℕ → List SegmentFacet → ℕ → ℕ → List ℕ
follow zero segments first i = []
follow (suc t) segments first i =
    let s = at segments i in
    let rest = cond (eqb s.next first) [] (follow t segments first s.next) in
    cond s.valid (s.from ∷ rest) rest

abbrev pub indices : List SegmentFacet → List ℕ
indices segments = follow (length segments) segments (first_valid segments) (first_valid segments)

-- the corners of the hull, counter-clockwise. Twice the number of points bounds the facets that are made, and so the turns of each loop
unfoldable pub hull : List Pt → List ℕ
unfolding first_valid follow loop second_end support
hull ps = indices (loop (length ps + length ps) ps 0 (polyline ps (support ps rightward) (second_end ps))).segments
