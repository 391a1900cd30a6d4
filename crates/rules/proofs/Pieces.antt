-- The merged pieces: the sum of (corners - 2) is kept, each has at least three corners, and none turns right where no given one did.
use Prim.Native.Nat.{ℕ, ◌+◌, ◌-◌, ◌≤◌}
use mathlib.Core.Path.{◌≡◌, sym, ◌∙◌, ap}
use mathlib.Core.Bool.{true}
use mathlib.Core.List.{List, [], ◌∷◌, ◌++◌, map}
use native.Mathlib.Omega.{arith}
use lib.ListN.{length, length-append}
use Rattle.algebra.specs.Lists.{Each, end, ◌&◌}
use Rattle.algebra.proofs.Lists.{each_++, each_imp, each_map}
use Rattle.algebra.specs.Sums.{Sums, total, naturals}
use Rattle.rules.specs.Plane.{Pt, point}
use Rattle.algebra.specs.Rings.{Corner, ring_of, around}
use Rattle.rules.specs.Merge.{JoinTest, joint, may_join, merge}
use Rattle.rules.specs.Measure.{NotRight, NoneRight}
use Rattle.algebra.proofs.Rings.{Rotated, rotated_length, corners_rotated, each_rotated, around_rotated, join, corners-two}
use Rattle.rules.proofs.Turns.{right_rotates}
use Rattle.rules.proofs.Merges.{merge-sum, merge-each, may_join_turns}

-- ---- sizes

abbrev beyond-two : List ℕ → ℕ
beyond-two t = length t - 2

join-beyond : (s e : ℕ) (rest_a rest_b : List ℕ) → beyond-two ((e ∷ rest_a) ++ (s ∷ rest_b)) ≡ beyond-two (s ∷ e ∷ rest_a) + beyond-two (e ∷ s ∷ rest_b)
join-beyond s e rest_a rest_b = rw (length-append rest_a (s ∷ rest_b)) (omega arith)

abbrev Three : List ℕ → Type 0
Three t = 3 ≤ length t

three_rotated : {l m : List ℕ} → Rotated l m → Three l → Three m
three_rotated t h = rw (rotated_length t) at h

three-join : (s e : ℕ) (rest_a rest_b : List ℕ) → Three (s ∷ e ∷ rest_a) → Three (e ∷ s ∷ rest_b) → Three ((e ∷ rest_a) ++ (s ∷ rest_b))
three-join s e rest_a rest_b h k = rw (length-append rest_a (s ∷ rest_b)) (omega arith)

-- ---- what any merge keeps

pub record Merging (pieces merged : List (List ℕ)) : Type 1 where
  pub sum : {G : Type 0} (S : Sums G) (w : ℕ → ℕ → G) → ((a b : ℕ) → S.◌⊕◌ (w a b) (w b a) ≡ S.nil) → total S (around S w) merged ≡ total S (around S w) pieces
  pub size : total naturals (λ t. length t - 2) merged ≡ total naturals (λ t. length t - 2) pieces
  pub three : Each (λ t. 3 ≤ length t) pieces → Each (λ t. 3 ≤ length t) merged
  pub from : (P : ℕ → Type 0) → Each (Each P) pieces → Each (Each P) merged

each-join : {P : ℕ → Type 0} {s e : ℕ} {rest_a rest_b : List ℕ} → Each P (s ∷ e ∷ rest_a) → Each P (e ∷ s ∷ rest_b) → Each P ((e ∷ rest_a) ++ (s ∷ rest_b))
each-join (p & q & h) (_ & _ & k) = each_++ (q & h) (p & k)

pub merging : (may : JoinTest) (pieces : List (List ℕ)) → Merging pieces (merge may pieces)
merging may pieces = record {
  sum = λ S w back. merge-sum S (around S w) (λ l m t. around_rotated S w t) (join S w back) may pieces;
  size = merge-sum naturals beyond-two (λ l m t. ap (λ (n : ℕ). n - 2) (rotated_length t)) join-beyond may pieces;
  three = merge-each may Three (λ l m t. three_rotated t) (λ s e rest_a rest_b allowed. three-join s e rest_a rest_b) pieces;
  from = λ P. merge-each may (Each P) (λ l m t. each_rotated t) (λ s e rest_a rest_b allowed. each-join) pieces;
}

-- ---- turns

module _ (ps : List Pt) where
  abbrev May : ℕ → ℕ → List ℕ → List ℕ → Type 0
  May s e rest_a rest_b = may_join ps (joint s e rest_a rest_b) (joint e s rest_b rest_a) ≡ true

  no-right-join : (s e r q : ℕ) (ls ms : List ℕ) → May s e (r ∷ ls) (q ∷ ms) → NoneRight ps (s ∷ e ∷ r ∷ ls) → NoneRight ps (e ∷ s ∷ q ∷ ms) → NoneRight ps ((e ∷ r ∷ ls) ++ (s ∷ q ∷ ms))
  no-right-join s e r q ls ms may (_ & _ & h) (_ & _ & k) =
      let (at_s, at_e) = may_join_turns ps (joint s e (r ∷ ls) (q ∷ ms)) (joint e s (q ∷ ms) (r ∷ ls)) may in
      rw (corners-two e (r ∷ ls) s (q ∷ ms)) (each_++ (at_e & h) (at_s & k))

  Good : List ℕ → Type 0
  Good t = Three t × NoneRight ps t

  good_join : (s e : ℕ) (rest_a rest_b : List ℕ) → May s e rest_a rest_b → Good (s ∷ e ∷ rest_a) → Good (e ∷ s ∷ rest_b) → Good ((e ∷ rest_a) ++ (s ∷ rest_b))
  unfolding Good
  good_join s e [] rest_b may g k = absurd (omega (arith, g.0))
  good_join s e (r ∷ ls) [] may g k = absurd (omega (arith, k.0))
  good_join s e (r ∷ ls) (q ∷ ms) may g k = (three-join s e (r ∷ ls) (q ∷ ms) g.0 k.0, no-right-join s e r q ls ms may g.1 k.1)

  good_triangle : (t : Corner ℕ) → NotRight ps t → Good (ring_of t)
  unfolding Good
  good_triangle t h =
      let a = point ps t.before in
      let b = point ps t.at in
      let c = point ps t.after in
      (omega arith, (right_rotates c a b ∙ h) & h & (sym (right_rotates a b c) ∙ h) & end)

  -- where no given triangle turns right, no corner of a merged piece does
  pub merge-no-right : (ts : List (Corner ℕ)) → Each (NotRight ps) ts → Each (NoneRight ps) (merge (may_join ps) (map ring_of ts))
  unfolding Good
  merge-no-right ts h =
      each_imp (λ t g. g.1)
      (merge-each (may_join ps) Good (λ l m t g. (three_rotated t g.0, each_rotated (corners_rotated t) g.1)) good_join (map ring_of ts) (each_map ring_of (each_imp good_triangle h)))
