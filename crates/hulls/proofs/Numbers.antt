-- The ring with the numbers that its facets have in the crate's list: which numbers a round gives, and which facets are still to be looked at.
use Prim.Native.Nat.{ℕ, suc, ◌≤◌, ◌<◌}
use mathlib.Core.Path.{◌≡◌, refl, sym, ◌∙◌, ap, subst}
use mathlib.Core.List.{List, [], ◌∷◌, ◌++◌, map, map-append, append_assoc}
use native.Mathlib.Omega.{arith}
use Rattle.algebra.specs.Lists.{Each, end, ◌&◌}
use Rattle.rules.specs.Plane.{Pt, point}
use Rattle.rules.specs.Hull.{farthest, normal}
use Rattle.hulls.specs.Rounds.{Facet, first_part, second_part, round, split_by}

-- a facet with its number in the list
pub record Num : Type 0 where
  pub num : ℕ
  pub facet : Facet

abbrev pub num_of : Num → ℕ
num_of x = x.num

abbrev pub facet_of : Num → Facet
facet_of x = x.facet

-- no point sees the facet, so it stays
abbrev pub Stays : Num → Type 0
Stays x = x.facet.seen ≡ []

-- ---- the queue: along the ring the facets not yet looked at have the numbers from lo to hi in order, and the others, which stay, are below b

pub data Run (b : ℕ) : ℕ → List Num → ℕ → Type 0 where
  over : {lo : ℕ} → Run b lo [] lo
  old : {lo hi : ℕ} {x : Num} {l : List Num} → x.num < b → Stays x → Run b lo l hi → Run b lo (x ∷ l) hi
  due : {lo hi : ℕ} {x : Num} {l : List Num} → x.num ≡ lo → Run b (suc lo) l hi → Run b lo (x ∷ l) hi

run_le : {b lo hi : ℕ} {l : List Num} → Run b lo l hi → lo ≤ hi
run_le over = omega arith
run_le (old p e r) = run_le r
run_le (due q r) = omega (arith, run_le r)

-- where the numbers go on after a facet that these points see
abbrev pub next_from : ℕ → List ℕ → ℕ
next_from id [] = id
next_from id (j ∷ seen) = suc (suc id)

-- and after a round
abbrev pub end_from : ℕ → List Num → ℕ
end_from id [] = id
end_from id (x ∷ l) = end_from (next_from id x.facet.seen) l

pub end_from_as : (id : ℕ) (x : Num) (l : List Num) {seen : List ℕ} → x.facet.seen ≡ seen → end_from id (x ∷ l) ≡ end_from (next_from id seen) l
end_from_as id x l e = ap (λ (s : List ℕ). end_from (next_from id s) l) e

pub end_from_le : (id : ℕ) (l : List Num) → id ≤ end_from id l
end_from_le id [] = omega arith
end_from_le id (x ∷ l) = omega (arith, go x.facet.seen, end_from_le (next_from id x.facet.seen) l)
  where
    go : (seen : List ℕ) → id ≤ next_from id seen
    go [] = omega arith
    go (j ∷ seen) = omega arith

pub end_from_last : (id : ℕ) {l : List Num} → Each Stays l → end_from id l ≡ id
end_from_last id end = refl
end_from_last id (◌&◌ {a = x} {l = l} e h) = end_from_as id x l e ∙ end_from_last id h

module _ (ps : List Pt) where
  -- of the points j and `seen`, which see the facet, the farthest
  abbrev pub far_of : Facet → ℕ → List ℕ → ℕ
  far_of f j seen = farthest ps (normal (point ps f.from) (point ps f.to)) j seen

  -- the parts of a facet that is split at w, with the numbers from id on
  abbrev pub parts : ℕ → Facet → ℕ → List Num
  parts id f w = record { num = id; facet = first_part ps f w } ∷ record { num = suc id; facet = second_part ps f w } ∷ []

  abbrev pub split_from : ℕ → Num → List ℕ → List Num
  split_from id x [] = x ∷ []
  split_from id x (j ∷ seen) = parts id x.facet (far_of x.facet j seen)

  -- one round, which gives the numbers from id on
  abbrev pub round_from : ℕ → List Num → List Num
  round_from id [] = []
  round_from id (x ∷ l) = split_from id x x.facet.seen ++ round_from (next_from id x.facet.seen) l

  pub round_from_as : (id : ℕ) (x : Num) (l : List Num) {seen : List ℕ} → x.facet.seen ≡ seen → round_from id (x ∷ l) ≡ split_from id x seen ++ round_from (next_from id seen) l
  round_from_as id x l e = ap (λ (s : List ℕ). split_from id x s ++ round_from (next_from id s) l) e

  pub round_from_++ : (id : ℕ) (l r : List Num) → round_from id (l ++ r) ≡ round_from id l ++ round_from (end_from id l) r
  round_from_++ id [] r = refl
  round_from_++ id (x ∷ l) r =
      let next = next_from id x.facet.seen in
      let first = split_from id x x.facet.seen in
      ap (λ (q : List Num). first ++ q) (round_from_++ next l r) ∙ sym (append_assoc first (round_from next l) (round_from (end_from next l) r))

  pub round_from_last : (id : ℕ) {l : List Num} → Each Stays l → round_from id l ≡ l
  round_from_last id end = refl
  round_from_last id (◌&◌ {a = x} {l = l} e h) = round_from_as id x l e ∙ ap (λ (r : List Num). x ∷ r) (round_from_last id h)

  -- but for the numbers it is a round
  split_from_facets : (id : ℕ) (x : Num) (seen : List ℕ) → map facet_of (split_from id x seen) ≡ split_by ps x.facet seen
  split_from_facets id x [] = refl
  split_from_facets id x (j ∷ seen) = refl

  pub round_from_facets : (id : ℕ) (l : List Num) → map facet_of (round_from id l) ≡ round ps (map facet_of l)
  unfolding round
  round_from_facets id [] = refl
  round_from_facets id (x ∷ l) =
      let next = next_from id x.facet.seen in
      map-append facet_of (split_from id x x.facet.seen) (round_from next l)
      ∙ (λ t. split_from_facets id x x.facet.seen t ++ round_from_facets next l t)

  -- ---- after a round the queue holds the new facets

  pub run_as :
      {b lo : ℕ} (id : ℕ) (x : Num) (l : List Num) {seen : List ℕ} → x.facet.seen ≡ seen
      → Run b lo (split_from id x seen ++ round_from (next_from id seen) l) (end_from (next_from id seen) l) → Run b lo (round_from id (x ∷ l)) (end_from id (x ∷ l))
  run_as {b} {lo} id x l e h = subst (λ (s : List ℕ). Run b lo (split_from id x s ++ round_from (next_from id s) l) (end_from (next_from id s) l)) (sym e) h

  pub run-next : {b lo hi : ℕ} {l : List Num} → Run b lo l hi → b ≤ lo → (top : ℕ) → hi ≤ top → (id : ℕ) → Run top id (round_from id l) (end_from id l)
  run-next over h top k id = over
  run-next (old {x} {l} p e r) h top k id = run_as id x l e (old (omega (arith, run_le r)) e (run-next r h top k id))
  run-next {lo} {hi} (due {x} {l} q r) h top k id = go x.facet.seen refl (λ n. run-next r (omega arith) top k n)
    where
      go : (seen : List ℕ) → x.facet.seen ≡ seen → ((n : ℕ) → Run top n (round_from n l) (end_from n l)) → Run top id (round_from id (x ∷ l)) (end_from id (x ∷ l))
      go [] e rec = run_as id x l e (old (omega (arith, run_le r)) e (rec id))
      go (j ∷ seen) e rec = run_as id x l e (due refl (due refl (rec (suc (suc id)))))
