-- The search for the first facet that no point sees: from place to place of the ring's facets.
use Prim.Native.Nat.{ℕ, ◌+◌, ◌≤◌, ◌<◌}
use native.Mathlib.Omega.{arith}
use mathlib.Core.Path.{◌≡◌, refl, sym, ◌∙◌, ap, ap₂}
use mathlib.Core.Logic.{◌≢◌}
use mathlib.Core.Bool.{Bool, true, false, cond}
use mathlib.Core.List.{List, [], ◌∷◌, ◌++◌, append-nil, append_assoc}
use lib.ListN.{length, take, drop, length-append}
use lib.Seq.{take_at, drop_at}
use Rattle.algebra.specs.Rings.{begun_at}
use Rattle.algebra.proofs.Lists.{each_back, each_head}
use Rattle.hulls.specs.Rounds.{Facet, begun, unseen}
use Rattle.facets.specs.Laid.{mark_of, leading, laid}
use Rattle.facets.proofs.Facets.{Low, laid_cons, laid_nil, laid_++, ends_at, some_facet, no_facet}

-- the facets in front of place p are seen
pub record Passing (facets : List Facet) (p : ℕ) : Type 0 where
  pub front : List Facet
  pub back : List Facet
  pub whole : facets ≡ front ++ back
  pub place : length (laid front) ≡ p
  pub same : begun [] facets ≡ begun front back

pub passing_none : (facets : List Facet) → Passing facets 0
unfolding laid
passing_none facets = record { front = []; back = facets; whole = refl; place = refl; same = refl }

module _ (front : List Facet) (f : Facet) (rest : List Facet) where
  begun_here : unseen f.seen ≡ true → begun front (f ∷ rest) ≡ (f ∷ rest) ++ front
  unfolding begun
  begun_here e = ap (λ (t : Bool). cond t ((f ∷ rest) ++ front) (begun (front ++ f ∷ []) rest)) e

  begun-later : unseen f.seen ≡ false → begun front (f ∷ rest) ≡ begun (front ++ f ∷ []) rest
  unfolding begun
  begun-later e = ap (λ (t : Bool). cond t ((f ∷ rest) ++ front) (begun (front ++ f ∷ []) rest)) e

some_seen : (l : List ℕ) → 0 < length l → unseen l ≡ false
some_seen [] h = absurd (omega arith)
some_seen (i ∷ l) h = refl

none_seen : (l : List ℕ) → length l ≡ 0 → unseen l ≡ true
none_seen [] h = refl
none_seen (i ∷ l) h = absurd (omega arith)

module _ (ring : List ℕ) (facets : List Facet) (low : Low facets) (is : ring ≡ laid facets) {p : ℕ} (b : Passing facets p) where
  split_at : ring ≡ laid b.front ++ laid b.back
  split_at = is ∙ ap laid b.whole ∙ laid_++ b.front b.back

  behind : drop p ring ≡ laid b.back
  behind = ap (drop p) split_at ∙ drop_at (laid b.front) (laid b.back) p b.place

  before : take p ring ≡ laid b.front
  before = ap (take p) split_at ∙ take_at (laid b.front) (laid b.back) p b.place

  back_low : Low b.back
  back_low = each_back b.front b.back (rw b.whole at low)

  module _ (h : p < length ring) (led : ℕ) (led_is : led ≡ leading (drop (p + 1) ring)) where
    module _ (f : Facet) (rest : List Facet) (e : b.back ≡ f ∷ rest) where
      here : drop p ring ≡ laid (f ∷ rest)
      here = behind ∙ ap laid e

      seen_is : led ≡ length f.seen
      seen_is = led_is ∙ ends_at ring p f rest here (each_head (rw e at back_low))

      more : led ≢ 0 → Passing facets (p + (1 + led))
      more d = record {
        front = b.front ++ f ∷ [];
        back = rest;
        whole = b.whole ∙ ap (λ (l : List Facet). b.front ++ l) e ∙ sym (append_assoc b.front (f ∷ []) rest);
        place =
            ap length (laid_++ b.front (f ∷ []) ∙ ap (λ (l : List ℕ). laid b.front ++ l) (laid_cons f [] ∙ ap (λ (l : List ℕ). mark_of f.from ∷ (f.seen ++ l)) laid_nil)) ∙ sizes;
        same = b.same ∙ ap (begun b.front) e ∙ begun-later b.front f rest (some_seen f.seen (omega (arith, seen_is)));
      }
        where
          sizes : length (laid b.front ++ (mark_of f.from ∷ (f.seen ++ []))) ≡ p + (1 + led)
          sizes = omega (arith, length-append (laid b.front) (mark_of f.from ∷ (f.seen ++ [])), length-append f.seen [], b.place, seen_is)

      found : led ≡ 0 → laid (begun [] facets) ≡ begun_at p ring
      found d =
          ap laid (b.same ∙ ap (begun b.front) e ∙ begun_here b.front f rest (none_seen f.seen (omega (arith, seen_is))))
          ∙ laid_++ (f ∷ rest) b.front ∙ ap₂ ◌++◌ (sym here) (sym before)

    pub passing_more : led ≢ 0 → Passing facets (p + (1 + led))
    passing_more d = let (f, rest, e) = some_facet ring p b.back h behind in more f rest e d

    pub passing_found : led ≡ 0 → laid (begun [] facets) ≡ begun_at p ring
    passing_found d = let (f, rest, e) = some_facet ring p b.back h behind in found f rest e d

  pub passing_end : length ring ≤ p → laid (begun [] facets) ≡ ring
  unfolding begun
  passing_end h =
      let e : b.back ≡ [] = no_facet ring p b.back h behind in
      ap laid (b.same ∙ ap (begun b.front) e) ∙ sym (is ∙ ap laid (b.whole ∙ ap (λ (l : List Facet). b.front ++ l) e ∙ append-nil b.front))
