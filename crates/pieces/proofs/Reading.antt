-- The given triangles, read one by one into the store of pieces.
use Prim.Native.Nat.{ℕ, zero, suc, ◌+◌, ◌-◌, ◌*◌, ◌/◌, ◌%◌, ◌<◌}
use native.Mathlib.Omega.{arith}
use native.Mathlib.Decide.{ℕ_discrete}
use native.Mathlib.Nat.{lt_of_not-le}
use mathlib.Core.Path.{◌≡◌, refl, sym, ◌∙◌, ap, subst}
use mathlib.Core.List.{List, [], ◌∷◌}
use lib.ListN.{length, get_or}
use lib.Seq.{ext_get_or}
use Rattle.algebra.specs.Lists.{Each}
use Rattle.algebra.proofs.Lists.{each_at}
use Rattle.rules.specs.Layout.{triples}
use Rattle.pieces.specs.Pieces.{edge_of, start_of, end_of, piece_at, later, put_piece, shows, Lie}
use Rattle.pieces.proofs.Later.{length_from, from_at, three, other-piece, put_piece_lem, lie_put}

-- triangle k of a list of indices
abbrev pub triangle_at : List ℕ → ℕ → List ℕ
triangle_at l k = get_or l (3 * k) 0 ∷ get_or l (3 * k + 1) 0 ∷ get_or l (3 * k + 2) 0 ∷ []

pub length_triples : (l : List ℕ) → length l % 3 ≡ 0 → length (triples l) ≡ length l / 3
unfolding triples
length_triples [] h = refl
length_triples (a ∷ []) h = absurd (omega arith)
length_triples (a ∷ b ∷ []) h = absurd (omega arith)
length_triples (a ∷ b ∷ c ∷ l) h = let k : length l % 3 ≡ 0 = omega arith in omega (arith, length_triples l k)

triples-at : (l : List ℕ) (k : ℕ) → 3 * k + 2 < length l → get_or (triples l) k [] ≡ triangle_at l k
unfolding triples
triples-at [] k h = absurd (omega arith)
triples-at (a ∷ []) k h = absurd (omega arith)
triples-at (a ∷ b ∷ []) k h = absurd (omega arith)
triples-at (a ∷ b ∷ c ∷ l) zero h = refl
triples-at (a ∷ b ∷ c ∷ l) (suc k) h =
    let x : suc (suc (suc (3 * k))) ≡ 3 * suc k = omega arith in
    let y : suc (suc (suc (3 * k + 1))) ≡ 3 * suc k + 1 = omega arith in
    let z : suc (suc (suc (3 * k + 2))) ≡ 3 * suc k + 2 = omega arith in
    let at : ℕ → ℕ = λ i. get_or (a ∷ b ∷ c ∷ l) i 0 in
    triples-at l k (omega arith) ∙ three (ap at x) (ap at y) (ap at z)

-- k triangles are read
pub record Read (triangles edges eights : List ℕ) (k : ℕ) : Type 0 where
  pub lie : Lie edges eights 0 k
  pub same : (i : ℕ) → i < k → piece_at edges i ≡ triangle_at triangles i

pub read_first : (triangles edges eights : List ℕ) → length edges ≡ 1536 → length eights ≡ 512 → Read triangles edges eights 0
read_first triangles edges eights p q = record {
  lie = record { edges_size = p; eights_size = q; few = omega arith; each = λ k h l. absurd (omega arith) };
  same = λ i h. absurd (omega arith);
}

start_is : (s e : ℕ) → e < 512 → start_of (edge_of s e) ≡ s
start_is s e h = omega arith

end_is : (s e : ℕ) → e < 512 → end_of (edge_of s e) ≡ e
end_is s e h = omega arith

pub read_more :
    (triangles edges eights : List ℕ) (k : ℕ) → Read triangles edges eights k → k < 510 → Each (λ i. i < 512) triangles → 3 * k + 2 < length triangles
    → (let p = get_or triangles (3 * k) 0 in
    let q = get_or triangles (3 * k + 1) 0 in
    let r = get_or triangles (3 * k + 2) 0 in
    Read triangles (put_piece edges k (edge_of p q) (edge_of q r) (edge_of r p)) (shows eights k (edge_of p q) (edge_of q r) (edge_of r p)) (k + 1))
read_more triangles edges eights k d low below there = record {
  lie =
      lie_put edges eights k x y z d.lie.edges_size d.lie.eights_size (omega arith)
      (end_is p q q-low ∙ sym (start_is q r r-low)) (end_is q r r-low ∙ sym (start_is r p p-low)) (end_is r p p-low ∙ sym (start_is p q q-low))
      0 k (k + 1) d.lie (omega arith) (omega arith) (λ h. refl);
  same = λ i h. go i h (ℕ_discrete i k);
}
  where
    p : ℕ
    p = get_or triangles (3 * k) 0

    q : ℕ
    q = get_or triangles (3 * k + 1) 0

    r : ℕ
    r = get_or triangles (3 * k + 2) 0

    p-low : p < 512
    p-low = each_at 0 triangles (3 * k) (omega arith) below

    q-low : q < 512
    q-low = each_at 0 triangles (3 * k + 1) (omega arith) below

    r-low : r < 512
    r-low = each_at 0 triangles (3 * k + 2) (omega arith) below

    x : ℕ
    x = edge_of p q

    y : ℕ
    y = edge_of q r

    z : ℕ
    z = edge_of r p

    go : (i : ℕ) → i < k + 1 → Dec (i ≡ k) → piece_at (put_piece edges k x y z) i ≡ triangle_at triangles i
    go i h (yes e) =
        subst (λ (j : ℕ). piece_at (put_piece edges k x y z) j ≡ triangle_at triangles j) (sym e)
        (put_piece_lem edges k x y z (omega (arith, d.lie.edges_size)) ∙ three (start_is p q q-low) (start_is q r r-low) (start_is r p p-low))
    go i h (no e) = other-piece edges k x y z i e ∙ d.same i (lt_of_not-le λ b. e (omega arith))

pub read_all : (triangles edges eights : List ℕ) (k : ℕ) → Read triangles edges eights k → length triangles % 3 ≡ 0 → k ≡ length triangles / 3 → later edges 0 k ≡ triples triangles
read_all triangles edges eights k d whole is =
    ext_get_or [] (later edges 0 k) (triples triangles) (length_from edges 0 (k - 0) ∙ omega (arith, length_triples triangles whole)) λ i h. at i (omega (arith, length_from edges 0 (k - 0)))
  where
    at : (i : ℕ) → i < k → get_or (later edges 0 k) i [] ≡ get_or (triples triangles) i []
    at i h =
        let e : 0 + i ≡ i = omega arith in
        from_at edges 0 (k - 0) i (omega arith) ∙ ap (piece_at edges) e ∙ d.same i h ∙ sym (triples-at triangles i (omega arith))
