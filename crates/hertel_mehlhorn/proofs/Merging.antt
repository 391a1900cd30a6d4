-- The steps of the merge, on the state: what is finished is written, and the rest is still to be merged.
use Prim.Native.Nat.{ℕ, ◌+◌, ◌-◌, ◌*◌, ◌/◌, ◌%◌, ◌<◌, ◌≤◌}
use native.Mathlib.Omega.{arith}
use mathlib.Core.Path.{◌≡◌, refl, ap, sym, subst, ◌∙◌}
use mathlib.Core.List.{List, [], ◌∷◌, ◌++◌, map, map-append, append_assoc, append-nil}
use lib.ListN.{length, get_or, set, take, drop, length-append, length-map}
use borrow.Rule.Slice.PartMut.{put_mid}
use Rattle.algebra.specs.Lists.{Each}
use Rattle.rules.specs.Merge.{JoinTest, merge}
use Rattle.rules.specs.Layout.{flatten, triples, over}
use Rattle.rules.proofs.Layouts.{triples-each}
use Rattle.rules.proofs.QueueArrays.{length_from}
use Rattle.pieces.proofs.Reading.{length_triples}
use Rattle.joins.specs.declared.ring.Ring.{Ring}
use Rattle.joins.specs.Ring.{places, corners}
use Rattle.joins.specs.Growing.{Finished}
use Rattle.hertel_mehlhorn.specs.Promise.{Written}
use Rattle.hertel_mehlhorn.proofs.Outputs.{flat_append, Built, built_length, built_put, built_lent}

-- of n points. `count` pieces are finished and written, up to `end`; `size` is the number of given indices
pub record Work (may : JoinTest) (n : ℕ) (given : List (List ℕ)) (size : ℕ) (out₀ lens₀ : List ℕ) (later : List (List ℕ)) (out lens : List ℕ) (count end : ℕ) : Type 0 where
  pub done : List (List ℕ)
  pub merges : merge may given ≡ done ++ merge may later
  pub number : length done ≡ count
  pub out_is : Built out₀ out (flatten done) end
  pub lens_is : Built lens₀ lens (map length done) count
  pub known : Each (Each (λ v. v < n)) later
  pub small : end + 3 * length later ≤ size
  pub few : 3 * (count + length later) ≤ size

pub work_first :
    (may : JoinTest) (n : ℕ) (triangles out₀ lens₀ : List ℕ) → Each (λ v. v < n) triangles → length triangles % 3 ≡ 0
    → Work may n (triples triangles) (length triangles) out₀ lens₀ (triples triangles) out₀ lens₀ 0 0
unfolding flatten
work_first may n triangles out₀ lens₀ below whole = record {
  done = [];
  merges = refl;
  number = refl;
  out_is = record { is = refl; size = refl };
  lens_is = record { is = refl; size = refl };
  known = triples-each below;
  small = omega (arith, length_triples triangles whole);
  few = omega (arith, length_triples triangles whole);
}

module _
    {may : JoinTest} {n : ℕ} {given : List (List ℕ)} {size : ℕ} {out₀ lens₀ : List ℕ} {later : List (List ℕ)} {out lens : List ℕ} {count end : ℕ}
    (work : Work may n given size out₀ lens₀ later out lens count end) (room : size ≤ length out₀) (room_for_lengths : size / 3 ≤ length lens₀) where
  pub out_size : length out ≡ length out₀
  out_size = built_length out₀ out (flatten work.done) end work.out_is (omega (arith, work.small))

  pub lens_size : length lens ≡ length lens₀
  lens_size = built_length lens₀ lens (map length work.done) count work.lens_is (omega (arith, work.few))

  module _ {first : List ℕ} {rest : List (List ℕ)} (is : later ≡ first ∷ rest) {ring : Ring} {left : List (List ℕ)} (f : Finished may n first rest ring left) where
    -- room for what is to be written
    pub fits : (end + ring.len ≤ length out) × (count < length lens)
    fits = (omega (arith, work.small, f.total, f.three, ap length is, out_size), omega (arith, work.few, ap length is, lens_size))

    pub work_next :
        (ys : List ℕ) → ys ≡ over (corners ring) (take (length out - end) (drop end out))
        → Work may n given size out₀ lens₀ left (put_mid end (length out - end) out ys) (set lens count ring.len) (count + 1) (end + ring.len)
    unfolding flatten
    work_next ys e =
        let piece = corners ring in
        let long : length piece ≡ ring.len = length-map (places ring) (λ (i : ℕ). get_or ring.corners i 0) ∙ length_from ring.next ring.start ring.len in
        record {
          done = work.done ++ piece ∷ [];
          merges = work.merges ∙ ap (λ (l : List (List ℕ)). work.done ++ merge may l) is ∙ ap (λ (l : List (List ℕ)). work.done ++ l) f.merges ∙ sym (append_assoc work.done (piece ∷ []) _);
          number = length-append work.done (piece ∷ []) ∙ omega (arith, work.number);
          out_is =
              subst (λ (l : List ℕ). Built out₀ (put_mid end (length out - end) out ys) l (end + ring.len)) (sym (flat_append work.done (piece ∷ []) ∙ ap (λ (l : List ℕ). flatten work.done ++ l) (append-nil piece)))
              (subst (λ (m : ℕ). Built out₀ (put_mid end (length out - end) out ys) (flatten work.done ++ piece) (end + m)) long (built_lent out₀ out (flatten work.done) piece ys end work.out_is e));
          lens_is =
              subst (λ (l : List ℕ). Built lens₀ (set lens count ring.len) l (count + 1)) (sym (map-append length work.done (piece ∷ []) ∙ ap (λ (m : ℕ). map length work.done ++ m ∷ []) long))
              (built_put lens₀ lens (map length work.done) count ring.len work.lens_is (omega (arith, fits, lens_size)));
          known = f.known;
          small = omega (arith, work.small, f.total, f.three, ap length is);
          few = omega (arith, work.few, f.total, f.three, ap length is);
        }

  pub work_done : later ≡ [] → Written (merge may given) out₀ lens₀ count out lens
  unfolding merge
  work_done none =
      let all : merge may given ≡ work.done = work.merges ∙ ap (λ (l : List (List ℕ)). work.done ++ merge may l) none ∙ append-nil work.done in
      rw all (record { count = sym work.number; indices_are = work.out_is.is; lengths_are = work.lens_is.is })
