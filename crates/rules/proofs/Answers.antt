-- What an entry gives back by the number of its refusal: laws of `unless` and of `over`, and for each entry that a refused call reports
-- nothing and leaves every lent element as it was, and that after 0 the elements beyond those reported keep their contents.
use Prim.Native.Nat.{ℕ, zero, suc, ◌*◌}
use mathlib.Core.Path.{◌≡◌, refl, sym, ◌∙◌, ap}
use mathlib.Core.Logic.{◌≢◌}
use mathlib.Core.List.{List, map}
use lib.ListN.{length, take, drop, length-map}
use lib.Seq.{drop-append_seam}
use lib.Ieee.{Float}
use Rattle.algebra.specs.Rings.{ring_of}
use Rattle.rules.specs.Plane.{Pt}
use Rattle.rules.specs.Grid.{point_of, points_of}
use Rattle.rules.specs.Cut.{cut}
use Rattle.rules.specs.Merge.{may_join, merge}
use Rattle.rules.specs.Layout.{flatten, triples, over}
use Rattle.rules.specs.Hull.{hull}
use Rattle.rules.specs.Refusals.{Row, first_refusal, cutter_checks, merger_checks, point_test_checks, hull_checks}
use Rattle.rules.specs.Border.{Position, outside}
use Rattle.rules.specs.Entries.{unless, Cutting, Merging, Asking, Hulling, triangles_of, triangles_for, cutter, merger, asking, huller, written_triangles, written_pieces, written_corners}
use Rattle.rules.specs.Lines.{Writing, writing}
use Rattle.rules.proofs.Layouts.{take-over, triangles-length, triangles-back, pieces-back}

-- ---- the laws

module _ {R : Type 0} (number : R → ℕ) (refused : ℕ → R) (answer : R) (is : (n : ℕ) → number (refused n) ≡ n) (done : number answer ≡ 0) where
  pub unless-number : (n : ℕ) → number (unless n refused answer) ≡ n
  unless-number zero = done
  unless-number (suc n) = is (suc n)

module _ {R : Type 0} (refused : ℕ → R) (answer : R) where
  pub unless-answered : {n : ℕ} → n ≡ 0 → unless n refused answer ≡ answer
  unless-answered e = ap (λ n. unless n refused answer) e

  pub unless_refused : {n : ℕ} → n ≢ 0 → unless n refused answer ≡ refused n
  unless_refused {n = zero} d = absurd (d refl)
  unless_refused {n = suc n} d = refl

pub over-beyond : {A : Type 0} (written old : List A) → drop (length written) (over written old) ≡ drop (length written) old
over-beyond written old = drop-append_seam written (drop (length written) old)

-- ---- the cutter

module _ (cs : List Float) (out : List ℕ) where
  abbrev triangles : List (List ℕ)
  triangles = triangles_for (points_of cs)

  pub cutter-number : (cutter cs out).number ≡ first_refusal (cutter_checks cs (length out))
  unfolding cutter
  cutter-number = unless-number (λ (r : Cutting). r.number) _ _ (λ n. refl) refl (first_refusal (cutter_checks cs (length out)))

  pub cutter-answered : (cutter cs out).number ≡ 0 → cutter cs out ≡ record { number = 0; count = length triangles; indices = over (flatten triangles) out }
  unfolding cutter
  cutter-answered e = unless-answered _ _ (sym cutter-number ∙ e)

  pub cutter_refused : (cutter cs out).number ≢ 0 → cutter cs out ≡ record { number = (cutter cs out).number; count = 0; indices = out }
  unfolding cutter
  cutter_refused d = unless_refused _ _ (λ e. d (cutter-number ∙ e)) ∙ ap (λ n. record { number = n; count = 0; indices = out }) (sym cutter-number)

  -- a refused call reports no triangle and leaves every lent index as it was
  pub cutter_none : (cutter cs out).number ≢ 0 → ((cutter cs out).count ≡ 0) × ((cutter cs out).indices ≡ out)
  cutter_none d = (ap (λ (r : Cutting). r.count) (cutter_refused d), ap (λ (r : Cutting). r.indices) (cutter_refused d))

  pub three-each : length (flatten triangles) ≡ 3 * length triangles
  unfolding triangles_for
  three-each = let ts = triangles_of (cut (points_of cs)) in triangles-length ts ∙ ap (λ (n : ℕ). 3 * n) (sym (length-map ts ring_of))

  -- what was written, index by index, and as triangles
  pub cutter-indices : (cutter cs out).number ≡ 0 → take (3 * (cutter cs out).count) (cutter cs out).indices ≡ flatten triangles
  cutter-indices e = rw (cutter-answered e, ← three-each) (take-over (flatten triangles) out)

  pub cutter-written : (cutter cs out).number ≡ 0 → written_triangles (cutter cs out) ≡ triangles
  unfolding triangles_for
  cutter-written e = ap triples (cutter-indices e) ∙ triangles-back (triangles_of (cut (points_of cs)))

  -- after 0, what lies beyond the reported triangles keeps its contents
  pub cutter-beyond : (cutter cs out).number ≡ 0 → drop (3 * (cutter cs out).count) (cutter cs out).indices ≡ drop (3 * (cutter cs out).count) out
  cutter-beyond e = rw (cutter-answered e, ← three-each) (over-beyond (flatten triangles) out)

-- ---- the merger

module _ (cs : List Float) (triangles out lens : List ℕ) where
  abbrev pieces : List (List ℕ)
  pieces = merge (may_join (points_of cs)) (triples triangles)

  pub merger-number : (merger cs triangles out lens).number ≡ first_refusal (merger_checks cs triangles (length out) (length lens))
  unfolding merger
  merger-number = unless-number (λ (r : Merging). r.number) _ _ (λ n. refl) refl (first_refusal (merger_checks cs triangles (length out) (length lens)))

  pub merger-answered : (merger cs triangles out lens).number ≡ 0 → merger cs triangles out lens ≡ record { number = 0; count = length pieces; indices = over (flatten pieces) out; lengths = over (map length pieces) lens }
  unfolding merger
  merger-answered e = unless-answered _ _ (sym merger-number ∙ e)

  pub merger_refused : (merger cs triangles out lens).number ≢ 0 → merger cs triangles out lens ≡ record { number = (merger cs triangles out lens).number; count = 0; indices = out; lengths = lens }
  unfolding merger
  merger_refused d = unless_refused _ _ (λ e. d (merger-number ∙ e)) ∙ ap (λ n. record { number = n; count = 0; indices = out; lengths = lens }) (sym merger-number)

  -- a refused call reports no piece and leaves every lent index and length as it was
  pub merger_none : (merger cs triangles out lens).number ≢ 0 → ((merger cs triangles out lens).count ≡ 0) × ((merger cs triangles out lens).indices ≡ out) × ((merger cs triangles out lens).lengths ≡ lens)
  merger_none d =
      let e = merger_refused d in
      (ap (λ (r : Merging). r.count) e, ap (λ (r : Merging). r.indices) e, ap (λ (r : Merging). r.lengths) e)

  pub merger-written : (merger cs triangles out lens).number ≡ 0 → written_pieces (merger cs triangles out lens) ≡ pieces
  merger-written e =
      let n : length pieces ≡ length (map length pieces) = sym (length-map pieces length) in
      rw (merger-answered e, n, take-over (map length pieces) lens) (pieces-back pieces (drop (length (flatten pieces)) out))

  -- after 0, what lies beyond the reported pieces keeps its contents
  abbrev corners : ℕ
  corners = length (flatten (written_pieces (merger cs triangles out lens)))

  pub merger-beyond : (merger cs triangles out lens).number ≡ 0 → drop corners (merger cs triangles out lens).indices ≡ drop corners out
  merger-beyond e = rw (merger-written e, merger-answered e) (over-beyond (flatten pieces) out)

  pub merger-lengths-beyond : (merger cs triangles out lens).number ≡ 0 → drop (merger cs triangles out lens).count (merger cs triangles out lens).lengths ≡ drop (merger cs triangles out lens).count lens
  merger-lengths-beyond e =
      let n : length pieces ≡ length (map length pieces) = sym (length-map pieces length) in
      rw (merger-answered e, n) (over-beyond (map length pieces) lens)

-- ---- the point tests

module _ (test : Pt → List Pt → Position) (x y : Float) (cs : List Float) where
  pub asking-number : (asking test x y cs).number ≡ first_refusal (point_test_checks x y cs)
  unfolding asking
  asking-number = unless-number (λ (r : Asking). r.number) _ _ (λ n. refl) refl (first_refusal (point_test_checks x y cs))

  pub asking-answered : (asking test x y cs).number ≡ 0 → asking test x y cs ≡ record { number = 0; answer = test (point_of x y) (points_of cs) }
  unfolding asking
  asking-answered e = unless-answered _ _ (sym asking-number ∙ e)

  pub asking_refused : (asking test x y cs).number ≢ 0 → asking test x y cs ≡ record { number = (asking test x y cs).number; answer = outside }
  unfolding asking
  asking_refused d = unless_refused _ _ (λ e. d (asking-number ∙ e)) ∙ ap (λ n. record { number = n; answer = outside }) (sym asking-number)

  -- a refused question is answered with outside
  pub asking_none : (asking test x y cs).number ≢ 0 → (asking test x y cs).answer ≡ outside
  asking_none d = ap (λ (r : Asking). r.answer) (asking_refused d)

-- ---- the hull of a cloud

module _ (cs : List Float) (out : List ℕ) where
  abbrev hulled : List ℕ
  hulled = hull (points_of cs)

  pub huller-number : (huller cs out).number ≡ first_refusal (hull_checks cs (length out))
  unfolding huller
  huller-number = unless-number (λ (r : Hulling). r.number) _ _ (λ n. refl) refl (first_refusal (hull_checks cs (length out)))

  pub huller-answered : (huller cs out).number ≡ 0 → huller cs out ≡ record { number = 0; count = length hulled; indices = over hulled out }
  unfolding huller
  huller-answered e = unless-answered _ _ (sym huller-number ∙ e)

  pub huller_refused : (huller cs out).number ≢ 0 → huller cs out ≡ record { number = (huller cs out).number; count = 0; indices = out }
  unfolding huller
  huller_refused d = unless_refused _ _ (λ e. d (huller-number ∙ e)) ∙ ap (λ n. record { number = n; count = 0; indices = out }) (sym huller-number)

  -- a refused call reports no corner and leaves every lent index as it was
  pub huller_none : (huller cs out).number ≢ 0 → ((huller cs out).count ≡ 0) × ((huller cs out).indices ≡ out)
  huller_none d = (ap (λ (r : Hulling). r.count) (huller_refused d), ap (λ (r : Hulling). r.indices) (huller_refused d))

  pub huller-written : (huller cs out).number ≡ 0 → written_corners (huller cs out) ≡ hulled
  huller-written e = rw (huller-answered e) (take-over hulled out)

  -- after 0, what lies beyond the reported corners keeps its contents
  pub huller-beyond : (huller cs out).number ≡ 0 → drop (huller cs out).count (huller cs out).indices ≡ drop (huller cs out).count out
  huller-beyond e = rw (huller-answered e) (over-beyond hulled out)

-- ---- lines of text

module _ (rows : List Row) (line out : List ℕ) where
  pub writing-number : (writing rows line out).number ≡ first_refusal rows
  unfolding writing
  writing-number = unless-number (λ (r : Writing). r.number) _ _ (λ n. refl) refl (first_refusal rows)

  pub writing-answered : first_refusal rows ≡ 0 → writing rows line out ≡ record { number = 0; count = length line; text = over line out }
  unfolding writing
  writing-answered e = unless-answered _ _ e

  pub writing_refused : first_refusal rows ≢ 0 → writing rows line out ≡ record { number = first_refusal rows; count = 0; text = out }
  unfolding writing
  writing_refused d = unless_refused _ _ d
