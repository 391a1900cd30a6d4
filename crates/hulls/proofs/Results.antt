-- Request M-104 over what the entry gives back: the corners written to lent memory, and refusal 12 exactly.
use Prim.Native.Nat.{ℕ, ◌≤◌, ◌<◌}
use mathlib.Core.Path.{◌≡◌, refl, sym, ◌∙◌, ap}
use mathlib.Core.Bool.{false}
use mathlib.Core.List.{List}
use lib.ListN.{length}
use lib.Ieee.{Float}
use Rattle.algebra.specs.Lists.{Each, Distinct}
use Rattle.algebra.specs.Rings.{edges}
use Rattle.rules.specs.Limits.{most_points}
use Rattle.rules.specs.Plane.{Pt}
use Rattle.rules.specs.Grid.{points_of}
use Rattle.rules.specs.Measure.{NoneRight}
use Rattle.rules.specs.Refusals.{first_refusal, on_one_line, count_checks, outline_checks, hull_checks}
use Rattle.rules.specs.Entries.{Hulling, huller, written_corners}
use Rattle.rules.proofs.Rows.{applies, row_on, front_skips, others_decide}
use Rattle.rules.proofs.Fronts.{cloud_front}
use Rattle.rules.proofs.Answers.{huller-number, huller-answered, huller-written}
use Rattle.rules.proofs.Accepted.{cloud}
use Rattle.hulls.specs.Cover.{AllLeft, OneLine, Promised}
use Rattle.hulls.proofs.Straight.{refused_line, line_refused}
use Rattle.hulls.proofs.Promise.{hull_promised, hull-room, hull-three}

-- ---- the hull

module _ (cs : List Float) (out : List ℕ) (ok : (huller cs out).number ≡ 0) where
  abbrev ps : List Pt
  ps = points_of cs

  abbrev corners : List ℕ
  corners = written_corners (huller cs out)

  off-line : on_one_line ps ≡ false
  off-line = (cloud cs (length out) (sym (huller-number cs out) ∙ ok)).off-line

  promised : Promised ps corners
  promised = rw (huller-written cs out ok) (hull_promised ps off-line)

  -- indices distinct and in range
  pub written-distinct : Distinct corners
  written-distinct = promised.distinct

  pub written_in_range : Each (λ i. i < length ps) corners
  written_in_range = promised.in_range

  -- no corner of the hull turns right
  pub written-none_right : NoneRight ps corners
  written-none_right = promised.none_right

  -- every given point is on or left of every hull edge
  pub written-all_left : Each (AllLeft ps) (edges corners)
  written-all_left = promised.all_left

  -- the count is that of the corners: at least three, and at most one for each point
  pub written_count : (huller cs out).count ≡ length corners
  written_count = ap (λ (r : Hulling). r.count) (huller-answered cs out ok) ∙ sym (ap length (huller-written cs out ok))

  pub written-three : 3 ≤ (huller cs out).count
  written-three = rw (huller-answered cs out ok) (hull-three ps off-line)

  pub written_most : (huller cs out).count ≤ length ps
  written_most = rw (huller-answered cs out ok) (hull-room ps off-line)

-- ---- refusal 12

module _ (cs : List Float) (out : List ℕ) where
  -- the number is 12 exactly if no earlier row applies and every three points turn straight
  pub record NoHull : Type 0 where
    pub no_earlier : first_refusal (outline_checks 2 most_points cs) ≡ 0
    pub one_line : OneLine (points_of cs)

  pub twelve→line : (huller cs out).number ≡ 12 → NoHull
  unfolding outline_checks count_checks
  twelve→line e =
      let front = cloud_front cs (length out) in
      let rows : first_refusal (hull_checks cs (length out)) ≡ 12 = sym (huller-number cs out) ∙ e in
      let early = front_skips front 12 refl rows in
      record { no_earlier = early; one_line = refused_line (points_of cs) (applies (on_one_line (points_of cs)) 11 _ refl (sym (others_decide front early) ∙ rows)) }

  pub line→twelve : NoHull → (huller cs out).number ≡ 12
  line→twelve h = huller-number cs out ∙ others_decide (cloud_front cs (length out)) h.no_earlier ∙ row_on 12 _ (line_refused (points_of cs) h.one_line)
