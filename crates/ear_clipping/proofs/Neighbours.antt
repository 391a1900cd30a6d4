-- The loop that looks for equal neighbours.
use mathlib.Core.Path.{◌≡◌, refl, sym, ◌∙◌}
use mathlib.Core.Bool.{Bool, true, false, or_comm}
use mathlib.Core.List.{List, [], ◌∷◌}
use Rattle.algebra.specs.Lists.{any}
use Rattle.algebra.specs.Rings.{Edge, edges}
use Rattle.rules.specs.Plane.{Pt, same}
use Rattle.rules.specs.Refusals.{equal_neighbours}
use Rattle.grid.specs.declared.point.Point.{Point}
use Rattle.grid.specs.Points.{pt_of}
use Rattle.grid.proofs.Walks.{edge}

-- no edge that was passed has equal ends
unfoldable pub Apart : List Pt → List (Edge Pt) → Type 0
Apart ps es = equal_neighbours ps ≡ any (λ e. same e.from e.to) es

pub all_edges : (ps : List Pt) → Apart ps (edges ps)
unfolding equal_neighbours Apart
all_edges ps = refl

module _ (ps : List Pt) (a b : Point) (t : Bool) (is : t ≡ same (pt_of a) (pt_of b)) where
  pub edge_equal : t ≡ true → (es : List (Edge Pt)) → Apart ps (edge a b ∷ es) → true ≡ equal_neighbours ps
  unfolding Apart
  edge_equal e es k = sym (k ∙ rw (sym is ∙ e))

  pub edge_more : t ≡ false → (es : List (Edge Pt)) → Apart ps (edge a b ∷ es) → Apart ps es
  unfolding Apart
  edge_more e es k = k ∙ rw (sym is ∙ e)

  pub edge_last : Apart ps (edge a b ∷ []) → t ≡ equal_neighbours ps
  unfolding Apart
  edge_last k = is ∙ sym (k ∙ or_comm (same (pt_of a) (pt_of b)) false)
