-- The row of the asked point.
use mathlib.Core.Path.{◌≡◌, refl, sym, ◌∙◌, ap}
use mathlib.Core.Bool.{Bool, true, false, not, ◌&&◌}
use mathlib.Core.List.{[], ◌∷◌}
use lib.Ieee.{Float}
use Rattle.rules.specs.Grid.{on_grid}
use Rattle.rules.specs.Refusals.{◌gives◌, first_refusal, off_grid}
use Rattle.rules.proofs.Rows.{row_on, row_off, no_rows}

module _ (x y : Float) where
  off_is : (t u : Bool) → t ≡ on_grid x → u ≡ on_grid y → off_grid (x ∷ y ∷ []) ≡ not (t && u)
  unfolding off_grid
  off_is true true h k = rw (← h, ← k) refl
  off_is true false h k = rw (← h, ← k) refl
  off_is false u h k = rw (← h) refl

  module _ {t u : Bool} (h : t ≡ on_grid x) (k : u ≡ on_grid y) where
    pub spot_off : (t && u) ≡ false → 4 ≡ first_refusal (off_grid (x ∷ y ∷ []) gives 4 ∷ [])
    spot_off e = sym (row_on 4 [] (off_is t u h k ∙ ap not e))

    pub spot_on : (t && u) ≡ true → 0 ≡ first_refusal (off_grid (x ∷ y ∷ []) gives 4 ∷ [])
    spot_on e = sym (row_off 4 [] (off_is t u h k ∙ ap not e) ∙ no_rows)
