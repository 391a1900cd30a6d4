use Prim.Native.Nat.{ℕ, ◌+◌, ◌≤◌, ◌<◌}
use mathlib.Core.Path.{◌≡◌, refl, sym, ◌∙◌}
use mathlib.Core.Bool.{Bool, not, ◌||◌, or-false, or_assoc}
use mathlib.Core.List.{List}
use lib.ListN.{length, get_or, drop, drop_of_length-le}
use lib.Ieee.{Float, nan}
use Rattle.algebra.proofs.Lists.{any_next}
use Rattle.rules.specs.Grid.{on_grid}
use Rattle.rules.specs.Refusals.{off_grid}
use Rattle.grid.proofs.off_grid.Goals as goal

part : (cs : List Float) (i : ℕ) → i < length cs → off_grid (drop i cs) ≡ (not (on_grid (get_or cs i nan)) || off_grid (drop (i + 1) cs))
unfolding off_grid
part cs i h = any_next nan _ cs i h

more :
    (cs : List Float) (i : ℕ) → i < length cs → (off on off' : Bool) → on ≡ on_grid (get_or cs i nan) → off' ≡ (off || not on)
    → (off || off_grid (drop i cs)) ≡ (off' || off_grid (drop (i + 1) cs))
more cs i h off on off' e f = rw (part cs i h, f, e) (sym (or_assoc off (not (on_grid (get_or cs i nan))) (off_grid (drop (i + 1) cs))))

at-end : (cs : List Float) (i : ℕ) → length cs ≤ i → (off : Bool) → (off || off_grid (drop i cs)) ≡ off
unfolding off_grid
at-end cs i h off = rw (drop_of_length-le cs h) (or-false off)

pub loop-c-preserved : goal.loop-c-preserved
loop-c-preserved c = c.loop-c.invariant ∙ more _ _ c.loop-c-test.true c.loop-c.off _ _ c.on_grid.ensures refl

pub returns : goal.returns
returns c = sym (c.loop-c.invariant ∙ at-end _ _ c.loop-c-test.false c.loop-c.off)
