use native.Mathlib.Omega.{arith}
use mathlib.Core.Path.{◌≡◌, sym, ◌∙◌}
use Rattle.vertices.proofs.Actives.{low_more, low_end}
use Rattle.vertices.proofs.lowest.Goals as goal

pub returns-then-ring-i : goal.returns-then-ring-i
returns-then-ring-i c = sym (c.loop-i.invariant ∙ low_more _ _ _ c.loop-i-test.true ∙ rw c.if-ring-i.true)

pub loop-i-preserved : goal.loop-i-preserved
loop-i-preserved c = c.loop-i.invariant ∙ low_more _ _ _ c.loop-i-test.true ∙ rw c.if-ring-i.false

pub returns : goal.returns
returns c =
    let e : c.loop-i.i ≡ c.args.n = omega arith in
    sym (c.loop-i.invariant ∙ low_end _ _ _ c.loop-i-test.false ∙ e)
