use Prim.Native.Nat.{◌+◌}
use Rattle.facets.proofs.Facets.{led_from}
use Rattle.facets.proofs.Firsts.{passing_none, passing_more, passing_found, passing_end}
use Rattle.facets.proofs.first_unseen.Goals as goal

pub loop-p-init : goal.loop-p-init
loop-p-init c = λ facets low is. passing_none facets

pub returns-then-seen-eq0-clause-first : goal.returns-then-seen-eq0-clause-first
returns-then-seen-eq0-clause-first c =
    λ facets low is. passing_found _ facets low is (c.loop-p.invariant facets low is) c.loop-p-test.true _ (led_from c.args.ring.now (c.loop-p.p + 1) c.leading-seen.ensures.value) c.if-seen-eq0.true

pub loop-p-preserved : goal.loop-p-preserved
loop-p-preserved c =
    λ facets low is. passing_more _ facets low is (c.loop-p.invariant facets low is) c.loop-p-test.true _ (led_from c.args.ring.now (c.loop-p.p + 1) c.leading-seen.ensures.value) c.if-seen-eq0.false

pub returns-clause-first : goal.returns-clause-first
returns-clause-first c = λ facets low is. passing_end _ facets low is (c.loop-p.invariant facets low is) c.loop-p-test.false
