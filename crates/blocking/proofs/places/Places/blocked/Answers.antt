use native.Mathlib.Nat.{mod-lt, lt_of_lt_of_le}
use Prim.Native.Nat.{◌^◌, ◌%◌, ◌<◌}
use native.Mathlib.Omega.{arith}
use mathlib.Core.Path.{◌≡◌}
use lib.Pow.{pow_pos}
use Rattle.algebra.proofs.Bits.{one_shifted}
use Rattle.blocking.proofs.Answers.{looked_more, none_there, hit, free}
use Rattle.blocking.proofs.places.Places.blocked.Goals as goal

pub loop-mask-init : goal.loop-mask-init
loop-mask-init c = λ g p n. absurd (n p)

pub returns-then-eight_block : goal.returns-then-eight_block
returns-then-eight_block c =
    λ ps o.
    hit ps _ o _ _ _ c.requires _ c.new-sides.ensures c.ilog2-g.result c.ilog2-g.ensures.bound c.eight_block.ensures c.if-eight_block.true

pub loop-mask-smaller : goal.loop-mask-smaller
loop-mask-smaller c =
    let low : c.loop-mask.mask % 2 ^ c.ilog2-g.result < 2 ^ c.ilog2-g.result = mod-lt _ (pow_pos c.ilog2-g.result) in
    rw (one_shifted c.ilog2-g.result c.ilog2-g.ensures.bound) (lt_of_lt_of_le low c.ilog2-g.ensures.power_le)

pub loop-mask-preserved : goal.loop-mask-preserved
loop-mask-preserved c =
    rw (one_shifted c.ilog2-g.result c.ilog2-g.ensures.bound)
    (looked_more _ _ _ _ c.ilog2-g.result c.ilog2-g.ensures.next_power_gt c.eight_block.ensures c.if-eight_block.false c.loop-mask.invariant)

pub returns : goal.returns
returns c =
    let none : c.loop-mask.mask ≡ 0 = omega arith in
    λ ps o.
    free ps _ o _ _ _ c.requires _ c.new-sides.ensures _ c.candidates-mask.ensures (λ g h. c.loop-mask.invariant g h (λ q. none_there g (rw none at q)))
