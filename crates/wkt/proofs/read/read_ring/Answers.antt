use Rattle.std.proofs.Common.{◌≡◌, rules, arith}
use Rattle.rules.specs.Text.{bytes}
use Rattle.decimals.proofs.Prefixes.{stripped, not_stripped}
use Rattle.wkt.specs.Reads.{NoRing, closing}
use Rattle.wkt.proofs.Forms.{no-first-point}
use Rattle.wkt.proofs.Passing.{passed_first, passed_more, no_next_point, one_point, not_closed, not_repeated, read}
use Rattle.wkt.proofs.read.read_ring.Goals as goal
use Rattle.wkt.proofs.read.read_ring.Goals.{then-count-lt2-via-then-count-lt2, then-count-lt2-via-else-count-lt2+then-ne, then-count-lt2-via-else-count-lt2+else-ne+then-ne-2}

pub returns-in_err-first-clause-no_ring : goal.returns-in_err-first-clause-no_ring
returns-in_err-first-clause-no_ring c = rw c.from_residual.ensures (no-first-point _ c.in_err-first.ensures.no_point)

pub loop-behind-init : goal.loop-behind-init
loop-behind-init c = rw c.put.ensures (passed_first _ c.told-coords c.in_ok-first.ensures.point)

pub returns-in_err-last-clause-no_ring : goal.returns-in_err-last-clause-no_ring
returns-in_err-last-clause-no_ring c = rw c.from_residual-in_err-last.ensures (no_next_point c.loop-behind.invariant (stripped _ (bytes ", ") c.in-Some.ensures.cases) c.in_err-last.ensures.no_point)

pub loop-behind-preserved : goal.loop-behind-preserved
loop-behind-preserved c = rw c.put-in-Some.ensures (passed_more c.loop-behind.invariant (stripped _ (bytes ", ") c.in-Some.ensures.cases) c.in_ok-last.ensures.point)

pub returns-then-count-lt2-clause-no_ring : goal.returns-then-count-lt2-clause-no_ring
returns-then-count-lt2-clause-no_ring c =
    let w = c.loop-behind.invariant in
    let alone = not_stripped _ (bytes ", ") c.in_default.ensures.cases in
    elim c.then-count-lt2.branch as (λ _. NoRing c.args.text.now) [
      | then-count-lt2-via-then-count-lt2 v ↦ one_point w alone v.if-count-lt2.true
      | then-count-lt2-via-else-count-lt2+then-ne v ↦ not_closed w alone (search rules)
      | then-count-lt2-via-else-count-lt2+else-ne+then-ne-2 v ↦ not_repeated w alone (search rules)
    ]

pub returns-clause-ring : goal.returns-clause-ring
returns-clause-ring c =
    let closed : c.loop-behind.last.rest.now ≡ closing = search rules in
    let same : c.loop-behind.last.written.now ≡ c.in_ok-first.first.written.now = search rules in
    read c.loop-behind.invariant closed same _ (omega arith) (omega arith)
