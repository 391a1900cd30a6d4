use Prim.Native.Nat.{ℕ, suc, ◌+◌, ◌-◌, ◌<◌}
use native.Mathlib.Nat.{sub-zero}
use native.Mathlib.Omega.{arith}
use mathlib.Core.Path.{◌≡◌, ◌∙◌, ap, subst}
use mathlib.Core.List.{List, []}
use lib.ListN.{length}
use Rattle.algebra.specs.Lists.{Each}
use Rattle.rules.specs.Hull.{rightward, leftward}
use Rattle.rules.specs.Layout.{over}
use Rattle.hulls.specs.Rounds.{begun}
use Rattle.hulls.proofs.Farthest.{support_in}
use Rattle.hulls.proofs.Straight.{some_point}
use Rattle.hulls.proofs.Promise.{hull-room}
use Rattle.grid.specs.Listed.{listed}
use Rattle.seeing.proofs.Scans.{all_there}
use Rattle.convex_hull2.proofs.Walking.{Going, first-room, going_first, going_begun, going_next, going_marked, going_hull, going_count, settled_none, rounds_none}
use Rattle.convex_hull2.proofs.walk.Goals as goal
use Rattle.convex_hull2.proofs.walk.Goals.{else-loop-test, then-loop-test+then-settled}

pub invariant_of-chosen : goal.invariant_of-chosen
invariant_of-chosen c = record { within = all_there _ _ c.requires.all }

pub lay_two-requires : goal.lay_two-requires
lay_two-requires c =
    let some = some_point _ c.requires.turns in
    let right : c.args.right < length (listed c.args.cloud.now.points) = rw c.requires.ends.0 (support_in _ some rightward) in
    let left : c.args.left < length (listed c.args.cloud.now.points) = rw c.requires.ends.1 (support_in _ some leftward) in
    let few = c.args.cloud.now.few in
    let room = first-room _ few c.requires.turns _ _ _ c.requires.all c.requires.ends.0 c.requires.ends.1 in
    record { ends = (right, left, right); low = (omega (arith, few, right), omega (arith, few, left)); room = rw c.new-ring.ensures (omega (arith, room)) }

pub loop-init : goal.loop-init
loop-init c =
    rw sub-zero (going_first _ c.args.cloud.now.few c.requires.turns _ _ _ c.requires.all c.requires.ends.0 c.requires.ends.1 (rw c.new-ring.ensures at c.lay_two.ensures))

pub sweep-requires : goal.sweep-requires
sweep-requires c =
    let next : length c.args.all.now - c.loop.counter ≡ suc (length c.args.all.now - (c.loop.counter + 1)) = omega (arith, c.loop-test.true) in
    let on = subst (Going (listed c.args.cloud.now.points) c.loop.ring) next c.loop.invariant in
    record {
      held = (
        begun [] on.facets,
        going_begun _ c.args.cloud.now.few on c.first_unseen.result c.as_slice-laid.ensures.same c.as_slice-laid.ensures.same c.unwrap_or-start.ensures c.first_unseen.ensures.first
            c.begin_at.ensures,
      );
    }

pub loop-preserved : goal.loop-preserved
loop-preserved c =
    let next : length c.args.all.now - c.loop.counter ≡ suc (length c.args.all.now - (c.loop.counter + 1)) = omega (arith, c.loop-test.true) in
    let on = subst (Going (listed c.args.cloud.now.points) c.loop.ring) next c.loop.invariant in
    let held =
    going_begun _ c.args.cloud.now.few on c.first_unseen.result c.as_slice-laid.ensures.same c.as_slice-laid.ensures.same c.unwrap_or-start.ensures c.first_unseen.ensures.first c.begin_at.ensures
    in
    going_next _ c.args.cloud.now.few on (c.sweep.ensures (begun [] on.facets) held)

pub write_corners-requires : goal.write_corners-requires
write_corners-requires c =
    let few = c.args.cloud.now.few in
    let unseen : Each (λ f. f.seen ≡ []) c.loop.invariant.facets =
    elim c.loop-test.branch [
      | else-loop-test w ↦ rounds_none _ few c.loop.invariant (omega (arith, w.loop-test.false))
      | then-loop-test+then-settled w ↦ settled_none _ few c.loop.invariant (rw w.as_slice.ensures.same at (w.settled.ensures.0 w.if-settled.true))
    ] in
    record {
      room = rw c.as_slice-corners.ensures.same (omega (arith, going_count _ few c.requires.turns c.loop.invariant unseen, hull-room _ c.requires.turns, c.requires.room));
      marked = rw c.as_slice-corners.ensures.same (going_marked _ few c.requires.turns c.loop.invariant unseen);
    }

pub returns : goal.returns
returns c =
    let few = c.args.cloud.now.few in
    let unseen : Each (λ f. f.seen ≡ []) c.loop.invariant.facets =
    elim c.loop-test.branch [
      | else-loop-test w ↦ rounds_none _ few c.loop.invariant (omega (arith, w.loop-test.false))
      | then-loop-test+then-settled w ↦ settled_none _ few c.loop.invariant (rw w.as_slice.ensures.same at (w.settled.ensures.0 w.if-settled.true))
    ] in
    record {
      count = rw c.as_slice-corners.ensures.same (going_count _ few c.requires.turns c.loop.invariant unseen);
      indices =
          c.write_corners.ensures
          ∙ ap (λ (h : List ℕ). over h c.args.indices.now) (rw c.as_slice-corners.ensures.same (going_hull _ few c.requires.turns c.loop.invariant unseen));
    }
