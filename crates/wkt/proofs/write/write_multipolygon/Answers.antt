use Rattle.std.proofs.Common.{ℕ, ◌-◌, ◌≡◌, List, length, take, drop, arith, rules, length-drop}
use lib.Seq.{take_all}
use Rattle.grid.specs.Listed.{listed}
use Rattle.decimals.proofs.Texts.{partly_none, partly_byte, partly_fits, partly_more, partly_room, partly_then, partly_end, wrote_at_last}
use Rattle.wkt.proofs.Areas.{line_first, area_left, none_left, next_within, next_some, next_known, others_ahead}
use Rattle.wkt.proofs.write.write_multipolygon.Goals as goal

-- all behind the first
behind_first : (l : List ℕ) → take (length l - 1) (drop 1 l) ≡ drop 1 l
behind_first l = take_all (length l - 1) (drop 1 l) (omega (arith, length-drop 1 l))

pub push_word-requires : goal.push_word-requires
push_word-requires c = partly_fits _ _ (line_first (listed c.args.points.now) c.args.lengths.now c.args.indices.now c.requires.some c.requires.room.fits)

pub split_at-requires : goal.split_at-requires
split_at-requires c = next_within c.args.lengths.now c.args.indices.now 0 c.requires.some (record { known = c.requires.known; no_empty = c.requires.no_empty; within = c.requires.in_bounds })

pub write_area-requires-clause-known : goal.write_area-requires-clause-known
write_area-requires-clause-known c = rw c.split_at.ensures.front (next_known c.args.lengths.now c.args.indices.now 0 c.requires.some (record { known = c.requires.known; no_empty = c.requires.no_empty; within = c.requires.in_bounds }))

pub write_area-requires-clause-room : goal.write_area-requires-clause-room
write_area-requires-clause-room c =
    rw c.split_at.ensures.front
    (partly_fits _ _ (partly_more _ _ (line_first (listed c.args.points.now) c.args.lengths.now c.args.indices.now c.requires.some c.requires.room.fits) c.push_word.ensures))

pub loop-n-init : goal.loop-n-init
loop-n-init c = record {
  left = rw (behind_first c.args.lengths.now, c.split_at.ensures.back)
      (partly_none (partly_room (partly_more _ _ (partly_more _ _ (line_first (listed c.args.points.now) c.args.lengths.now c.args.indices.now c.requires.some c.requires.room.fits) c.push_word.ensures) (rw c.split_at.ensures.front at c.write_area.ensures))));
  ahead = rw (behind_first c.args.lengths.now, c.split_at.ensures.back)
      (others_ahead c.args.lengths.now c.args.indices.now 0 c.requires.some (record { known = c.requires.known; no_empty = c.requires.no_empty; within = c.requires.in_bounds }));
}

pub split_at-requires-in-loop-n : goal.split_at-requires-in-loop-n
split_at-requires-in-loop-n c = next_within _ _ c.loop-n.n-index c.loop-n-test.true c.loop-n.invariant.ahead

pub push_word-requires-in-loop-n : goal.push_word-requires-in-loop-n
push_word-requires-in-loop-n c = partly_fits _ _ (area_left (listed c.args.points.now) _ _ c.loop-n.n-index c.loop-n.invariant.left c.loop-n-test.true)

pub write_area-requires-in-loop-n-clause-known : goal.write_area-requires-in-loop-n-clause-known
write_area-requires-in-loop-n-clause-known c = rw c.split_at-in-loop-n.ensures.front (next_known _ _ c.loop-n.n-index c.loop-n-test.true c.loop-n.invariant.ahead)

pub write_area-requires-in-loop-n-clause-some : goal.write_area-requires-in-loop-n-clause-some
write_area-requires-in-loop-n-clause-some c = omega (arith, next_some _ _ c.loop-n.n-index c.loop-n-test.true c.loop-n.invariant.ahead, c.split_at-in-loop-n.ensures.front_len)

pub write_area-requires-in-loop-n-clause-room : goal.write_area-requires-in-loop-n-clause-room
write_area-requires-in-loop-n-clause-room c =
    rw c.split_at-in-loop-n.ensures.front
    (partly_fits _ _ (partly_more _ _ (area_left (listed c.args.points.now) _ _ c.loop-n.n-index c.loop-n.invariant.left c.loop-n-test.true) c.push_word-in-loop-n.ensures))

pub loop-n-preserved : goal.loop-n-preserved
loop-n-preserved c = record {
  left = rw c.split_at-in-loop-n.ensures.back
      (partly_more _ _ (partly_more _ _ (area_left (listed c.args.points.now) _ _ c.loop-n.n-index c.loop-n.invariant.left c.loop-n-test.true) c.push_word-in-loop-n.ensures)
      (rw c.split_at-in-loop-n.ensures.front at c.write_area-in-loop-n.ensures));
  ahead = rw c.split_at-in-loop-n.ensures.back (others_ahead _ _ c.loop-n.n-index c.loop-n-test.true c.loop-n.invariant.ahead);
}

pub push-requires : goal.push-requires
push-requires c = partly_byte (none_left (listed c.args.points.now) _ _ c.loop-n.n-index c.loop-n.invariant.left c.loop-n-test.false)

pub returns : goal.returns
returns c =
    let last = none_left (listed c.args.points.now) _ _ c.loop-n.n-index c.loop-n.invariant.left c.loop-n-test.false in
    let others = partly_then (partly_more _ _ (partly_more _ _ (line_first (listed c.args.points.now) c.args.lengths.now c.args.indices.now c.requires.some c.requires.room.fits) c.push_word.ensures) (rw c.split_at.ensures.front at c.write_area.ensures))
    (rw (behind_first c.args.lengths.now, c.split_at.ensures.back) at last) in
    wrote_at_last (partly_end others c.push.ensures).wrote (search rules)
