use Rattle.std.proofs.Common.{refl}
use Rattle.shift_log.proofs.Played.{step-played}
use Rattle.shift_log.proofs.log.Log.answer_line.Goals as goal

pub returns : goal.returns
returns c = record {
  text = _;
  played = step-played _ c.requires.coords_len c.play_line-reply.ensures.step;
  grew = c.write_reply.ensures.grew;
  few = c.write_reply.ensures.at_most;
  none_held = refl;
  lent = record {
    same_carried = c.play_line-reply.ensures.lent.same_carried;
    carried_len = c.play_line-reply.ensures.lent.carried_len;
    same_coords = c.play_line-reply.ensures.lent.same_coords;
    coords_len = c.play_line-reply.ensures.lent.coords_len;
  };
}
