use Rattle.std.proofs.Common.{refl}
use Rattle.decimals.proofs.Texts.{put_word}
use Rattle.decimals.proofs.write.Text.push_word.Goals as goal

pub returns : goal.returns
returns c = record { wrote = record { is = put_word _ _ _ c.copy_from_slice.ensures.after; ends = refl; room = record { fits = c.requires.fits } }; same_out = refl }
