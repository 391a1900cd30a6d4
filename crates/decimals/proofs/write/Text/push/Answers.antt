use Rattle.std.proofs.Common.{refl}
use Rattle.decimals.proofs.Texts.{wrote_byte}
use Rattle.decimals.proofs.write.Text.push.Goals as goal

pub returns : goal.returns
returns c = record { wrote = wrote_byte c.requires refl; same_out = refl }
