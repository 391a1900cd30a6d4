-- `Entry::new` meets its contract.
use mathlib.Core.Path.{◌≡◌, refl, ◌∙◌}
use lib.Ieee.{Float, neg, of_bits}
use Rattle.std.specs.Prelude.{Option, None, Some}
use Rattle.std.specs.Option.{unwrap_or}
use Rattle.winners.specs.Keys.{lowest, key_of}
use Rattle.winners.proofs.Entry.new.Goals as goal

key_is : (e : Option Float) → unwrap_or e lowest ≡ key_of e
key_is None = refl
key_is (Some v) = refl

pub returns : goal.returns
unfolding neg of_bits
returns c = λ i. record { key = (c.unwrap_or.ensures ∙ key_is c.args.ear) i; corner = c.args.corner }
