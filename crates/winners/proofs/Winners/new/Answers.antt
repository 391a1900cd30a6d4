-- `Winners::new` meets its contract.
use native.Mathlib.Omega.{arith}
use mathlib.Core.Path.{refl}
use lib.Ieee.{neg, of_bits}
use Rattle.winners.specs.Keys.{lowest}
use Rattle.winners.proofs.Nodes.{nobody}
use Rattle.winners.proofs.Sizes.{power}
use Rattle.winners.proofs.Winners.new.Goals as goal

pub returns-clause-nobody : goal.returns-clause-nobody
unfolding neg of_bits
returns-clause-nobody c = nobody (record { key = lowest; corner = 0 }) _ refl refl

pub returns-clause-enough : goal.returns-clause-enough
returns-clause-enough c =
    let h = c.next_power_of_two.ensures in
    (power h.power.0 _ h.power.1 (omega arith), h.lower_bound)
