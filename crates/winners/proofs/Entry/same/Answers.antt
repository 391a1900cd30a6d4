-- `Entry::same` meets its contract: bits that are the same are of the same float.
use Rattle.winners.proofs.Nodes.{bits_same}
use Rattle.winners.proofs.Entry.same.Goals as goal

pub returns-then-self-other : goal.returns-then-self-other
returns-then-self-other c =
    λ h i. record { key = bits_same _ _ c.well_formed.0.1.1.0.1 c.well_formed.1.0.1.1.0.1 h i; corner = c.if-self-other.true i }
