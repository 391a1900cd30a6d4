-- `Strips::candidates` meets its contract.
use Rattle.blocking.specs.Strips.{candidates_of}
use Rattle.blocking.proofs.strips.Strips.candidates.Goals as goal

pub returns : goal.returns
unfolding candidates_of
returns c =
    rw (
      c.from_upper.ensures.strip,
      c.from_upper-2.ensures.strip,
      c.from_upper-3.ensures.strip,
      c.from_lower.ensures.strip,
      c.from_lower-2.ensures.strip,
      c.from_lower-3.ensures.strip,
      c.from_upper-4.ensures.strip,
      c.from_upper-5.ensures.strip,
      c.from_upper-6.ensures.strip,
      c.from_lower-4.ensures.strip,
      c.from_lower-5.ensures.strip,
      c.from_lower-6.ensures.strip,
    )
