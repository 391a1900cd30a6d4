-- The entry meets its promise.
use Rattle.entries.proofs.Refusals.{number_above}
use Rattle.hasplight.proofs.Counting.{counted_words, few_floats}
use Rattle.hasplight.proofs.Hulling.{refused_count}
use Rattle.hasplight.proofs.hull.hasplight_convex_hull2_idx.Goals as goal

pub returns-in-Err : goal.returns-in-Err
returns-in-Err c = rw c.from.ensures (refused_count _ _ _ (counted_words 2 _ c.in-Err.ensures) (number_above c.in-Err.refusal))

pub read-requires-clause-few : goal.read-requires-clause-few
read-requires-clause-few c = few_floats 2 _ c.in_default.ensures

pub hull-requires : goal.hull-requires
hull-requires c = rw c.read.ensures (few_floats 2 c.args.coords.now c.in_default.ensures)
