-- The entry meets its promise.
use Rattle.entries.proofs.Refusals.{number_above}
use Rattle.hasplight.proofs.Counting.{counted_words, few_floats}
use Rattle.hasplight.proofs.Merging.{refused_count}
use Rattle.hasplight.proofs.hasplight_hertel_mehlhorn_idx.Goals as goal

pub returns-in-Err : goal.returns-in-Err
returns-in-Err c = rw c.from.ensures (refused_count _ _ _ _ _ (counted_words 0 _ c.in-Err.ensures) (number_above c.in-Err.refusal))

pub read-requires-clause-few : goal.read-requires-clause-few
read-requires-clause-few c = few_floats 0 _ c.in_default.ensures
