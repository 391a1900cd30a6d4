-- The entry meets its promise.
use Rattle.entries.proofs.Refusals.{number_above}
use Rattle.hasplight.proofs.Counting.{counted_words, few_floats}
use Rattle.hasplight.proofs.Cutting.{refused_count}
use Rattle.hasplight.proofs.hasplight_triangulate_ear_clipping.Goals as goal

pub returns-in-Err : goal.returns-in-Err
returns-in-Err c = rw c.from.ensures (refused_count _ _ _ (counted_words 3 _ c.in-Err.ensures) (number_above c.in-Err.refusal))

pub read-requires-clause-few : goal.read-requires-clause-few
read-requires-clause-few c = few_floats 3 _ c.in_default.ensures

pub cut-requires : goal.cut-requires
cut-requires c = rw c.read.ensures (few_floats 3 c.args.coords.now c.in_default.ensures)
