-- `merge_triangles` meets its contract.
use native.Mathlib.Omega.{arith}
use mathlib.Core.Path.{refl, sym}
use Rattle.entries.proofs.Refusals.{number_above}
use Rattle.words.specs.Bytes.{words_of}
use Rattle.words.proofs.Words.{words_length, as_words, words_read, words_many}
use Rattle.hasplight.proofs.Merging.{refused_long, too_long, merge_read}
use Rattle.hasplight.proofs.merge_triangles.Goals as goal

pub unreachable-requires : goal.unreachable-requires
unreachable-requires c = too_long c.args.floats.now (words_of c.args.triangles.now) c.args.indices.now c.args.lengths.now c.args.floats.now _ refl (sym (words_length c.args.triangles.now)) c.if-t-gt-MOST_INDICES.true c.in-Ok.ensures.number

pub returns-then-t-gt-MOST_INDICES : goal.returns-then-t-gt-MOST_INDICES
returns-then-t-gt-MOST_INDICES c =
    rw c.from.ensures (refused_long _ _ _ _ c.args.floats.now _ refl (sym (words_length c.args.triangles.now)) c.in-Err.ensures.number (number_above c.in-Err.refusal))

pub slice_bounds-merge-end : goal.slice_bounds-merge-end
slice_bounds-merge-end c = words_many _ _ _ (as_words c.args.triangles.now _ c.read.ensures)

pub merge-requires : goal.merge-requires
merge-requires c = omega (arith, words_many _ _ _ (as_words c.args.triangles.now _ c.read.ensures), c.if-t-gt-MOST_INDICES.false)

pub returns : goal.returns
returns c =
    merge_read _ _ _ _ _ _ _ _ _ refl (words_read _ _ _ (as_words c.args.triangles.now _ c.read.ensures)) c.merge.ensures
