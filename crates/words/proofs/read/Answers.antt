use native.Mathlib.Omega.{arith}
use mathlib.Core.Path.{refl, sym, ap, ◌∙◌}
use mathlib.Core.List.{map}
use lib.ListN.{length-map}
use Rattle.words.specs.Bytes.{words_of}
use Rattle.words.proofs.Copies.{copy_more, copy_end}
use Rattle.words.proofs.Words.{map_at, words_at, words_length}
use Rattle.words.proofs.read.Goals as goal

pub loop-i-init : goal.loop-i-init
loop-i-init g c = refl

pub loop-i-preserved : goal.loop-i-preserved
loop-i-preserved g c =
    let of = g.T.FromWord.of_word in
    let words = words_of c.args.bytes.now in
    copy_more (of 0) (map of words) _ _ _ _
    (omega (arith, length-map words of, words_length c.args.bytes.now, c.loop-i-test.true))
    (omega (arith, c.loop-i-test.true, c.requires))
    (c.from_word.ensures ∙ ap of (c.word.ensures ∙ sym (words_at c.args.bytes.now _ (omega (arith, c.loop-i-test.true)))) ∙ sym (map_at of (of 0) words _ (omega (arith, words_length c.args.bytes.now, c.loop-i-test.true))))
    c.loop-i.invariant

pub returns : goal.returns
returns g c =
    let of = g.T.FromWord.of_word in
    let words = words_of c.args.bytes.now in
    copy_end (of 0) (map of words) _ _ _ _ (sym (length-map words of ∙ words_length _)) c.loop-i-test.false (omega (arith, c.loop-i.auto.i-end)) c.loop-i.invariant
