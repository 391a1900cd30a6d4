use borrow.Author.Rules.{rules}
use mathlib.Core.Path.{refl}
use Rattle.words.specs.Bytes.{bytes_of}
use Rattle.words.proofs.Words.{write-first, write_more, write-last}
use Rattle.words.proofs.write.Goals as goal

pub loop-i-init : goal.loop-i-init
loop-i-init c = write-first c.args.words.now _

pub loop-i-preserved : goal.loop-i-preserved
unfolding bytes_of
loop-i-preserved c =
    write_more _ _ _ _ c.copy_from_slice.new.self _ c.loop-i-test.true c.requires c.loop-i.invariant c.loop-i.auto.bytes (search rules) refl

pub returns : goal.returns
returns c = write-last _ _ _ _ c.loop-i-test.false c.loop-i.invariant
