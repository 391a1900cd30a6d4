-- The invariant: the words below i are read.
use mathlib.Core.Path.{◌≡◌}
use mathlib.Core.List.{◌++◌, map}
use lib.ListN.{take, drop}
use Rattle.words.specs.Bytes.{words_of}
use Rattle.words.proofs.read.Given as goal

abbrev pub invariant-loop-i : goal.invariant-loop-i
invariant-loop-i g l = l.to ≡ take l.i (map g.T.FromWord.of_word (words_of l.bytes)) ++ drop l.i l.initial.to
