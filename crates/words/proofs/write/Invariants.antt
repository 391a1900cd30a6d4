-- The invariant: the words below i are written.
use mathlib.Core.Path.{◌≡◌}
use lib.ListN.{take}
use Rattle.rules.specs.Layout.{over}
use Rattle.words.specs.Bytes.{bytes_of}
use Rattle.words.proofs.write.Given as goal

abbrev pub invariant-loop-i : goal.invariant-loop-i
invariant-loop-i l = l.bytes ≡ over (bytes_of (take l.i l.words)) l.initial.bytes
