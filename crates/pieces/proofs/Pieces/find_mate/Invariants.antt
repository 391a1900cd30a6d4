-- `find_mate` meets its contract. The invariant: the eights passed hold no mate.
use Prim.Native.Nat.{◌-◌}
use Rattle.pieces.proofs.Searching.{Seeking}
use Rattle.pieces.proofs.Pieces.find_mate.Given as goal

abbrev pub invariant-loop-word : goal.invariant-loop-word
invariant-loop-word l = Seeking l.self-inside.store.edges l.self-inside.store.eights l.self-inside.from l.self-inside.count l.e l.s l.want l.g l.word

abbrev pub decreases-loop-word : goal.decreases-loop-word
decreases-loop-word l = 64 - l.g
