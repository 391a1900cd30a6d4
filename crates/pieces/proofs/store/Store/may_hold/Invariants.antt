-- `may_hold` meets its contract. The invariant: where there was no hit, the edges passed are others.
use Prim.Native.Nat.{ℕ, ◌<◌}
use mathlib.Core.Path.{◌≡◌}
use mathlib.Core.Bool.{false}
use lib.ListN.{get_or}
use Rattle.pieces.proofs.store.Store.may_hold.Given as goal

abbrev pub invariant-loop-edge : goal.invariant-loop-edge
invariant-loop-edge l = l.hit ≡ false → (i : ℕ) → i < l.edge-index → get_or l.edge-items i 0 ≡ l.want → ⊥
