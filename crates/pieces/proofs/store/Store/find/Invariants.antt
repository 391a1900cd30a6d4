-- `find` meets its contract. The invariants: the edges passed are others.
use Prim.Native.Nat.{ℕ, ◌+◌, ◌*◌, ◌≤◌, ◌<◌}
use mathlib.Core.Path.{◌≡◌}
use lib.ListN.{get_or}
use Rattle.std.specs.Prelude.{None}
use Rattle.pieces.proofs.store.Store.find.Given as goal

abbrev pub invariant-search : goal.invariant-search
invariant-search l = (l.found ≡ None) × ((i : ℕ) → 24 * l.g ≤ i → 3 * l.from ≤ i → i < 3 * l.piece → get_or l.self.edges i 0 ≡ l.want → ⊥)

abbrev pub invariant-loop-side : goal.invariant-loop-side
invariant-loop-side l = (l.found ≡ None) × ((i : ℕ) → 24 * l.g ≤ i → 3 * l.from ≤ i → i < 3 * l.piece + l.side → get_or l.self.edges i 0 ≡ l.want → ⊥)
