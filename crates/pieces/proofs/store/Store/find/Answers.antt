use native.Mathlib.Omega.{arith}
use mathlib.Core.Path.{◌≡◌, refl}
use Prim.Native.Nat.{◌+◌, ◌-◌, ◌*◌}
use Rattle.pieces.proofs.store.Store.find.Goals as goal

pub returns-then-not-may_hold-clause-first : goal.returns-then-not-may_hold-clause-first
returns-then-not-may_hold-clause-first c = λ i low high _ _ e.
    let w : 24 * c.args.g + (i - 24 * c.args.g) ≡ i = omega arith in
    c.if-not-may_hold.ensures refl (i - 24 * c.args.g) (omega arith) (rw w e)
