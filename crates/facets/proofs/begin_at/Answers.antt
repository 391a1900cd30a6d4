-- `begin_at` meets its contract.
use native.Mathlib.Omega.{arith}
use Prim.Native.Nat.{ℕ, ◌+◌}
use mathlib.Core.Path.{◌≡◌, ◌∙◌, ap}
use mathlib.Core.List.{List, ◌++◌}
use lib.ListN.{length, take, drop, length-append, length-drop}
use lib.Seq.{length-take-le, take_at}
use Rattle.std.proofs.lemmas.Slice.{take-put_mid}
use Rattle.facets.proofs.begin_at.Goals as goal

pub returns : goal.returns
returns c =
    let size : length c.copy_from_slice.new.self ≡ length c.split_at.result.1.now = ap length c.copy_from_slice.ensures.after in
    let behind : c.copy_from_slice.new.self ≡ drop c.args.s c.args.ring.now = c.copy_from_slice.ensures.after ∙ c.split_at.ensures.back in
    let front : c.copy_from_slice-2.new.self ≡ take c.args.s c.args.ring.now = c.copy_from_slice-2.ensures.after ∙ c.split_at.ensures.front in
    let whole : length c.args.ring.now ≡ length c.split_at.result.1.now + length c.copy_from_slice-2.new.self =
    omega (arith, c.requires.place, ap length c.split_at.ensures.back, length-drop c.args.s c.args.ring.now, ap length front, length-take-le c.args.s c.args.ring.now c.requires.place)
    in
    take-put_mid _ _ _ _ _ whole (rw (length-append c.copy_from_slice.new.self (drop (length c.split_at.result.1.now) c.args.out.now)) (omega (arith, size)))
    ∙ ap (λ (l : List ℕ). l ++ c.copy_from_slice-2.new.self) (take_at c.copy_from_slice.new.self _ _ size)
    ∙ (λ i. behind i ++ front i)
