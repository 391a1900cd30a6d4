-- `bits` meets its contract: what is at least zero is no NaN.
use mathlib.Core.Path.{◌≡◌, refl}
use mathlib.Core.Bool.{true, false, not, false≢true}
use lib.Dec.{T}
use lib.IntN.{pos}
use lib.Ieee.{Float, nan, inf, fin, binary32, is_nan, of_bits, to_bits, le}
use Rattle.words.specs.Bytes.{bits_of}
use Rattle.words.proofs.bits.Goals as goal

no_nan : (x y : Float) → le x y ≡ true → T (not (is_nan y))
unfolding le is_nan
no_nan nan nan e = false≢true e
no_nan (inf s) nan e = false≢true e
no_nan (fin s m d) nan e = false≢true e
no_nan x (inf s) e = tt
no_nan x (fin s m d) e = tt

not_below : (x : Float) → le (fin false 0 (pos 0)) x ≡ true → to_bits binary32 x ≡ bits_of x
not_below x e = rw e refl

below : (x : Float) → le (fin false 0 (pos 0)) x ≡ false → 4294967295 ≡ bits_of x
below x e = rw e refl

pub float_to_bits-result : goal.float_to_bits-result
float_to_bits-result c = no_nan _ _ c.if-x.true

pub returns-then-x : goal.returns-then-x
unfolding of_bits
returns-then-x c = not_below c.args.x c.if-x.true

pub returns-else-x : goal.returns-else-x
unfolding of_bits
returns-else-x c = below c.args.x c.if-x.false
