use Rattle.std.proofs.Common.{ℕ, ◌+◌, ◌<◌, ◌≡◌, List, [], ◌∷◌, ◌++◌, length, take, sym, ap, ap₂, ◌∙◌, add-one, zero-add, arith}
use lib.ListN.{set, length-set}
use lib.Seq.{get_or-set_same, take-suc, take-set-le}
use Rattle.algebra.specs.Lists.{count_from}
use Rattle.algebra.proofs.Counting.{count_more}
use Rattle.wkt.proofs.write.numbers.Goals as goal

one_more : (all : List ℕ) (i : ℕ) → i < length all → take i all ≡ count_from 0 i → take (i + 1) (set all i i) ≡ count_from 0 (i + 1)
one_more all i h e =
    rw (add-one i)
    (take-suc (set all i i) i 0 (omega (arith, length-set all i i))
    ∙ ap₂ (λ (l : List ℕ) (k : ℕ). l ++ (k ∷ [])) (take-set-le i all i i (omega arith) ∙ e) (get_or-set_same all i i 0 h)
    ∙ sym (count_more 0 i ∙ ap (λ (k : ℕ). count_from 0 i ++ (k ∷ [])) (zero-add i)))

pub loop-i-preserved : goal.loop-i-preserved
loop-i-preserved c =
    record { size = length-set c.loop-i.all c.loop-i.i c.loop-i.i ∙ c.loop-i.invariant.size; first = one_more c.loop-i.all c.loop-i.i (omega (arith, c.loop-i.invariant.size)) c.loop-i.invariant.first }
