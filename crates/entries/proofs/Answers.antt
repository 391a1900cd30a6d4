-- An answer is its number and its count.
use mathlib.Core.Path.{◌≡◌}
use Rattle.entries.specs.declared.Answer.{Answer}

pub answers_equal : (r s : Answer) → r.number ≡ s.number → r.count ≡ s.count → r ≡ s
answers_equal r s e f = λ i. record { number = e i; count = f i }
