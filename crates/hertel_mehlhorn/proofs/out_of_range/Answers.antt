-- `out_of_range` meets its contract.
use Prim.Native.Nat.{ℕ}
use mathlib.Core.Path.{◌≡◌, refl, ◌∙◌, ap}
use mathlib.Core.Bool.{Bool, not, ◌||◌}
use mathlib.Core.List.{List, [], ◌∷◌}
use lib.Dec.{ltb}
use Rattle.std.specs.List.{list_any}
use Rattle.std.proofs.Common.{rules, tests}
use Rattle.std.proofs.lemmas.Iterator.{YieldsList-from_slice}
use Rattle.std.proofs.lemmas.Iterator.Search.{any_from_yields_List}
use Rattle.rules.specs.Refusals.{out_of_range}
use Rattle.hertel_mehlhorn.proofs.out_of_range.Goals as goal

any_is : (n : ℕ) (l : List ℕ) → list_any (λ i. not (ltb i n)) l ≡ out_of_range n l
unfolding out_of_range
any_is n [] = refl
any_is n (i ∷ l) = ap (λ (t : Bool). not (ltb i n) || t) (any_is n l)

pub returns : goal.returns
returns c =
    any_from_yields_List (λ i. not (ltb i c.args.n)) _ _ c.any.result c.any.ensures.ran (YieldsList-from_slice c.args.triangles.now cc) (λ x b q k. search (rules, tests))
    ∙ any_is c.args.n c.args.triangles.now
