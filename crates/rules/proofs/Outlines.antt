-- Document 01's limits in numbers. What the rows of an outline leave where none applies, and that none applies where that is left.
use Prim.Native.Nat.{ℕ, ◌*◌, ◌/◌, ◌%◌, ◌≤◌}
use mathlib.Core.Path.{◌≡◌, refl, sym, ◌∙◌}
use mathlib.Core.Bool.{false}
use mathlib.Core.List.{List, []}
use native.Mathlib.Omega.{arith}
use borrow.Author.Tests.{ltb-false, le-ltb, eqb-false}
use lib.Dec.{eqb, ltb}
use lib.ListN.{length}
use lib.Ieee.{Float}
use Rattle.rules.specs.Limits.{grid_edge, most_points, most_coordinates, most_triangles, most_indices}
use Rattle.rules.specs.Grid.{points_of}
use Rattle.rules.specs.Refusals.{first_refusal, off_grid, count_checks, outline_checks}
use Rattle.rules.proofs.Rows.{passes, row_off, no_rows, front_none, others_decide}
use Rattle.rules.proofs.Fronts.{count-front}
use Rattle.rules.proofs.Coordinates.{points-length}

-- ---- the limits

pub record InNumbers : Type 0 where
  pub edge : grid_edge ≡ 1024
  pub points : most_points ≡ 512
  pub coordinates : most_coordinates ≡ 1024
  pub triangles : most_triangles ≡ 510
  pub indices : most_indices ≡ 1530

pub in_numbers : InNumbers
in_numbers = record { edge = refl; points = refl; coordinates = refl; triangles = refl; indices = refl }

-- ---- the number of coordinates

pub record Counted (least most coordinates : ℕ) : Type 0 where
  pub even : eqb (coordinates % 2) 1 ≡ false
  pub at_least : least ≤ coordinates / 2
  pub at_most : coordinates / 2 ≤ most

pub counted : (least most n : ℕ) → first_refusal (count_checks least most n) ≡ 0 → Counted least most n
unfolding count_checks
counted least most n e₀ =
    let (odd, e₁) = passes (eqb (n % 2) 1) 0 _ e₀ in
    let (few, e₂) = passes (ltb (n / 2) least) 1 _ e₁ in
    let (many, e₃) = passes (ltb most (n / 2)) 2 _ e₂ in
    record { even = odd; at_least = ltb-false (n / 2) least few; at_most = ltb-false most (n / 2) many }

-- two coordinates a point
pub counted_most : (least most n : ℕ) {number : ℕ} → number ≡ first_refusal (count_checks least most n) → number ≡ 0 → n ≤ 2 * most
counted_most least most n e z =
    let c = counted least most n (sym e ∙ z) in
    let even : n % 2 ≡ 1 → ⊥ = eqb-false (n % 2) 1 c.even in
    omega (arith, c.at_most)

count_none : {least most n : ℕ} → Counted least most n → first_refusal (count_checks least most n) ≡ 0
unfolding count_checks
count_none {least} {most} {n} c = row_off 1 _ c.even ∙ row_off 2 _ (le-ltb (n / 2) least c.at_least) ∙ row_off 3 _ (le-ltb most (n / 2) c.at_most) ∙ no_rows

-- ---- the outline

pub record Outlined (least most : ℕ) (cs : List Float) : Type 0 where
  pub even : eqb (length cs % 2) 1 ≡ false
  pub at_least : least ≤ length (points_of cs)
  pub at_most : length (points_of cs) ≤ most
  pub on_grid : off_grid cs ≡ false

pub outlined : (least most : ℕ) (cs : List Float) → first_refusal (outline_checks least most cs) ≡ 0 → Outlined least most cs
outlined least most cs e =
    let none = front_none (count-front least most cs) e in
    let c = counted least most (length cs) none in
    let off = (passes (off_grid cs) 3 [] (sym (others_decide (count-front least most cs) none) ∙ e)).0 in
    record { even = c.even; at_least = omega (arith, c.at_least, points-length cs); at_most = omega (arith, c.at_most, points-length cs); on_grid = off }

pub outline_none : {least most : ℕ} {cs : List Float} → Outlined least most cs → first_refusal (outline_checks least most cs) ≡ 0
outline_none {least} {most} {cs} o =
    let c : Counted least most (length cs) = record { even = o.even; at_least = omega (arith, o.at_least, points-length cs); at_most = omega (arith, o.at_most, points-length cs) } in
    others_decide (count-front least most cs) (count_none c) ∙ row_off 4 [] o.on_grid ∙ no_rows
