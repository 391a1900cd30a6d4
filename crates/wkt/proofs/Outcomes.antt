-- What a result of reading says of the line.
use Prim.Native.Nat.{ℕ, ◌*◌, ◌≤◌, ◌<◌}
use mathlib.Core.Path.{◌≡◌, refl, ap, ◌∙◌}
use mathlib.Core.Bool.{Bool, true, false}
use mathlib.Core.List.{List}
use lib.Dec.{ltb}
use lib.ListN.{length, take, drop}
use lib.Seq.{take_at}
use lib.Ieee.{Float}
use borrow.Author.Tests.{ltb-true, ltb-false}
use Rattle.rules.specs.Limits.{most_points}
use Rattle.rules.specs.Plane.{Pt}
use Rattle.rules.specs.Text.{InForm, NotInForm}
use Rattle.rules.specs.Lines.{in_form, not_in_form, Reading, Reads, coordinates}
use Rattle.rules.proofs.LineAnswers.{reader-three, reader_six, reader-answered}
use Rattle.wkt.proofs.Corners.{coordinates-length}

-- of the room that was lent, and the result
pub data Outcome (line : List ℕ) (room : ℕ) (r : Reading) : Type 0 where
  eleven : NotInForm line → r.number ≡ 11 → Outcome line room r
  three : {corners : List Pt} → InForm line corners → most_points < length corners → r.number ≡ 3 → Outcome line room r
  six : {corners : List Pt} → InForm line corners → length corners ≤ most_points → room < 2 * length corners → r.number ≡ 6 → Outcome line room r
  zero : {corners : List Pt} → InForm line corners → length corners ≤ most_points → r.number ≡ 0 → r.count ≡ length corners → take (2 * length corners) r.coords ≡ coordinates corners
      → Outcome line room r

number : {r s : Reading} → r ≡ s → r.number ≡ s.number
number e = ap (λ (x : Reading). x.number) e

pub outcome : {line : List ℕ} {coords : List Float} {r : Reading} → Reads line coords r → Outcome line (length coords) r
outcome (not_in_form h e) = eleven h (number e)
outcome {line = line} {coords = coords} {r = r} (in_form {corners = corners} f e) = go (ltb most_points (length corners)) refl (ltb (length coords) (2 * length corners)) refl
  where
    go : (s : Bool) → ltb most_points (length corners) ≡ s → (t : Bool) → ltb (length coords) (2 * length corners) ≡ t → Outcome line (length coords) r
    go true h t k = let p = ltb-true most_points (length corners) h in three f p (number (e ∙ reader-three coords corners p))
    go false h true k =
        let p = ltb-true (length coords) (2 * length corners) k in
        let few = ltb-false most_points (length corners) h in
        six f few p (number (e ∙ reader_six coords corners few p))
    go false h false k =
        let few = ltb-false most_points (length corners) h in
        let is = e ∙ reader-answered coords corners few (ltb-false (length coords) (2 * length corners) k) in
        let cs : List Float = coordinates corners in
        zero f few (number is) (ap (λ (x : Reading). x.count) is)
        (ap (λ (x : Reading). take (2 * length corners) x.coords) is ∙ take_at cs (drop (length cs) coords) (2 * length corners) (coordinates-length corners))
