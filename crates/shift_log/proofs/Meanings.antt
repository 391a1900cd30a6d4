-- What a line means, by what the readers say of it.
use Prim.Native.Nat.{ℕ}
use native.Mathlib.Omega.{arith}
use mathlib.Core.Path.{◌≡◌, refl, sym, ap, ◌∙◌}
use mathlib.Core.Logic.{◌≢◌}
use mathlib.Core.List.{List, [], ◌∷◌, ◌++◌}
use mathlib.Core.Option.{none, some}
use Rattle.std.specs.Prelude.{Option, Some, None, IfSome, IfNone}
use lib.ListN.{length}
use lib.Ieee.{Float}
use borrow.Author.Tests.{eq-eqb, eqb-true}
use Rattle.rules.specs.Plane.{Pt}
use Rattle.rules.specs.Text.{bytes, triangle_line, area_text, NotInForm}
use Rattle.rules.specs.Playback.{Event, polygon, triangle, point, event_line, Says, Means, in_form, not_in_form}
use Rattle.rules.proofs.TextLines.{ring_splits}
use Rattle.rules.proofs.LineMeanings.{polygon_in_form, in_form_polygon, triangle_injective}
use Rattle.wkt.specs.Reads.{ring_rest, Outlined, NoOutline, OutlineRead, NoPointLine, PointRead}
use Rattle.wkt.proofs.Forms.{no-polygon}
use Rattle.wkt.proofs.Forms as Forms

triangle_splits : (c : Pt) (cs : List Pt) → triangle_line (c ∷ cs) ≡ bytes "TRIANGLE ((" ++ ring_rest c cs
unfolding triangle_line area_text ring_rest
triangle_splits c cs = ap (λ (l : List ℕ). bytes "TRIANGLE (" ++ l) (ring_splits c cs (bytes ")"))

pub point-means : {line : List ℕ} {x y : Float} (r : PointRead line x y) → Means line (some (point r.p))
unfolding event_line
point-means r = in_form (record { written = r.pointed.text; is_proper = refl; short = r.pointed.short })

pub polygon-means : {line : List ℕ} {n : ℕ} {own : List Float} (r : OutlineRead (bytes "POLYGON ((") line n own) → Means line (some (polygon (r.c ∷ r.cs)))
polygon-means r = polygon_in_form (Forms.polygon_in_form r.outlined)

pub triangle-means : {line : List ℕ} {n : ℕ} {own : List Float} (r : OutlineRead (bytes "TRIANGLE ((") line n own) → n ≡ 3 → Means line (some (triangle (r.c ∷ r.cs)))
unfolding event_line
triangle-means r three =
    in_form
    (record {
      written = r.outlined.text ∙ sym (triangle_splits r.c r.cs);
      is_proper = eq-eqb (length (r.c ∷ r.cs)) 3 (sym r.known.counted ∙ three);
      short = r.outlined.short;
    })

-- no TRIANGLE line
abbrev pub NoTriangle : List ℕ → Type 0
NoTriangle line = (corners : List Pt) → Says line (triangle corners) → ⊥

outlined : {line : List ℕ} {c : Pt} {cs : List Pt} → Says line (triangle (c ∷ cs)) → Outlined (bytes "TRIANGLE ((") line c cs
unfolding event_line
outlined {c = c} {cs = cs} f = record { text = f.written ∙ triangle_splits c cs; short = f.short }

pub no_triangle : (line : List ℕ) → NoOutline (bytes "TRIANGLE ((") line → NoTriangle line
unfolding NoOutline
no_triangle line h [] f = omega (arith, eqb-true 0 3 f.is_proper)
no_triangle line h (c ∷ cs) f = h c cs (outlined f)

-- it has three corners
pub other_corners : {line : List ℕ} {n : ℕ} {own : List Float} → OutlineRead (bytes "TRIANGLE ((") line n own → n ≢ 3 → NoTriangle line
unfolding event_line
other_corners r other [] f = omega (arith, eqb-true 0 3 f.is_proper)
other_corners r other (c ∷ cs) f =
    let same : r.c ∷ r.cs ≡ c ∷ cs = triangle_injective (r.c ∷ r.cs) (c ∷ cs) (triangle_splits r.c r.cs ∙ sym r.outlined.text ∙ f.written) in
    other (r.known.counted ∙ ap length same ∙ eqb-true (length (c ∷ cs)) 3 f.is_proper)

-- by what the reader gives back
pub not_three : (line : List ℕ) (own : List Float) (n : Option ℕ) → IfSome n (λ m. OutlineRead (bytes "TRIANGLE ((") line m own) → IfNone n (NoOutline (bytes "TRIANGLE ((") line) → n ≢ Some 3 → NoTriangle line
not_three line own None a b other = no_triangle line b
not_three line own (Some m) a b other = other_corners a (λ e. other (ap (λ (k : ℕ). Some k) e))

pub nothing-means : {line : List ℕ} → NoPointLine line → NoOutline (bytes "POLYGON ((") line → NoTriangle line → Means line none
unfolding event_line NoPointLine NotInForm
nothing-means {line} no-point no-outline no-triangle = not_in_form none_fits
  where
    none_fits : (event : Event) → Says line event → ⊥
    none_fits (polygon corners) f = no-polygon line no-outline corners (in_form_polygon f)
    none_fits (triangle corners) f = no-triangle corners f
    none_fits (point p) f = no-point p (record { text = f.written; short = f.short })
