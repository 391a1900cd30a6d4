-- Lines with a ring: where its first point stands; and a POLYGON line, which is one in form.
use Prim.Native.Nat.{ℕ}
use native.Mathlib.Omega.{arith}
use mathlib.Core.Path.{sym, ap, ◌∙◌}
use mathlib.Core.List.{List, [], ◌∷◌, ◌++◌, map}
use lib.ListN.{length}
use Rattle.rules.specs.Plane.{Pt}
use Rattle.rules.specs.Text.{bytes, point_text, behind, InForm, NotInForm, Ends}
use Rattle.rules.proofs.TextLines.{ends_behind, closes, line_splits, no-corner}
use Rattle.wkt.specs.Reads.{closing, NoPoint, ring_rest, NoRing, Outlined, NoOutline}

-- where points are closed, what stands behind each ends
pub ends_closed : (ps : List Pt) → Ends (behind (map point_text ps) ++ closing)
ends_closed ps = ends_behind ps closing (closes (bytes ")"))

pub no-first-point : (text : List ℕ) → NoPoint text → NoRing text
unfolding NoRing NoPoint ring_rest
no-first-point text h c cs e = let ps : List Pt = cs ++ (c ∷ []) in h c (behind (map point_text ps) ++ closing) e (ends_closed ps)

pub no-polygon : (line : List ℕ) → NoOutline (bytes "POLYGON ((") line → NotInForm line
unfolding NotInForm NoOutline ring_rest
no-polygon line h [] f = no-corner f
no-polygon line h (c ∷ cs) f = h c cs (record { text = f.written ∙ line_splits c cs; short = f.short })

pub polygon_in_form : {line : List ℕ} {c : Pt} {cs : List Pt} → Outlined (bytes "POLYGON ((") line c cs → InForm line (c ∷ cs)
unfolding ring_rest
polygon_in_form {c = c} {cs = cs} o = record { written = o.text ∙ sym (line_splits c cs); some_corner = λ q. omega (arith, ap length q); short = o.short }
