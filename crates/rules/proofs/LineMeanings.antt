-- A line of a log means one thing, and as much of it as is handed on means the same.
use Prim.Native.Nat.{ℕ, suc, ◌≤◌, ◌<◌}
use native.Mathlib.Omega.{arith}
use mathlib.Core.Path.{◌≡◌, refl, sym, ap, ap₂, subst, ◌∙◌}
use mathlib.Core.Bool.{Bool, true, false}
use mathlib.Core.Logic.{◌≢◌}
use mathlib.Core.List.{List, [], ◌∷◌, map}
use mathlib.Core.Option.{Option, none, some}
use lib.Dec.{ltb}
use lib.ListN.{length, get_or}
use borrow.Author.Tests.{lt-ltb, ltb-true, ltb-false}
use Rattle.rules.specs.Plane.{Pt}
use Rattle.rules.specs.Text.{polygon_line, triangle_line, point_line, most_bytes, InForm}
use Rattle.rules.specs.Stream.{handed}
use Rattle.rules.specs.Playback.{Event, polygon, triangle, point, event_line, proper, Says, Means, in_form, not_in_form, AllMean, no_lines, line_and, Reply, replies, Playback}
use Rattle.rules.proofs.TextLines.{point_parse, ring_parse, polygon_injective, closes}
use Rattle.rules.proofs.Streams.{handed-short, handed-long}

-- ---- each writing is injective, and no two kinds of line coincide

pub triangle_injective : (cs ds : List Pt) → triangle_line cs ≡ triangle_line ds → cs ≡ ds
unfolding triangle_line
triangle_injective cs ds h = (ring_parse cs ds (41 ∷ []) (41 ∷ []) (cc)).0

pub point_injective : (p q : Pt) → point_line p ≡ point_line q → p ≡ q
unfolding point_line
point_injective p q h = (point_parse p q (41 ∷ []) (41 ∷ []) (closes []) (closes []) (cc)).0

byte : ℕ → List ℕ → ℕ
byte i l = get_or l i 0

pub polygon-no-triangle : (cs ds : List Pt) → polygon_line cs ≡ triangle_line ds → ⊥
unfolding polygon_line triangle_line byte
polygon-no-triangle cs ds h = let k : ◌≡◌ {A = ℕ} 80 84 = ap (byte 0) h in omega arith

pub polygon-no-point : (cs : List Pt) (p : Pt) → polygon_line cs ≡ point_line p → ⊥
unfolding polygon_line point_line byte
polygon-no-point cs p h = let k : ◌≡◌ {A = ℕ} 76 73 = ap (byte 2) h in omega arith

pub triangle-no-point : (cs : List Pt) (p : Pt) → triangle_line cs ≡ point_line p → ⊥
unfolding triangle_line point_line byte
triangle-no-point cs p h = let k : ◌≡◌ {A = ℕ} 84 80 = ap (byte 0) h in omega arith

pub event_injective : (e f : Event) → event_line e ≡ event_line f → e ≡ f
unfolding event_line
event_injective (polygon cs) (polygon ds) h = ap polygon (polygon_injective cs ds h)
event_injective (polygon cs) (triangle ds) h = absurd (polygon-no-triangle cs ds h)
event_injective (polygon cs) (point q) h = absurd (polygon-no-point cs q h)
event_injective (triangle cs) (polygon ds) h = absurd (polygon-no-triangle ds cs (sym h))
event_injective (triangle cs) (triangle ds) h = ap triangle (triangle_injective cs ds h)
event_injective (triangle cs) (point q) h = absurd (triangle-no-point cs q h)
event_injective (point p) (polygon ds) h = absurd (polygon-no-point ds p (sym h))
event_injective (point p) (triangle ds) h = absurd (triangle-no-point ds p (sym h))
event_injective (point p) (point q) h = ap point (point_injective p q h)

-- ---- a line says and means one thing at most

pub says_one : {line : List ℕ} {e f : Event} → Says line e → Says line f → e ≡ f
says_one {e = e} {f = f} s t = event_injective e f (sym s.written ∙ t.written)

pub means_one : {line : List ℕ} {e f : Option Event} → Means line e → Means line f → e ≡ f
means_one (in_form s) (in_form t) = ap some (says_one s t)
means_one (in_form s) (not_in_form k) = absurd (k _ s)
means_one (not_in_form h) (in_form t) = absurd (h _ t)
means_one (not_in_form h) (not_in_form k) = refl

pub all_mean_one : {lines : List (List ℕ)} {es fs : List (Option Event)} → AllMean lines es → AllMean lines fs → es ≡ fs
all_mean_one no_lines no_lines = refl
all_mean_one (line_and m ms) (line_and n ns) = ap₂ ◌∷◌ (means_one m n) (all_mean_one ms ns)

-- at most one list of replies is right for a stream
pub playback_one : {stream : List ℕ} {given others : List Reply} → Playback stream given → Playback stream others → given ≡ others
playback_one p q = p.replied ∙ ap replies (all_mean_one p.meant q.meant) ∙ sym q.replied

-- ---- a POLYGON line is one as in request M-101

some_proper : (cs : List Pt) → cs ≢ [] → proper (polygon cs) ≡ true
some_proper [] h = absurd (h refl)
some_proper (c ∷ cs) h = lt-ltb 0 (length (c ∷ cs)) (omega arith)

proper_some : (cs : List Pt) → proper (polygon cs) ≡ true → cs ≢ []
proper_some cs h e = omega (arith, ltb-true 0 (length cs) h, ap length e)

pub polygon_in_form : {line : List ℕ} {cs : List Pt} → InForm line cs → Means line (some (polygon cs))
unfolding event_line
polygon_in_form {cs = cs} f = in_form (record { written = f.written; is_proper = some_proper cs f.some_corner; short = f.short })

pub in_form_polygon : {line : List ℕ} {cs : List Pt} → Says line (polygon cs) → InForm line cs
unfolding event_line
in_form_polygon {cs = cs} s = record { written = s.written; some_corner = proper_some cs s.is_proper; short = s.short }

-- ---- no line is in form that is empty or too long

pub line-above : (e : Event) → 0 < length (event_line e)
unfolding event_line
line-above (polygon cs) = omega arith
line-above (triangle cs) = omega arith
line-above (point p) = omega arith

pub empty-line : Means [] none
empty-line = not_in_form (λ e s. omega (arith, ap length s.written, line-above e))

pub too_long : {line : List ℕ} → most_bytes < length line → Means line none
too_long p = not_in_form (λ e s. omega (arith, s.short))

-- ---- what is handed on means what the line means

pub handed-means : {line : List ℕ} {e : Option Event} → Means line e → Means (handed line) e
handed-means {line = line} {e = e} m = go (ltb most_bytes (length line)) refl
  where
    go : (t : Bool) → ltb most_bytes (length line) ≡ t → Means (handed line) e
    go true q =
        let p : most_bytes < length line = ltb-true most_bytes (length line) q in
        let k : most_bytes < length (handed line) = omega (arith, handed-long line p) in
        subst (Means (handed line)) (means_one (too_long p) m) (too_long k)
    go false q =
        let p : length line ≤ most_bytes = ltb-false most_bytes (length line) q in
        let k : length line ≤ suc most_bytes = omega arith in
        subst (λ (l : List ℕ). Means l e) (sym (handed-short line k)) m

pub handed-back : {line : List ℕ} {e : Option Event} → Means (handed line) e → Means line e
handed-back {line = line} {e = e} m = go (ltb most_bytes (length line)) refl
  where
    go : (t : Bool) → ltb most_bytes (length line) ≡ t → Means line e
    go true q =
        let p : most_bytes < length line = ltb-true most_bytes (length line) q in
        let k : most_bytes < length (handed line) = omega (arith, handed-long line p) in
        subst (Means line) (means_one (too_long k) m) (too_long p)
    go false q =
        let p : length line ≤ most_bytes = ltb-false most_bytes (length line) q in
        let k : length line ≤ suc most_bytes = omega arith in
        subst (λ (l : List ℕ). Means l e) (handed-short line k) m

pub all-handed-back : (lines : List (List ℕ)) {es : List (Option Event)} → AllMean (map handed lines) es → AllMean lines es
all-handed-back [] no_lines = no_lines
all-handed-back (line ∷ lines) (line_and m ms) = line_and (handed-back m) (all-handed-back lines ms)
