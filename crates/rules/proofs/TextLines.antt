-- Lines of text: at most one list of corners fits a line, and at most one list of rings.
use Prim.Native.Nat.{ℕ, ◌≤◌, ◌<◌}
use native.Mathlib.Omega.{arith}
use mathlib.Core.Path.{◌≡◌, refl, sym, ap, ap₂, ◌∙◌}
use mathlib.Core.Logic.{◌≢◌}
use mathlib.Core.List.{List, [], ◌∷◌, ◌++◌, map, append_assoc, append-nil}
use lib.ListN.{length, take, get_or, length-append}
use lib.Seq.{take_at}
use lib.IntN.{ℤ, pos, negsuc}
use Rattle.rules.specs.Plane.{Pt}
use Rattle.rules.specs.Text.{decimal, point_text, behind, parted, ring_text, polygon_line, area_text, multipolygon_line, most_bytes, InForm, NotInForm, Ends}
use Rattle.rules.proofs.TextNumbers.{at_first, decimal_parse, starts}

-- ---- points

decimal-first : (z : ℤ) (r : List ℕ) → 45 ≤ get_or (decimal z ++ r) 0 0
unfolding decimal
decimal-first (pos n) r = omega (arith, starts n r)
decimal-first (negsuc n) r = omega arith

pub point_splits : (p : Pt) (r : List ℕ) → point_text p ++ r ≡ decimal p.x ++ (32 ∷ (decimal p.y ++ r))
unfolding point_text
point_splits p r = append_assoc (decimal p.x) (32 ∷ decimal p.y) r

pub point_parse : (p q : Pt) (r s : List ℕ) → Ends r → Ends s → point_text p ++ r ≡ point_text q ++ s → (p ≡ q) × (r ≡ s)
point_parse p q r s e f h =
    let k : decimal p.x ++ (32 ∷ (decimal p.y ++ r)) ≡ decimal q.x ++ (32 ∷ (decimal q.y ++ s)) = sym (point_splits p r) ∙ h ∙ point_splits q s in
    let a : (p.x ≡ q.x) × (◌≡◌ {A = List ℕ} (32 ∷ (decimal p.y ++ r)) (32 ∷ (decimal q.y ++ s))) = decimal_parse p.x q.x _ _ (λ d. omega arith) (λ d. omega arith) k in
    let b : (p.y ≡ q.y) × (r ≡ s) = decimal_parse p.y q.y r s e f (cc) in
    (ap₂ (λ (x y : ℤ). record { x = x; y = y }) a.0 b.0, b.1)

-- ---- points behind each other. Where the points ps stand first, what the whole is the writing of goes on from ps

pub record GoesOn (ps qs : List Pt) (r t : List ℕ) : Type 0 where
  pub rest : List Pt
  pub whole : qs ≡ ps ++ rest
  pub text : r ≡ behind (map point_text rest) ++ (41 ∷ t)

pub ends_behind : (ps : List Pt) (r : List ℕ) → Ends r → Ends (behind (map point_text ps) ++ r)
unfolding behind
ends_behind [] r e = e
ends_behind (p ∷ ps) r e = λ d. omega arith

pub closes : (t : List ℕ) → Ends (41 ∷ t)
closes t = λ d. omega arith

pub behind_parse : (ps qs : List Pt) (r t : List ℕ) → Ends r → behind (map point_text ps) ++ r ≡ behind (map point_text qs) ++ (41 ∷ t) → GoesOn ps qs r t
unfolding behind
behind_parse [] qs r t e h = record { rest = qs; whole = refl; text = h }
behind_parse (p ∷ ps) [] r t e h = absurd (omega (arith, at_first h))
behind_parse (p ∷ ps) (q ∷ qs) r t e h = go (behind_parse ps qs r t e)
  where
    go : (behind (map point_text ps) ++ r ≡ behind (map point_text qs) ++ (41 ∷ t) → GoesOn ps qs r t) → GoesOn (p ∷ ps) (q ∷ qs) r t
    go rec =
        let k : (point_text p ++ behind (map point_text ps)) ++ r ≡ (point_text q ++ behind (map point_text qs)) ++ (41 ∷ t) = cc in
        let a : (p ≡ q) × (behind (map point_text ps) ++ r ≡ behind (map point_text qs) ++ (41 ∷ t))
        = point_parse p q (behind (map point_text ps) ++ r) (behind (map point_text qs) ++ (41 ∷ t)) (ends_behind ps r e) (ends_behind qs (41 ∷ t) (closes t)) (rw (append_assoc, append_assoc) at k) in
        let g : GoesOn ps qs r t = rec a.1 in
        record { rest = g.rest; whole = ap₂ ◌∷◌ (sym a.0) g.whole; text = g.text }

-- the last of them
pub behind_snoc : (ps : List Pt) (q : Pt) (r : List ℕ) → behind (map point_text (ps ++ (q ∷ []))) ++ r ≡ behind (map point_text ps) ++ (44 ∷ 32 ∷ (point_text q ++ r))
unfolding behind
behind_snoc [] q r = ap (λ (l : List ℕ). 44 ∷ 32 ∷ (l ++ r)) (append-nil (point_text q))
behind_snoc (p ∷ ps) q r =
    ap (λ (l : List ℕ). 44 ∷ 32 ∷ l)
    (append_assoc (point_text p) (behind (map point_text (ps ++ (q ∷ [])))) r
    ∙ ap (λ (l : List ℕ). point_text p ++ l) (behind_snoc ps q r)
    ∙ sym (append_assoc (point_text p) (behind (map point_text ps)) (44 ∷ 32 ∷ (point_text q ++ r))))

-- nothing goes on behind a closing parenthesis
pub stops : (rest : List Pt) (s t : List ℕ) → 41 ∷ s ≡ behind (map point_text rest) ++ (41 ∷ t) → (rest ≡ []) × (s ≡ t)
unfolding behind
stops [] s t h = (refl, cc)
stops (p ∷ rest) s t h = absurd (omega (arith, at_first h))

-- ---- rings

pub ring_splits : (c : Pt) (cs : List Pt) (t : List ℕ) → ring_text (c ∷ cs) ++ t ≡ 40 ∷ (point_text c ++ (behind (map point_text (cs ++ (c ∷ []))) ++ (41 ∷ t)))
unfolding ring_text parted
ring_splits c cs t = simp append_assoc

snoc_first : {A : Type 0} (a b : A) (l m : List A) → l ++ (a ∷ []) ≡ m ++ (b ∷ []) → l ≡ m
snoc_first a b l m e =
    let n : length l ≡ length m = omega (arith, ap length e, length-append l (a ∷ []), length-append m (b ∷ [])) in
    sym (take_at l (a ∷ []) (length m) n) ∙ ap (take (length m)) e ∙ take_at m (b ∷ []) (length m) refl

no-point : (p : Pt) (r s : List ℕ) → 41 ∷ s ≡ point_text p ++ r → ⊥
no-point p r s h = omega (arith, at_first (h ∙ point_splits p r), decimal-first p.x (32 ∷ (decimal p.y ++ r)))

pub ring_parse : (cs ds : List Pt) (s t : List ℕ) → ring_text cs ++ s ≡ ring_text ds ++ t → (cs ≡ ds) × (s ≡ t)
unfolding ring_text
ring_parse [] [] s t h = (refl, cc)
ring_parse [] (d ∷ ds) s t h = let k = h ∙ ring_splits d ds t in absurd (no-point d (behind (map point_text (ds ++ (d ∷ []))) ++ (41 ∷ t)) s (cc))
ring_parse (c ∷ cs) [] s t h = let k = sym h ∙ ring_splits c cs s in absurd (no-point c (behind (map point_text (cs ++ (c ∷ []))) ++ (41 ∷ s)) t (cc))
ring_parse (c ∷ cs) (d ∷ ds) s t h = go (sym (ring_splits c cs s) ∙ h ∙ ring_splits d ds t)
  where
    C : List ℕ
    C = behind (map point_text (cs ++ (c ∷ [])))

    D : List ℕ
    D = behind (map point_text (ds ++ (d ∷ [])))

    last : (C ++ (41 ∷ s) ≡ D ++ (41 ∷ t)) → (cs ≡ ds) × (s ≡ t)
    last k =
        let g : GoesOn (cs ++ (c ∷ [])) (ds ++ (d ∷ [])) (41 ∷ s) t = behind_parse (cs ++ (c ∷ [])) (ds ++ (d ∷ [])) (41 ∷ s) t (closes s) k in
        let n : (g.rest ≡ []) × (s ≡ t) = stops g.rest s t g.text in
        (snoc_first c d cs ds (sym (g.whole ∙ ap (λ (l : List Pt). (cs ++ (c ∷ [])) ++ l) n.0 ∙ append-nil (cs ++ (c ∷ [])))), n.1)

    go : 40 ∷ (point_text c ++ (C ++ (41 ∷ s))) ≡ 40 ∷ (point_text d ++ (D ++ (41 ∷ t))) → (c ∷ cs ≡ d ∷ ds) × (s ≡ t)
    go k =
        let a : (c ≡ d) × (C ++ (41 ∷ s) ≡ D ++ (41 ∷ t))
        = point_parse c d (C ++ (41 ∷ s)) (D ++ (41 ∷ t)) (ends_behind (cs ++ (c ∷ [])) (41 ∷ s) (closes s)) (ends_behind (ds ++ (d ∷ [])) (41 ∷ t) (closes t)) (cc) in
        let b : (cs ≡ ds) × (s ≡ t) = last a.1 in
        (ap₂ ◌∷◌ a.0 b.0, b.1)

-- ---- lines

pub line_splits : (c : Pt) (cs : List Pt) → polygon_line (c ∷ cs)
    ≡ 80 ∷ 79 ∷ 76 ∷ 89 ∷ 71 ∷ 79 ∷ 78 ∷ 32 ∷ 40 ∷ 40 ∷ (point_text c ++ (behind (map point_text (cs ++ (c ∷ []))) ++ (41 ∷ 41 ∷ [])))
unfolding polygon_line
line_splits c cs = ap (λ (l : List ℕ). 80 ∷ 79 ∷ 76 ∷ 89 ∷ 71 ∷ 79 ∷ 78 ∷ 32 ∷ 40 ∷ l) (ring_splits c cs (41 ∷ []))

pub polygon_injective : (cs ds : List Pt) → polygon_line cs ≡ polygon_line ds → cs ≡ ds
unfolding polygon_line
polygon_injective cs ds h = (ring_parse cs ds (41 ∷ []) (41 ∷ []) (cc)).0

-- the writing of some corners is in form, if it is not too long
pub form_of : (cs : List Pt) → cs ≢ [] → length (polygon_line cs) ≤ most_bytes → InForm (polygon_line cs) cs
form_of cs some short = record { written = refl; some_corner = some; short = short }

-- a line in form has a corner
pub no-corner : {line : List ℕ} → InForm line [] → ⊥
no-corner f = f.some_corner refl

pub too_long : (line : List ℕ) → most_bytes < length line → NotInForm line
unfolding NotInForm
too_long line h corners f = omega (arith, f.short)

-- at most one list of corners fits a line
pub in_form_one : (line : List ℕ) (cs ds : List Pt) → InForm line cs → InForm line ds → cs ≡ ds
in_form_one line cs ds f g = polygon_injective cs ds (sym f.written ∙ g.written)

-- whatever corners were read from a line in form, their writing is the line
pub written_back : (line : List ℕ) (cs : List Pt) → InForm line cs → polygon_line cs ≡ line
written_back line cs f = sym f.written

-- and what is written, if it is not too long, is read as what was written
pub read_back : (cs ds : List Pt) → InForm (polygon_line cs) ds → ds ≡ cs
read_back cs ds f = sym (polygon_injective cs ds f.written)

piece_parse : (r q : List Pt) (s t : List ℕ) → area_text r ++ s ≡ area_text q ++ t → (r ≡ q) × (s ≡ t)
unfolding area_text
piece_parse r q s t h =
    let k : (ring_text r ++ (41 ∷ [])) ++ s ≡ (ring_text q ++ (41 ∷ [])) ++ t = cc in
    let a : (r ≡ q) × (◌≡◌ {A = List ℕ} (41 ∷ s) (41 ∷ t)) = ring_parse r q (41 ∷ s) (41 ∷ t) (sym (append_assoc (ring_text r) (41 ∷ []) s) ∙ k ∙ append_assoc (ring_text q) (41 ∷ []) t) in
    (a.0, cc)

pieces_parse : (rs qs : List (List Pt)) → behind (map area_text rs) ++ (41 ∷ []) ≡ behind (map area_text qs) ++ (41 ∷ []) → rs ≡ qs
unfolding behind
pieces_parse [] [] h = refl
pieces_parse [] (q ∷ qs) h = absurd (omega (arith, at_first h))
pieces_parse (r ∷ rs) [] h = absurd (omega (arith, at_first h))
pieces_parse (r ∷ rs) (q ∷ qs) h =
    let k : (area_text r ++ behind (map area_text rs)) ++ (41 ∷ []) ≡ (area_text q ++ behind (map area_text qs)) ++ (41 ∷ []) = cc in
    let a : (r ≡ q) × (behind (map area_text rs) ++ (41 ∷ []) ≡ behind (map area_text qs) ++ (41 ∷ []))
    = piece_parse r q _ _ (sym (append_assoc (area_text r) (behind (map area_text rs)) (41 ∷ [])) ∙ k ∙ append_assoc (area_text q) (behind (map area_text qs)) (41 ∷ [])) in
    ap₂ ◌∷◌ a.0 (pieces_parse rs qs a.1)

pub multipolygon_injective : (rs qs : List (List Pt)) → multipolygon_line rs ≡ multipolygon_line qs → rs ≡ qs
unfolding multipolygon_line parted behind area_text
multipolygon_injective [] [] h = refl
multipolygon_injective [] (q ∷ qs) h = let k : ◌≡◌ {A = ℕ} 41 40 = cc in absurd (omega arith)
multipolygon_injective (r ∷ rs) [] h = let k : ◌≡◌ {A = ℕ} 41 40 = cc in absurd (omega arith)
multipolygon_injective (r ∷ rs) (q ∷ qs) h = pieces_parse (r ∷ rs) (q ∷ qs) (ap (λ (l : List ℕ). 44 ∷ 32 ∷ l) (cc))
