-- Points and areas as they are written, part by part.
use Rattle.std.proofs.Common.{ℕ, ◌+◌, ◌<◌, ◌≤◌, ◌≡◌, List, [], ◌∷◌, ◌++◌, map, length, drop, get_or, sym, ap, ◌∙◌, add-one, arith, append_assoc, append-nil}
use lib.ListN.{drop_of_length-le}
use lib.Seq.{drop-cons}
use Rattle.rules.specs.Plane.{Pt, point}
use Rattle.rules.specs.Measure.{points}
use Rattle.rules.specs.Text.{bytes, decimal, point_text, behind, area_text}
use Rattle.rules.proofs.TextLines.{ring_splits}
use Rattle.decimals.specs.declared.write.Text.{Text}
use Rattle.decimals.specs.Writes.{Takes}
use Rattle.decimals.proofs.Texts.{Partly, partly_none, partly_as}
use Rattle.wkt.specs.Reads.{parting, closing}

-- ---- a point

pub point_first : {text : Text} (p : Pt) → Takes text (point_text p) → Partly text text (point_text p) (decimal p.x ++ (bytes " " ++ decimal p.y))
unfolding point_text
point_first p h = partly_none h

-- ---- an area

-- points, with a comma and a space behind each
abbrev pub leading : List Pt → List ℕ
leading [] = []
leading (c ∷ cs) = point_text c ++ (parting ++ leading cs)

leads : (c : Pt) (cs : List Pt) (q : Pt) (m : List ℕ) → point_text c ++ (behind (map point_text (cs ++ (q ∷ []))) ++ m) ≡ leading (c ∷ cs) ++ (point_text q ++ m)
unfolding behind
leads c [] q m = ap (λ (l : List ℕ). point_text c ++ (parting ++ (l ++ m))) (append-nil (point_text q)) ∙ sym (append_assoc (point_text c) parting (point_text q ++ m))
leads c (d ∷ ds) q m =
    ap (λ (l : List ℕ). point_text c ++ (parting ++ l)) (append_assoc (point_text d) (behind (map point_text (ds ++ (q ∷ [])))) m ∙ leads d ds q m)
    ∙ sym (append_assoc (point_text c) (parting ++ leading (d ∷ ds)) (point_text q ++ m))

-- the corners from number i on, and the first again
abbrev pub corners_from : List Pt → List ℕ → ℕ → List ℕ
corners_from ps ring i = leading (points ps (drop i ring)) ++ (point_text (point ps (get_or ring 0 0)) ++ closing)

area-parts : (ps : List Pt) (ring : List ℕ) → 0 < length ring → area_text (points ps ring) ≡ bytes "((" ++ corners_from ps ring 0
unfolding area_text
area-parts ps [] h = absurd (omega arith)
area-parts ps (a ∷ ring) h =
    let c : Pt = point ps a in
    let cs : List Pt = points ps ring in
    ap (λ (l : List ℕ). bytes "(" ++ l) (ring_splits c cs (bytes ")") ∙ ap (λ (l : List ℕ). bytes "(" ++ l) (leads c cs c closing))

module _ {text : Text} (ps : List Pt) (ring : List ℕ) where
  pub area_first : 0 < length ring → Takes text (area_text (points ps ring)) → Partly text text (area_text (points ps ring)) (bytes "((" ++ corners_from ps ring 0)
  area_first h r = partly_as (area-parts ps ring h) (partly_none r)

module _ {old new : Text} {whole : List ℕ} (ps : List Pt) (ring : List ℕ) (i : ℕ) (p : Partly old new whole (corners_from ps ring i)) where
  -- the next corner is left
  pub corner_left : i < length ring → Partly old new whole (point_text (point ps (get_or ring i 0)) ++ (parting ++ corners_from ps ring (i + 1)))
  corner_left h =
      let q : List ℕ = point_text (point ps (get_or ring i 0)) in
      let others : List ℕ = leading (points ps (drop (i + 1) ring)) in
      let last : List ℕ = point_text (point ps (get_or ring 0 0)) ++ closing in
      let next : leading (points ps (drop i ring)) ≡ q ++ (parting ++ others) = rw (drop-cons ring i 0 h, add-one i) in
      partly_as (ap (λ (l : List ℕ). l ++ last) next ∙ append_assoc q (parting ++ others) last) p

  -- none is left but the first
  pub first_left : length ring ≤ i → Partly old new whole (point_text (point ps (get_or ring 0 0)) ++ closing)
  first_left h = partly_as (ap (λ (l : List ℕ). leading (points ps l) ++ (point_text (point ps (get_or ring 0 0)) ++ closing)) (drop_of_length-le ring h)) p
