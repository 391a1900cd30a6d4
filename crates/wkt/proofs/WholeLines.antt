-- A line as a whole: a word, and behind it a ring or a point up to the end.
use Prim.Native.Nat.{ℕ, ◌≤◌, ◌<◌}
use native.Mathlib.Omega.{arith}
use mathlib.Core.Path.{◌≡◌, refl, sym, ap, ◌∙◌}
use mathlib.Core.Logic.{◌≢◌}
use mathlib.Core.List.{List, [], ◌++◌}
use lib.ListN.{length, drop}
use lib.Seq.{drop_at}
use lib.Ieee.{Float}
use Rattle.std.specs.Prelude.{Option, None, Some, IfNone}
use Rattle.rules.specs.Plane.{Pt}
use Rattle.rules.specs.Text.{bytes, point_text, point_line, most_bytes}
use Rattle.rules.proofs.TextLines.{point_parse, closes}
use Rattle.wkt.specs.Reads.{SpotRead, NoPoint, ring_rest, NoRing, RingRead, NoOutline, OutlineRead, NoPointLine, PointRead}

-- what follows where there is none
pub if_none_then : {X P Q : Type 0} (r : Option X) → IfNone r P → (P → Q) → IfNone r Q
if_none_then None h f = f h
if_none_then (Some x) h f = h

behind_word : (word l m : List ℕ) → word ++ l ≡ word ++ m → l ≡ m
behind_word word l m e = sym (drop_at word l (length word) refl) ∙ ap (drop (length word)) e ∙ drop_at word m (length word) refl

pub spot_text : {text : List ℕ} {x y : Float} {written rest : List ℕ} (spot : SpotRead text x y written rest) → text ≡ point_text spot.p ++ rest
spot_text {rest = rest} spot = spot.is ∙ ap (λ (l : List ℕ). l ++ rest) spot.is_point

module _ (word line : List ℕ) where
  pub long_outline : most_bytes < length line → NoOutline word line
  unfolding NoOutline
  long_outline h c cs o = omega (arith, o.short)

  pub not_started : ((rest : List ℕ) → line ≢ word ++ rest) → NoOutline word line
  unfolding NoOutline
  not_started h c cs o = h (ring_rest c cs) o.text

  module _ (rest : List ℕ) (started : line ≡ word ++ rest) where
    pub no_ring : NoRing rest → NoOutline word line
    unfolding NoOutline NoRing
    no_ring h c cs o = h c cs (behind_word word rest (ring_rest c cs) (sym started ∙ o.text))

    pub outline_read : {n : ℕ} {coords : List Float} → length line ≤ most_bytes → RingRead rest n coords → OutlineRead word line n coords
    outline_read short r = record { c = r.c; cs = r.cs; outlined = record { text = started ∙ ap (λ (l : List ℕ). word ++ l) r.text; short = short }; known = r.known }

module _ (line : List ℕ) where
  pub long_point : most_bytes < length line → NoPointLine line
  unfolding NoPointLine
  long_point h p o = omega (arith, o.short)

  pub no_point_word : ((rest : List ℕ) → line ≢ bytes "POINT (" ++ rest) → NoPointLine line
  unfolding NoPointLine point_line
  no_point_word h p o = h (point_text p ++ bytes ")") o.text

  module _ (rest : List ℕ) (started : line ≡ bytes "POINT (" ++ rest) where
    point_there : (p : Pt) → line ≡ point_line p → rest ≡ point_text p ++ bytes ")"
    unfolding point_line
    point_there p e = behind_word (bytes "POINT (") rest (point_text p ++ bytes ")") (sym started ∙ e)

    pub no_spot : NoPoint rest → NoPointLine line
    unfolding NoPointLine NoPoint
    no_spot h p o = h p (bytes ")") (point_there p o.text) (closes [])

    module _ {x y : Float} {written left : List ℕ} (spot : SpotRead rest x y written left) where
      pub not_ended : left ≢ bytes ")" → NoPointLine line
      unfolding NoPointLine
      not_ended h p o = h (point_parse spot.p p left (bytes ")") spot.ends (closes []) (sym (spot_text spot) ∙ point_there p o.text)).1

      pub point_read : length line ≤ most_bytes → left ≡ bytes ")" → PointRead line x y
      unfolding point_line
      point_read short e = record {
        p = spot.p;
        pointed = record { text = started ∙ ap (λ (l : List ℕ). bytes "POINT (" ++ l) (spot_text spot ∙ ap (λ (l : List ℕ). point_text spot.p ++ l) e); short = short };
        worth-x = spot.worth-x;
        worth-y = spot.worth-y;
      }
