-- A point: two numbers with a space between them.
use Rattle.std.proofs.Common.{ℕ, ◌-◌, ◌≡◌, ◌≢◌, List, ◌∷◌, ◌++◌, length, take, sym, ap, ◌∙◌, arith, length-append}
use Prim.Native.Char.{code}
use lib.Seq.{take_at}
use lib.Ieee.{Float}
use Rattle.rules.specs.Plane.{Pt}
use Rattle.rules.specs.Text.{decimal, point_text}
use Rattle.rules.proofs.TextNumbers.{decimal_parse}
use Rattle.rules.proofs.TextLines.{point_splits}
use Rattle.decimals.specs.Reads.{NumberRead, NoNumber}
use Rattle.wkt.specs.Reads.{SpotRead, NoPoint}

pub no_first : (text : List ℕ) → NoNumber text → NoPoint text
unfolding NoNumber NoPoint
no_first text h p rest t f = h p.x (code " " ∷ (decimal p.y ++ rest)) (t ∙ point_splits p rest) (λ d. omega arith)

-- the front of a text, by what stands behind it
front : (text l rest : List ℕ) → text ≡ l ++ rest → take (length text - length rest) text ≡ l
front text l rest e = ap (take (length text - length rest)) e ∙ take_at l rest (length text - length rest) (omega (arith, ap length e, length-append l rest))

module _ {text behind : List ℕ} {x : Float} (h : NumberRead text x behind) where
  -- behind the first number a point goes on with a space
  goes_on : (p : Pt) (rest : List ℕ) → text ≡ point_text p ++ rest → behind ≡ code " " ∷ (decimal p.y ++ rest)
  goes_on p rest t = (decimal_parse h.z p.x behind (code " " ∷ (decimal p.y ++ rest)) h.ends (λ d. omega arith) (sym h.is ∙ t ∙ point_splits p rest)).1

  pub no_space : ((l : List ℕ) → behind ≢ code " " ∷ l) → NoPoint text
  unfolding NoPoint
  no_space e p rest t f = e (decimal p.y ++ rest) (goes_on p rest t)

  module _ {second : List ℕ} (space : behind ≡ code " " ∷ second) where
    pub no_second : NoNumber second → NoPoint text
    unfolding NoNumber NoPoint
    no_second k p rest t f = let m = sym space ∙ goes_on p rest t in k p.y rest (cc) f

    pub spot_read : {y : Float} {rest : List ℕ} → NumberRead second y rest → SpotRead text x y (take (length text - length rest) text) rest
    spot_read {y} {rest} k =
        let p : Pt = record { x = h.z; y = k.z } in
        let whole : text ≡ point_text p ++ rest = h.is ∙ ap (λ (l : List ℕ). decimal h.z ++ l) (space ∙ ap (λ (l : List ℕ). code " " ∷ l) k.is) ∙ sym (point_splits p rest) in
        let written : take (length text - length rest) text ≡ point_text p = front text (point_text p) rest whole in
        record { p = p; is = whole ∙ ap (λ (l : List ℕ). l ++ rest) (sym written); is_point = written; ends = k.ends; worth-x = h.worth; worth-y = k.worth }
