-- A number: digits, or a minus and the digits of a number above zero.
use Rattle.std.proofs.Common.{ℕ, zero, suc, ◌+◌, ◌≤◌, min, ◌≡◌, ◌≢◌, List, ◌∷◌, ◌++◌, sym, ap, ◌∙◌, pos, neg_ℤ, arith}
use Prim.Native.Char.{code}
use lib.IntN.{negsuc}
use lib.Ieee.{Float, binary32, of_bits, of_int, sub}
use Rattle.rules.specs.Limits.{grid_edge}
use Rattle.rules.specs.Text.{natural, decimal, Ends}
use Rattle.rules.specs.Lines.{coordinate}
use Rattle.rules.proofs.TextNumbers.{at_first, natural_parse, starts}
use Rattle.decimals.proofs.Floats.{minus_float}
use Rattle.decimals.specs.Reads.{NaturalRead, NoNatural, NumberRead, NoNumber}

pub size_small : {text : List ℕ} {value : ℕ} {rest : List ℕ} → NaturalRead text value rest → value ≤ grid_edge + 1
size_small h = omega (arith, h.worth)

-- ---- without a minus

module _ {text : List ℕ} where
  pub number_plain : {value : ℕ} {rest : List ℕ} → NaturalRead text value rest → NumberRead text (of_int binary32 (pos value)) rest
  unfolding decimal coordinate
  number_plain h = record { z = pos h.n; is = h.is; ends = h.ends; worth = ap (λ (x : ℕ). of_int binary32 (pos x)) h.worth }

  pub no_number_plain : ((l : List ℕ) → text ≡ code "-" ∷ l → ⊥) → NoNatural text → NoNumber text
  unfolding NoNatural NoNumber decimal
  no_number_plain e h (pos n) rest t f = h n rest t f
  no_number_plain e h (negsuc n) rest t f = e (natural (suc n) ++ rest) t

-- ---- behind a minus

module _ {text digits : List ℕ} (minus : text ≡ code "-" ∷ digits) where
  pub number_minus : {value : ℕ} {rest : List ℕ} → NaturalRead digits value rest → value ≢ 0 → NumberRead text (sub binary32 (of_bits binary32 0) (of_int binary32 (pos value))) rest
  unfolding decimal coordinate
  number_minus {value} {rest} h p = go h.n h.is h.worth
    where
      v : Float
      v = sub binary32 (of_bits binary32 0) (of_int binary32 (pos value))

      go : (n : ℕ) → digits ≡ natural n ++ rest → value ≡ min n (grid_edge + 1) → NumberRead text v rest
      go zero t w = absurd (p (omega (arith, w)))
      go (suc n) t w =
          record { z = negsuc n; is = minus ∙ ap (λ (l : List ℕ). code "-" ∷ l) t; ends = h.ends; worth = minus_float value (size_small h) ∙ ap (λ (x : ℕ). of_int binary32 (neg_ℤ (pos x))) w }

  -- there is no number above zero
  none_above : ((n : ℕ) (rest : List ℕ) → digits ≡ natural (suc n) ++ rest → Ends rest → ⊥) → NoNumber text
  unfolding NoNumber decimal
  none_above h (pos n) rest t f = omega (arith, starts n rest, at_first (sym minus ∙ t))
  none_above h (negsuc n) rest t f = let k = sym minus ∙ t in h n rest (cc) f

  pub no_minus_zero : {value : ℕ} {rest : List ℕ} → NaturalRead digits value rest → value ≡ 0 → NoNumber text
  no_minus_zero {value} {rest} h p = none_above bad
    where
      bad : (n : ℕ) (left : List ℕ) → digits ≡ natural (suc n) ++ left → Ends left → ⊥
      bad n left t f =
          let same : (h.n ≡ suc n) × (rest ≡ left) = natural_parse h.n (suc n) rest left h.ends f (sym h.is ∙ t) in
          omega (arith, h.worth, same.0)

  pub no_number_minus : NoNatural digits → NoNumber text
  unfolding NoNatural
  no_number_minus h = none_above (λ n rest t f. h (suc n) rest t f)
