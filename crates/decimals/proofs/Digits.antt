-- Reading digits, one after the other.
use Rattle.std.proofs.Common.{ℕ, zero, suc, ◌+◌, ◌*◌, ◌<◌, min, ◌≡◌, ◌≢◌, List, [], ◌∷◌, ◌++◌, sym, ap, ◌∙◌, arith, append_assoc}
use Rattle.rules.specs.Limits.{grid_edge}
use Rattle.rules.specs.Text.{digit, natural, Ends}
use Rattle.rules.proofs.TextNumbers.{Numeral, small, more, spelled, natural_one, at_first, starts, starts-above}
use Rattle.decimals.specs.Reads.{DigitRead, NaturalRead, NoNatural}

pub no_digit : (text : List ℕ) → Ends text → NoNatural text
unfolding NoNatural
no_digit text e n rest t f = e (rw (at_first t) (starts n rest))

-- ---- a number above zero

-- digits up to the rest
pub record Sofar (text : List ℕ) (value : ℕ) (rest : List ℕ) : Type 0 where
  pub n : ℕ
  pub l : List ℕ
  pub spells : Numeral n l
  pub some : 0 < n
  pub is : text ≡ l ++ rest
  pub worth : value ≡ min n (grid_edge + 1)

pub begun : {text : List ℕ} {d : ℕ} {rest : List ℕ} → DigitRead text d rest → d ≢ 0 → Sofar text d rest
begun {d = d} h q = record { n = d; l = digit d ∷ []; spells = small h.small; some = omega arith; is = h.is; worth = omega (arith, h.small) }

capped_more : (n v d : ℕ) → v ≡ min n (grid_edge + 1) → min (v * 10 + d) (grid_edge + 1) ≡ min (n * 10 + d) (grid_edge + 1)
capped_more n v d e = omega arith

pub further : {text : List ℕ} {value d : ℕ} {rest behind : List ℕ} → Sofar text value rest → DigitRead rest d behind → Sofar text (min (value * 10 + d) (grid_edge + 1)) behind
further {value = value} {d = d} {behind = behind} s h =
    let positive : 0 < s.n * 10 + d = omega (arith, s.some) in
    record {
      n = s.n * 10 + d;
      l = s.l ++ (digit d ∷ []);
      spells = more s.spells s.some h.small;
      some = positive;
      is = s.is ∙ ap (λ (m : List ℕ). s.l ++ m) h.is ∙ sym (append_assoc s.l (digit d ∷ []) behind);
      worth = capped_more s.n value d s.worth;
    }

pub natural-done : {text : List ℕ} {value : ℕ} {rest : List ℕ} → Sofar text value rest → Ends rest → NaturalRead text value rest
natural-done {rest = rest} s e = record { n = s.n; is = s.is ∙ ap (λ (m : List ℕ). m ++ rest) (spelled s.spells); ends = e; worth = s.worth }

-- ---- zero, which stands before no other digit

pub zero_alone : {text rest : List ℕ} → DigitRead text 0 rest → Ends rest → NaturalRead text 0 rest
zero_alone {rest = rest} h e = record { n = 0; is = h.is ∙ ap (λ (l : List ℕ). l ++ rest) (sym (natural_one 0 (omega arith))); ends = e; worth = omega arith }

pub zero_before : {text rest behind : List ℕ} {d : ℕ} → DigitRead text 0 rest → DigitRead rest d behind → NoNatural text
unfolding NoNatural
zero_before {text} {rest} {behind} {d} h k = go
  where
    go : (n : ℕ) (left : List ℕ) → text ≡ natural n ++ left → Ends left → ⊥
    go zero left t f =
        let m : ◌≡◌ {A = List ℕ} (digit 0 ∷ rest) (digit 0 ∷ left) = sym h.is ∙ t ∙ ap (λ (l : List ℕ). l ++ left) (natural_one 0 (omega arith)) in
        let r : rest ≡ left = cc in
        omega (arith, f, at_first (sym r ∙ k.is), k.small)
    go (suc n) left t f = omega (arith, starts-above (suc n) left (omega arith), at_first (sym h.is ∙ t))
