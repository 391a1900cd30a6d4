-- The points of a line, passed one after the other; and what they say of the line where they end.
use Prim.Native.Char.{code}
use Prim.Native.Nat.{ℕ, suc, ◌+◌, ◌<◌}
use native.Mathlib.Omega.{arith}
use mathlib.Core.Path.{◌≡◌, refl, sym, ap, ◌∙◌}
use mathlib.Core.Logic.{◌≢◌}
use mathlib.Core.List.{List, [], ◌∷◌, ◌++◌, map, append_assoc, append-nil}
use lib.ListN.{length, take, length-append}
use lib.Seq.{take_at}
use lib.Ieee.{Float}
use Rattle.algebra.specs.Rings.{last_of}
use Rattle.algebra.proofs.Rings.{last_++}
use Rattle.rules.specs.Limits.{most_coordinates}
use Rattle.rules.specs.Plane.{Pt}
use Rattle.rules.specs.Text.{bytes, decimal, point_text, behind}
use Rattle.rules.specs.Lines.{coordinates}
use Rattle.rules.proofs.TextNumbers.{at_first, ends_nil}
use Rattle.rules.proofs.TextLines.{point_parse, ends_behind, behind_parse, behind_snoc, GoesOn, stops}
use Rattle.wkt.specs.Reads.{parting, closing, SpotRead, NoPoint, stored, Held, Passed, ring_rest, NoRing, RingRead}
use Rattle.wkt.proofs.Forms.{ends_closed}
use Rattle.wkt.proofs.WholeLines.{spot_text}
use Rattle.wkt.proofs.Stores.{length-stored, held_none, held_more}

-- ---- from the first point on

point_some : (p : Pt) → 0 < length (point_text p)
unfolding point_text
point_some p = omega (arith, length-append (decimal p.x) (code " " ∷ decimal p.y))

pub passed_first : {text written rest : List ℕ} {x y : Float} (coords : List Float) → length coords ≡ most_coordinates → SpotRead text x y written rest → Passed text written written rest 1 (stored coords 0 x y)
unfolding behind
passed_first {text} {written} {rest} {x} {y} coords size h =
    record {
      p = h.p;
      qs = [];
      is = spot_text h;
      ends = h.ends;
      counted = refl;
      is_first = h.is_point;
      is_last = h.is_point;
      held = held_more 0 [] h.p coords x y refl size h.worth-x h.worth-y (held_none coords);
      size = length-stored coords 0 x y ∙ size;
      few = omega (arith, point_some h.p, ap length (spot_text h), length-append (point_text h.p) rest);
    }

module _ {text first last rest : List ℕ} {n : ℕ} {coords : List Float} (w : Passed text first last rest n coords) {next : List ℕ} (parted : rest ≡ parting ++ next) where
  pub passed_more : {x y : Float} {written behind_it : List ℕ} → SpotRead next x y written behind_it → Passed text first written behind_it (n + 1) (stored coords n x y)
  passed_more {x} {y} {written} {behind_it} h =
      record {
        p = w.p;
        qs = w.qs ++ (h.p ∷ []);
        is = w.is ∙ ap (λ (l : List ℕ). point_text w.p ++ l)
            (ap (λ (l : List ℕ). behind (map point_text w.qs) ++ l) (parted ∙ ap (λ (l : List ℕ). parting ++ l) (spot_text h)) ∙ sym (behind_snoc w.qs h.p behind_it));
        ends = h.ends;
        counted = omega (arith, w.counted, length-append w.qs (h.p ∷ []));
        is_first = w.is_first;
        is_last = h.is_point ∙ ap point_text (sym (last_++ w.p w.qs h.p []));
        held = held_more n (w.p ∷ w.qs) h.p coords x y (sym w.counted) w.size h.worth-x h.worth-y w.held;
        size = length-stored coords n x y ∙ w.size;
        few = omega (arith, w.few, ap length parted, length-append parting next, ap length (spot_text h), length-append (point_text h.p) behind_it);
      }

-- ---- what stands behind the points of a ring

-- a comma, a space and a point, or the closing
no-next : (rest : List ℕ) (ps : List Pt) → rest ≡ behind (map point_text ps) ++ closing → (next : List ℕ) → rest ≡ parting ++ next → NoPoint next → ⊥
unfolding behind NoPoint
no-next rest [] f next e h = let k : ◌≡◌ {A = List ℕ} closing (parting ++ next) = sym f ∙ e in omega (arith, at_first k)
no-next rest (q ∷ ps) f next e h =
    let k : ◌≡◌ {A = List ℕ} (parting ++ next) (parting ++ ((point_text q ++ behind (map point_text ps)) ++ closing)) = sym e ∙ f in
    let j : next ≡ (point_text q ++ behind (map point_text ps)) ++ closing = cc in
    h q (behind (map point_text ps) ++ closing) (j ∙ append_assoc (point_text q) (behind (map point_text ps)) closing) (ends_closed ps)

ended : (rest : List ℕ) (ps : List Pt) → rest ≡ behind (map point_text ps) ++ closing → ((next : List ℕ) → rest ≢ parting ++ next) → rest ≡ closing
unfolding behind
ended rest [] f h = f
ended rest (q ∷ ps) f h = absurd (h ((point_text q ++ behind (map point_text ps)) ++ closing) f)

-- all but the last
inits : Pt → List Pt → List Pt
inits p [] = []
inits p (q ∷ qs) = p ∷ inits q qs

inits_last : (p : Pt) (qs : List Pt) → p ∷ qs ≡ inits p qs ++ (last_of p qs ∷ [])
unfolding inits
inits_last p [] = refl
inits_last p (q ∷ qs) = ap (λ (l : List Pt). p ∷ l) (inits_last q qs)

length_inits : (p : Pt) (qs : List Pt) → length (inits p qs) ≡ length qs
unfolding inits
length_inits p [] = refl
length_inits p (q ∷ qs) = ap suc (length_inits q qs)

same_point : (p q : Pt) → point_text p ≡ point_text q → p ≡ q
same_point p q e = (point_parse p q [] [] ends_nil ends_nil (ap (λ (l : List ℕ). l ++ []) e)).0

-- the last of the points is the first again, so the others are the corners
closed-ring : (p q : Pt) (qs : List Pt) (rest : List ℕ) → rest ≡ point_text p ++ (behind (map point_text (q ∷ qs)) ++ closing) → p ≡ last_of q qs → rest ≡ ring_rest p (inits q qs)
unfolding ring_rest
closed-ring p q qs rest e l =
    let back : q ∷ qs ≡ inits q qs ++ (p ∷ []) = inits_last q qs ∙ ap (λ (x : Pt). inits q qs ++ (x ∷ [])) (sym l) in
    e ∙ ap (λ (m : List Pt). point_text p ++ (behind (map point_text m) ++ closing)) back

-- ---- of a line whose points were passed

-- the points of a ring go on from those that were passed
record Going (p : Pt) (qs : List Pt) (r : List ℕ) : Type 0 where
  cs : List Pt
  goes : GoesOn qs (cs ++ (p ∷ [])) r (bytes ")")

module _ {text first last rest : List ℕ} {n : ℕ} {coords : List Float} (w : Passed text first last rest n coords) where
  going : (c : Pt) (cs : List Pt) → text ≡ ring_rest c cs → Going w.p w.qs rest
  unfolding ring_rest
  going c cs f =
      let R : List ℕ = behind (map point_text w.qs) ++ rest in
      let S : List ℕ = behind (map point_text (cs ++ (c ∷ []))) ++ closing in
      let a : (w.p ≡ c) × (R ≡ S) = point_parse w.p c R S (ends_behind w.qs rest w.ends) (ends_closed (cs ++ (c ∷ []))) (sym w.is ∙ f) in
      let k : R ≡ behind (map point_text (cs ++ (w.p ∷ []))) ++ closing = a.1 ∙ ap (λ (q : Pt). behind (map point_text (cs ++ (q ∷ []))) ++ closing) (sym a.0) in
      record { cs = cs; goes = behind_parse w.qs (cs ++ (w.p ∷ [])) rest (bytes ")") w.ends k }

  pub no_next_point : {next : List ℕ} → rest ≡ parting ++ next → NoPoint next → NoRing text
  unfolding NoRing
  no_next_point {next} e h c cs f = let g = going c cs f in no-next rest g.goes.rest g.goes.text next e h

  -- closed, so the points are all there are
  all-passed : (g : Going w.p w.qs rest) → rest ≡ closing → g.cs ++ (w.p ∷ []) ≡ w.qs
  all-passed g e = g.goes.whole ∙ ap (λ (l : List Pt). w.qs ++ l) (stops g.goes.rest (bytes ")") (bytes ")") (sym e ∙ g.goes.text)).0 ∙ append-nil w.qs

  module _ (no_more : (next : List ℕ) → rest ≢ parting ++ next) where
    pub not_closed : rest ≢ closing → NoRing text
    unfolding NoRing
    not_closed k c cs f = let g = going c cs f in k (ended rest g.goes.rest g.goes.text no_more)

    pub one_point : n < 2 → NoRing text
    unfolding NoRing
    one_point k c cs f =
        let g = going c cs f in
        let e : rest ≡ closing = ended rest g.goes.rest g.goes.text no_more in
        omega (arith, w.counted, ap length (all-passed g e), length-append g.cs (w.p ∷ []))

    pub not_repeated : last ≢ first → NoRing text
    unfolding NoRing
    not_repeated h c cs f =
        let g = going c cs f in
        let e : rest ≡ closing = ended rest g.goes.rest g.goes.text no_more in
        let l : last_of w.p w.qs ≡ w.p = ap (last_of w.p) (sym (all-passed g e)) ∙ last_++ w.p g.cs w.p [] in
        h (w.is_last ∙ ap point_text l ∙ sym w.is_first)

  pub read : rest ≡ closing → last ≡ first → (k : ℕ) → 0 < k → k + 1 ≡ n → RingRead text k coords
  unfolding Held inits
  read e same k some_corner but-one = go w.qs refl
    where
      p : Pt
      p = w.p

      l : p ≡ last_of p w.qs
      l = same_point p (last_of p w.qs) (sym w.is_first ∙ sym same ∙ w.is_last)

      t : text ≡ point_text p ++ (behind (map point_text w.qs) ++ closing)
      t = w.is ∙ ap (λ (m : List ℕ). point_text p ++ (behind (map point_text w.qs) ++ m)) e

      go : (qs : List Pt) → w.qs ≡ qs → RingRead text k coords
      go [] q = absurd (omega (arith, w.counted, ap length q))
      go (q ∷ qs) f =
          let all : k ≡ length (p ∷ inits q qs) = omega (arith, w.counted, ap length f, length_inits q qs) in
          let front : p ∷ w.qs ≡ (p ∷ inits q qs) ++ (last_of q qs ∷ []) = ap (λ (m : List Pt). p ∷ m) (f ∙ inits_last q qs) in
          record {
            c = p;
            cs = inits q qs;
            text = closed-ring p q qs text (t ∙ ap (λ (m : List Pt). point_text p ++ (behind (map point_text m) ++ closing)) f) (l ∙ ap (last_of p) f);
            known = record {
              counted = all;
              held = λ room. w.held k (omega arith) room ∙ ap coordinates (ap (take k) front ∙ take_at (p ∷ inits q qs) (last_of q qs ∷ []) k (sym all));
            };
          }
