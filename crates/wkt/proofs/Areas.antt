-- A line of areas as it is written, area by area.
use Rattle.std.proofs.Common.{ℕ, ◌+◌, ◌<◌, ◌≤◌, ◌≡◌, List, [], ◌∷◌, ◌++◌, map, length, take, drop, get_or, ap, ◌∙◌, add-one, arith, append_assoc, subst, add-zero}
use lib.ListN.{drop_of_length-le, length-drop}
use lib.Seq.{drop-cons, drop-drop, get_or-drop}
use Rattle.algebra.specs.Lists.{Each, sum}
use Rattle.algebra.proofs.Lists.{each_at, each-drop, each_take, sum-next}
use Rattle.rules.specs.Plane.{Pt}
use Rattle.rules.specs.Measure.{points}
use Rattle.rules.specs.Layout.{split}
use Rattle.rules.specs.Text.{bytes, behind, parted, area_text, multipolygon_line}
use Rattle.decimals.specs.declared.write.Text.{Text}
use Rattle.decimals.proofs.Texts.{Partly, partly_none, partly_as}
use Rattle.wkt.specs.Reads.{parting}

module _ (ps : List Pt) where
  abbrev pub line : List ℕ → List ℕ → List ℕ
  line lengths indices = multipolygon_line (map (points ps) (split lengths indices))

  -- areas of these lengths, each behind a comma and a space, and the parenthesis
  abbrev pub further : List ℕ → List ℕ → List ℕ
  further lengths indices = behind (map area_text (map (points ps) (split lengths indices))) ++ bytes ")"

  line-parts : (n : ℕ) (lengths indices : List ℕ) → line (n ∷ lengths) indices ≡ bytes "MULTIPOLYGON (" ++ (area_text (points ps (take n indices)) ++ further lengths (drop n indices))
  unfolding multipolygon_line parted split
  line-parts n lengths indices =
      ap (λ (l : List ℕ). bytes "MULTIPOLYGON (" ++ l) (append_assoc (area_text (points ps (take n indices))) (behind (map area_text (map (points ps) (split lengths (drop n indices))))) (bytes ")"))

  -- the word is left, the first area, and the others
  pub line_first : {text : Text} (lengths indices : List ℕ) → 0 < length lengths → text.end + length (line lengths indices) ≤ length text.out.now
      → Partly text text (line lengths indices) (bytes "MULTIPOLYGON (" ++ (area_text (points ps (take (get_or lengths 0 0) indices)) ++ further (drop 1 lengths) (drop (get_or lengths 0 0) indices)))
  line_first [] indices h r = absurd (omega arith)
  line_first (n ∷ lengths) indices h r = partly_as (line-parts n lengths indices) (partly_none (record { fits = r }))

  further-parts : (n : ℕ) (lengths indices : List ℕ) → further (n ∷ lengths) indices ≡ parting ++ (area_text (points ps (take n indices)) ++ further lengths (drop n indices))
  unfolding behind split
  further-parts n lengths indices =
      ap (λ (l : List ℕ). parting ++ l) (append_assoc (area_text (points ps (take n indices))) (behind (map area_text (map (points ps) (split lengths (drop n indices))))) (bytes ")"))

  module _ {old new : Text} {whole : List ℕ} (lengths indices : List ℕ) (i : ℕ) (p : Partly old new whole (further (drop i lengths) indices)) where
    -- the next area is left
    pub area_left : i < length lengths → Partly old new whole (parting ++ (area_text (points ps (take (get_or lengths i 0) indices)) ++ further (drop (i + 1) lengths) (drop (get_or lengths i 0) indices)))
    area_left h =
        let next : drop i lengths ≡ get_or lengths i 0 ∷ drop (i + 1) lengths = rw (drop-cons lengths i 0 h, add-one i) in
        partly_as (ap (λ (l : List ℕ). further l indices) next ∙ further-parts (get_or lengths i 0) (drop (i + 1) lengths) indices) p

    -- none is left
    pub none_left : length lengths ≤ i → Partly old new whole (bytes ")")
    unfolding behind split
    none_left h = partly_as (ap (λ (l : List ℕ). further l indices) (drop_of_length-le lengths h)) p

-- what is known of the corner numbers of areas of these lengths
pub record Ahead (ps : List Pt) (lengths indices : List ℕ) : Type 0 where
  pub known : Each (λ i. i < length ps) indices
  pub no_empty : Each (λ n. 0 < n) lengths
  pub within : sum lengths ≤ length indices

first-at : (l : List ℕ) (i : ℕ) → get_or (drop i l) 0 0 ≡ get_or l i 0
first-at l i = get_or-drop i l 0 0 ∙ ap (λ (j : ℕ). get_or l j 0) (add-zero i)

module _ {ps : List Pt} (lengths indices : List ℕ) (i : ℕ) (h : i < length lengths) (a : Ahead ps (drop i lengths) indices) where
  -- of the next
  pub next_within : get_or lengths i 0 ≤ length indices
  next_within = omega (arith, a.within, sum-next lengths i h)

  pub next_some : 0 < get_or lengths i 0
  next_some = let p : 0 < length (drop i lengths) = omega (arith, length-drop i lengths) in subst (λ (n : ℕ). 0 < n) (first-at lengths i) (each_at 0 (drop i lengths) 0 p a.no_empty)

  pub next_known : Each (λ j. j < length ps) (take (get_or lengths i 0) indices)
  next_known = each_take (get_or lengths i 0) indices a.known

  -- and of those behind it
  pub others_ahead : Ahead ps (drop (i + 1) lengths) (drop (get_or lengths i 0) indices)
  others_ahead = record {
    known = each-drop (get_or lengths i 0) indices a.known;
    no_empty = subst (Each (λ n. 0 < n)) (drop-drop 1 i lengths) (each-drop 1 (drop i lengths) a.no_empty);
    within = omega (arith, a.within, sum-next lengths i h, length-drop (get_or lengths i 0) indices);
  }
