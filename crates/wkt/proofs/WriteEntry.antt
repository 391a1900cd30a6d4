-- What the writer of a POLYGON line gives back, by its refusal and by what was written; and that two results which the promise allows are equal.
use Rattle.std.proofs.Common.{ℕ, ◌+◌, ◌^◌, ◌<◌, ◌≤◌, ◌≡◌, ◌≢◌, List, [], ◌++◌, length, take, sym, ap, ◌∙◌, arith}
use lib.Dec.{ltb}
use lib.Ieee.{Float}
use borrow.Author.Tests.{ltb-false, lt-ltb, le-ltb}
use Rattle.algebra.specs.Lists.{Each, count_from}
use Rattle.algebra.proofs.Lists.{each_imp}
use Rattle.algebra.proofs.Counting.{count-take, count-within, count-length}
use Rattle.rules.specs.Limits.{most_points}
use Rattle.rules.specs.Plane.{Pt}
use Rattle.rules.specs.Grid.{points_of}
use Rattle.rules.specs.Measure.{points}
use Rattle.rules.specs.Refusals.{first_refusal, outline_checks}
use Rattle.rules.specs.Text.{bytes, area_text, polygon_line}
use Rattle.rules.specs.Lines.{polygon_room, polygon_checks, polygon_writer}
use Rattle.rules.proofs.Rows.{passes, row_on, row_off, no_rows, front_none, front_gives, others_decide}
use Rattle.rules.proofs.Fronts.{polygon-front}
use Rattle.rules.proofs.Outline.{all-points}
use Rattle.rules.proofs.Outlines.{Outlined, outlined}
use Rattle.rules.proofs.GridSizes.{grid_points}
use Rattle.rules.proofs.TextLengths.{polygon-short}
use Rattle.rules.proofs.Answers.{writing-answered, writing_refused}
use Rattle.entries.specs.declared.Answer.{Answer}
use Rattle.entries.proofs.Answers.{answers_equal}
use Rattle.decimals.specs.declared.write.Text.{Text}
use Rattle.decimals.specs.Writes.{Room, Wrote}
use Rattle.decimals.proofs.Texts.{wrote-over, Partly, partly_none}
use Rattle.wkt.specs.Promise.{PolygonPromise}

promised : (cs : List Float) (out : List ℕ) (r : Answer) (after : List ℕ) → polygon_writer cs out ≡ record { number = r.number; count = r.count; text = after } → PolygonPromise cs out r after
promised cs out r after e = record { number = rw e; count = rw e; text = rw e }

module _ (cs : List Float) (out : List ℕ) where
  pub refused_lem : {n : ℕ} → n ≡ first_refusal (polygon_checks cs (length out)) → n ≢ 0 → PolygonPromise cs out (record { number = n; count = 0 }) out
  unfolding polygon_writer
  refused_lem {n} e d = promised cs out (record { number = n; count = 0 }) out (writing_refused (polygon_checks cs (length out)) (polygon_line (points_of cs)) out (λ z. d (e ∙ z)) ∙ ap (λ m. record { number = m; count = 0; text = out }) (sym e))

  pub not_an_outline : {n : ℕ} → n ≡ first_refusal (outline_checks 1 most_points cs) → n ≢ 0 → PolygonPromise cs out (record { number = n; count = 0 }) out
  not_an_outline e d = refused_lem (front_gives (polygon-front cs (length out)) e d) d

  pub too_short : 0 ≡ first_refusal (outline_checks 1 most_points cs) → length out < polygon_room (length (points_of cs)) → PolygonPromise cs out (record { number = 6; count = 0 }) out
  too_short e h = refused_lem (sym (others_decide (polygon-front cs (length out)) (sym e) ∙ row_on 6 [] (lt-ltb (length out) (polygon_room (length (points_of cs))) h))) (λ z. omega arith)

  -- what is known where no refusal applies
  module _ (none : first_refusal (polygon_checks cs (length out)) ≡ 0) where
    first_none : first_refusal (outline_checks 1 most_points cs) ≡ 0
    first_none = front_none (polygon-front cs (length out)) none

    pub accepted : Outlined 1 most_points cs
    accepted = outlined 1 most_points cs first_none

    enough : polygon_room (length (points_of cs)) ≤ length out
    enough = ltb-false (length out) (polygon_room (length (points_of cs))) (passes (ltb (length out) (polygon_room (length (points_of cs)))) 5 [] (sym (others_decide (polygon-front cs (length out)) first_none) ∙ none)).0

    pub short : length (polygon_line (points_of cs)) ≤ polygon_room (length (points_of cs))
    short = polygon-short (points_of cs) (grid_points cs accepted.on_grid)

    pub line_room : Room out 0 (polygon_line (points_of cs))
    line_room = record { fits = omega (arith, enough, short) }

    module _ {after : List ℕ} {end : ℕ} (w : Wrote out after 0 end (polygon_line (points_of cs))) where
      pub counted : end < 2 ^ 32
      counted = omega (arith, (wrote-over w).1, short, accepted.at_most)

      pub answered : PolygonPromise cs out (record { number = 0; count = end }) after
      unfolding polygon_writer
      answered = rw ((wrote-over w).0, (wrote-over w).1) (promised cs out _ _ (writing-answered (polygon_checks cs (length out)) (polygon_line (points_of cs)) out none))

  pub none_applies : 0 ≡ first_refusal (outline_checks 1 most_points cs) → polygon_room (length (points_of cs)) ≤ length out → first_refusal (polygon_checks cs (length out)) ≡ 0
  none_applies e h = others_decide (polygon-front cs (length out)) (sym e) ∙ row_off 6 [] (le-ltb (length out) (polygon_room (length (points_of cs))) h) ∙ no_rows

-- ---- the ring of all points, which are the first of all numbers

pub record AllPoints (ps : List Pt) (ring : List ℕ) : Type 0 where
  pub size : length ring ≡ length ps
  pub known : Each (λ i. i < length ps) ring
  pub corners : points ps ring ≡ ps

pub all_points : (ps : List Pt) (n : ℕ) (all : List ℕ) → n ≡ length ps → length ps ≤ most_points → all ≡ count_from 0 most_points → AllPoints ps (take n all)
all_points ps n all e few numbers =
    let ring : take n all ≡ count_from 0 (length ps) = ap (take n) numbers ∙ ap (λ (k : ℕ). take k (count_from 0 most_points)) e ∙ count-take 0 (length ps) most_points (omega arith) in
    record {
      size = ap length ring ∙ count-length 0 (length ps);
      known = rw ring (each_imp below (count-within 0 (length ps)));
      corners = ap (points ps) ring ∙ all-points ps;
    }
  where
    below : (j : ℕ) → (0 ≤ j) × (j < 0 + length ps) → j < length ps
    below j h = omega arith

pub polygon_parts : {text : Text} (ps : List Pt) → text.end + length (polygon_line ps) ≤ length text.out.now → Partly text text (polygon_line ps) (bytes "POLYGON " ++ area_text ps)
unfolding polygon_line
polygon_parts ps r = partly_none (record { fits = r })

-- ---- two results that the promise allows are equal

pub unique : (cs : List Float) (before : List ℕ) (r s : Answer) (after after' : List ℕ) → PolygonPromise cs before r after → PolygonPromise cs before s after' → (r ≡ s) × (after ≡ after')
unique cs before r s after after' p q = (answers_equal r s (p.number ∙ sym q.number) (p.count ∙ sym q.count), p.text ∙ sym q.text)
