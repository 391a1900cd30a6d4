-- Over the bytes: a refused call reports a count of 0, or 0 for outside, and leaves every lent byte as it was; after 0 the bytes beyond what is
-- reported keep their contents.
use Prim.Native.Nat.{ℕ, ◌*◌}
use mathlib.Core.Path.{◌≡◌, refl, sym, ◌∙◌, ap}
use mathlib.Core.Logic.{◌≢◌}
use mathlib.Core.List.{List, [], map}
use native.Mathlib.Omega.{arith}
use lib.ListN.{length, take, drop, length-map}
use lib.Seq.{length-take-le}
use lib.Ieee.{Float}
use Rattle.rules.specs.Plane.{Pt}
use Rattle.rules.specs.Layout.{flatten, split, over}
use Rattle.rules.specs.Border.{Position, position_number}
use Rattle.rules.specs.Entries.{merger, written_pieces}
use Rattle.rules.proofs.Answers.{over-beyond, merger_none, asking_none}
use Rattle.words.specs.Bytes.{words_of, floats_of, bytes_of}
use Rattle.words.proofs.Words.{bytes-length}
use Rattle.entries.specs.declared.Answer.{Answer}
use Rattle.hasplight.specs.Promise.{Reported, CutterPromise, MergerPromise, PointPromise, HullPromise}
use Rattle.hasplight.specs.declared.Verdict.{Verdict}
use Rattle.hasplight.proofs.Lending.{Reports}
use Rattle.hasplight.proofs.Cutting.{cut_reports}
use Rattle.hasplight.proofs.Hulling.{hull_reports}

-- what n words are written over keeps its contents beyond their bytes
beyond : (ws old new : List ℕ) (n : ℕ) → new ≡ over (bytes_of ws) old → length ws ≡ n → drop (4 * n) new ≡ drop (4 * n) old
beyond ws old new n e l =
    let k : length (bytes_of ws) ≡ 4 * n = omega (arith, bytes-length ws, l) in
    rw (e, ← k) (over-beyond (bytes_of ws) old)

nothing : (ws old new : List ℕ) → new ≡ over (bytes_of ws) old → ws ≡ [] → new ≡ old
unfolding bytes_of
nothing ws old new e none = e ∙ ap (λ (w : List ℕ). over (bytes_of w) old) none

-- ---- the cutter and the hull

module _ {number count : List ℕ → ℕ} {words : List ℕ → List ℕ} {size : ℕ → ℕ} {need : ℕ} (e : Reports number count words size need) (indices : List ℕ) (r : Answer) (indices' : List ℕ)
    (p : Reported (number (words_of indices)) (count (words_of indices)) (take (size (count (words_of indices))) (words (words_of indices))) indices r indices') where
  reported_refused : r.number ≢ 0 → (r.count ≡ 0) × (indices' ≡ indices)
  reported_refused d =
      let out = words_of indices in
      let none = e.refused out (λ z. d (p.number_is ∙ z)) in
      (p.count_is ∙ none, nothing (take (size (count out)) (words out)) indices indices' p.bytes (ap (λ (n : ℕ). take n (words out)) (ap size none ∙ e.nothing)))

  reported_beyond : drop (4 * size r.count) indices' ≡ drop (4 * size r.count) indices
  reported_beyond =
      let out = words_of indices in
      beyond (take (size (count out)) (words out)) indices indices' (size r.count) p.bytes
      (length-take-le (size (count out)) (words out) (omega (arith, e.fits out, e.kept out)) ∙ ap size (sym p.count_is))

module _ (coords indices : List ℕ) (r : Answer) (indices' : List ℕ) where
  pub cutter_refused : CutterPromise coords indices r indices' → r.number ≢ 0 → (r.count ≡ 0) × (indices' ≡ indices)
  cutter_refused p = reported_refused (cut_reports (floats_of coords)) indices r indices' p

  pub cutter-beyond : CutterPromise coords indices r indices' → drop (4 * (3 * r.count)) indices' ≡ drop (4 * (3 * r.count)) indices
  cutter-beyond p = reported_beyond (cut_reports (floats_of coords)) indices r indices' p

  pub hull_refused : HullPromise coords indices r indices' → r.number ≢ 0 → (r.count ≡ 0) × (indices' ≡ indices)
  hull_refused p = reported_refused (hull_reports (floats_of coords)) indices r indices' p

  pub hull-beyond : HullPromise coords indices r indices' → drop (4 * r.count) indices' ≡ drop (4 * r.count) indices
  hull-beyond p = reported_beyond (hull_reports (floats_of coords)) indices r indices' p

-- ---- the merger

module _ (coords triangles indices lengths : List ℕ) (r : Answer) (indices' lengths' : List ℕ) (p : MergerPromise coords triangles indices lengths r indices' lengths') where
  abbrev pieces : List (List ℕ)
  pieces = written_pieces (merger (floats_of coords) (words_of triangles) (words_of indices) (words_of lengths))

  pub merger_refused : r.number ≢ 0 → (r.count ≡ 0) × (indices' ≡ indices) × (lengths' ≡ lengths)
  unfolding flatten split
  merger_refused d =
      let m = merger (floats_of coords) (words_of triangles) (words_of indices) (words_of lengths) in
      let none = (merger_none (floats_of coords) (words_of triangles) (words_of indices) (words_of lengths) (λ e. d (p.number ∙ e))).0 in
      let no_pieces : pieces ≡ [] = ap (λ (n : ℕ). split (take n m.lengths) m.indices) none in
      (p.count ∙ none, nothing (flatten pieces) indices indices' p.bytes (ap flatten no_pieces), nothing (map length pieces) lengths lengths' p.length-bytes (ap (map length) no_pieces))

  pub merger-beyond : drop (4 * length (flatten pieces)) indices' ≡ drop (4 * length (flatten pieces)) indices
  merger-beyond = beyond (flatten pieces) indices indices' (length (flatten pieces)) p.bytes refl

  pub merger-lengths-beyond : drop (4 * length pieces) lengths' ≡ drop (4 * length pieces) lengths
  merger-lengths-beyond = beyond (map length pieces) lengths lengths' (length pieces) p.length-bytes (length-map pieces length)

-- ---- the point tests

pub point_refused : (test : Pt → List Pt → Position) (x y : Float) (coords : List ℕ) (r : Verdict) → PointPromise test x y coords r → r.number ≢ 0 → r.answer ≡ 0
point_refused test x y coords r p d = p.answer ∙ ap position_number (asking_none test x y (floats_of coords) (λ e. d (p.number ∙ e)))
