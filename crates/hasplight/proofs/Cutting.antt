-- The cutter's report over bytes.
use Prim.Native.Nat.{ℕ, ◌*◌, ◌-◌, ◌≤◌}
use mathlib.Core.Path.{◌≡◌, refl, sym, ◌∙◌, ap}
use mathlib.Core.Logic.{◌≢◌}
use mathlib.Core.List.{List}
use native.Mathlib.Omega.{arith}
use native.Mathlib.Decide.{ℕ_discrete}
use lib.Dec.{ltb}
use lib.ListN.{length}
use lib.Ieee.{Float}
use Rattle.rules.specs.Limits.{most_points, most_coordinates, most_indices}
use Rattle.rules.specs.Grid.{points_of}
use Rattle.rules.specs.Layout.{flatten}
use Rattle.rules.specs.Refusals.{first_refusal, count_checks, before_cutting, cutter_checks}
use Rattle.rules.specs.Entries.{Cutting, triangles_for, cutter}
use Rattle.rules.proofs.Rows.{front_gives}
use Rattle.rules.proofs.Fronts.{count-front, cutter-front, seven_front}
use Rattle.rules.proofs.Coordinates.{points-length}
use Rattle.rules.proofs.Layouts.{length_over}
use Rattle.rules.proofs.Answers.{cutter-number, cutter-answered, cutter_none, cutter-indices, three-each}
use Rattle.rules.proofs.Results.{cut_result}
use Rattle.entries.specs.declared.Answer.{Answer}
use Rattle.words.specs.Bytes.{words_of}
use Rattle.hasplight.specs.Promise.{CutterGives}
use Rattle.hasplight.proofs.Lending.{Reports, gives_none}

-- ---- what is reported

module _ (cs : List Float) where
  -- it fits
  pub cut_fits : (out : List ℕ) → 3 * (cutter cs out).count ≤ length out
  cut_fits out = go (ℕ_discrete (cutter cs out).number 0)
    where
      go : Dec ((cutter cs out).number ≡ 0) → 3 * (cutter cs out).count ≤ length out
      go (yes e) = let r = cut_result cs out e in omega (arith, r.count, r.outline.fits)
      go (no d) = omega (arith, (cutter_none cs out d).0)

  pub kept_length : (out : List ℕ) → length (cutter cs out).indices ≡ length out
  kept_length out = go (ℕ_discrete (cutter cs out).number 0)
    where
      go : Dec ((cutter cs out).number ≡ 0) → length (cutter cs out).indices ≡ length out
      go (yes e) =
          let a = cutter-answered cs out e in
          let fits = ap (λ (r : Cutting). 3 * r.count) a in
          ap (λ (r : Cutting). length r.indices) a ∙ length_over (flatten (triangles_for (points_of cs))) out (omega (arith, three-each cs out, cut_fits out, fits))
      go (no d) = ap length (cutter_none cs out d).1

  -- and the same room the same number
  same_number : (out out' : List ℕ) → ltb (length out) (3 * (length (points_of cs) - 2)) ≡ ltb (length out') (3 * (length (points_of cs) - 2)) → (cutter cs out).number ≡ (cutter cs out').number
  unfolding before_cutting cutter_checks
  same_number out out' same = cutter-number cs out ∙ rw same (sym (cutter-number cs out'))

  pub cut_reports : Reports (λ out. (cutter cs out).number) (λ out. (cutter cs out).count) (λ out. (cutter cs out).indices) (λ n. 3 * n) (3 * (length (points_of cs) - 2))
  cut_reports = record {
    report = flatten (triangles_for (points_of cs));
    answered = cutter-indices cs;
    reported = length (triangles_for (points_of cs));
    counted = λ out e. ap (λ (r : Cutting). r.count) (cutter-answered cs out e);
    refused = λ out d. (cutter_none cs out d).0;
    nothing = refl;
    fits = cut_fits;
    kept = kept_length;
    by_room = same_number;
  }

  -- the room that is asked for, of as many points as are accepted
  pub cut_need : length cs ≤ most_coordinates → 3 * (length (points_of cs) - 2) ≤ most_indices
  cut_need few = omega (arith, points-length cs)

-- ---- what the number of coordinates decides

pub refused_count :
    (cs : List Float) (indices : List ℕ) (n : ℕ) → n ≡ first_refusal (count_checks 3 most_points (length cs)) → n ≢ 0
    → CutterGives cs indices (record { number = n; count = 0 }) indices
refused_count cs indices n e d =
    let room = length (words_of indices) in
    gives_none (cut_reports cs) indices n (front_gives (seven_front cs room) (front_gives (cutter-front cs room) (front_gives (count-front 3 most_points cs) e d) d) d ∙ sym (cutter-number cs (words_of indices))) d

pub cut_read : (cs fs : List Float) (indices : List ℕ) (r : Answer) (indices' : List ℕ) → fs ≡ cs → CutterGives fs indices r indices' → CutterGives cs indices r indices'
cut_read cs fs indices r indices' e g = rw e at g
