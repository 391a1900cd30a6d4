-- The hull's report over bytes.
use Prim.Native.Nat.{ℕ, ◌≤◌}
use mathlib.Core.Path.{◌≡◌, refl, sym, ◌∙◌, ap}
use mathlib.Core.Logic.{◌≢◌}
use mathlib.Core.List.{List}
use native.Mathlib.Omega.{arith}
use native.Mathlib.Decide.{ℕ_discrete}
use lib.Dec.{ltb}
use lib.ListN.{length}
use lib.Ieee.{Float}
use Rattle.rules.specs.Limits.{most_points, most_coordinates, most_indices}
use Rattle.rules.specs.Grid.{points_of}
use Rattle.rules.specs.Hull.{hull}
use Rattle.rules.specs.Refusals.{first_refusal, count_checks, hull_checks}
use Rattle.rules.specs.Entries.{Hulling, huller}
use Rattle.rules.proofs.Rows.{front_gives}
use Rattle.rules.proofs.Fronts.{count-front, cloud_front}
use Rattle.rules.proofs.Coordinates.{points-length}
use Rattle.rules.proofs.Layouts.{length_over}
use Rattle.rules.proofs.Answers.{huller-number, huller-answered, huller_none, huller-written}
use Rattle.rules.proofs.Accepted.{cloud}
use Rattle.hulls.proofs.Results.{written_most}
use Rattle.entries.specs.declared.Answer.{Answer}
use Rattle.words.specs.Bytes.{words_of}
use Rattle.hasplight.specs.Promise.{HullGives}
use Rattle.hasplight.proofs.Lending.{Reports, gives_none}

-- ---- what is reported

module _ (cs : List Float) where
  -- it fits
  pub hull_fits : (out : List ℕ) → (huller cs out).count ≤ length out
  hull_fits out = go (ℕ_discrete (huller cs out).number 0)
    where
      go : Dec ((huller cs out).number ≡ 0) → (huller cs out).count ≤ length out
      go (yes e) = omega (arith, written_most cs out e, (cloud cs (length out) (sym (huller-number cs out) ∙ e)).fits)
      go (no d) = omega (arith, (huller_none cs out d).0)

  pub kept_length : (out : List ℕ) → length (huller cs out).indices ≡ length out
  kept_length out = go (ℕ_discrete (huller cs out).number 0)
    where
      go : Dec ((huller cs out).number ≡ 0) → length (huller cs out).indices ≡ length out
      go (yes e) =
          let a = huller-answered cs out e in
          ap (λ (r : Hulling). length r.indices) a ∙ length_over (hull (points_of cs)) out (omega (arith, hull_fits out, ap (λ (r : Hulling). r.count) a))
      go (no d) = ap length (huller_none cs out d).1

  -- the same room gives the same number
  same_number : (out out' : List ℕ) → ltb (length out) (length (points_of cs)) ≡ ltb (length out') (length (points_of cs)) → (huller cs out).number ≡ (huller cs out').number
  unfolding hull_checks
  same_number out out' same = huller-number cs out ∙ rw same (sym (huller-number cs out'))

  pub hull_reports : Reports (λ out. (huller cs out).number) (λ out. (huller cs out).count) (λ out. (huller cs out).indices) (λ n. n) (length (points_of cs))
  hull_reports = record {
    report = hull (points_of cs);
    answered = huller-written cs;
    reported = length (hull (points_of cs));
    counted = λ out e. ap (λ (r : Hulling). r.count) (huller-answered cs out e);
    refused = λ out d. (huller_none cs out d).0;
    nothing = refl;
    fits = hull_fits;
    kept = kept_length;
    by_room = same_number;
  }

  -- the room that is asked for, of as many points as are accepted
  pub hull_need : length cs ≤ most_coordinates → length (points_of cs) ≤ most_indices
  hull_need few = omega (arith, points-length cs)

-- ---- what the number of coordinates decides

pub refused_count :
    (cs : List Float) (indices : List ℕ) (n : ℕ) → n ≡ first_refusal (count_checks 2 most_points (length cs)) → n ≢ 0
    → HullGives cs indices (record { number = n; count = 0 }) indices
refused_count cs indices n e d =
    let room = length (words_of indices) in
    gives_none (hull_reports cs) indices n (front_gives (cloud_front cs room) (front_gives (count-front 2 most_points cs) e d) d ∙ sym (huller-number cs (words_of indices))) d

pub hull_read : (cs fs : List Float) (indices : List ℕ) (r : Answer) (indices' : List ℕ) → fs ≡ cs → HullGives fs indices r indices' → HullGives cs indices r indices'
hull_read cs fs indices r indices' e g = rw e at g
