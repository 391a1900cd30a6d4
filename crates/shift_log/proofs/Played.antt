-- A step is a line that was played, where enough is lent for any outline.
use Prim.Native.Nat.{ℕ, suc, ◌*◌, ◌/◌, ◌≤◌, ◌<◌}
use native.Mathlib.Omega.{arith}
use mathlib.Core.Path.{◌≡◌, refl, sym, ap, ap₂, subst, ◌∙◌}
use mathlib.Core.Bool.{false}
use mathlib.Core.Logic.{◌≢◌}
use mathlib.Core.List.{List, [], ◌∷◌, ◌++◌}
use mathlib.Core.Option.{Option}
use lib.ListN.{length, take}
use lib.Seq.{length-take-le}
use lib.Ieee.{Float}
use borrow.Author.Tests.{le-ltb}
use Rattle.rules.specs.Limits.{most_coordinates}
use Rattle.rules.specs.Layout.{over}
use Rattle.rules.specs.Text.{most_bytes}
use Rattle.rules.specs.Stream.{handed, last_line}
use Rattle.rules.specs.Playback.{InForce as RulesInForce, sets, changed, stepping, stepped, written, no_lines, line_and, LinesPlayed}
use Rattle.rules.proofs.Layouts.{take-over}
use Rattle.rules.proofs.Replies.{Sound, nothing-sound, outline_sound, convex-sound, SoundIfSet, nothing-set, sound-set, set-sound}
use Rattle.rules.proofs.LineMeanings.{handed-means}
use Rattle.rules.proofs.PlaybackReads.{none_played}
use Rattle.decimals.specs.Writes.{Wrote}
use Rattle.decimals.proofs.Texts.{wrote-over}
use Rattle.wkt.proofs.Corners.{coordinates-length}
use Rattle.std.specs.Prelude.{Result}
use Rattle.entries.specs.declared.Refusal.{Refusal}
use Rattle.lines.specs.declared.carried.Carried.{Carried}
use Rattle.lines.specs.Carrying.{carried_of, Kept}
use Rattle.shift_log.specs.declared.Force.{Force}
use Rattle.shift_log.specs.declared.InForce.{InForce}
use Rattle.shift_log.specs.declared.Reply.{Reply}
use Rattle.shift_log.specs.Promise.{in_force_of, reply_of, reply_line, too_little, Stands, StepPromise}
use Rattle.shift_log.specs.Playing.{Writes, FinishPromise}

-- what is in force of lent coordinates
abbrev in_force_at : Force → List Float → RulesInForce
in_force_at force coords = record { coords = take (2 * force.corners) coords; convex = force.convex }

in_force_one : {s t : RulesInForce} → s.coords ≡ t.coords → s.convex ≡ t.convex → s ≡ t
in_force_one a b = λ i. record { coords = a i; convex = b i }

-- what is set has whole points, and few enough
record Points (s : RulesInForce) : Type 0 where
  n : ℕ
  counted : length s.coords ≡ 2 * n
  few : length s.coords ≤ most_coordinates

points : {s : RulesInForce} → Sound s → Points s
points nothing-sound = record { n = 0; counted = refl; few = omega arith }
points (outline_sound cs a b d) = record { n = length cs; counted = coordinates-length cs; few = omega (arith, coordinates-length cs) }
points (convex-sound cs a d) = record { n = length cs; counted = coordinates-length cs; few = omega (arith, coordinates-length cs) }

module _ (f : InForce) (room : most_coordinates ≤ length f.coords.now) where
  enough : {o : Option RulesInForce} → SoundIfSet o → too_little (length f.coords.now) o ≡ false
  enough nothing-set = refl
  enough (sound-set {s = s} h) = le-ltb (length f.coords.now) (length s.coords) (omega (arith, (points h).few))

  put_in_force : {s : RulesInForce} → Sound s → take (2 * (length s.coords / 2)) (over s.coords f.coords.now) ≡ s.coords
  put_in_force {s} h =
      let p = points h in
      let n : 2 * (length s.coords / 2) ≡ length s.coords = omega (arith, p.counted) in
      ap (λ (k : ℕ). take k (over s.coords f.coords.now)) n ∙ take-over s.coords f.coords.now

  stands-then : {o : Option RulesInForce} (g : InForce) → SoundIfSet o → Stands o f g → in_force_of g ≡ changed (in_force_of f) o
  stands-then g nothing-set (a, b) = ap₂ in_force_at b a
  stands-then g (sound-set {s = s} h) (a, b) = ap₂ in_force_at b a ∙ in_force_one (put_in_force h) refl

  pub step-played : {line : List ℕ} {r : Result Reply Refusal} {g : InForce} → StepPromise line f r g → LinesPlayed (line ∷ []) (in_force_of f) (reply_line (reply_of r)) (in_force_of g)
  unfolding stepping stepped written
  step-played {r = r} {g = g} p =
      let e = p.event in
      let sound : SoundIfSet (sets e) = set-sound p.meant in
      let t = enough sound in
      let s : Stands (sets e) f g = rw t at p.stepped.stands in
      record {
        events = e ∷ [];
        meant = line_and p.meant no_lines;
        writes = ap reply_line (rw t at p.stepped.replied);
        leaves = stands-then g sound s;
      }

-- ---- a line as it is handed on

pub step_at : {line piece : List ℕ} {f : InForce} {r : Result Reply Refusal} {g : InForce} → line ≡ piece → StepPromise line f r g → StepPromise piece f r g
step_at {f = f} {r = r} {g = g} e p = subst (λ (l : List ℕ). StepPromise l f r g) e p

-- it was put behind what was carried
pub step_kept : {old new : Carried} {more : List ℕ} {f : InForce} {r : Result Reply Refusal} {g : InForce} → length old.bytes.now ≡ suc most_bytes → Kept old more new
    → StepPromise (carried_of new) f r g → StepPromise (handed (carried_of old ++ more)) f r g
unfolding handed
step_kept {old} {new} {more} {f} {r} {g} e k p = subst (λ (l : List ℕ). StepPromise l f r g) (k.line ∙ ap (λ (n : ℕ). take n (carried_of old ++ more)) e) p

-- nothing was carried
pub step_alone : (c : Carried) {line : List ℕ} {f : InForce} {r : Result Reply Refusal} {g : InForce} → c.held ≡ 0 → StepPromise line f r g → StepPromise (handed (carried_of c ++ line)) f r g
step_alone c {line} {f} {r} {g} e p =
    subst (λ (n : ℕ). StepPromise (handed (take n c.bytes.now ++ line)) f r g) (sym e) (record { event = p.event; meant = handed-means p.meant; stepped = p.stepped })

-- ---- the last line, where the stream ends without its newline

last_some : (line : List ℕ) → 0 < length line → last_line line ≡ line ∷ []
last_some [] h = absurd (omega arith)
last_some (b ∷ line) h = refl

-- the text that was written, at the front of what is lent
pub writes : {text old new : List ℕ} {end : ℕ} → Wrote old new 0 end text → Writes text old new end
writes w = let o = wrote-over w in record { is = o.0; ends = o.1 }

pub written_front : {text old new : List ℕ} {end : ℕ} → Writes text old new end → take end new ≡ text
written_front {text} {old} {new} {end} w = ap (take end) w.is ∙ ap (λ (n : ℕ). take n (over text old)) w.ends ∙ take-over text old

pub none_left : (c : Carried) (s : RulesInForce) → c.held ≡ 0 → LinesPlayed (last_line (carried_of c)) s [] s
none_left c s e = subst (λ (n : ℕ). LinesPlayed (last_line (take n c.bytes.now)) s [] s) (sym e) (none_played s)

pub finish_none : (c : Carried) (s : RulesInForce) {out : List ℕ} → c.held ≡ 0 → FinishPromise (carried_of c) s out 0 out
finish_none c s e = record {
  text = [];
  then = s;
  played = none_left c s e;
  writes = record { is = refl; ends = refl };
}

module _ (c : Carried) {f : InForce} {r : Result Reply Refusal} {g : InForce} (room : most_coordinates ≤ length f.coords.now) (some-held : c.held ≢ 0) (p : StepPromise (carried_of c) f r g) where
  last_played : LinesPlayed (last_line (carried_of c)) (in_force_of f) (reply_line (reply_of r)) (in_force_of g)
  last_played =
      subst (λ (ls : List (List ℕ)). LinesPlayed ls (in_force_of f) (reply_line (reply_of r)) (in_force_of g))
      (sym (last_some (carried_of c) (omega (arith, length-take-le c.held c.bytes.now c.held_in_bounds, some-held)))) (step-played f room p)

  pub finish_some : {out out' : List ℕ} {end : ℕ} → Wrote out out' 0 end (reply_line (reply_of r)) → FinishPromise (carried_of c) (in_force_of f) out end out'
  finish_some w = record { text = reply_line (reply_of r); then = in_force_of g; played = last_played; writes = writes w }

  pub finish_leaves : {out out' : List ℕ} {end : ℕ} → Wrote out out' 0 end (reply_line (reply_of r)) → LinesPlayed (last_line (carried_of c)) (in_force_of f) (take end out') (in_force_of g)
  finish_leaves w = subst (λ (text : List ℕ). LinesPlayed (last_line (carried_of c)) (in_force_of f) text (in_force_of g)) (sym (written_front (writes w))) last_played
