-- The bytes of a read, line by line: the lines that ended were played, and what is left stands behind what is carried.
use Rattle.std.proofs.Common.{ℕ, suc, ◌+◌, ◌*◌, ◌≤◌, ◌<◌, ◌≡◌, List, [], ◌∷◌, ◌++◌, length, take, refl, sym, ap, ap₂, subst, ◌∙◌, arith, append_assoc, append-nil, length-take, length-append}
use Prim.Native.Char.{code}
use Rattle.rules.specs.Text.{most_bytes}
use Rattle.rules.specs.Stream.{handed, Taken, take_bytes}
use Rattle.rules.specs.Playback.{LinesPlayed}
use Rattle.rules.proofs.Streams.{NoNewline, run_on, run-ended}
use Rattle.rules.proofs.PlaybackReads.{none_played, played-append}
use Rattle.decimals.specs.declared.write.Text.{Text}
use Rattle.decimals.specs.Writes.{Grew}
use Rattle.decimals.proofs.Texts.{wrote_none, wrote-length, wrote_at_last, grew_then}
use Rattle.lines.specs.declared.carried.Carried.{Carried}
use Rattle.lines.specs.Carrying.{carried_of, Kept}
use Rattle.shift_log.specs.declared.log.Log.{Log}
use Rattle.shift_log.specs.Promise.{in_force_of}
use Rattle.shift_log.specs.Playing.{SameLent, LinePlayed, PlayPromise}
use Rattle.shift_log.proofs.Played.{writes}

pub same_lent : (log : Log) → SameLent log log
same_lent log = record { same_carried = refl; carried_len = refl; same_coords = refl; coords_len = refl }

pub lent_then : {a b c : Log} → SameLent a b → SameLent b c → SameLent a c
lent_then p q = record {
  same_carried = q.same_carried ∙ p.same_carried;
  carried_len = q.carried_len ∙ p.carried_len;
  same_coords = q.same_coords ∙ p.same_coords;
  coords_len = q.coords_len ∙ p.coords_len;
}

-- lines in front of what is taken
abbrev behind : List (List ℕ) → Taken → Taken
behind lines t = record { ended = lines ++ t.ended; carried = t.carried }

-- the state of the loop, before the rest of the bytes
pub record Playing (bytes : List ℕ) (old log : Log) (before after : Text) (rest : List ℕ) : Type 0 where
  pub lines : List (List ℕ)
  pub text : List ℕ
  pub played : LinesPlayed lines (in_force_of old.in_force) text (in_force_of log.in_force)
  pub left : take_bytes (carried_of old.carried) bytes ≡ behind lines (take_bytes (carried_of log.carried) rest)
  pub grew : Grew before after text
  pub room : after.end + 11 * length rest ≤ before.end + 11 * length bytes
  pub carried_len : length log.carried.bytes.now ≡ suc most_bytes
  pub lent : SameLent old log

pub playing_none : (bytes : List ℕ) (log : Log) (text : Text) → length log.carried.bytes.now ≡ suc most_bytes → text.end ≤ length text.out.now → Playing bytes log log text text bytes
playing_none bytes log text size fits = record {
  lines = [];
  text = [];
  played = none_played (in_force_of log.in_force);
  left = refl;
  grew = record { wrote = wrote_none text.out.now text.end fits; same_out = refl };
  room = omega arith;
  carried_len = size;
  lent = same_lent log;
}

module _ {bytes : List ℕ} {old log : Log} {before after : Text} {rest : List ℕ} (w : Playing bytes old log before after rest) where
  -- what is carried is short
  short : length (carried_of log.carried) ≤ suc most_bytes
  short = omega (arith, length-take log.carried.held log.carried.bytes.now, w.carried_len)

  module _ (piece next : List ℕ) (line : NoNewline piece) (parts : rest ≡ piece ++ (code "\n" ∷ next)) where
    -- there is room for its reply
    pub room_for_one : before.end + 11 * length bytes ≤ length before.out.now → after.end + 11 ≤ length after.out.now
    room_for_one h = omega (arith, w.room, h, ap length parts, length-append piece (code "\n" ∷ next), wrote-length w.grew.wrote)

    pub fewer : length next < length rest
    fewer = omega (arith, ap length parts, length-append piece (code "\n" ∷ next))

    pub playing_more : {log' : Log} {after' : Text} → LinePlayed (handed (carried_of log.carried ++ piece)) log after log' after' → Playing bytes old log' before after' next
    playing_more {log'} {after'} l =
        let L : List ℕ = handed (carried_of log.carried ++ piece) in
        let none-carried : ◌≡◌ {A = List ℕ} [] (carried_of log'.carried) = ap (λ (k : ℕ). take k log'.carried.bytes.now) (sym l.none_held) in
        record {
          lines = w.lines ++ (L ∷ []);
          text = w.text ++ l.text;
          played = played-append w.played l.played;
          left = w.left
              ∙ ap (λ (t : Taken). behind w.lines t) (ap (take_bytes (carried_of log.carried)) parts ∙ run-ended (carried_of log.carried) piece next short line)
              ∙ ap₂ (λ (ls : List (List ℕ)) (d : List ℕ). record { ended = ls; carried = d }) (sym (append_assoc w.lines (L ∷ []) (take_bytes [] next).ended)) refl
              ∙ ap (λ (d : List ℕ). behind (w.lines ++ (L ∷ [])) (take_bytes d next)) none-carried;
          grew = grew_then w.grew l.grew;
          room = omega (arith, l.few, w.room, ap length parts, length-append piece (code "\n" ∷ next));
          carried_len = l.lent.carried_len ∙ w.carried_len;
          lent = lent_then w.lent l.lent;
        }

  pub playing_done : {carried : Carried} {out' : List ℕ} → before.end ≡ 0 → NoNewline rest → Kept log.carried rest carried → out' ≡ after.out.now
      → PlayPromise bytes (carried_of old.carried) (in_force_of old.in_force) before.out.now (record { carried = carried; in_force = log.in_force }) after.end out'
  unfolding handed
  playing_done {carried} {out'} begins h k e =
      let run : take_bytes (carried_of log.carried) rest ≡ record { ended = []; carried = handed (carried_of log.carried ++ rest) } = run_on (carried_of log.carried) rest short h in
      let all : take_bytes (carried_of old.carried) bytes ≡ record { ended = w.lines ++ []; carried = handed (carried_of log.carried ++ rest) } = w.left ∙ ap (λ (t : Taken). behind w.lines t) run in
      record {
        text = w.text;
        played = subst (λ (ls : List (List ℕ)). LinesPlayed ls (in_force_of old.in_force) w.text (in_force_of log.in_force)) (sym (ap (λ (t : Taken). t.ended) all ∙ append-nil w.lines)) w.played;
        carries = k.line ∙ ap (λ (n : ℕ). take n (carried_of log.carried ++ rest)) w.carried_len ∙ sym (ap (λ (t : Taken). t.carried) all);
        writes = writes (rw begins at (wrote_at_last w.grew.wrote e));
      }
