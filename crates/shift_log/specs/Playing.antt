-- What playing the bytes of a read promises, and the end of the stream.
use Rattle.std.specs.Prelude.{ℕ, ◌+◌, ◌≤◌, ◌≡◌, List, [], ◌∷◌, length}
use Rattle.rules.specs.Layout.{over}
use Rattle.rules.specs.Stream.{take_bytes, last_line}
use Rattle.rules.specs.Playback.{InForce, LinesPlayed}
use Rattle.decimals.specs.declared.write.Text.{Text}
use Rattle.decimals.specs.Writes.{Grew}
use Rattle.lines.specs.Carrying.{carried_of}
use Rattle.shift_log.specs.declared.log.Log.{Log}
use Rattle.shift_log.specs.Promise.{in_force_of}

-- the text is written to the front of what is lent, and the rest stays as it was
pub record Writes (text old new : List ℕ) (end : ℕ) : Type 0 where
  pub is : new ≡ over text old
  pub ends : end ≡ length text

-- the same memory is lent, and as much of it
pub record SameLent (old new : Log) : Type 0 where
  pub same_carried : new.carried.bytes.ghost_name ≡ old.carried.bytes.ghost_name
  pub carried_len : length new.carried.bytes.now ≡ length old.carried.bytes.now
  pub same_coords : new.in_force.coords.ghost_name ≡ old.in_force.coords.ghost_name
  pub coords_len : length new.in_force.coords.now ≡ length old.in_force.coords.now

-- one line was answered, its reply written behind what was written, and nothing is carried
pub record LinePlayed (line : List ℕ) (old : Log) (before : Text) (new : Log) (after : Text) : Type 0 where
  pub text : List ℕ
  pub played : LinesPlayed (line ∷ []) (in_force_of old.in_force) text (in_force_of new.in_force)
  pub grew : Grew before after text
  pub few : after.end ≤ before.end + 11
  pub none_held : new.carried.held ≡ 0
  pub lent : SameLent old new

-- of the bytes, what was carried and what was in force; of what is lent for text, before; and of the log and of what is lent for text, after
pub record PlayPromise (bytes carried : List ℕ) (s : InForce) (out : List ℕ) (log : Log) (end : ℕ) (out' : List ℕ) : Type 0 where
  pub text : List ℕ
  pub played : LinesPlayed (take_bytes carried bytes).ended s text (in_force_of log.in_force)
  pub carries : carried_of log.carried ≡ (take_bytes carried bytes).carried
  pub writes : Writes text out out' end

-- of what was carried and what was in force
pub record FinishPromise (carried : List ℕ) (s : InForce) (out : List ℕ) (end : ℕ) (out' : List ℕ) : Type 0 where
  pub text : List ℕ
  pub then : InForce
  pub played : LinesPlayed (last_line carried) s text then
  pub writes : Writes text out out' end
