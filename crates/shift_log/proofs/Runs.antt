-- A run of calls: a stream that is played read by read, from nothing carried and nothing in force to its end. What is written is the text of the
-- replies to the stream, however it was cut into reads.
use Prim.Native.Nat.{ℕ}
use mathlib.Core.Path.{sym, subst}
use mathlib.Core.List.{List, [], ◌∷◌, ◌++◌}
use lib.ListN.{take}
use Rattle.rules.specs.Layout.{flatten}
use Rattle.rules.specs.Stream.{take_bytes, last_line}
use Rattle.rules.specs.Playback.{InForce, nothing_yet, LinesPlayed}
use Rattle.rules.proofs.PlaybackReads.{ReadsPlayed, no_reads, read_and, Answered, reads-answered}
use Rattle.lines.specs.Carrying.{carried_of}
use Rattle.shift_log.specs.declared.log.Log.{Log}
use Rattle.shift_log.specs.Promise.{in_force_of}
use Rattle.shift_log.specs.Playing.{PlayPromise, FinishPromise}
use Rattle.shift_log.proofs.Played.{written_front}

-- calls of `play` for these reads, each with what the one before it left, and what each has written
pub data Plays : List ℕ → InForce → List (List ℕ) → List (List ℕ) → List ℕ → InForce → Type 0 where
  no_calls : {c : List ℕ} {s : InForce} → Plays c s [] [] c s
  call_and : {c : List ℕ} {s : InForce} {read out : List ℕ} {log : Log} {end : ℕ} {out' : List ℕ} {reads texts : List (List ℕ)} {d : List ℕ} {t : InForce}
      → PlayPromise read c s out log end out' → Plays (carried_of log.carried) (in_force_of log.in_force) reads texts d t → Plays c s (read ∷ reads) (take end out' ∷ texts) d t

reads-played : {c : List ℕ} {s : InForce} {reads texts : List (List ℕ)} {d : List ℕ} {t : InForce} → Plays c s reads texts d t → ReadsPlayed c s reads texts d t
reads-played no_calls = no_reads
reads-played (call_and {c = c} {s = s} {read = read} {log = log} {reads = reads} {texts = texts} {d = d} {t = t} p ps) =
    read_and
    (subst (λ (text : List ℕ). LinesPlayed (take_bytes c read).ended s text (in_force_of log.in_force)) (sym (written_front p.writes)) p.played)
    (subst (λ (l : List ℕ). ReadsPlayed l (in_force_of log.in_force) reads texts d t) p.carries (reads-played ps))

pub run-answered : {reads texts : List (List ℕ)} {c : List ℕ} {s : InForce} {out : List ℕ} {end : ℕ} {out' : List ℕ} → Plays [] nothing_yet reads texts c s → FinishPromise c s out end out'
    → Answered (flatten reads) (flatten texts ++ take end out')
run-answered {c = c} {s = s} ps f =
    reads-answered (reads-played ps) (subst (λ (text : List ℕ). LinesPlayed (last_line c) s text f.then) (sym (written_front f.writes)) f.played)
