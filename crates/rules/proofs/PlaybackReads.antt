-- What a program writes that plays the lines of each read as they end, and the last line at the end of the stream: the replies to the stream.
use Prim.Native.Nat.{ℕ}
use mathlib.Core.Path.{◌≡◌, refl, sym, ap, ap₂, subst, ◌∙◌}
use mathlib.Core.List.{List, [], ◌∷◌, ◌++◌, append_assoc}
use mathlib.Core.Option.{Option}
use Rattle.rules.specs.Layout.{flatten}
use Rattle.rules.specs.Stream.{lines_of, take_bytes, take_reads, last_line, lines_read}
use Rattle.rules.specs.Playback.{Event, AllMean, no_lines, line_and, InForce, nothing_yet, Reply, replies, Playback, stepping, stepped, written, LinesPlayed}
use Rattle.rules.proofs.Streams.{lines_read_lem}
use Rattle.rules.proofs.LineMeanings.{playback_one, all-handed-back}
use Rattle.rules.proofs.Replies.{stepping-replies, stepping-append, stepped-append, written-append}

-- reads that were played one after the other, with the text that was written for each: from the bytes c that are carried and s in force, to d and u
pub data ReadsPlayed : List ℕ → InForce → List (List ℕ) → List (List ℕ) → List ℕ → InForce → Type 0 where
  no_reads : {c : List ℕ} {s : InForce} → ReadsPlayed c s [] [] c s
  read_and : {c read text d : List ℕ} {s t u : InForce} {reads texts : List (List ℕ)} → LinesPlayed (take_bytes c read).ended s text t
      → ReadsPlayed (take_bytes c read).carried t reads texts d u → ReadsPlayed c s (read ∷ reads) (text ∷ texts) d u

-- the text of the replies to a stream
pub record Answered (stream text : List ℕ) : Type 0 where
  pub given : List Reply
  pub plays : Playback stream given
  pub writes : text ≡ written given

pub all_mean_append : {l m : List (List ℕ)} {es fs : List (Option Event)} → AllMean l es → AllMean m fs → AllMean (l ++ m) (es ++ fs)
all_mean_append no_lines n = n
all_mean_append (line_and e es) n = line_and e (all_mean_append es n)

-- nothing, and some lines behind others
pub none_played : (s : InForce) → LinesPlayed [] s [] s
unfolding written stepping stepped
none_played s = record { events = []; meant = no_lines; writes = refl; leaves = refl }

pub played-append : {l m : List (List ℕ)} {a b : List ℕ} {s t u : InForce} → LinesPlayed l s a t → LinesPlayed m t b u → LinesPlayed (l ++ m) s (a ++ b) u
played-append {b = b} {s = s} {u = u} p q =
    let w : b ≡ written (stepping (stepped s p.events) q.events) = subst (λ (x : InForce). b ≡ written (stepping x q.events)) p.leaves q.writes in
    let v : u ≡ stepped (stepped s p.events) q.events = subst (λ (x : InForce). u ≡ stepped x q.events) p.leaves q.leaves in
    record {
      events = p.events ++ q.events;
      meant = all_mean_append p.meant q.meant;
      writes = ap₂ (λ (x y : List ℕ). x ++ y) p.writes w
          ∙ sym (written-append (stepping s p.events) (stepping (stepped s p.events) q.events))
          ∙ ap written (sym (stepping-append s p.events q.events));
      leaves = v ∙ sym (stepped-append s p.events q.events);
    }

played_alike : {l m : List (List ℕ)} {a b : List ℕ} {s t : InForce} → l ≡ m → a ≡ b → LinesPlayed l s a t → LinesPlayed m s b t
played_alike e f p =
    record { events = p.events; meant = subst (λ (l : List (List ℕ)). AllMean l p.events) e p.meant; writes = sym f ∙ p.writes; leaves = p.leaves }

-- all lines that reads give
lines_played : {c d last : List ℕ} {s t u : InForce} {reads texts : List (List ℕ)} → ReadsPlayed c s reads texts d t → LinesPlayed (last_line d) t last u
    → LinesPlayed ((take_reads c reads).ended ++ last_line (take_reads c reads).carried) s (flatten texts ++ last) u
unfolding take_reads flatten
lines_played no_reads q = q
lines_played {last = last} (read_and {c = c} {read = read} {text = text} {reads = reads} {texts = texts} p ps) q =
    let others = take_reads (take_bytes c read).carried reads in
    played_alike (sym (append_assoc (take_bytes c read).ended others.ended (last_line others.carried))) (sym (append_assoc text (flatten texts) last))
    (played-append p (lines_played ps q))

-- the lines that are handed on mean what those of the stream mean
handed-answered : (reads : List (List ℕ)) {text : List ℕ} {t : InForce} → LinesPlayed (lines_read reads) nothing_yet text t → Answered (flatten reads) text
handed-answered reads p =
    let m = subst (λ (l : List (List ℕ)). AllMean l p.events) (lines_read_lem reads) p.meant in
    record {
      given = replies p.events;
      plays = record { events = p.events; meant = all-handed-back (lines_of (flatten reads)) m; replied = refl };
      writes = p.writes ∙ ap written (stepping-replies p.events);
    }

-- whatever the reads, what the program writes is the text of the replies to the stream
pub reads-answered : {reads texts : List (List ℕ)} {c last : List ℕ} {s t : InForce} → ReadsPlayed [] nothing_yet reads texts c s → LinesPlayed (last_line c) s last t
    → Answered (flatten reads) (flatten texts ++ last)
unfolding lines_read
reads-answered {reads = reads} p q = handed-answered reads (lines_played p q)

-- at most one text is right for a stream
pub answered_one : {stream a b : List ℕ} → Answered stream a → Answered stream b → a ≡ b
answered_one p q = p.writes ∙ ap written (playback_one p.plays q.plays) ∙ sym q.writes
