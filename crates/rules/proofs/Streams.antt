-- The lines of a stream are the same however it is cut into reads, what is carried stays within its bound, and whole runs of bytes can be taken at once.
use Prim.Native.Nat.{ℕ, zero, suc, ◌≤◌}
use Prim.Native.Char.{code}
use native.Mathlib.Omega.{arith}
use mathlib.Core.Path.{◌≡◌, refl, sym, ap, ap₂, subst, ◌∙◌}
use mathlib.Core.Bool.{Bool, true, false, cond}
use mathlib.Core.List.{List, [], ◌∷◌, ◌++◌, map, map-append, append_assoc, append-nil}
use lib.Dec.{eqb}
use lib.ListN.{length, take, length-take}
use lib.Seq.{take_all}
use borrow.Author.Tests.{eqb-true, eqb-false, ne_eqb}
use Rattle.algebra.specs.Lists.{Each, end, ◌&◌}
use Rattle.rules.specs.Layout.{flatten}
use Rattle.rules.specs.Text.{most_bytes}
use Rattle.rules.specs.Stream.{in_front, lines_of, handed, Taken, take_byte, take_bytes, take_reads, last_line, lines_read}

-- ---- the lines of a stream that was joined from lines

-- lines that each end with a newline
unfoldable pub ended_text : List (List ℕ) → List ℕ
ended_text [] = []
ended_text (line ∷ lines) = line ++ (code "\n" ∷ ended_text lines)

abbrev pub NoNewline : List ℕ → Type 0
NoNewline line = Each (λ b. b ≡ code "\n" → ⊥) line

at_newline : (bytes : List ℕ) → lines_of (code "\n" ∷ bytes) ≡ [] ∷ lines_of bytes
unfolding lines_of
at_newline bytes = refl

at_other : (b : ℕ) (bytes : List ℕ) → eqb b (code "\n") ≡ false → lines_of (b ∷ bytes) ≡ in_front b (lines_of bytes)
unfolding lines_of
at_other b bytes e = ap (λ (t : Bool). cond t ([] ∷ lines_of bytes) (in_front b (lines_of bytes))) e

-- a line and its newline, whatever follows
pub line_first : (line bytes : List ℕ) → NoNewline line → lines_of (line ++ (code "\n" ∷ bytes)) ≡ line ∷ lines_of bytes
unfolding in_front
line_first [] bytes end = at_newline bytes
line_first (b ∷ line) bytes (p & ps) = at_other b (line ++ (code "\n" ∷ bytes)) (ne_eqb b (code "\n") p) ∙ ap (in_front b) (line_first line bytes ps)

pub lines_ended : (lines : List (List ℕ)) → Each NoNewline lines → lines_of (ended_text lines) ≡ lines
unfolding ended_text lines_of
lines_ended [] end = refl
lines_ended (line ∷ lines) (p & ps) = line_first line (ended_text lines) p ∙ ap (λ (l : List (List ℕ)). line ∷ l) (lines_ended lines ps)

line_alone : (b : ℕ) (line : List ℕ) → NoNewline (b ∷ line) → lines_of (b ∷ line) ≡ (b ∷ line) ∷ []
unfolding lines_of
line_alone b [] (p & ps) = at_other b [] (ne_eqb b (code "\n") p)
line_alone b (c ∷ line) (p & ps) = at_other b (c ∷ line) (ne_eqb b (code "\n") p) ∙ ap (in_front b) (line_alone c line ps)

-- the last line without its newline
pub last_unended : (lines : List (List ℕ)) (b : ℕ) (line : List ℕ) → Each NoNewline lines → NoNewline (b ∷ line)
    → lines_of (ended_text lines ++ (b ∷ line)) ≡ lines ++ ((b ∷ line) ∷ [])
unfolding ended_text
last_unended [] b line end q = line_alone b line q
last_unended (l ∷ lines) b line (p & ps) q =
    ap lines_of (append_assoc l (code "\n" ∷ ended_text lines) (b ∷ line))
    ∙ line_first l (ended_text lines ++ (b ∷ line)) p
    ∙ ap (λ (ls : List (List ℕ)). l ∷ ls) (last_unended lines b line ps q)

-- ---- the cutting into reads does not matter

bytes-ended : (c l m : List ℕ) → (take_bytes c (l ++ m)).ended ≡ (take_bytes c l).ended ++ (take_bytes (take_bytes c l).carried m).ended
unfolding take_bytes
bytes-ended c [] m = refl
bytes-ended c (b ∷ l) m =
    ap (λ (k : List (List ℕ)). (take_byte c b).ended ++ k) (bytes-ended (take_byte c b).carried l m)
    ∙ sym (append_assoc (take_byte c b).ended (take_bytes (take_byte c b).carried l).ended _)

bytes-carried : (c l m : List ℕ) → (take_bytes c (l ++ m)).carried ≡ (take_bytes (take_bytes c l).carried m).carried
unfolding take_bytes
bytes-carried c [] m = refl
bytes-carried c (b ∷ l) m = bytes-carried (take_byte c b).carried l m

pub reads-ended : (c : List ℕ) (reads : List (List ℕ)) → (take_reads c reads).ended ≡ (take_bytes c (flatten reads)).ended
unfolding take_reads flatten
reads-ended c [] = refl
reads-ended c (read ∷ reads) =
    ap (λ (k : List (List ℕ)). (take_bytes c read).ended ++ k) (reads-ended (take_bytes c read).carried reads) ∙ sym (bytes-ended c read (flatten reads))

pub reads-carried : (c : List ℕ) (reads : List (List ℕ)) → (take_reads c reads).carried ≡ (take_bytes c (flatten reads)).carried
unfolding take_reads flatten
reads-carried c [] = refl
reads-carried c (read ∷ reads) = reads-carried (take_bytes c read).carried reads ∙ sym (bytes-carried c read (flatten reads))

-- ---- as much of a line as is handed on

take_again : (k : ℕ) (l m : List ℕ) → take k (take k l ++ m) ≡ take k (l ++ m)
take_again zero l m = refl
take_again (suc k) [] m = refl
take_again (suc k) (a ∷ l) m = ap (λ (r : List ℕ). a ∷ r) (take_again k l m)

pub handed_again : (l m : List ℕ) → handed (handed l ++ m) ≡ handed (l ++ m)
unfolding handed
handed_again l m = take_again (suc most_bytes) l m

pub handed-short : (l : List ℕ) → length l ≤ suc most_bytes → handed l ≡ l
unfolding handed
handed-short l p = take_all (suc most_bytes) l p

-- a longer one has as many bytes as are handed on at most
pub handed-long : (l : List ℕ) → suc most_bytes ≤ length l → length (handed l) ≡ suc most_bytes
unfolding handed
handed-long l p = omega (arith, length-take (suc most_bytes) l)

pub handed_bounded : (l : List ℕ) → length (handed l) ≤ suc most_bytes
unfolding handed
handed_bounded l = omega (arith, length-take (suc most_bytes) l)

-- ---- the lines are those of lines_of

pub at_byte_newline : (c : List ℕ) (b : ℕ) → eqb b (code "\n") ≡ true → take_byte c b ≡ record { ended = c ∷ []; carried = [] }
unfolding take_byte
at_byte_newline c b e = ap (λ (t : Bool). cond t (record { ended = c ∷ []; carried = [] }) (record { ended = []; carried = handed (c ++ (b ∷ [])) })) e

pub at_byte_other : (c : List ℕ) (b : ℕ) → eqb b (code "\n") ≡ false → take_byte c b ≡ record { ended = []; carried = handed (c ++ (b ∷ [])) }
unfolding take_byte
at_byte_other c b e = ap (λ (t : Bool). cond t (record { ended = c ∷ []; carried = [] }) (record { ended = []; carried = handed (c ++ (b ∷ [])) })) e

-- what some bytes give, and then others
joined : Taken → List ℕ → Taken
joined r m = record { ended = r.ended ++ (take_bytes r.carried m).ended; carried = (take_bytes r.carried m).carried }

bytes-join : (c l m : List ℕ) → take_bytes c (l ++ m) ≡ joined (take_bytes c l) m
unfolding joined
bytes-join c l m = ap₂ (λ (a : List (List ℕ)) (d : List ℕ). record { ended = a; carried = d }) (bytes-ended c l m) (bytes-carried c l m)

-- a run of bytes without a newline
handed-on : (m l : List ℕ) → NoNewline l → take_bytes (handed m) l ≡ record { ended = []; carried = handed (m ++ l) }
unfolding take_bytes joined
handed-on m [] end = ap (λ (k : List ℕ). record { ended = []; carried = handed k }) (sym (append-nil m))
handed-on m (b ∷ l) (p & ps) =
    ap (λ (r : Taken). joined r l)
    (at_byte_other (handed m) b (ne_eqb b (code "\n") p) ∙ ap (λ (c : List ℕ). record { ended = []; carried = c }) (handed_again m (b ∷ [])))
    ∙ handed-on (m ++ (b ∷ [])) l ps
    ∙ ap (λ (k : List ℕ). record { ended = []; carried = handed k }) (append_assoc m (b ∷ []) l)

first_newline : (c rest : List ℕ) → take_bytes c (code "\n" ∷ rest) ≡ record { ended = c ∷ (take_bytes [] rest).ended; carried = (take_bytes [] rest).carried }
unfolding take_bytes joined
first_newline c rest = ap (λ (r : Taken). joined r rest) (at_byte_newline c (code "\n") refl)

pub run_on : (c l : List ℕ) → length c ≤ suc most_bytes → NoNewline l → take_bytes c l ≡ record { ended = []; carried = handed (c ++ l) }
run_on c l p q = ap (λ (d : List ℕ). take_bytes d l) (sym (handed-short c p)) ∙ handed-on c l q

-- and one up to its newline
pub run-ended : (c l rest : List ℕ) → length c ≤ suc most_bytes → NoNewline l
    → take_bytes c (l ++ (code "\n" ∷ rest)) ≡ record { ended = handed (c ++ l) ∷ (take_bytes [] rest).ended; carried = (take_bytes [] rest).carried }
unfolding joined
run-ended c l rest p q =
    bytes-join c l (code "\n" ∷ rest) ∙ ap (λ (r : Taken). joined r (code "\n" ∷ rest)) (run_on c l p q) ∙ first_newline (handed (c ++ l)) rest

-- ---- at any pause: the lines that have their newline are handed on, and the bytes since are carried

pub so_far : (lines : List (List ℕ)) (l : List ℕ) → Each NoNewline lines → NoNewline l
    → take_bytes [] (ended_text lines ++ l) ≡ record { ended = map handed lines; carried = handed l }
unfolding ended_text
so_far [] l end q = run_on [] l (omega arith) q
so_far (a ∷ lines) l (p & ps) q =
    ap (take_bytes []) (append_assoc a (code "\n" ∷ ended_text lines) l)
    ∙ run-ended [] a (ended_text lines ++ l) (omega arith) p
    ∙ ap (λ (r : Taken). record { ended = handed a ∷ r.ended; carried = r.carried }) (so_far lines l ps q)

reads-taken : (c : List ℕ) (reads : List (List ℕ)) → take_reads c reads ≡ take_bytes c (flatten reads)
reads-taken c reads = ap₂ (λ (a : List (List ℕ)) (d : List ℕ). record { ended = a; carried = d }) (reads-ended c reads) (reads-carried c reads)

pub reads_so_far : (reads lines : List (List ℕ)) (l : List ℕ) → Each NoNewline lines → NoNewline l → flatten reads ≡ ended_text lines ++ l
    → take_reads [] reads ≡ record { ended = map handed lines; carried = handed l }
reads_so_far reads lines l p q h = reads-taken [] reads ∙ ap (take_bytes []) h ∙ so_far lines l p q

-- any bytes are such lines and such a rest
pub record Split (bytes : List ℕ) : Type 0 where
  pub lines : List (List ℕ)
  pub rest : List ℕ
  pub whole_lines : Each NoNewline lines
  pub no_end : NoNewline rest
  pub same : bytes ≡ ended_text lines ++ rest

split-nothing : Split []
unfolding ended_text
split-nothing = record { lines = []; rest = []; whole_lines = end; no_end = end; same = refl }

split_newline : {bytes : List ℕ} → Split bytes → Split (code "\n" ∷ bytes)
unfolding ended_text
split_newline s =
    record { lines = [] ∷ s.lines; rest = s.rest; whole_lines = end & s.whole_lines; no_end = s.no_end; same = ap (λ (l : List ℕ). code "\n" ∷ l) s.same }

split-other : {bytes : List ℕ} (b : ℕ) → (b ≡ code "\n" → ⊥) → (ls : List (List ℕ)) (rest : List ℕ) → Each NoNewline ls → NoNewline rest
    → bytes ≡ ended_text ls ++ rest → Split (b ∷ bytes)
unfolding ended_text
split-other b p [] rest w r h = record { lines = []; rest = b ∷ rest; whole_lines = end; no_end = p & r; same = ap (λ (l : List ℕ). b ∷ l) h }
split-other b p (l ∷ ls) rest (q & qs) r h =
    record { lines = (b ∷ l) ∷ ls; rest = rest; whole_lines = (p & q) & qs; no_end = r; same = ap (λ (l : List ℕ). b ∷ l) h }

pub splits : (bytes : List ℕ) → Split bytes
splits [] = split-nothing
splits (b ∷ bytes) = go (eqb b (code "\n")) refl (splits bytes)
  where
    go : (t : Bool) → eqb b (code "\n") ≡ t → Split bytes → Split (b ∷ bytes)
    go true e s = subst (λ (c : ℕ). Split (c ∷ bytes)) (sym (eqb-true b (code "\n") e)) (split_newline s)
    go false e s = split-other b (eqb-false b (code "\n") e) s.lines s.rest s.whole_lines s.no_end s.same

-- ---- for any reads: the lines are those of the stream, each as much of it as is handed on

lines_split : (lines : List (List ℕ)) (rest : List ℕ) → Each NoNewline lines → NoNewline rest → lines_of (ended_text lines ++ rest) ≡ lines ++ last_line rest
lines_split lines [] p q = ap lines_of (append-nil (ended_text lines)) ∙ lines_ended lines p ∙ sym (append-nil lines)
lines_split lines (b ∷ rest) p q = last_unended lines b rest p q

last-handed : (l : List ℕ) → last_line (handed l) ≡ map handed (last_line l)
unfolding handed
last-handed [] = refl
last-handed (b ∷ l) = refl

all-handed : Taken → List (List ℕ)
all-handed r = r.ended ++ last_line r.carried

split_read : {bytes : List ℕ} → Split bytes → all-handed (take_bytes [] bytes) ≡ map handed (lines_of bytes)
unfolding all-handed
split_read s =
    ap (λ (l : List ℕ). all-handed (take_bytes [] l)) s.same
    ∙ ap all-handed (so_far s.lines s.rest s.whole_lines s.no_end)
    ∙ ap (λ (l : List (List ℕ)). map handed s.lines ++ l) (last-handed s.rest)
    ∙ sym (map-append handed s.lines (last_line s.rest))
    ∙ ap (map handed) (sym (lines_split s.lines s.rest s.whole_lines s.no_end) ∙ ap lines_of (sym s.same))

pub lines_read_lem : (reads : List (List ℕ)) → lines_read reads ≡ map handed (lines_of (flatten reads))
unfolding lines_read all-handed
lines_read_lem reads = ap all-handed (reads-taken [] reads) ∙ split_read (splits (flatten reads))

-- so two ways of reading the same stream give the same lines
pub reads_alike : (reads others : List (List ℕ)) → flatten reads ≡ flatten others → lines_read reads ≡ lines_read others
reads_alike reads others e = lines_read_lem reads ∙ ap (λ (bytes : List ℕ). map handed (lines_of bytes)) e ∙ sym (lines_read_lem others)

-- ---- what is carried is bounded

byte_bounded : (c : List ℕ) (b : ℕ) → length (take_byte c b).carried ≤ suc most_bytes
unfolding take_byte
byte_bounded c b = go (eqb b (code "\n"))
  where
    go : (t : Bool)
        → length (cond {A = Taken} t (record { ended = c ∷ []; carried = [] }) (record { ended = []; carried = handed (c ++ (b ∷ [])) })).carried ≤ suc most_bytes
    go true = omega arith
    go false = handed_bounded (c ++ (b ∷ []))

pub carried_bounded : (c bytes : List ℕ) → length c ≤ suc most_bytes → length (take_bytes c bytes).carried ≤ suc most_bytes
unfolding take_bytes
carried_bounded c [] h = h
carried_bounded c (b ∷ bytes) h = carried_bounded (take_byte c b).carried bytes (byte_bounded c b)

pub reads_bounded : (reads : List (List ℕ)) → length (take_reads [] reads).carried ≤ suc most_bytes
reads_bounded reads = subst (λ (l : List ℕ). length l ≤ suc most_bytes) (sym (reads-carried [] reads)) (carried_bounded [] (flatten reads) (omega arith))
