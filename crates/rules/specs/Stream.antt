-- Request M-107: a stream of bytes as lines, and the cutting of it as the bytes arrive, in bounded memory.
use Rattle.std.specs.Prelude.{ℕ, suc, cond, List, [], ◌∷◌, ◌++◌, eqb, take}
use Prim.Native.Char.{code}
use Rattle.rules.specs.Text.{most_bytes}

-- a byte in front of the first line, or a line by itself where there is none
unfoldable pub in_front : ℕ → List (List ℕ) → List (List ℕ)
in_front b [] = (b ∷ []) ∷ []
in_front b (line ∷ lines) = (b ∷ line) ∷ lines

-- a newline ends a line. The last line may lack it; nothing at all after the last newline is no line
unfoldable pub lines_of : List ℕ → List (List ℕ)
unfolding in_front
lines_of [] = []
lines_of (b ∷ bytes) = cond (eqb b (code "\n")) ([] ∷ lines_of bytes) (in_front b (lines_of bytes))

-- ---- the cutting

-- as much of a line as is carried and handed on: one byte more than a line in form has at most, so that one that is too long stays too long
unfoldable pub handed : List ℕ → List ℕ
handed line = take (suc most_bytes) line

-- what comes of some bytes
pub record Taken : Type 0 where
  -- the lines that ended
  pub ended : List (List ℕ)
  -- the bytes since the last newline
  pub carried : List ℕ

unfoldable pub take_byte : List ℕ → ℕ → Taken
unfolding handed
take_byte carried b = cond (eqb b (code "\n")) (record { ended = carried ∷ []; carried = [] }) (record { ended = []; carried = handed (carried ++ (b ∷ [])) })

-- the bytes of one read, behind those that are carried
unfoldable pub take_bytes : List ℕ → List ℕ → Taken
unfolding take_byte
take_bytes carried [] = record { ended = []; carried = carried }
take_bytes carried (b ∷ bytes) =
    let first = take_byte carried b in
    let others = take_bytes first.carried bytes in
    record { ended = first.ended ++ others.ended; carried = others.carried }

-- one read after the other
unfoldable pub take_reads : List ℕ → List (List ℕ) → Taken
unfolding take_bytes
take_reads carried [] = record { ended = []; carried = carried }
take_reads carried (read ∷ reads) =
    let first = take_bytes carried read in
    let others = take_reads first.carried reads in
    record { ended = first.ended ++ others.ended; carried = others.carried }

-- the last line, where the stream ends without its newline
abbrev pub last_line : List ℕ → List (List ℕ)
last_line [] = []
last_line (b ∷ line) = (b ∷ line) ∷ []

-- all lines of a stream that arrives in these reads
unfoldable pub lines_read : List (List ℕ) → List (List ℕ)
unfolding take_reads
lines_read reads = (take_reads [] reads).ended ++ last_line (take_reads [] reads).carried
