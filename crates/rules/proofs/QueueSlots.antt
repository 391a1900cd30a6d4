-- The merger's search for A's next join, with a queue of A's places: none is looked at twice where nothing can have changed. A place
-- whose edge has no mate leaves the queue for good, as later pieces only vanish; a refused one is looked at again behind A's next join.
-- Document 01's "i starts again at 0" is going on: corner 0 of A joined is e, the next in ring order behind s.
use Prim.Native.Nat.{ℕ, suc}
use mathlib.Core.Bool.{Bool, true, false, cond}
use mathlib.Core.List.{List, [], ◌∷◌, ◌++◌, map}
use mathlib.Core.Option.{Option, none, some}
use lib.ListN.{length}
use Rattle.rules.specs.Merge.{Part, mate, joint, JoinTest}

-- a place of A: its number, in the order in which A's places are made; the corner there; whether it is in the queue
pub record Slot : Type 0 where
  pub at : ℕ
  pub corner : ℕ
  pub live : Bool

abbrev pub corners_of : List Slot → List ℕ
corners_of slots = map (λ p. p.corner) slots

-- new places, numbered from n on
abbrev pub fresh : ℕ → List ℕ → List Slot
fresh n [] = []
fresh n (c ∷ l) = record { at = n; corner = c; live = true } ∷ fresh (suc n) l

-- the place out of the queue
abbrev pub out : Slot → Slot
out p = record { at = p.at; corner = p.corner; live = false }

-- what a look at a place finds: no mate, a mate that A may not be joined with, a join
pub data Look : Type 0 where
  lone : Look
  refused : Look
  joins : Part → Look

-- whether A, which is s, e and rest, may be joined with B, which is e, s and piece
abbrev pub may_meet : JoinTest → ℕ → ℕ → List ℕ → List ℕ → Bool
may_meet may s e rest piece = may (joint s e rest piece) (joint e s piece rest)

abbrev pub judged : JoinTest → ℕ → ℕ → List ℕ → Option Part → Look
judged may s e rest none = lone
judged may s e rest (some b) = cond (may_meet may s e rest b.piece) (joins b) refused

-- at corner s of A, which is s ∷ rest
unfoldable pub look : JoinTest → List (List ℕ) → ℕ → List ℕ → Look
unfolding mate
look may later s [] = refused
look may later s (e ∷ rest) = judged may s e rest (mate e s [] later)

-- at place p of A, which is p ∷ rest: one that is not in the queue has no mate
unfoldable pub look_at : JoinTest → List (List ℕ) → Slot → List Slot → Look
unfolding look
look_at may later p rest = cond p.live (look may later p.corner (corners_of rest)) lone

-- A from e up to s, and what B has besides e and s
abbrev pub grown : Slot → List Slot → List ℕ → List Slot
grown p rest piece = rest ++ (p ∷ fresh (suc (length rest)) piece)

-- the queue: the numbers of the places in it, those to come first; as many of its last were refused since A's last join as were passed
abbrev pub queued : List Slot → List ℕ
queued [] = []
queued (p ∷ l) = cond p.live (p.at ∷ queued l) (queued l)
