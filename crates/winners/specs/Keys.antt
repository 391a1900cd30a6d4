-- The tree of winners as an array: a key and a corner for each node.
use Rattle.std.specs.Prelude.{ℕ, ◌+◌, ◌*◌, ◌/◌, ◌^◌, ◌≤◌, ◌<◌, ◌≡◌, ◌⊎◌, true, false, cond, Option, None, Some, pos, length, get_or, set, Float}
use Rattle.std.specs.Float.{nan, fin}
use Rattle.std.specs.Float.Ieee.{eq, le, is_nan}
use Rattle.rules.specs.Ear as rules
use Rattle.rules.specs.Cut.{Choice, nothing, better}
use Rattle.winners.specs.Tree as tree
use Rattle.winners.specs.Winners.{later}
use Rattle.winners.specs.declared.Entry.{Entry}
use Rattle.winners.specs.declared.Winners.{Winners}

abbrev pub to_ear : Option Float → rules.Ear
to_ear None = rules.none
to_ear (Some v) = rules.pointed v

abbrev pub from_ear : rules.Ear → Option Float
from_ear rules.none = None
from_ear (rules.pointed v) = Some v

-- -2 ^ 24: the key of a corner that is no ear
abbrev pub lowest : Float
lowest = fin true 1 (pos 24)

abbrev pub key_of : Option Float → Float
key_of None = lowest
key_of (Some v) = v

unfoldable pub ear_in : Float → rules.Ear
unfolding eq
ear_in key = cond (eq key lowest) rules.none (rules.pointed key)

-- an ear whose key stands for it
pub data Proper : Option Float → Type 0 where
  no : Proper None
  pointed : {v : Float} → is_nan v ≡ false → le v lowest ≡ false → Proper (Some v)

-- the key of such an ear
pub data Fair : Float → Type 0 where
  none : Fair lowest
  some : {v : Float} → is_nan v ≡ false → le v lowest ≡ false → Fair v

-- corner i as it stands in the tree
abbrev pub ear_entry : ℕ → Option Float → Entry
ear_entry i e = record { key = key_of e; corner = i }

unfoldable pub decode : Entry → Choice ℕ
unfolding better ear_in
decode e = better nothing e.corner (ear_in e.key)

abbrev pub node : Winners → ℕ → Entry
node w k = get_or w.nodes k (record { key = nan; corner = 0 })

abbrev pub with_node : Winners → ℕ → Entry → Winners
with_node w k e = record { nodes = set w.nodes k e; leaves = w.leaves }

abbrev pub winner_in : Winners → ℕ → Choice ℕ
winner_in w k = decode (node w k)

-- r is what two entries give together, the first and the later
pub record BetterOf (a b r : Entry) : Type 0 where
  pub wins : decode r ≡ later (decode a) (decode b)
  pub one : (r ≡ a) ⊎ (r ≡ b)

-- r is what the children of node k's parent give together, where node k holds `own`
pub record WithSibling (w : Winners) (k : ℕ) (own r : Entry) : Type 0 where
  pub children : own ≡ node w k → BetterOf (node w (k / 2 * 2)) (node w (k / 2 * 2 + 1)) r

-- each key is that of a corner that is no ear
pub record Nobody (w : Winners) : Type 0 where
  pub long : length w.nodes ≡ 1024
  pub each : (k : ℕ) → k < 1024 → (node w k).key ≡ lowest

-- the array has room, and each key from node `from` on stands for an ear
pub record Numbers (w : Winners) (from : ℕ) : Type 0 where
  pub long : length w.nodes ≡ 1024
  pub least : 1 ≤ w.leaves
  pub small : w.leaves ≤ 512
  pub numbers : (k : ℕ) → from ≤ k → k < w.leaves + w.leaves → Fair (node w k).key

-- only the leaves are there
abbrev pub Leaves : Winners → Type 0
Leaves w = Numbers w w.leaves

pub record Tree (w : Winners) : Type 0 where
  pub numbers : Numbers w 1
  pub stands : tree.Stands later (winner_in w) w.leaves

-- the leaves are as before
pub record LeafSame (before after : Winners) : Type 0 where
  pub leaves : after.leaves ≡ before.leaves
  pub same : (k : ℕ) → before.leaves ≤ k → node after k ≡ node before k

-- the leaves are as before but that of corner i, which has the ear e
pub record LeafSet (before : Winners) (i : ℕ) (e : Option Float) (after : Winners) : Type 0 where
  pub leaves : after.leaves ≡ before.leaves
  pub there : node after (before.leaves + i) ≡ ear_entry i e
  pub others : (k : ℕ) → before.leaves ≤ k → (k ≡ before.leaves + i → ⊥) → node after k ≡ node before k

-- m is a power of two, 512 at most
pub record Power (m : ℕ) : Type 0 where
  pub exponent : ℕ
  pub low : exponent ≤ 9
  pub is : m ≡ 2 ^ exponent

abbrev pub corner_if : rules.Ear → ℕ → Option ℕ
corner_if rules.none i = None
corner_if (rules.pointed v) i = Some i

-- what the root says
unfoldable pub root_of : Winners → Option ℕ
unfolding ear_in
root_of w = corner_if (ear_in (node w 1).key) (node w 1).corner
