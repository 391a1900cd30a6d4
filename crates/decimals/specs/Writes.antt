-- Text written into lent bytes.
use Rattle.std.specs.Prelude.{ℕ, ◌+◌, ◌≤◌, ◌≡◌, List, ◌++◌, length, take, drop}
use Rattle.decimals.specs.declared.write.Text.{Text}

-- the text fits from a place on
pub record Room (out : List ℕ) (at : ℕ) (text : List ℕ) : Type 0 where
  pub fits : at + length text ≤ length out

-- old with text over it from a place on; the rest as it was
unfoldable pub written : List ℕ → ℕ → List ℕ → List ℕ
written old at text = take at old ++ (text ++ drop (at + length text) old)

-- the text was written at a place, and ends at another
pub record Wrote (old new : List ℕ) (at end : ℕ) (text : List ℕ) : Type 0 where
  pub is : new ≡ written old at text
  pub ends : end ≡ at + length text
  pub room : Room old at text

-- there is room for more behind a text
pub record Takes (text : Text) (more : List ℕ) : Type 0 where
  pub fits : text.end + length more ≤ length text.out.now

-- more was written behind a text, into the same lent bytes
pub record Grew (old new : Text) (more : List ℕ) : Type 0 where
  pub wrote : Wrote old.out.now new.out.now old.end new.end more
  pub same_out : new.out.ghost_name ≡ old.out.ghost_name
