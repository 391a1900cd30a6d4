-- `push_natural` meets its contract, by recursion on the number: all digits but the last, and the last.
use Rattle.decimals.proofs.write.Text.+push_natural.Given as goal

abbrev pub decreases-push_natural : goal.decreases-push_natural
decreases-push_natural l = l.n
