use Rattle.utf8.proofs.+begins.Given as goal

-- What falls: how many bytes are to follow.
abbrev pub decreases-begins : goal.decreases-begins
decreases-begins l = l.more
