use Rattle.asking.proofs.raw.+append_words.Given as goal

abbrev pub decreases-append_words : goal.decreases-append_words
decreases-append_words g l = l.count
