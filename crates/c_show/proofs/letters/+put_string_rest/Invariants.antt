use Rattle.c_show.proofs.letters.+put_string_rest.Given as goal

abbrev pub decreases-put_string_rest : goal.decreases-put_string_rest
decreases-put_string_rest l = l.left
