use Rattle.c_show.proofs.letters.+put_array_rest.Given as goal

abbrev pub decreases-put_array_rest : goal.decreases-put_array_rest
decreases-put_array_rest l = l.left
