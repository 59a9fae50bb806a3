use Rattle.ps_append.proofs.append.+append_rest.Given as goal

abbrev pub decreases-append_rest : goal.decreases-append_rest
decreases-append_rest l = l.left
