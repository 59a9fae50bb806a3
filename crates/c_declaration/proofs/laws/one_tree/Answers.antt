use Rattle.c_declaration.proofs.OneTree.{one_declarator, one_local, one_head, one_function}
use Rattle.c_declaration.proofs.laws.one_tree.Goals as goal

pub returns-clause-declarator : goal.returns-clause-declarator
returns-clause-declarator c = one_declarator

pub returns-clause-local : goal.returns-clause-local
returns-clause-local c = one_local

pub returns-clause-head : goal.returns-clause-head
returns-clause-head c = one_head

pub returns-clause-function : goal.returns-clause-function
returns-clause-function c = one_function
