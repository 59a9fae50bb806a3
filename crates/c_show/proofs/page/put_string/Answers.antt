use Rattle.std.proofs.Common.{rules}
use Rattle.c_show.proofs.Pages.{string_put}
use Rattle.c_show.proofs.page.put_string.Goals as goal

pub returns : goal.returns
returns c =
    string_put c.args.page.now.text c.args.page.now.room c.args.n _ c.args.leaves.now c.front.result.now _ _
    c.front.ensures c.behind.ensures c.in_ok-put_array_text.ensures (search rules)
