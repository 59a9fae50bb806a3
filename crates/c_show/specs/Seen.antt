-- What a page that is written stands for.
use Rattle.std.specs.Prelude.{ℕ, List, [], map, codes, ◌==◌, if◌then◌else◌}
use Rattle.c_show.specs.declared.held.Held.{Held}
use Rattle.c_show.specs.declared.page.Page.{Page as Sheet}
use Rattle.c_show.specs.Printed.{Showing, Told, Page}

abbrev pub all_told : List Held → List Showing
all_told held = map Told held

-- a page, and the leaves that are left
abbrev pub seen : Sheet → List Held → Page
seen sheet rest = record { text = sheet.text; rest = all_told rest; room = sheet.room }

-- what stands before an item of a list
abbrev pub before_item : ℕ → List ℕ
before_item i = if i == 0 then [] else codes ", "
