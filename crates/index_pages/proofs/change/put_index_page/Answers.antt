use Rattle.std.proofs.Common.{◌∙◌, ◌-◌, Some, inr, sym}
use Rattle.index_pages.proofs.Changed.{good_numbered, not_past, page_there, put_linked, put_others, puts, room_there}
use Rattle.index_pages.proofs.change.put_index_page.Goals as goal

pub next_home-next-requires : goal.next_home-next-requires
next_home-next-requires g c =
    let pages = g.M.MetaPages.pages c.args.pages.now in
    let (homes, are, below) = c.requires in
    good_numbered pages (Some c.args.first) homes c.args.number c.in-Some.home are (sym (c.index_home.ensures homes are) ∙ c.in-Some.is)

pub put-requires : goal.put-requires
put-requires g c =
    let pages = g.M.MetaPages.pages c.args.pages.now in
    let (homes, are, below) = c.requires in
    inr (page_there (pages c.in-Some.home) (good_numbered pages (Some c.args.first) homes c.args.number c.in-Some.home are (sym (c.index_home.ensures homes are) ∙ c.in-Some.is)))

pub returns-in-Some-clause-put : goal.returns-in-Some-clause-put
returns-in-Some-clause-put g c =
    let old = g.M.MetaPages.pages c.args.pages.now in
    let new = g.M.MetaPages.pages c.put.new.self in
    λ homes are. puts old new c.in-Some.home c.args.bytes
    (put_linked old new c.in-Some.home c.next_home-next.result c.args.bytes c.link_page.result c.put.ensures.value c.next_home-next.ensures c.link_page.ensures)
    (put_others old new c.in-Some.home c.link_page.result c.put.ensures.value)
    (Some c.args.first) homes c.args.number are (sym (c.index_home.ensures homes are) ∙ c.in-Some.is)

pub returns-in-Some-clause-room : goal.returns-in-Some-clause-room
returns-in-Some-clause-room g c =
    let pages = g.M.MetaPages.pages c.args.pages.now in
    let room = g.M.MetaPages.room c.args.pages.now in
    let (homes, are, below) = c.requires in
    c.put.ensures.left ∙ room_there (pages c.in-Some.home) room (room - 1) (good_numbered pages (Some c.args.first) homes c.args.number c.in-Some.home are (sym (c.index_home.ensures homes are) ∙ c.in-Some.is))

pub returns-in_default-clause-put : goal.returns-in_default-clause-put
returns-in_default-clause-put g c =
    let pages = g.M.MetaPages.pages c.args.pages.now in
    let (others, also, below) = c.requires in
    λ homes are. absurd (not_past pages (Some c.args.first) homes others c.args.number are also below (sym (c.index_home.ensures homes are) ∙ c.in_default.is))
