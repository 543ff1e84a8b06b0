use Rattle.std.proofs.Common.{◌∙◌, ◌++◌, ◌∷◌, [], ap, sym, subst}
use Rattle.std.specs.Option.{option_copied}
use Rattle.page_ways.specs.Frame.{frame_in}
use Rattle.page_ways.specs.Walk.{IsOnWay, IsReadable}
use Rattle.page_ways.proofs.Come.{on_way_next}
use Rattle.page_ways.proofs.walk.read_next.Goals as goal

pub returns-clause-on : goal.returns-clause-on
returns-clause-on g c =
    let pages = g.M.MetaPages.pages c.args.pages.now in
    let frame = frame_in c.args.frame.now in
    let way = g.W.PageWay.way c.args.way.now in
    let homes = c.args.passed.now.homes.items in
    let unread = c.args.unread.now in
    let home = c.args.home.now in
    let page = c.in-Some.page.now in
    let readable : IsReadable pages frame way homes home page = record {
      may = c.may_be.ensures.0 c.if-may_be.true;
      fresh = λ twice. let yes = c.has.ensures.1 twice in let no = c.if-not-has.true in absurd (cc);
      there = sym c.get.ensures ∙ ap option_copied c.in-Some.is;
      begins = sym c.begins_so.ensures ∙ c.if-begins_so.true;
    } in
    subst (λ l. IsOnWay pages frame way l unread c.next-next.result) (sym c.in_ok-push.ensures.homes)
    (subst (λ n. IsOnWay pages frame way (homes ++ home ∷ []) unread n) (sym c.next-next.ensures) (on_way_next pages frame way homes unread home page c.requires.on readable))
