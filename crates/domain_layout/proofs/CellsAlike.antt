-- Pages that agree on the pages of cells that are come to break the same rules of cells.
use Rattle.std.proofs.Common.{◌≡◌, ◌∙◌, ◌⊎◌, ◌↔◌, inl, inr, ℕ, true, cond, nat_lt, ◌&&◌, List, Some, None, Contains, IsSomeAnd, sym, ap, subst, ⊎_elim}
use Rattle.std.specs.Option.{option_and_then}
use Rattle.file_release.specs.domain_base.declared.place.CellAt.{CellAt}
use Rattle.file_release.specs.domain_base.declared.place.Home.{Home}
use Rattle.file_release.specs.page_store.Pages.{Pages}
use Rattle.file_release.specs.metadata_cells.Cell.{Cell}
use Rattle.file_release.specs.metadata_cells.CellPage.{cell_at, cell_of, home_of, is_cell_page}
use Rattle.file_release.specs.metadata_cells.Chain.{StandsAt}
use Rattle.fileset_table.specs.Table.{Table}
use Rattle.domain_layout.specs.CellRules as rule
use Rattle.domain_layout.specs.CellRules.{AreHolesOfOriginal, AreInChain, AreLimitsTwice, Follows, HasWrongCell, HasWrongHeader, IsCellFault, IsCellsFault, IsCellsPage, IsChainHead, IsInChain, IsLedTo, IsLink, IsNoCellsPage, IsPageTwice, IsPlace, IsUnchained, IsUsed, IsWrongFirst, IsWrongLater, IsWrongVolumeCell, LeadsTo, LeadsWrong, Link}
use Rattle.domain_layout.specs.Reached.{Frame, IsRead, IsUnread, MayBe, Reaches, Way, begins, cells_way, goes_on}
use Rattle.domain_layout.specs.Alike.{AgreeOnCells, AgreeOnWay}
use Rattle.domain_layout.proofs.Reached.{may_or_not}

-- ---- which pages are read

pub reaches : (one other : Pages) (frame : Frame) (way : Way) → AgreeOnWay one other frame way → (passed : List Home) (home : Home) → Reaches one frame way passed home → Reaches other frame way passed home
reaches one other frame way agree passed home reached = elim reached as (λ passed home reached. Reaches other frame way passed home) [
  | begins ↦ begins
  | goes_on passed home onto page (before → earlier) may fresh there so leads ↦
      goes_on passed home onto page earlier may fresh (sym (agree passed home before may) ∙ there) so leads
]

reaches_back : (one other : Pages) (frame : Frame) (way : Way) → AgreeOnWay one other frame way → (passed : List Home) (home : Home) → Reaches other frame way passed home → Reaches one frame way passed home
reaches_back one other frame way agree passed home reached = elim reached as (λ passed home reached. Reaches one frame way passed home) [
  | begins ↦ begins
  | goes_on passed home onto page (before → earlier) may fresh there so leads ↦
      goes_on passed home onto page earlier may fresh (agree passed home earlier may ∙ there) so leads
]

pub turned : (one other : Pages) (frame : Frame) (way : Way) → AgreeOnWay one other frame way → AgreeOnWay other one frame way
turned one other frame way agree passed home reached may = sym (agree passed home (reaches_back one other frame way agree passed home reached) may)

pub read : (one other : Pages) (frame : Frame) (way : Way) → AgreeOnWay one other frame way → (place : ℕ) (home : Home) (page : List ℕ) → IsRead one frame way place home page → IsRead other frame way place home page
read one other frame way agree place home page is = record {
  passed = is.passed;
  reached = reaches one other frame way agree is.passed home is.reached;
  may = is.may;
  fresh = is.fresh;
  there = sym (agree is.passed home is.reached is.may) ∙ is.there;
  begins = is.begins;
  at = is.at;
}

pub unread : (one other : Pages) (frame : Frame) (way : Way) → AgreeOnWay one other frame way → (home : Home) → IsUnread one frame way home → IsUnread other frame way home
unread one other frame way agree home is = record {
  passed = is.passed;
  reached = reaches one other frame way agree is.passed home is.reached;
  wrong = ⊎_elim (λ may.
      subst (λ o. ¬ MayBe frame home ⊎ Contains is.passed home ⊎ ¬ IsSomeAnd o (λ page. way.begins_so page ≡ true)) (agree is.passed home is.reached may) is.wrong)
      (λ none. inl none) (may_or_not frame home);
}

pub turned_cells : (one other : Pages) (frame : Frame) → AgreeOnCells one other frame → AgreeOnCells other one frame
turned_cells one other frame agree vol member = turned one other frame (cells_way frame vol) (agree vol member)

-- ---- cells

module _ (one other : Pages) (frame : Frame) (agree : AgreeOnCells one other frame) where
  cells_page : (place : ℕ) (home : Home) (page : List ℕ) → IsCellsPage one frame place home page → IsCellsPage other frame place home page
  cells_page place home page is = record {
    member = is.member;
    read = read one other frame (cells_way frame home.vol) (agree home.vol is.member) place home page is.read;
  }

  pub place_alike : (at : CellAt) → IsPlace one frame at → IsPlace other frame at
  place_alike at place = record { place = place.place; page = place.page; is = cells_page place.place (home_of at) place.page place.is; within = place.within }

  -- the same bytes stand at a place
  pub bytes_alike : (at : CellAt) → IsPlace one frame at → cell_at one at ≡ cell_at other at
  bytes_alike at place =
      let same = agree at.vol place.is.member place.is.read.passed (home_of at) place.is.read.reached place.is.read.may in
      ap (λ o. option_and_then (λ page. cond (is_cell_page page && nat_lt at.cell 28) (Some (cell_of page at.cell)) None) o) same

  pub link_alike : (at : CellAt) (link : Link) → IsLink one frame at link → IsLink other frame at link
  link_alike at link is = record { place = place_alike at is.place; bytes = is.bytes; there = sym (bytes_alike at is.place) ∙ is.there; kind = is.kind; next = is.next }

  stands_alike : (at : CellAt) (cell : Cell) → IsPlace one frame at → StandsAt one at cell → StandsAt other at cell
  stands_alike at cell place stands = record { bytes = stands.bytes; there = sym (bytes_alike at place) ∙ stands.there; is = stands.is }

  pub used_alike : (at : CellAt) (cell : Cell) → IsUsed one frame at cell → IsUsed other frame at cell
  used_alike at cell used = record { place = place_alike at used.place; stands = stands_alike at cell used.place used.stands }

  pub leads_alike : (at onto : CellAt) → LeadsTo one frame at onto → LeadsTo other frame at onto
  leads_alike at onto leads = (leads.0, link_alike at leads.0 leads.1, leads.2, leads.3)

  follows_alike : (start : CellAt) (passed : List CellAt) (at : CellAt) (link : Link) → Follows one frame start passed at link → Follows other frame start passed at link
  follows_alike start passed at link follows = elim follows as (λ passed at link follows. Follows other frame start passed at link) [
    | rule.begins link is ↦ rule.begins link (link_alike start link is)
    | rule.goes_on passed at onto link next (before → earlier) leads fresh is may ↦ rule.goes_on passed at onto link next earlier leads fresh (link_alike onto next is) may
  ]

module _ (one other : Pages) (frame : Frame) (agree : AgreeOnCells one other frame) where
  back : AgreeOnCells other one frame
  back = turned_cells one other frame agree

  head_alike : (at : CellAt) (link : Link) → IsChainHead one frame at link → IsChainHead other frame at link
  head_alike at link head = (
    link_alike one other frame agree at link head.0,
    ⊎_elim (λ primary. inl primary) (λ quota. inr (quota.0, (λ from leads. quota.1 from (leads_alike other one frame back from at leads)))) head.1,
  )

  in_chain_alike : (start at : CellAt) (link : Link) → IsInChain one frame start at link → IsInChain other frame start at link
  in_chain_alike start at link is = record {
    first = is.first;
    begins = head_alike start is.first is.begins;
    passed = is.passed;
    follows = follows_alike one other frame agree start is.passed at link is.follows;
  }

  led_alike : (start from onto : CellAt) → IsLedTo one frame start from onto → IsLedTo other frame start from onto
  led_alike start from onto led = record {
    chain = led.chain;
    another = led.another;
    link = led.link;
    is = in_chain_alike led.chain from led.link led.is;
    leads = led.leads;
    next = led.next;
    there = link_alike one other frame agree onto led.next led.there;
    may = led.may;
  }

  two_alike : (first : Link) (early late : Cell) (at : CellAt) → AreInChain one frame first early late at → AreInChain other frame first early late at
  two_alike first early late at are = record {
    start = are.start;
    is_head = head_alike are.start first are.is_head;
    passed = are.passed;
    link = are.link;
    follows = follows_alike one other frame agree are.start are.passed at are.link are.follows;
    late_is = used_alike one other frame agree at late are.late_is;
    before = are.before;
    among = are.among;
    early_is = used_alike one other frame agree are.before early are.early_is;
  }

module _ (one other : Pages) (frame : Frame) (agree : AgreeOnCells one other frame) (table : Table) where
  there_back : AgreeOnCells other one frame
  there_back = turned_cells one other frame agree

  volume_alike : (at : CellAt) → IsWrongVolumeCell one frame at → IsWrongVolumeCell other frame at
  volume_alike at wrong =
      ⊎_elim (λ w.
      let place = place_alike one other frame agree at w.0 in
      inl (place, w.1, (λ cell stands. w.2 cell (stands_alike other one frame there_back at cell place stands))))
      (λ w. inr (w.0, link_alike one other frame agree at w.0 w.1, w.2, w.3)) wrong

  leads_wrong_alike : (at : CellAt) → LeadsWrong one frame at → LeadsWrong other frame at
  unfolding in_chain_alike
  leads_wrong_alike at wrong = record {
    start = wrong.start;
    link = wrong.link;
    is = in_chain_alike one other frame agree wrong.start at wrong.link wrong.is;
    onto = wrong.onto;
    leads = wrong.leads;
    wrong = ⊎_elim (λ none. inl (λ next is. none next (link_alike other one frame there_back wrong.onto next is)))
        (λ more. inr (⊎_elim (λ twice. inl twice) (λ led. inr (led.0, led_alike one other frame agree wrong.start led.0 wrong.onto led.1, led.2)) more)) wrong.wrong;
  }

  unchained_alike : (at : CellAt) → IsUnchained one frame at → IsUnchained other frame at
  unchained_alike at is = record {
    link = is.link;
    is = link_alike one other frame agree at is.link is.is;
    kind = is.kind;
    alone = λ start in_chain. is.alone start (in_chain_alike other one frame there_back start at is.link in_chain);
  }

  page_twice_alike : (at : CellAt) → IsPageTwice one frame at → IsPageTwice other frame at
  page_twice_alike at w = record {
    first = w.first;
    early = w.early;
    late = w.late;
    chain = two_alike one other frame agree w.first w.early w.late at w.chain;
    one = w.one;
    other = w.other;
    in_early = w.in_early;
    in_late = w.in_late;
    page = w.page;
    there = w.there;
    again = w.again;
  }

  limits_twice_alike : (at : CellAt) → AreLimitsTwice one frame at → AreLimitsTwice other frame at
  limits_twice_alike at w = record {
    first = w.first;
    early = w.early;
    late = w.late;
    chain = two_alike one other frame agree w.first w.early w.late at w.chain;
    quotas = w.quotas;
    one = w.one;
    other = w.other;
    in_early = w.in_early;
    in_late = w.in_late;
    kinds = w.kinds;
    ids = w.ids;
  }

  holes_alike : (at : CellAt) → AreHolesOfOriginal one frame table at → AreHolesOfOriginal other frame table at
  holes_alike at w = record {
    start = w.start;
    first = w.first;
    first_is = used_alike one other frame agree w.start w.first w.first_is;
    kind = w.kind;
    original = w.original;
    live = w.live;
    passed = w.passed;
    link = w.link;
    follows = follows_alike one other frame agree w.start w.passed at w.link w.follows;
    cell = w.cell;
    is = used_alike one other frame agree at w.cell w.is;
    holes = w.holes;
  }

  cell_fault_alike : (at : CellAt) → IsCellFault one frame table at → IsCellFault other frame table at
  cell_fault_alike at fault =
      ⊎_elim (λ w. inl (volume_alike at w))
      (λ a. inr (⊎_elim (λ w. inl (record { cell = w.cell; used = used_alike one other frame agree at w.cell w.used; kind = w.kind; wrong = w.wrong }))
      (λ b. inr (⊎_elim (λ w. inl (record { cell = w.cell; used = used_alike one other frame agree at w.cell w.used; wrong = w.wrong }))
      (λ c. inr (⊎_elim (λ w. inl (leads_wrong_alike at w))
      (λ d. inr (⊎_elim (λ w. inl (unchained_alike at w))
      (λ e. inr (⊎_elim (λ w. inl (page_twice_alike at w))
      (λ f. inr (⊎_elim (λ w. inl (limits_twice_alike at w)) (λ w. inr (holes_alike at w)) f)) e)) d)) c)) b)) a))
      fault

  pub cells_fault_alike : (home : Home) → IsCellsFault one frame table home → IsCellsFault other frame table home
  cells_fault_alike home fault =
      ⊎_elim (λ w. inl (record { vol = w.vol; member = w.member; unread = unread one other frame (cells_way frame w.vol) (agree w.vol w.member) home w.unread }))
      (λ a. inr (⊎_elim (λ w. inl (record { place = w.place; page = w.page; is = cells_page one other frame agree w.place home w.page w.is; wrong = w.wrong }))
      (λ b. inr (⊎_elim (λ w. inl (record { place = w.place; page = w.page; is = cells_page one other frame agree w.place home w.page w.is; cell = w.cell; within = w.within; used = w.used; wrong = w.wrong }))
      (λ w. inr (w.0, w.1, cell_fault_alike w.0 w.2)) b)) a))
      fault

pub same_cells_faults : (one other : Pages) (frame : Frame) (table : Table) (home : Home) → AgreeOnCells one other frame → IsCellsFault one frame table home ↔ IsCellsFault other frame table home
same_cells_faults one other frame table home agree =
    (cells_fault_alike one other frame agree table home, cells_fault_alike other one frame (turned_cells one other frame agree) table home)
