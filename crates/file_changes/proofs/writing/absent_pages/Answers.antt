use Rattle.std.proofs.Common.{◌≡◌, ◌∙◌, ◌+◌, ◌-◌, ◌/◌, Bool, true, false, count_by, not, refl, sym, ap, subst, arith, true≢false, ⊎_elim}
use Rattle.std.proofs.lemmas.Bool.{cases_eq}
use Rattle.std.specs.FinMap.{contains_key}
use Rattle.std.specs.List.{range_with_len}
use Rattle.file_changes.specs.Looking.{IsAtPage}
use Rattle.file_changes.specs.declared.looking.FilePage.TheVariants.{Closed, NoFile}
use Rattle.file_changes.specs.Reading.{IsOpen, pages_at}
use Rattle.file_changes.proofs.Asks.{some_files}
use Rattle.file_changes.proofs.Laid.{pages_are, pages_have, pages_none, pages_within}
use Rattle.file_changes.proofs.Opened.{open_lacking, open_not_closed, open_there}
use Rattle.file_changes.proofs.Paged.{absent_closed, absent_lacking, absent_there}
use Rattle.file_changes.proofs.writing.absent_pages.Goals.{in-Closed, in-There, in-Lacking}
use Rattle.file_changes.proofs.writing.absent_pages.Goals as goal

pub loop-page-preserved : goal.loop-page-preserved
loop-page-preserved c =
    let memory = c.args.memory.now in
    let number = c.args.number in
    let tag = c.args.tag in
    let first = c.args.offset / 8192 in
    let page = c.loop-page.page in
    let inv = c.loop-page.invariant in
    let more : page - first + 1 ≡ page + 1 - first = omega (arith, c.loop-page.auto.page) in
    elim c.match-look_at_page.branch [
      | in-There w ↦
          let is = subst (IsAtPage memory number tag page) w.in-There.is c.look_at_page.ensures in
          record {
            counted = λ path all entry fileset has.
                w.absent-is ∙ inv.counted path all entry fileset has ∙ absent_there memory number tag path all entry fileset has c.requires.file first (page - first) page (omega (arith, c.loop-page.auto.page)) is.1
                ∙ ap (λ n. count_by (λ q. not (contains_key (pages_at fileset.tree path) q)) (range_with_len first n)) more;
            few = omega (arith, w.absent-is, inv.few);
            opened = λ are q low high. ⊎_elim (λ here. subst (IsOpen memory number tag) (sym here) (λ chains found. open_there tag page chains (is.1 chains found))) (λ other. inv.opened (sym w.are_open-is ∙ are) q low (omega (arith, high, other))) (cases_eq q page);
            wanting = λ not_so. let some = inv.wanting (sym w.are_open-is ∙ not_so) in omega (arith, some, w.absent-is);
            closed = λ not_so are. inv.closed (sym w.are_open-is ∙ not_so) (λ q low high. are q low (omega (arith, high)));
          }
      | in-Lacking w ↦
          let is = subst (IsAtPage memory number tag page) w.in-Lacking.is c.look_at_page.ensures in
          record {
            counted = λ path all entry fileset has.
                w.absent-is ∙ ap (λ n. n + 1) (inv.counted path all entry fileset has) ∙ absent_lacking memory number tag path all entry fileset has c.requires.file first (page - first) page (omega (arith, c.loop-page.auto.page)) is.1
                ∙ ap (λ n. count_by (λ q. not (contains_key (pages_at fileset.tree path) q)) (range_with_len first n)) more;
            few = omega (arith, w.absent-is, inv.few);
            opened = λ are q low high. ⊎_elim (λ here. subst (IsOpen memory number tag) (sym here) (λ chains found. open_lacking tag page chains (is.1 chains found))) (λ other. inv.opened (sym w.are_open-is ∙ are) q low (omega (arith, high, other))) (cases_eq q page);
            wanting = λ not_so. let some = inv.wanting (sym w.are_open-is ∙ not_so) in omega (arith, some, w.absent-is);
            closed = λ not_so are. inv.closed (sym w.are_open-is ∙ not_so) (λ q low high. are q low (omega (arith, high)));
          }
      | in-Closed w ↦
          let f = some_files memory number c.requires.stands c.requires.back c.requires.original in
          let never : IsAtPage memory number tag page NoFile → ⊥ = λ is. is f.0 f.1 (c.requires.file f.0 f.1) in
          let is : IsAtPage memory number tag page Closed = ⊎_elim
          (λ closed. subst (IsAtPage memory number tag page) closed c.look_at_page.ensures)
          (λ none. absurd (never (subst (IsAtPage memory number tag page) none c.look_at_page.ensures)))
          w.in-Closed.is in
          record {
            counted = λ path all entry fileset has.
                w.absent-is ∙ ap (λ n. n + 1) (inv.counted path all entry fileset has)
                ∙ absent_closed memory number tag path all entry fileset has c.requires.file first (page - first) page (omega (arith, c.loop-page.auto.page)) (λ chains found. (is.1 chains found).1)
                ∙ ap (λ n. count_by (λ q. not (contains_key (pages_at fileset.tree path) q)) (range_with_len first n)) more;
            few = omega (arith, w.absent-is, inv.few);
            opened = λ are. absurd (true≢false (sym are ∙ w.are_open-is));
            wanting = λ not_so. omega (arith, w.absent-is);
            closed = λ not_so are. open_not_closed tag page f.0 (are page c.loop-page.auto.page (omega arith) f.0 f.1) (is.1 f.0 f.1);
          }
    ]

pub returns-then-len-eq0-clause-opened : goal.returns-then-len-eq0-clause-opened
returns-then-len-eq0-clause-opened c = (
  λ _ page has. absurd (pages_none c.args.offset c.args.len page (omega arith) has),
  λ _. refl,
)

pub returns-clause-opened : goal.returns-clause-opened
returns-clause-opened c = (
  λ are page has.
      let at = pages_within c.args.offset c.args.len page (omega arith) has in
      c.loop-page.invariant.opened are page at.0 (omega (arith, at.1, c.loop-page-test.false)),
  λ are. by_flag c.loop-page.are_open refl (λ closed. c.loop-page.invariant.closed closed
      (λ page low high. are page (pages_have c.args.offset c.args.len page (omega arith) low (omega (arith, high, c.loop-page.auto.page-end))))),
)
  where
    by_flag : (b : Bool) → c.loop-page.are_open ≡ b → (c.loop-page.are_open ≡ false → ⊥) → c.loop-page.are_open ≡ true
    by_flag true is never = is
    by_flag false is never = absurd (never is)

pub returns-clause-count : goal.returns-clause-count
returns-clause-count c = λ path all entry fileset has.
    let first = c.args.offset / 8192 in
    let whole : c.loop-page.page - first ≡ (c.args.offset + c.args.len - 1) / 8192 + 1 - first = omega (arith, c.loop-page-test.false, c.loop-page.auto.page-end) in
    c.loop-page.invariant.counted path all entry fileset has
    ∙ ap (λ n. count_by (λ q. not (contains_key (pages_at fileset.tree path) q)) (range_with_len first n)) whole
    ∙ sym (ap (count_by (λ q. not (contains_key (pages_at fileset.tree path) q))) (pages_are c.args.offset c.args.len (omega arith)))
